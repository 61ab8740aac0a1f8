-- The theorem over variables that are no numbers yet, and over which events are in which step.
-- Assumes nothing.
use Rattle.std.proofs.Common.{◌≡◌, ℕ, zero, suc, ◌<◌, ◌≤◌, Bool, true, false, cond, not, ◌||◌, [], ◌∷◌, ◌++◌, sym, refl, ◌∙◌, arith}
use Rattle.std.specs.List.{AllByRecursion}
use Rattle.std.proofs.ByRecursion.{All-append}
use Rattle.encoding.specs.Ranges.{Each, each}
use Rattle.encoding.specs.Tables.{Table, events}
use Rattle.encoding.specs.Plans.{Runs, initially}
use Rattle.encoding.specs.Variables.{InRange, O, V, Var, X, Y}
use Rattle.encoding.specs.Clauses.{Clause, Satisfies, clause_holds, clauses, goal, goal_facts, is, isnt, none_open, start, start_facts, step}
use Rattle.encoding.specs.Turns.{value_at, walk, walk_steps}
use Rattle.encoding.proofs.Ranges.{all-each, all_left, all_right, each_all, in-only, only-in}
use Rattle.encoding.proofs.Steps.{Step, step-satisfied, step-says}
use Rattle.encoding.proofs.Sound.{facts-after, facts-before, open_after, sound-runs}
use Rattle.encoding.proofs.Complete.{complete-step}

pub record Works (T : Table) (n : ℕ) (y : ℕ → ℕ → Bool) : Type 0 where
  pub running : (s k : ℕ) → s < n → k < events T → y (suc s) (suc k) ≡ true → Runs T (suc k) (walk T (y (suc s)) k (walk_steps T y s))
  pub goals : Each T.facts (λ p. T.goal p ≡ true → (walk_steps T y n).holds p ≡ true)
  pub closed : Each T.actions (λ a. (walk_steps T y n).is_open a ≡ false)

unit-says : (b : Bool) → (b || false) ≡ true → b ≡ true
unit-says b h = grind arith

unit-denies : (b : Bool) → (not b || false) ≡ true → b ≡ false
unit-denies b h = grind arith

says-unit : (b : Bool) → b ≡ true → (b || false) ≡ true
says-unit b h = grind arith

denies-unit : (b : Bool) → b ≡ false → (not b || false) ≡ true
denies-unit b h = grind arith

module _ (T : Table) (n : ℕ) (τ : Var → Bool) (h : Satisfies τ (clauses T n)) where
  abbrev IsGood : Clause → Type 0
  IsGood c = clause_holds τ c ≡ true

  abbrev chosen : ℕ → ℕ → Bool
  chosen t e = τ (Y t e)

  first_part : AllByRecursion IsGood (start T)
  unfolding clauses
  first_part = all_left IsGood (start T) (each n (step T)) (all_left IsGood (start T ++ each n (step T)) (goal T n) h)

  last-part : AllByRecursion IsGood (goal T n)
  unfolding clauses
  last-part = all_right IsGood (start T ++ each n (step T)) (goal T n) h

  step-at : (s : ℕ) → s < n → Step T τ s
  unfolding clauses
  step-at s l = step-says T τ s (all-each IsGood n (step T) (all_right IsGood (start T) (each n (step T)) (all_left IsGood (start T ++ each n (step T)) (goal T n) h)) (suc s) (omega arith) l)

  begin-facts : Each T.facts (λ p. τ (X 0 p) ≡ T.initial p)
  unfolding start
  begin-facts p u v = go (T.initial p) (all-each IsGood T.facts _ (all_left IsGood (start_facts T) (none_open T 0) first_part) p u v).0
    where
      go : (b : Bool) → clause_holds τ (cond b (is (X 0 p)) (isnt (X 0 p)) ∷ []) ≡ true → τ (X 0 p) ≡ b
      go true h = unit-says (τ (X 0 p)) h
      go false h = unit-denies (τ (X 0 p)) h

  begin-open : Each T.actions (λ a. τ (O 0 a) ≡ false)
  unfolding start
  begin-open a u v = unit-denies (τ (O 0 a)) (all-each IsGood T.actions _ (all_right IsGood (start_facts T) (none_open T 0) first_part) a u v).0

  -- the facts and the open actions after each step
  after-steps : (t : ℕ) → t ≤ n → Each T.facts (λ p. τ (X t p) ≡ (walk_steps T chosen t).holds p) × Each T.actions (λ a. τ (O t a) ≡ (walk_steps T chosen t).is_open a)
  unfolding walk_steps initially
  after-steps zero l = (begin-facts, begin-open)
  after-steps (suc s) l =
      let (hx, ho) = after-steps s (omega arith) in
      (facts-after T τ s (walk_steps T chosen s) (step-at s l) hx ho, open_after T τ s (walk_steps T chosen s) (step-at s l) hx ho)

  end-facts : Each T.facts (λ p. T.goal p ≡ true → τ (X n p) ≡ true)
  unfolding goal
  end-facts p u v g = unit-says (τ (X n p)) (only-in IsGood (T.goal p) _ (all-each IsGood T.facts _ (all_left IsGood (goal_facts T n) (none_open T n) last-part) p u v) g).0

  end-open : Each T.actions (λ a. τ (O n a) ≡ false)
  unfolding goal
  end-open a u v = unit-denies (τ (O n a)) (all-each IsGood T.actions _ (all_right IsGood (goal_facts T n) (none_open T n) last-part) a u v).0

  pub satisfied-works : Works T n chosen
  satisfied-works = record {
    running = λ s k l m y. let (hx, ho) = after-steps s (omega arith) in sound-runs T τ s (walk_steps T chosen s) (step-at s l) hx ho k m y;
    goals = λ p u v g. sym ((after-steps n (omega arith)).0 p u v) ∙ end-facts p u v g;
    closed = λ a u v. sym ((after-steps n (omega arith)).1 a u v) ∙ end-open a u v;
  }

  pub satisfied-values : (v : Var) → InRange T n v → τ v ≡ value_at T chosen v
  unfolding value_at
  satisfied-values (X t p) r = (after-steps t r.0).0 p r.1 r.2
  satisfied-values (O t a) r = (after-steps t r.0).1 a r.1 r.2
  satisfied-values (Y t e) r = refl
  satisfied-values (V zero e p) r = absurd (omega arith)
  satisfied-values (V (suc s) zero p) r = absurd (omega arith)
  satisfied-values (V (suc s) (suc k) p) r = let (hx, ho) = after-steps s (omega arith) in facts-before T τ s (walk_steps T chosen s) (step-at s r.1) hx ho k r.3 p r.4 r.5 r.6

module _ (T : Table) (n : ℕ) (y : ℕ → ℕ → Bool) (w : Works T n y) where
  abbrev IsFine : Clause → Type 0
  IsFine c = clause_holds (value_at T y) c ≡ true

  start-satisfied : AllByRecursion IsFine (start T)
  unfolding start value_at walk_steps initially
  start-satisfied = All-append IsFine (start_facts T) (none_open T 0)
      (each_all IsFine T.facts _ (λ p u v. (go p (T.initial p) refl, tt)))
      (each_all IsFine T.actions _ (λ a u v. (refl, tt)))
    where
      go : (p : ℕ) (b : Bool) → T.initial p ≡ b → IsFine (cond b (is (X 0 p)) (isnt (X 0 p)) ∷ [])
      go p true e = says-unit (T.initial p) e
      go p false e = denies-unit (T.initial p) e

  goal-satisfied : AllByRecursion IsFine (goal T n)
  unfolding goal value_at
  goal-satisfied = All-append IsFine (goal_facts T n) (none_open T n)
      (each_all IsFine T.facts _ (λ p u v. in-only IsFine (T.goal p) _ (λ g. (says-unit ((walk_steps T y n).holds p) (w.goals p u v g), tt))))
      (each_all IsFine T.actions _ (λ a u v. (denies-unit ((walk_steps T y n).is_open a) (w.closed a u v), tt)))

  steps-satisfied : Each n (λ t. AllByRecursion IsFine (step T t))
  steps-satisfied zero l m = absurd (omega arith)
  steps-satisfied (suc s) l m = step-satisfied T (value_at T y) s (complete-step T y s (λ k. w.running s k m))

  pub works-satisfied : Satisfies (value_at T y) (clauses T n)
  unfolding clauses
  works-satisfied = All-append IsFine (start T ++ each n (step T)) (goal T n) (All-append IsFine (start T) (each n (step T)) start-satisfied (each_all IsFine n (step T) steps-satisfied)) goal-satisfied
