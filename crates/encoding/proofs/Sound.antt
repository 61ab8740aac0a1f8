-- What holds in each step of an assignment under which its clauses hold.
-- Assumes nothing.
use Rattle.std.proofs.Common.{◌≡◌, ℕ, zero, suc, ◌-◌, ◌*◌, ◌%◌, ◌<◌, ◌≤◌, Bool, true, false, cond, not, ◌&&◌, ◌||◌, ltb, ◌≢◌, sym, refl, ap, ◌∙◌, ap₂, arith}
use Rattle.std.proofs.lemmas.Bool.{both_ways, or_left, eqb-true, eqb-false}
use Rattle.encoding.specs.Ranges.{Each}
use Rattle.encoding.specs.Tables.{Table, events, harms, owner, relevant, requires, starts}
use Rattle.encoding.specs.Plans.{Runs, State}
use Rattle.encoding.specs.Variables.{O, V, Var, X, Y}
use Rattle.encoding.specs.Turns.{walk}
use Rattle.encoding.proofs.Ranges.{none-some, some-none}
use Rattle.encoding.proofs.Walks.{open_at, open-early, open-mid, open-through, truth-at, truth-end}
use Rattle.encoding.proofs.Steps.{Step}

pub owner-start : (k : ℕ) → starts (suc k) ≡ true → suc (suc k) ≡ 2 * owner (suc k)
unfolding starts owner
owner-start k e = let m = eqb-true (suc k % 2) 1 e in omega arith

pub owner-end : (k : ℕ) → starts (suc k) ≡ false → suc k ≡ 2 * owner (suc k)
unfolding starts owner
owner-end k e = let m = eqb-false (suc k % 2) 1 e in omega arith

pub owner-in : (T : Table) (k : ℕ) → k < events T → (1 ≤ owner (suc k)) × (owner (suc k) ≤ T.actions)
unfolding owner
owner-in T k l = (omega arith, omega arith)

pub requires-relevant : (T : Table) (e p : ℕ) → requires T e p ≡ true → relevant T e p ≡ true
unfolding relevant
requires-relevant T e p h = or_left (requires T e p) (T.adds e p || T.deletes e p) h

pub unharmed : (T : Table) (e a : ℕ) → harms T e a ≡ false → Each T.facts (λ p. T.held a p ≡ true → T.deletes e p ≡ false)
unfolding harms
unharmed T e a h p u v i = go (T.held a p) (T.deletes e p) (some-none T.facts _ h p u v) i
  where
    go : (x y : Bool) → (x && y) ≡ false → x ≡ true → y ≡ false
    go x y p q = grind arith

pub unharming : (T : Table) (e a : ℕ) → Each T.facts (λ p. T.held a p ≡ true → T.deletes e p ≡ false) → harms T e a ≡ false
unfolding harms
unharming T e a h = none-some T.facts _ (λ p u v. go (T.held a p) (T.deletes e p) (h p u v))
  where
    go : (x y : Bool) → (x ≡ true → y ≡ false) → (x && y) ≡ false
    go x y p = grind arith

module _ (T : Table) (τ : Var → Bool) (s : ℕ) (S : State) (c : Step T τ s) (hx : Each T.facts (λ p. τ (X s p) ≡ S.holds p)) (ho : Each T.actions (λ a. τ (O s a) ≡ S.is_open a)) where
  abbrev pub y : ℕ → Bool
  y e = τ (Y (suc s) e)

  pub facts-after : Each T.facts (λ p. τ (X (suc s) p) ≡ (walk T y (events T) S).holds p)
  facts-after p u v = truth-end T y S τ (suc s) p (sym (c.enters p u v) ∙ hx p u v) (c.turns p u v)

  pub facts-before : (k : ℕ) → k < events T → Each T.facts (λ p. relevant T (suc k) p ≡ true → τ (V (suc s) (suc k) p) ≡ (walk T y k S).holds p)
  facts-before k l p u v r = truth-at T y S τ (suc s) p (sym (c.enters p u v) ∙ hx p u v) (c.turns p u v) k l r

  pub open_after : Each T.actions (λ a. τ (O (suc s) a) ≡ (walk T y (events T) S).is_open a)
  open_after a u v = rw (open-through T y S a (events T) u (omega arith), ← ho a u v) (c.agenda a u v).2

  sound-ready : (k : ℕ) → k < events T → y (suc k) ≡ true → (b : Bool) → starts (suc k) ≡ b → (walk T y k S).is_open (owner (suc k)) ≡ not b
  sound-ready k l h true e =
      let w = owner-in T k l in
      let m = owner-start k e in
      let i : 2 * owner (suc k) - 1 ≡ suc k = omega arith in
      open-early T y S (owner (suc k)) k (omega arith) ∙ sym (ho (owner (suc k)) w.0 w.1) ∙ (c.agenda (owner (suc k)) w.0 w.1).0 (ap y i ∙ h)
  sound-ready zero l h false e = let m = owner-end 0 e in absurd (omega arith)
  sound-ready (suc k) l h false e =
      let w = owner-in T (suc k) l in
      let m = owner-end (suc k) e in
      let i : 2 * owner (suc (suc k)) - 1 ≡ suc k = omega arith in
      open-mid T y S (owner (suc (suc k))) k m ∙ ap₂ ◌||◌ (sym (ho (owner (suc (suc k))) w.0 w.1)) (ap y (sym i)) ∙ (c.agenda (owner (suc (suc k))) w.0 w.1).1 (ap y (sym m) ∙ h)

  sound-keeps : (k : ℕ) → k < events T → y (suc k) ≡ true → Each T.actions (λ a. a ≢ owner (suc k) → (walk T y k S).is_open a ≡ true → harms T (suc k) a ≡ false)
  sound-keeps k l h a u v ne o = go (harms T (suc k) a) refl
    where
      at : (b : Bool) → τ (O (cond b (suc s) s) a) ≡ cond b ((walk T y (events T) S).is_open a) (S.is_open a)
      at true = open_after a u v
      at false = ho a u v

      go : (b : Bool) → harms T (suc k) a ≡ b → b ≡ false
      go false e = refl
      go true e = absurd (both_ways ((walk T y k S).is_open a) (open_at T y S a k u v l ne ∙ sym (at (ltb a (owner (suc k)))) ∙ c.kept (suc k) (omega arith) l a u v ne e h) o)

  pub sound-runs : (k : ℕ) → k < events T → y (suc k) ≡ true → Runs T (suc k) (walk T y k S)
  sound-runs k l h = record {
    required = λ p u v r. sym (facts-before k l p u v (requires-relevant T (suc k) p r)) ∙ (c.turns p u v (suc k) (omega arith) l (requires-relevant T (suc k) p r)).0 h r;
    ready = sound-ready k l h (starts (suc k)) refl;
    keeps = λ a u v ne o. unharmed T (suc k) a (sound-keeps k l h a u v ne o);
  }
