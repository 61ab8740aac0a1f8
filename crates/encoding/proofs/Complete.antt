-- The clauses of a step hold under what the variables stand for, where each event of the step runs.
-- Assumes nothing.
use Rattle.std.proofs.Common.{◌≡◌, ℕ, zero, suc, ◌+◌, ◌-◌, ◌*◌, ◌%◌, ◌<◌, ◌≤◌, Bool, true, false, cond, not, ◌&&◌, ◌||◌, ltb, ◌≢◌, sym, refl, ap, ◌∙◌, arith}
use Rattle.std.proofs.lemmas.Bool.{both_ways, or_parts, eq-eqb, ne_eqb}
use Rattle.encoding.specs.Ranges.{Each}
use Rattle.encoding.specs.Tables.{Table, events, harms, owner, relevant, requires, starts}
use Rattle.encoding.specs.Plans.{Runs, State}
use Rattle.encoding.specs.Variables.{O, V, Y}
use Rattle.encoding.specs.Clauses.{next}
use Rattle.encoding.specs.Turns.{value_at, walk, walk_steps}
use Rattle.encoding.proofs.Walks.{Turns, open_at, open-early, open-mid, open-through, walk-holds}
use Rattle.encoding.proofs.Steps.{Step}
use Rattle.encoding.proofs.Sound.{unharming}

-- an event that is not relevant to a fact leaves it
pub holds-other : (T : Table) (y : ℕ → Bool) (s : State) (k p : ℕ) → relevant T (suc k) p ≡ false → (walk T y (suc k) s).holds p ≡ (walk T y k s).holds p
unfolding relevant
holds-other T y s k p e =
    let q = or_parts (requires T (suc k) p) (T.adds (suc k) p || T.deletes (suc k) p) e in
    let u = or_parts (T.adds (suc k) p) (T.deletes (suc k) p) q.1 in
    rw (walk-holds T y k s p, u.0, u.1) (go (y (suc k)) ((walk T y k s).holds p))
  where
    go : (b h : Bool) → cond b (false || (h && not false)) h ≡ h
    go b h = grind arith

module _ (T : Table) (y : ℕ → ℕ → Bool) (s : ℕ) where
  -- the state before the turn of event k + 1
  abbrev pub before : ℕ → State
  before k = walk T (y (suc s)) k (walk_steps T y s)

  pub next-value : (p f k : ℕ) → f + k ≡ events T → value_at T y (next T (suc s) p f (suc k)) ≡ (before k).holds p
  unfolding next value_at walk_steps
  next-value p zero k e = ap (λ (i : ℕ). (before i).holds p) (omega arith)
  next-value p (suc f) k e = go (next-value p f (suc k) (omega arith)) (relevant T (suc k) p) refl
    where
      go : value_at T y (next T (suc s) p f (suc (suc k))) ≡ (before (suc k)).holds p → (r : Bool) → relevant T (suc k) p ≡ r → value_at T y (cond r (V (suc s) (suc k) p) (next T (suc s) p f (suc (suc k)))) ≡ (before k).holds p
      go h true i = refl
      go h false i = h ∙ holds-other T (y (suc s)) (walk_steps T y s) k p i

  module _ (running : (k : ℕ) → k < events T → y (suc s) (suc k) ≡ true → Runs T (suc k) (before k)) where
    running-start : Each T.actions (λ a. y (suc s) (2 * a - 1) ≡ true → (walk_steps T y s).is_open a ≡ false)
    unfolding owner starts
    running-start a u v h =
        let i : suc (2 * a - 2) ≡ 2 * a - 1 = omega arith in
        let o : a ≡ owner (suc (2 * a - 2)) = omega arith in
        let r = (running (2 * a - 2) (omega arith) (ap (y (suc s)) i ∙ h)).ready in
        sym (open-early T (y (suc s)) (walk_steps T y s) a (2 * a - 2) (omega arith)) ∙ ap (before (2 * a - 2)).is_open o ∙ r ∙ ap not (eq-eqb (suc (2 * a - 2) % 2) 1 (omega arith))

    running-end : Each T.actions (λ a. y (suc s) (2 * a) ≡ true → ((walk_steps T y s).is_open a || y (suc s) (2 * a - 1)) ≡ true)
    unfolding owner starts
    running-end a u v h =
        let i : suc (2 * a - 2) ≡ 2 * a - 1 = omega arith in
        let j : suc (suc (2 * a - 2)) ≡ 2 * a = omega arith in
        let o : a ≡ owner (suc (suc (2 * a - 2))) = omega arith in
        let r = (running (suc (2 * a - 2)) (omega arith) (ap (y (suc s)) j ∙ h)).ready in
        ap (λ x. (walk_steps T y s).is_open a || y (suc s) x) (sym i) ∙ sym (open-mid T (y (suc s)) (walk_steps T y s) a (2 * a - 2) j) ∙ ap (before (suc (2 * a - 2))).is_open o ∙ r
        ∙ ap not (ne_eqb (suc (suc (2 * a - 2)) % 2) 1 (omega arith))

    running-keeps : (k : ℕ) → k < events T → Each T.actions (λ a. a ≢ owner (suc k) → harms T (suc k) a ≡ true → y (suc s) (suc k) ≡ true → (before k).is_open a ≡ false)
    running-keeps k l a u v ne h i = go ((before k).is_open a) refl
      where
        go : (b : Bool) → (before k).is_open a ≡ b → b ≡ false
        go false e = refl
        go true e = absurd (both_ways (harms T (suc k) a) (unharming T (suc k) a ((running k l i).keeps a u v ne e)) h)

    open-value : (b : Bool) (a : ℕ) → value_at T y (O (cond b (suc s) s) a) ≡ cond b ((before (events T)).is_open a) ((walk_steps T y s).is_open a)
    unfolding value_at walk_steps walk
    open-value true a = refl
    open-value false a = refl

    kept_at : (e : ℕ) → 1 ≤ e → e ≤ events T → Each T.actions (λ a. a ≢ owner e → harms T e a ≡ true → value_at T y (Y (suc s) e) ≡ true → value_at T y (O (cond (ltb a (owner e)) (suc s) s) a) ≡ false)
    unfolding value_at
    kept_at zero m l a u v ne h i = absurd (omega arith)
    kept_at (suc k) m l a u v ne h i = open-value (ltb a (owner (suc k))) a ∙ sym (open_at T (y (suc s)) (walk_steps T y s) a k u v l ne) ∙ running-keeps k l a u v ne h i

    turns_at : (p : ℕ) → 1 ≤ p → p ≤ T.facts → Turns T (λ e. value_at T y (Y (suc s) e)) (value_at T y) (suc s) p
    unfolding value_at
    turns_at p u v zero m l r = absurd (omega arith)
    turns_at p u v (suc k) m l r = (λ i q. (running k l i).required p u v q, next-value p (events T - suc k) (suc k) (omega arith) ∙ walk-holds T (y (suc s)) k (walk_steps T y s) p)

    pub complete-step : Step T (value_at T y) s
    unfolding value_at walk_steps walk
    complete-step = record {
      agenda = λ a u v. (running-start a u v, running-end a u v, open-through T (y (suc s)) (walk_steps T y s) a (events T) u (omega arith));
      kept = kept_at;
      enters = λ p u v. sym (next-value p (events T) 0 (omega arith));
      turns = turns_at;
    }
