-- The state before a turn is that of the pairs that come before it.
-- Assumes nothing.
use Rattle.std.proofs.Common.{◌≡◌, ℕ, zero, suc, ◌<◌, ◌≤◌, Bool, true, false, cond, eqb, ltb, ◌⊎◌, List, [], ◌∷◌, ◌++◌, filter, sym, refl, ap, ◌∙◌, subst, ap₂, inl, inr, ⊎_elim, append-nil, arith}
use Rattle.std.specs.List.{AllByRecursion}
use Rattle.std.proofs.lemmas.List.Elements.{filter-append}
use Rattle.std.proofs.ByRecursion.{All-weaker}
use Rattle.std.proofs.lemmas.Bool.{or_left, or_right, or_from, and_from, and_left, and_right, eq-eqb, ne_eqb, lt-ltb, le-ltb}
use Rattle.encoding.specs.Ranges.{each}
use Rattle.encoding.specs.Tables.{Table, events}
use Rattle.encoding.specs.Plans.{Placed, Plan, Rising, initially, run}
use Rattle.encoding.specs.Variables.{InRange, O, V, Var, X, Y}
use Rattle.encoding.specs.Values.{earlier, in_step, plan_from, state_before, value_of}
use Rattle.encoding.specs.Turns.{value_at, walk, walk_steps}
use Rattle.encoding.proofs.Ranges.{last_or}
use Rattle.encoding.proofs.Plans.{plan_from-in_step, run-append, run-stepped, run-steps, stepped, stepped-placed, steps, steps-placed}

kept-all : {X : Type 0} (p : X → Bool) (xs : List X) → AllByRecursion (λ x. p x ≡ true) xs → filter p xs ≡ xs
kept-all p [] h = refl
kept-all p (x ∷ xs) h = rw h.0 (ap (λ l. x ∷ l) (kept-all p xs h.1))

kept-none : {X : Type 0} (p : X → Bool) (xs : List X) → AllByRecursion (λ x. p x ≡ false) xs → filter p xs ≡ []
kept-none p [] h = refl
kept-none p (x ∷ xs) h = rw h.0 (kept-none p xs h.1)

earlier_step : (t e : ℕ) (x : ℕ × ℕ) → x.0 < t → earlier t e x ≡ true
unfolding earlier
earlier_step t e x l = or_left (ltb x.0 t) _ (lt-ltb x.0 t l)

earlier-event : (t e : ℕ) (x : ℕ × ℕ) → x.0 ≡ t → x.1 < e → earlier t e x ≡ true
unfolding earlier
earlier-event t e x i l = or_right (ltb x.0 t) _ (and_from (eqb x.0 t) (ltb x.1 e) (eq-eqb x.0 t i) (lt-ltb x.1 e l))

later-step : (t e : ℕ) (x : ℕ × ℕ) → t < x.0 → earlier t e x ≡ false
unfolding earlier
later-step t e x l = or_from (ltb x.0 t) _ (le-ltb x.0 t (omega arith)) (and_left (eqb x.0 t) _ (ne_eqb x.0 t (λ i. omega arith)))

later-event : (t e : ℕ) (x : ℕ × ℕ) → x.0 ≡ t → e ≤ x.1 → earlier t e x ≡ false
unfolding earlier
later-event t e x i l = or_from (ltb x.0 t) _ (le-ltb x.0 t (omega arith)) (and_right (eqb x.0 t) (ltb x.1 e) (le-ltb x.1 e l))

-- within a step
kept-stepped : (y : ℕ → Bool) (t k m : ℕ) → k ≤ m → filter (earlier t (suc k)) (stepped y t m) ≡ stepped y t k
unfolding each
kept-stepped y t k zero l = let i : k ≡ 0 = omega arith in rw i
kept-stepped y t k (suc m) l = ⊎_elim
    (λ i. subst (λ j. filter (earlier t (suc j)) (stepped y t (suc m)) ≡ stepped y t j) (sym i) (kept-all (earlier t (suc (suc m))) (stepped y t (suc m)) (All-weaker _ _ (λ x h. earlier-event t (suc (suc m)) x h.0 (omega arith)) (stepped y t (suc m)) (stepped-placed y t (suc m)))))
    (λ i. filter-append (earlier t (suc k)) (stepped y t m) _ ∙ ap₂ ◌++◌ (kept-stepped y t k m i) (go (y (suc m)) i) ∙ append-nil (stepped y t k)) (last_or m k l)
  where
    go : (b : Bool) → k ≤ m → filter (earlier t (suc k)) (cond b ((t, suc m) ∷ []) []) ≡ []
    go true i = rw (later-event t (suc k) (t, suc m) refl (omega arith))
    go false i = refl

module _ (T : Table) (y : ℕ → ℕ → Bool) where
  all-steps : (s e : ℕ) → filter (earlier (suc s) e) (steps T y s) ≡ steps T y s
  all-steps s e = kept-all (earlier (suc s) e) (steps T y s) (All-weaker _ _ (λ x h. earlier_step (suc s) e x (omega arith)) (steps T y s) (steps-placed T y s))

  kept-steps : (n s k : ℕ) → s < n → k ≤ events T → filter (earlier (suc s) (suc k)) (steps T y n) ≡ steps T y s ++ stepped (y (suc s)) (suc s) k
  unfolding each
  kept-steps zero s k l m = absurd (omega arith)
  kept-steps (suc n) s k l m = ⊎_elim
      (λ i. let j : s ≡ n = omega arith in rw j here)
      (λ i. filter-append (earlier (suc s) (suc k)) (steps T y n) _
      ∙ ap₂ ◌++◌ (kept-steps n s k i m) (kept-none (earlier (suc s) (suc k)) (stepped (y (suc n)) (suc n) (events T)) (All-weaker _ _ (λ x h. later-step (suc s) (suc k) x (omega arith)) _ (stepped-placed (y (suc n)) (suc n) (events T))))
      ∙ append-nil _) (last_or n (suc s) l)
    where
      here : filter (earlier (suc n) (suc k)) (steps T y (suc n)) ≡ steps T y n ++ stepped (y (suc n)) (suc n) k
      here = filter-append (earlier (suc n) (suc k)) (steps T y n) _ ∙ ap₂ ◌++◌ (all-steps n (suc k)) (kept-stepped (y (suc n)) (suc n) k (events T) m)

  state-before : (n s k : ℕ) → s < n → k ≤ events T → run T (initially T) (filter (earlier (suc s) (suc k)) (steps T y n)) ≡ walk T (y (suc s)) k (walk_steps T y s)
  state-before n s k l m = ap (run T (initially T)) (kept-steps n s k l m) ∙ run-append T (initially T) (steps T y s) _ ∙ rw (run-steps T y s) (run-stepped T (y (suc s)) (suc s) (walk_steps T y s) k)

  state-after : (n t : ℕ) → t ≤ n → run T (initially T) (filter (earlier (suc t) 1) (steps T y n)) ≡ walk_steps T y t
  unfolding walk
  state-after n t l = ⊎_elim (λ i. rw i (ap (run T (initially T)) (all-steps n 1) ∙ run-steps T y n)) (λ i. state-before n t 0 i (omega arith)) (cases l)
    where
      cases : t ≤ n → (t ≡ n) ⊎ (t < n)
      cases l = ⊎_elim (λ i. inl (omega arith)) (λ i. inr i) (last_or n (suc t) (omega arith))

from : (T : Table) (n : ℕ) (π : Plan) → AllByRecursion (Placed T n) π → Rising π → (t e : ℕ) → run T (initially T) (filter (earlier t e) π) ≡ run T (initially T) (filter (earlier t e) (steps T (in_step π) n))
from T n π h r t e = ap (λ ρ. run T (initially T) (filter (earlier t e) ρ)) (sym (unfold plan_from in plan_from-in_step T n π h r))

pub values_agree : (T : Table) (n : ℕ) (π : Plan) → AllByRecursion (Placed T n) π → Rising π → (v : Var) → InRange T n v → value_of T π v ≡ value_at T (in_step π) v
unfolding value_of value_at state_before
values_agree T n π h r (X t p) i = ap (λ s. s.holds p) (from T n π h r (suc t) 1 ∙ state-after T (in_step π) n t i.0)
values_agree T n π h r (O t a) i = ap (λ s. s.is_open a) (from T n π h r (suc t) 1 ∙ state-after T (in_step π) n t i.0)
values_agree T n π h r (Y t e) i = refl
values_agree T n π h r (V zero e p) i = absurd (omega arith)
values_agree T n π h r (V (suc s) zero p) i = absurd (omega arith)
values_agree T n π h r (V (suc s) (suc k) p) i = ap (λ s. s.holds p) (from T n π h r (suc s) (suc k) ∙ state-before T (in_step π) n s k i.1 (omega arith))
