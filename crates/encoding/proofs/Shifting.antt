-- The clauses of a step are those of the step before with S added to each variable.
-- Assumes nothing.
use Rattle.std.proofs.Common.{◌≡◌, ℕ, zero, suc, ◌+◌, ◌-◌, ◌*◌, Bool, true, false, cond, not, ◌&&◌, eqb, ltb, List, [], ◌∷◌, ◌++◌, map, sym, refl, ap, ◌∙◌, ap₂, suc-mul, zero-mul, arith}
use Rattle.std.specs.List.{AllByRecursion}
use Rattle.std.proofs.lemmas.List.{map-append}
use Rattle.encoding.specs.Ranges.{each, only}
use Rattle.encoding.specs.Tables.{Table, events, harms, owner, relevant, requires}
use Rattle.encoding.specs.Variables.{InRange, O, V, Var, X, Y, number, pairs, step_size, variables}
use Rattle.encoding.specs.Clauses.{Clause, agenda, agenda_of, enter, is, isnt, kept, kept_of, next, numbered, pass_on, rename, same, same_unless, step, truth, truth_of, turn, turn_of, variable}
use Rattle.encoding.specs.Theorem.{Shifted}
use Rattle.encoding.proofs.Ranges.{each-cong, map_each}
use Rattle.encoding.proofs.Within.{step_in}

-- the same variable one step later
unfoldable pub later : Var → Var
later (X t p) = X (suc t) p
later (O t a) = O (suc t) a
later (Y t e) = Y (suc t) e
later (V t e p) = V (suc t) e p

abbrev pub later_clauses : List Clause → List Clause
later_clauses cs = map (map (rename later)) cs

module _ (T : Table) where
  pub variables-later : (s : ℕ) → variables T (suc s) ≡ variables T s + step_size T
  unfolding variables
  variables-later s = rw suc-mul (omega arith)

  pub number-later : (n : ℕ) (v : Var) → InRange T n v → number T (later v) ≡ number T v + step_size T
  unfolding number later
  number-later n (X zero p) r = unfold variables step_size in rw zero-mul (omega arith)
  number-later n (O zero a) r = unfold variables step_size in rw zero-mul (omega arith)
  number-later n (Y zero e) r = absurd (omega arith)
  number-later n (V zero e p) r = absurd (omega arith)
  number-later n (X (suc s) p) r = rw (variables-later s) (omega arith)
  number-later n (O (suc s) a) r = rw (variables-later s) (omega arith)
  number-later n (Y (suc s) e) r = rw (variables-later s) (omega arith)
  number-later n (V (suc s) e p) r = rw (variables-later s) (omega arith)

  -- X and O by their step
  pub number-X : (t p : ℕ) → number T (X t p) ≡ t * step_size T + p
  unfolding number
  number-X zero p = rw zero-mul (omega arith)
  number-X (suc s) p = unfold variables step_size in rw (suc-mul s (T.facts + 3 * T.actions + pairs T)) (omega arith)

  pub number-O : (t a : ℕ) → number T (O t a) ≡ t * step_size T + T.facts + a
  unfolding number
  number-O zero a = rw zero-mul (omega arith)
  number-O (suc s) a = unfold variables step_size in rw (suc-mul s (T.facts + 3 * T.actions + pairs T)) (omega arith)

  shift-clause : (n : ℕ) (c : Clause) → AllByRecursion (λ l. InRange T n (variable l)) c → map (rename (number T)) (map (rename later) c) ≡ map (rename (λ v. v + step_size T)) (map (rename (number T)) c)
  shift-clause n [] h = refl
  shift-clause n (is v ∷ c) h = ap₂ (λ (x : ℕ) d. is x ∷ d) (number-later n v h.0) (shift-clause n c h.1)
  shift-clause n (isnt v ∷ c) h = ap₂ (λ (x : ℕ) d. isnt x ∷ d) (number-later n v h.0) (shift-clause n c h.1)

  pub shift-clauses : (n : ℕ) (cs : List Clause) → AllByRecursion (AllByRecursion (λ l. InRange T n (variable l))) cs → numbered T (later_clauses cs) ≡ map (map (rename (λ v. v + step_size T))) (numbered T cs)
  shift-clauses n [] h = refl
  shift-clauses n (c ∷ cs) h = ap₂ ◌∷◌ (shift-clause n c h.0) (shift-clauses n cs h.1)

  next-later : (t p k e : ℕ) → later (next T t p k e) ≡ next T (suc t) p k e
  unfolding next later
  next-later t p zero e = refl
  next-later t p (suc k) e = go (relevant T e p) (next-later t p k (suc e))
    where
      go : (b : Bool) → later (next T t p k (suc e)) ≡ next T (suc t) p k (suc e) → later (cond b (V t e p) (next T t p k (suc e))) ≡ cond b (V (suc t) e p) (next T (suc t) p k (suc e))
      go true h = refl
      go false h = h

  pub later-append : (cs ds : List Clause) → later_clauses (cs ++ ds) ≡ later_clauses cs ++ later_clauses ds
  later-append cs ds = map-append (map (rename later)) cs ds

  pub later-only : (b : Bool) (cs : List Clause) → later_clauses (only b cs) ≡ only b (later_clauses cs)
  later-only true cs = refl
  later-only false cs = refl

  pub agenda-later : (s : ℕ) → later_clauses (agenda T s) ≡ agenda T (suc s)
  unfolding agenda_of later
  agenda-later s = map_each (map (rename later)) T.actions _

  kept_of-later : (s e a : ℕ) → later_clauses (kept_of T s e a) ≡ kept_of T (suc s) e a
  unfolding kept_of later
  kept_of-later s e a = later-only (not (eqb a (owner e)) && harms T e a) _ ∙ ap (only (not (eqb a (owner e)) && harms T e a)) (go (ltb a (owner e)))
    where
      go : (b : Bool) → later_clauses ((isnt (Y (suc s) e) ∷ isnt (O (cond b (suc s) s) a) ∷ []) ∷ []) ≡ (isnt (Y (suc (suc s)) e) ∷ isnt (O (cond b (suc (suc s)) (suc s)) a) ∷ []) ∷ []
      go true = refl
      go false = refl

  pub kept-later : (s : ℕ) → later_clauses (kept T s) ≡ kept T (suc s)
  kept-later s = map_each (map (rename later)) (events T) _ ∙ each-cong (events T) _ _ (λ e u v. map_each (map (rename later)) T.actions (kept_of T s e) ∙ each-cong T.actions _ _ (λ a w x. kept_of-later s e a))

  turn-later : (r a d : Bool) (y v w : Var) → later_clauses (turn r a d y v w) ≡ turn r a d (later y) (later v) (later w)
  unfolding turn pass_on same same_unless
  turn-later true true d y v w = refl
  turn-later true false true y v w = refl
  turn-later true false false y v w = refl
  turn-later false true d y v w = refl
  turn-later false false true y v w = refl
  turn-later false false false y v w = refl

  turn_of-later : (s p e : ℕ) → later_clauses (turn_of T s p e) ≡ turn_of T (suc s) p e
  unfolding turn_of later
  turn_of-later s p e = later-only (relevant T e p) _ ∙ ap (only (relevant T e p)) (turn-later (requires T e p) (T.adds e p) (T.deletes e p) (Y (suc s) e) (V (suc s) e p) (next T (suc s) p (events T - e) (suc e))
      ∙ ap (turn (requires T e p) (T.adds e p) (T.deletes e p) (Y (suc (suc s)) e) (V (suc (suc s)) e p)) (next-later (suc s) p (events T - e) (suc e)))

  pub truth_of-later : (s p : ℕ) → later_clauses (truth_of T s p) ≡ truth_of T (suc s) p
  unfolding truth_of same later
  truth_of-later s p = later-append (enter T s p) (each (events T) (turn_of T s p)) ∙ ap₂ ◌++◌ (ap (same (X (suc s) p)) (next-later (suc s) p (events T) 1)) (map_each (map (rename later)) (events T) (turn_of T s p) ∙ each-cong (events T) _ _ (λ e u v. turn_of-later s p e))

  step-later : (s : ℕ) → later_clauses (step T (suc s)) ≡ step T (suc (suc s))
  unfolding step
  step-later s = later-append (agenda T s ++ kept T s) (truth T s) ∙ ap₂ ◌++◌ (later-append (agenda T s) (kept T s) ∙ ap₂ ◌++◌ (agenda-later s) (kept-later s)) (map_each (map (rename later)) T.facts (truth_of T s) ∙ each-cong T.facts _ _ (λ p u v. truth_of-later s p))

pub shifted : Shifted
shifted T zero u = absurd (omega arith)
shifted T (suc s) u = ap (numbered T) (sym (step-later T s)) ∙ shift-clauses T (suc s) (step T (suc s)) (step_in T (suc s) (suc s) u (omega arith))
