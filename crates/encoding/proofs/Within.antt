-- The clauses of n steps are over the variables of n steps.
-- Assumes nothing.
use Rattle.std.proofs.Common.{◌≡◌, ℕ, zero, suc, ◌+◌, ◌-◌, ◌*◌, ◌<◌, ◌≤◌, Bool, true, false, cond, not, ◌&&◌, eqb, ltb, [], ◌∷◌, ◌++◌, refl, arith}
use Rattle.std.specs.List.{AllByRecursion}
use Rattle.std.proofs.ByRecursion.{All-append}
use Rattle.encoding.specs.Ranges.{Each, each, only}
use Rattle.encoding.specs.Tables.{Table, events, harms, owner, relevant, requires}
use Rattle.encoding.specs.Variables.{InRange, O, V, Var, X, Y}
use Rattle.encoding.specs.Clauses.{Clause, agenda, agenda_of, clauses, enter, goal, goal_facts, is, isnt, kept, kept_of, next, none_open, pass_on, same, same_unless, start, start_facts, step, truth, truth_of, turn, turn_of, variable}
use Rattle.encoding.proofs.Ranges.{each_all, in-only}

module _ (T : Table) (n : ℕ) where
  abbrev pub In : Clause → Type 0
  In c = AllByRecursion (λ l. InRange T n (variable l)) c

  next-in : (t p : ℕ) → 1 ≤ t → t ≤ n → 1 ≤ p → p ≤ T.facts → (f e : ℕ) → 1 ≤ e → f + e ≡ suc (events T) → InRange T n (next T t p f e)
  unfolding next
  next-in t p u v w x zero e l m = (v, w, x)
  next-in t p u v w x (suc f) e l m = go (next-in t p u v w x f (suc e) (omega arith) (omega arith)) (relevant T e p) refl
    where
      go : InRange T n (next T t p f (suc e)) → (r : Bool) → relevant T e p ≡ r → InRange T n (cond r (V t e p) (next T t p f (suc e)))
      go h true i = (u, v, l, omega arith, w, x, i)
      go h false i = h

  same_in : (v w : Var) → InRange T n v → InRange T n w → AllByRecursion In (same v w)
  unfolding same
  same_in v w a b = ((a, (b, tt)), ((a, (b, tt)), tt))

  turn_in : (r a d : Bool) (y v w : Var) → InRange T n y → InRange T n v → InRange T n w → AllByRecursion In (turn r a d y v w)
  unfolding turn pass_on same_unless
  turn_in r a d y v w h i j = All-append In (only r ((isnt y ∷ is v ∷ []) ∷ [])) _ (in-only In r ((isnt y ∷ is v ∷ []) ∷ []) (λ e. ((h, (i, tt)), tt))) (go a d)
    where
      go : (a d : Bool) → AllByRecursion In (cond a ((isnt y ∷ is w ∷ []) ∷ same_unless y v w) (cond d ((isnt y ∷ isnt w ∷ []) ∷ same_unless y v w) (same v w)))
      go true d = ((h, (j, tt)), ((h, (i, (j, tt))), ((h, (i, (j, tt))), tt)))
      go false true = ((h, (j, tt)), ((h, (i, (j, tt))), ((h, (i, (j, tt))), tt)))
      go false false = same_in v w i j

  agenda_of-in : (s f q o : Var) → InRange T n s → InRange T n f → InRange T n q → InRange T n o → AllByRecursion In (agenda_of s f q o)
  unfolding agenda_of
  agenda_of-in s f q o a b c d = ((a, (c, tt)), ((c, (d, (a, tt))), ((a, (b, (d, tt))), ((b, (d, tt)), ((c, (d, (b, tt))), ((a, (b, (c, tt))), tt))))))

  kept_of-in : (s : ℕ) → s < n → (e a : ℕ) → 1 ≤ e → e ≤ events T → 1 ≤ a → a ≤ T.actions → AllByRecursion In (kept_of T s e a)
  unfolding kept_of
  kept_of-in s l e a u v w x = in-only In (not (eqb a (owner e)) && harms T e a) _ (λ i. (((omega arith, l, u, v), (go (ltb a (owner e)), tt)), tt))
    where
      go : (b : Bool) → InRange T n (O (cond b (suc s) s) a)
      go true = (l, w, x)
      go false = (omega arith, w, x)

  turn_of-in : (s p e : ℕ) → s < n → 1 ≤ p → p ≤ T.facts → 1 ≤ e → e ≤ events T → AllByRecursion In (turn_of T s p e)
  unfolding turn_of
  turn_of-in s p e l u v w x = in-only In (relevant T e p) _ (λ r. turn_in (requires T e p) (T.adds e p) (T.deletes e p) (Y (suc s) e) (V (suc s) e p) (next T (suc s) p (events T - e) (suc e))
      (omega arith, l, w, x) (omega arith, l, w, x, u, v, r) (next-in (suc s) p (omega arith) l u v (events T - e) (suc e) (omega arith) (omega arith)))

  pub step_in : Each n (λ t. AllByRecursion In (step T t))
  unfolding step truth_of
  step_in zero u v = absurd (omega arith)
  step_in (suc s) u v =
      All-append In (agenda T s ++ kept T s) (truth T s)
      (All-append In (agenda T s) (kept T s)
      (each_all In T.actions _ (λ a w x. agenda_of-in (Y (suc s) (2 * a - 1)) (Y (suc s) (2 * a)) (O s a) (O (suc s) a) (u, v, omega arith, omega arith) (u, v, omega arith, omega arith) (omega arith, w, x) (v, w, x)))
      (each_all In (events T) _ (λ e w x. each_all In T.actions (kept_of T s e) (λ a w' x'. kept_of-in s v e a w x w' x'))))
      (each_all In T.facts (truth_of T s) (λ p w x. All-append In (enter T s p) _
      (same_in (X s p) (next T (suc s) p (events T) 1) (omega arith, w, x) (next-in (suc s) p u v w x (events T) 1 (omega arith) (omega arith)))
      (each_all In (events T) (turn_of T s p) (λ e w' x'. turn_of-in s p e v w x w' x'))))

  start-in : AllByRecursion In (start T)
  unfolding start
  start-in = All-append In (start_facts T) (none_open T 0)
      (each_all In T.facts _ (λ p u v. (go p (T.initial p) u v, tt)))
      (each_all In T.actions _ (λ a u v. (((omega arith, u, v), tt), tt)))
    where
      go : (p : ℕ) (b : Bool) → 1 ≤ p → p ≤ T.facts → In (cond b (is (X 0 p)) (isnt (X 0 p)) ∷ [])
      go p true u v = ((omega arith, u, v), tt)
      go p false u v = ((omega arith, u, v), tt)

  pub goal-in : AllByRecursion In (goal T n)
  unfolding goal
  goal-in = All-append In (goal_facts T n) (none_open T n)
      (each_all In T.facts _ (λ p u v. in-only In (T.goal p) _ (λ g. (((omega arith, u, v), tt), tt))))
      (each_all In T.actions _ (λ a u v. (((omega arith, u, v), tt), tt)))

  pub clauses-in : AllByRecursion In (clauses T n)
  unfolding clauses
  clauses-in = All-append In (start T ++ each n (step T)) (goal T n) (All-append In (start T) (each n (step T)) start-in (each_all In n (step T) step_in)) goal-in
