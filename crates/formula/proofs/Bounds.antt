-- A fact is relevant to no more events than there are; and no family has more clauses than its listing has room for.
-- Assumes nothing.
use Rattle.std.proofs.Common.{ℕ, zero, suc, ◌-◌, ◌*◌, ◌≤◌, Bool, true, false, cond, not, ◌&&◌, eqb, List, [], ◌∷◌, length, suc-mul, arith, length-append}
use lib.ListN.{length-map}
use Rattle.encoding.specs.Clauses.{Clause, agenda, agenda_of, enter, goal, goal_facts, is, isnt, kept, kept_of, next, none_open, numbered, pass_on, same, same_unless, start, start_facts, truth, truth_of, turn, turn_of}
use Rattle.encoding.specs.Ranges.{Each, each, only}
use Rattle.encoding.specs.Tables.{Table, events, harms, owner, relevant, requires}
use Rattle.encoding.specs.Theorem.{Small}
use Rattle.encoding.specs.Variables.{O, V, X, Y, width}
use Rattle.encoding.proofs.Ranges.{count-le}

pub width-le : (T : Table) (p : ℕ) → width T p ≤ events T
unfolding width
width-le T p = count-le (events T) (λ e. relevant T e p)

-- How many clauses there can be at most

each-length : {X : Type 0} (n m : ℕ) (f : ℕ → List X) → Each n (λ i. length (f i) ≤ m) → length (each n f) ≤ n * m
unfolding each
each-length zero m f h = omega arith
each-length (suc n) m f h =
    let k = each-length n m f (λ i u v. h i u (omega arith)) in
    let l = h (suc n) (omega arith) (omega arith) in
    let e = length-append (each n f) (f (suc n)) in
    rw suc-mul (omega arith)

only-length : {X : Type 0} (m : ℕ) (b : Bool) (xs : List X) → length xs ≤ m → length (only b xs) ≤ m
only-length m true xs h = h
only-length m false xs h = omega arith

turn-length : {A : Type 0} (r a d : Bool) (y v w : A) → length (turn r a d y v w) ≤ 4
unfolding turn pass_on same same_unless
turn-length true true d y v w = omega arith
turn-length true false true y v w = omega arith
turn-length true false false y v w = omega arith
turn-length false true d y v w = omega arith
turn-length false false true y v w = omega arith
turn-length false false false y v w = omega arith

module _ (T : Table) (small : Small T) where
  few-events : events T ≤ 32
  few-events = omega (arith, small.0, small.1)

  numbered-length : (m : ℕ) (cs : List Clause) → length cs ≤ m → length (numbered T cs) ≤ m
  numbered-length m cs h = rw length-map h

  open-length : length (none_open T 0) ≤ 16
  open-length = let k = each-length T.actions 1 (λ a. (isnt (O 0 a) ∷ []) ∷ []) (λ a u v. omega arith) in omega (arith, small.1)

  pub start-length : length (numbered T (start T)) ≤ 48
  unfolding start
  start-length =
      let k = each-length T.facts 1 (λ p. (cond (T.initial p) (is (X 0 p)) (isnt (X 0 p)) ∷ []) ∷ []) (λ p u v. omega arith) in
      numbered-length 48 (start T) (let e = length-append (start_facts T) (none_open T 0) in omega (arith, small.0, open-length))

  pub goal-length : length (numbered T (goal T 0)) ≤ 48
  unfolding goal
  goal-length =
      let k = each-length T.facts 1 (λ p. only (T.goal p) ((is (X 0 p) ∷ []) ∷ [])) (λ p u v. only-length 1 (T.goal p) _ (omega arith)) in
      numbered-length 48 (goal T 0) (let e = length-append (goal_facts T 0) (none_open T 0) in omega (arith, small.0, open-length))

  pub agenda-length : length (numbered T (agenda T 0)) ≤ 96
  unfolding agenda_of
  agenda-length =
      let k = each-length T.actions 6 (λ a. agenda_of (Y 1 (2 * a - 1)) (Y 1 (2 * a)) (O 0 a) (O 1 a)) (λ a u v. omega arith) in
      numbered-length 96 (agenda T 0) (omega (arith, small.1))

  pub kept-length : length (numbered T (kept T 0)) ≤ 512
  unfolding kept_of
  kept-length =
      let k = each-length (events T) 16 (λ e. each T.actions (kept_of T 0 e)) (λ e u v. let l = each-length T.actions 1 (kept_of T 0 e) (λ a w x. only-length 1 (not (eqb a (owner e)) && harms T e a) _ (omega arith)) in omega (arith, small.1)) in
      numbered-length 512 (kept T 0) (omega (arith, few-events))

  turns-length : (p : ℕ) → length (each (events T) (turn_of T 0 p)) ≤ 128
  unfolding turn_of
  turns-length p =
      let k = each-length (events T) 4 (turn_of T 0 p) (λ e u v. only-length 4 (relevant T e p) _ (turn-length (requires T e p) (T.adds e p) (T.deletes e p) (Y 1 e) (V 1 e p) (next T 1 p (events T - e) (suc e)))) in
      omega (arith, few-events)

  fact-length : (p : ℕ) → length (truth_of T 0 p) ≤ 130
  unfolding truth_of same
  fact-length p = let e = length-append (enter T 0 p) (each (events T) (turn_of T 0 p)) in omega (arith, turns-length p)

  pub truth-length : length (numbered T (truth T 0)) ≤ 4160
  truth-length =
      let k = each-length T.facts 130 (truth_of T 0) (λ p u v. fact-length p) in
      numbered-length 4160 (truth T 0) (omega (arith, small.0))
