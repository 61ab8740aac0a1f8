-- The clauses of a table for n steps: five families, in the order in which they are listed.
-- They are written over symbolic variables; `formula` is the same list over the variables' numbers.
-- Assumes nothing.
use Rattle.std.specs.Prelude.{◌≡◌, ℕ, zero, suc, ◌-◌, ◌*◌, Bool, true, false, cond, not, ◌&&◌, ◌||◌, List, [], ◌∷◌, ◌++◌, map, ℤ, pos, neg_ℤ, ◌==◌, nat_lt}
use Rattle.std.specs.List.{AllByRecursion}
use Rattle.encoding.specs.Ranges.{each, only}
use Rattle.encoding.specs.Tables.{Table, events, owner, requires, relevant, harms}
use Rattle.encoding.specs.Variables.{Var, X, O, Y, V, number}

-- A literal is a variable or its denial, over symbols or over numbers
pub data Literal (A : Type 0) : Type 0 where
  is isnt : A → Literal A

abbrev pub variable : {A : Type 0} → Literal A → A
variable (is v) = v
variable (isnt v) = v

abbrev pub Clause : Type 0
Clause = List (Literal Var)

-- A clause holds under an assignment when a literal of it is true there
abbrev pub literal_holds : {A : Type 0} → (A → Bool) → Literal A → Bool
literal_holds σ (is v) = σ v
literal_holds σ (isnt v) = not (σ v)

abbrev pub clause_holds : {A : Type 0} → (A → Bool) → List (Literal A) → Bool
clause_holds σ [] = false
clause_holds σ (l ∷ c) = literal_holds σ l || clause_holds σ c

abbrev pub Satisfies : {A : Type 0} → (A → Bool) → List (List (Literal A)) → Type 0
Satisfies σ cs = AllByRecursion (λ c. clause_holds σ c ≡ true) cs

-- 1. Start: the initial facts are true, the others false, and no action is open
abbrev pub start_facts : Table → List Clause
start_facts T = each T.facts (λ p. (cond (T.initial p) (is (X 0 p)) (isnt (X 0 p)) ∷ []) ∷ [])

abbrev pub none_open : Table → ℕ → List Clause
none_open T t = each T.actions (λ a. (isnt (O t a) ∷ []) ∷ [])

unfoldable pub start : Table → List Clause
start T = start_facts T ++ none_open T 0

-- Families 2 to 4 are those of step s + 1, which follows step s

-- 2. Agenda, of one action: its start s, its end f, whether it is open before the step, q, and after it, o
unfoldable pub agenda_of : {A : Type 0} → (s f q o : A) → List (List (Literal A))
agenda_of s f q o =
    (isnt s ∷ isnt q ∷ [])
    ∷ (is q ∷ isnt o ∷ is s ∷ [])
    ∷ (isnt s ∷ is f ∷ is o ∷ [])
    ∷ (isnt f ∷ isnt o ∷ [])
    ∷ (isnt q ∷ is o ∷ is f ∷ [])
    ∷ (is s ∷ isnt f ∷ is q ∷ [])
    ∷ []

abbrev pub agenda : Table → ℕ → List Clause
agenda T s = each T.actions (λ a. agenda_of (Y (suc s) (2 * a - 1)) (Y (suc s) (2 * a)) (O s a) (O (suc s) a))

-- 3. Kept, of an event and an action that does not own it: where the event deletes a held fact of the action, they exclude each other.
-- The turns of an action below the owner are past, so it is open at the event's turn if it is open after the step;
-- those of an action above are still to come, so it is open then if it was open before the step
unfoldable pub kept_of : Table → (s e a : ℕ) → List Clause
kept_of T s e a = only (not (a == owner e) && harms T e a) ((isnt (Y (suc s) e) ∷ isnt (O (cond (nat_lt a (owner e)) (suc s) s) a) ∷ []) ∷ [])

abbrev pub kept : Table → ℕ → List Clause
kept T s = each (events T) (λ e. each T.actions (kept_of T s e))

-- 4. Truth, of one fact: its value is handed on from each relevant event to the next.
-- Of the k events from e on: the V of the first that is relevant to fact p, or else X t p
unfoldable pub next : Table → (t p k e : ℕ) → Var
next T t p zero e = X t p
next T t p (suc k) e = cond (relevant T e p) (V t e p) (next T t p k (suc e))

-- v and w have the same value
unfoldable pub same : {A : Type 0} → (v w : A) → List (List (Literal A))
same v w = (isnt v ∷ is w ∷ []) ∷ (is v ∷ isnt w ∷ []) ∷ []

-- and the same, unless y
unfoldable pub same_unless : {A : Type 0} → (y v w : A) → List (List (Literal A))
same_unless y v w = (is y ∷ isnt v ∷ is w ∷ []) ∷ (is y ∷ is v ∷ isnt w ∷ []) ∷ []

-- from v just before the turn of the event with variable y to w after it. An event that neither adds nor deletes the fact
-- hands the value on whether or not it is in the step
unfoldable pub pass_on : {A : Type 0} → (adds deletes : Bool) → (y v w : A) → List (List (Literal A))
pass_on a d y v w = cond a ((isnt y ∷ is w ∷ []) ∷ same_unless y v w) (cond d ((isnt y ∷ isnt w ∷ []) ∷ same_unless y v w) (same v w))

unfoldable pub turn : {A : Type 0} → (requires adds deletes : Bool) → (y v w : A) → List (List (Literal A))
turn r a d y v w = only r ((isnt y ∷ is v ∷ []) ∷ []) ++ pass_on a d y v w

unfoldable pub turn_of : Table → (s p e : ℕ) → List Clause
turn_of T s p e = only (relevant T e p) (turn (requires T e p) (T.adds e p) (T.deletes e p) (Y (suc s) e) (V (suc s) e p) (next T (suc s) p (events T - e) (suc e)))

abbrev pub enter : Table → (s p : ℕ) → List Clause
enter T s p = same (X s p) (next T (suc s) p (events T) 1)

unfoldable pub truth_of : Table → (s p : ℕ) → List Clause
truth_of T s p = enter T s p ++ each (events T) (turn_of T s p)

abbrev pub truth : Table → ℕ → List Clause
truth T s = each T.facts (truth_of T s)

-- all of step t, from step 1 on
unfoldable pub step : Table → ℕ → List Clause
step T zero = []
step T (suc s) = agenda T s ++ kept T s ++ truth T s

-- 5. Goal: the goal facts are true after step n, and no action is open
abbrev pub goal_facts : Table → ℕ → List Clause
goal_facts T n = each T.facts (λ p. only (T.goal p) ((is (X n p) ∷ []) ∷ []))

unfoldable pub goal : Table → ℕ → List Clause
goal T n = goal_facts T n ++ none_open T n

-- The clause list of n steps
unfoldable pub clauses : Table → ℕ → List Clause
clauses T n = start T ++ each n (step T) ++ goal T n

-- The same over numbers
abbrev pub rename : {A B : Type 0} → (A → B) → Literal A → Literal B
rename f (is v) = is (f v)
rename f (isnt v) = isnt (f v)

abbrev pub numbered : Table → List Clause → List (List (Literal ℕ))
numbered T cs = map (map (rename (number T))) cs

unfoldable pub formula : Table → ℕ → List (List (Literal ℕ))
formula T n = numbered T (clauses T n)

-- And as signed numbers: a literal is its variable's number, with a minus when denied
abbrev pub signed : Literal ℕ → ℤ
signed (is v) = pos v
signed (isnt v) = neg_ℤ (pos v)

abbrev pub signed_formula : Table → ℕ → List (List ℤ)
signed_formula T n = map (map signed) (formula T n)
