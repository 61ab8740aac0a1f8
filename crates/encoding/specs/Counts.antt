-- How many clauses of one, two and three literals there are, by arithmetic over the table.
-- There are no others. proofs/Counting.antt has that these are the counts of the list.
-- Assumes nothing.
use Rattle.std.specs.Prelude.{ℕ, ◌+◌, ◌*◌, Bool, cond, not, ◌&&◌, ◌||◌, List, length, sum_by, count_by, ◌==◌, nat_eq}
use Rattle.encoding.specs.Ranges.{count, total}
use Rattle.encoding.specs.Tables.{Table, events, owner, requires, relevant, harms}

-- how many clauses of a list have k literals
abbrev pub of_length : {X : Type 0} → ℕ → List (List X) → ℕ
of_length k cs = count_by (λ c. nat_eq (length c) k) cs

-- what a list of clauses costs where a clause of k literals costs `cost k`
abbrev pub price : {X : Type 0} → (ℕ → ℕ) → List (List X) → ℕ
price cost cs = sum_by (λ c. cost (length c)) cs

-- Of one literal: start and goal
unfoldable pub ones : Table → ℕ
ones T = T.facts + T.actions + (count T.facts T.goal + T.actions)

-- Of two and of three literals, in each step: agenda, kept and truth.
-- events and actions that exclude each other
unfoldable pub kept_pairs : Table → ℕ
kept_pairs T = total (events T) (λ e. count T.actions (λ a. not (a == owner e) && harms T e a))

-- whether an event adds or deletes a fact
abbrev pub changes : Table → (e p : ℕ) → Bool
changes T e p = T.adds e p || T.deletes e p

-- of an event's turn at a fact: of two literals, one if it requires the fact, and one if it changes it, two if not
unfoldable pub turn_twos : Table → (p e : ℕ) → ℕ
turn_twos T p e = cond (relevant T e p) (cond (requires T e p) 1 0 + cond (changes T e p) 1 2) 0

-- and of three, two if it changes the fact
unfoldable pub turn_threes : Table → (p e : ℕ) → ℕ
turn_threes T p e = cond (changes T e p) 2 0

unfoldable pub twos : Table → ℕ
twos T = T.actions * 2 + kept_pairs T + total T.facts (λ p. 2 + total (events T) (turn_twos T p))

unfoldable pub threes : Table → ℕ
threes T = T.actions * 4 + total T.facts (λ p. total (events T) (turn_threes T p))
