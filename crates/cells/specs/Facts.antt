-- What is known of the two small cells. "Only" and "one" are stated both ways: this one does, and no other.
-- Assumes nothing.
use Rattle.std.specs.Prelude.{◌≡◌, ℕ, ◌+◌, Bool, false, ◌↔◌, List, [], ◌∷◌, map, length, Some}
use Rattle.encoding.specs.Ranges.{Each, up_to}
use Rattle.encoding.specs.Plans.{Plan, Valid}
use Rattle.encoding.specs.Variables.{variables}
use Rattle.encoding.specs.Clauses.{Literal, is, isnt, Satisfies, formula}
use Rattle.encoding.specs.Labels.{labelled, first_false}
use Rattle.encoding.specs.Counts.{price}
use Rattle.encoding.specs.Values.{values}
use Rattle.encoding.specs.Listed.{listed}
use Rattle.cells.specs.Cells.{cell_one, cell_two, plan_two}

-- The clauses of cell one for one step, as they are printed
abbrev pub printed_one : List (List (Literal ℕ))
printed_one =
    (isnt 1 ∷ [])
    ∷ (isnt 2 ∷ [])
    ∷ (isnt 3 ∷ isnt 2 ∷ [])
    ∷ (is 2 ∷ isnt 7 ∷ is 3 ∷ [])
    ∷ (isnt 3 ∷ is 4 ∷ is 7 ∷ [])
    ∷ (isnt 4 ∷ isnt 7 ∷ [])
    ∷ (isnt 2 ∷ is 7 ∷ is 4 ∷ [])
    ∷ (is 3 ∷ isnt 4 ∷ is 2 ∷ [])
    ∷ (isnt 1 ∷ is 5 ∷ [])
    ∷ (is 1 ∷ isnt 5 ∷ [])
    ∷ (isnt 4 ∷ is 6 ∷ [])
    ∷ (is 4 ∷ isnt 5 ∷ is 6 ∷ [])
    ∷ (is 4 ∷ is 5 ∷ isnt 6 ∷ [])
    ∷ (is 6 ∷ [])
    ∷ (isnt 7 ∷ [])
    ∷ []

abbrev pub true_one : List ℕ
true_one = 3 ∷ 4 ∷ 6 ∷ []

-- Cell one, one step
pub record CellOne : Type 0 where
  pub variable_count : variables cell_one 1 ≡ 7
  pub clause_list : formula cell_one 1 ≡ printed_one
  -- only 3, 4 and 6 true satisfies them
  pub only_these : (σ : ℕ → Bool) → Satisfies σ (formula cell_one 1) ↔ Each 7 (λ i. σ i ≡ listed true_one i)
  -- where a clause of k literals costs k + 1, they cost 47
  pub cost : price (λ k. k + 1) (formula cell_one 1) ≡ 47

abbrev pub true_two : List ℕ
true_two = 5 ∷ 7 ∷ 8 ∷ 10 ∷ 11 ∷ 13 ∷ 14 ∷ 15 ∷ 18 ∷ 21 ∷ 22 ∷ 24 ∷ 26 ∷ []

-- Cell two, two steps, and one
pub record CellTwo : Type 0 where
  pub variable_count : variables cell_two 2 ≡ 28
  pub clause_count : length (formula cell_two 2) ≡ 65
  -- its one valid plan of two steps
  pub valid : Valid cell_two 2 plan_two
  pub one_valid : (π : Plan) → Valid cell_two 2 π → π ≡ plan_two
  -- and the variables that are true under it
  pub true_variables : values cell_two 2 plan_two ≡ map (listed true_two) (up_to 28)
  pub only_these : (σ : ℕ → Bool) → Satisfies σ (formula cell_two 2) ↔ Each 28 (λ i. σ i ≡ listed true_two i)
  -- one step is too few
  pub none_valid : (π : Plan) → Valid cell_two 1 π → ⊥
  -- with all variables false the first false clause is 63, of family 5 and step 2
  pub all_false : first_false (λ i. false) 1 (labelled cell_two 2) ≡ Some (63, 5, 2)

pub record SmallCells : Type 0 where
  pub one : CellOne
  pub two : CellTwo
