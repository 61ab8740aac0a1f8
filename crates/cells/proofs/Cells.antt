-- The two cells: the tests of `Exactly`, computed.
-- Assumes nothing.
use Rattle.std.proofs.Common.{◌≡◌, ◌+◌, true, false, [], ◌∷◌, map, length, Some, refl, ◌∙◌, subst}
use Rattle.encoding.specs.Ranges.{each, some, count, total, up_to}
use Rattle.encoding.specs.Tables.{owner, starts, requires, relevant, harms}
use Rattle.encoding.specs.Plans.{Valid, run, after, initially}
use Rattle.encoding.specs.Variables.{width, pairs, rank, step_size, variables, number, step_vars, vars}
use Rattle.encoding.specs.Clauses.{start, agenda_of, kept_of, next, same, same_unless, pass_on, turn, turn_of, truth_of, step, goal, clauses, formula, is, isnt}
use Rattle.encoding.specs.Labels.{labelled, labelled_step, first_false}
use Rattle.encoding.specs.Counts.{price}
use Rattle.encoding.specs.Values.{plan_of, plan_from, values, value_of, state_before, earlier, in_step}
use Rattle.encoding.specs.Listed.{listed, listed_pair}
use Rattle.cells.specs.Cells.{cell_one, cell_two, plan_two}
use Rattle.cells.specs.Facts.{true_one, true_two, printed_one, CellOne, CellTwo, SmallCells}
use Rattle.cells.proofs.Propagation.{Search, done, split, know, forces, same_literal, denies, some_literal, left, learn, pass, passes, assume, knows_all}
use Rattle.cells.proofs.Exactly.{all_hold, literals, only-this, valid-this, one-plan, no-plan}

-- Cell one

one-variables : variables cell_one 1 ≡ 7
unfolding listed listed_pair cell_one relevant requires owner starts each variables step_size pairs total width count
one-variables = refl

one-clauses : formula cell_one 1 ≡ printed_one
unfolding listed listed_pair cell_one formula clauses start step goal agenda_of kept_of next same same_unless pass_on turn turn_of truth_of harms relevant requires owner starts some each number variables step_size pairs rank total width count
one-clauses = refl

one-forced : forces (formula cell_one 1) (literals (listed true_one) 7) (done 3) (know []) ≡ true
unfolding listed listed_pair cell_one formula clauses start step goal agenda_of kept_of next same same_unless pass_on turn turn_of truth_of harms relevant requires owner starts some each number variables step_size pairs rank total width count forces same_literal denies some_literal left learn pass passes assume knows_all literals
one-forced = refl

one_holds : all_hold (listed true_one) (formula cell_one 1) ≡ true
unfolding listed listed_pair cell_one formula clauses start step goal agenda_of kept_of next same same_unless pass_on turn turn_of truth_of harms relevant requires owner starts some each number variables step_size pairs rank total width count all_hold
one_holds = refl

one-price : price (λ k. k + 1) (formula cell_one 1) ≡ 47
unfolding listed listed_pair cell_one formula clauses start step goal agenda_of kept_of next same same_unless pass_on turn turn_of truth_of harms relevant requires owner starts some each number variables step_size pairs rank total width count
one-price = refl

cell-one : CellOne
cell-one = record {
  variable_count = one-variables;
  clause_list = one-clauses;
  only_these = only-this cell_one 1 (listed true_one) 7 one-variables (done 3) one-forced one_holds;
  cost = one-price;
}

-- Cell two

two-variables : variables cell_two 2 ≡ 28
unfolding listed listed_pair cell_two relevant requires owner starts each variables step_size pairs total width count
two-variables = refl

two-clauses : length (formula cell_two 2) ≡ 65
unfolding listed listed_pair cell_two formula clauses start step goal agenda_of kept_of next same same_unless pass_on turn turn_of truth_of harms relevant requires owner starts some each number variables step_size pairs rank total width count
two-clauses = refl

abbrev two-search : Search
two-search = split 1 11 (done 7) (done 5)

two-forced : forces (formula cell_two 2) (literals (listed true_two) 28) two-search (know []) ≡ true
unfolding listed listed_pair cell_two formula clauses start step goal agenda_of kept_of next same same_unless pass_on turn turn_of truth_of harms relevant requires owner starts some each number variables step_size pairs rank total width count forces same_literal denies some_literal left learn pass passes assume knows_all literals
two-forced = refl

two-holds : all_hold (listed true_two) (formula cell_two 2) ≡ true
unfolding listed listed_pair cell_two formula clauses start step goal agenda_of kept_of next same same_unless pass_on turn turn_of truth_of harms relevant requires owner starts some each number variables step_size pairs rank total width count all_hold
two-holds = refl

two-plan : plan_of cell_two 2 (listed true_two) ≡ plan_two
unfolding plan_of plan_from number listed listed_pair cell_two relevant requires owner starts each variables step_size pairs total width count
two-plan = refl

two-values : values cell_two 2 plan_two ≡ map (listed true_two) (up_to 28)
unfolding values vars step_vars value_of state_before earlier in_step run after initially listed listed_pair cell_two relevant requires owner starts each variables step_size pairs total width count
two-values = refl

two-refuted : forces (formula cell_two 1) (is 1 ∷ isnt 1 ∷ []) (done 5) (know []) ≡ true
unfolding listed listed_pair cell_two formula clauses start step goal agenda_of kept_of next same same_unless pass_on turn turn_of truth_of harms relevant requires owner starts some each number variables step_size pairs rank total width count forces same_literal denies some_literal left learn pass passes assume knows_all literals
two-refuted = refl

two-all-false : first_false (λ i. false) 1 (labelled cell_two 2) ≡ Some (63, 5, 2)
unfolding first_false labelled labelled_step listed listed_pair cell_two formula clauses start step goal agenda_of kept_of next same same_unless pass_on turn turn_of truth_of harms relevant requires owner starts some each number variables step_size pairs rank total width count
two-all-false = refl

cell-two : CellTwo
cell-two = record {
  variable_count = two-variables;
  clause_count = two-clauses;
  valid = subst (Valid cell_two 2) two-plan (valid-this cell_two 2 (listed true_two) 28 two-variables two-search two-forced two-holds);
  one_valid = λ π h. one-plan cell_two 2 (listed true_two) 28 two-variables two-search two-forced two-holds π h ∙ two-plan;
  true_variables = two-values;
  only_these = only-this cell_two 2 (listed true_two) 28 two-variables two-search two-forced two-holds;
  none_valid = no-plan cell_two 1 (done 5) two-refuted;
  all_false = two-all-false;
}

pub small-cells : SmallCells
small-cells = record { one = cell-one; two = cell-two }
