-- The tiny cells, computed.
-- Assumes nothing.
use Rattle.std.proofs.Common.{◌≡◌, ℕ, [], ◌∷◌, Some, None, sym, refl, ◌∙◌, subst}
use Rattle.std.proofs.lemmas.Bool.{true≢false}
use Rattle.encoding.specs.Ranges.{count, each, some, total}
use Rattle.encoding.specs.Tables.{Table, harms, owner, relevant, requires, starts}
use Rattle.encoding.specs.Plans.{Plan, Valid, after, initially, run}
use Rattle.encoding.specs.Variables.{number, pairs, rank, step_size, step_vars, variables, vars, width}
use Rattle.encoding.specs.Clauses.{agenda_of, goal, kept_of, next, pass_on, same, same_unless, start, step, truth_of, turn, turn_of}
use Rattle.encoding.specs.Labels.{first_false, labelled, labelled_step}
use Rattle.encoding.specs.Values.{assignment, earlier, in_step, plan_from, plan_of, state_before, value_of, values}
use Rattle.encoding.specs.Listed.{listed, listed_pair}
use Rattle.encoding.specs.Pitfalls.{Pitfalls, breaks, gripping, release_plan, releasing, slip_plan, slipping, take_plan, taking, wait_plan}
use Rattle.encoding.proofs.Whole.{encodes}
use Rattle.encoding.proofs.Labelling.{labels}

-- a plan is valid if its values break no clause and say it, and not if they break one
valid-if : (T : Table) (n : ℕ) (π : Plan) → breaks T n π ≡ None → plan_of T n (assignment (values T n π)) ≡ π → Valid T n π
valid-if T n π h e = subst (Valid T n) e (encodes.sound T n (assignment (values T n π)) ((labels.none T n (assignment (values T n π))).0 h))

invalid-if : (T : Table) (n : ℕ) (π : Plan) (x : ℕ × ℕ × ℕ) → breaks T n π ≡ Some x → Valid T n π → ⊥
invalid-if T n π x h v = clash (sym ((labels.none T n (assignment (values T n π))).1 (encodes.complete T n π v).0) ∙ h)
  where
    clash : None ≡ Some x → ⊥
    clash e = true≢false (cc)

carried : first_false (listed (1 ∷ 3 ∷ 4 ∷ 5 ∷ 6 ∷ [])) 1 (labelled gripping 1) ≡ None
unfolding listed listed_pair gripping first_false labelled labelled_step start step goal agenda_of kept_of next same same_unless pass_on turn turn_of truth_of harms relevant requires owner starts some each number variables step_size pairs rank total width count
carried = refl

flipped : first_false (listed (1 ∷ 3 ∷ 4 ∷ 5 ∷ [])) 1 (labelled gripping 1) ≡ Some (12, 4, 1)
unfolding listed listed_pair gripping first_false labelled labelled_step start step goal agenda_of kept_of next same same_unless pass_on turn turn_of truth_of harms relevant requires owner starts some each number variables step_size pairs rank total width count
flipped = refl

slip-stopped : breaks slipping 2 slip_plan ≡ Some (16, 3, 1)
unfolding listed listed_pair slipping first_false labelled labelled_step start step goal agenda_of kept_of next same same_unless pass_on turn turn_of truth_of harms relevant requires owner starts some each number variables step_size pairs rank total width count assignment values vars step_vars value_of state_before earlier in_step run after initially
slip-stopped = refl

wait-passes : breaks slipping 2 wait_plan ≡ None
unfolding listed listed_pair slipping first_false labelled labelled_step start step goal agenda_of kept_of next same same_unless pass_on turn turn_of truth_of harms relevant requires owner starts some each number variables step_size pairs rank total width count assignment values vars step_vars value_of state_before earlier in_step run after initially
wait-passes = refl

release-passes : breaks releasing 2 release_plan ≡ None
unfolding listed listed_pair releasing first_false labelled labelled_step start step goal agenda_of kept_of next same same_unless pass_on turn turn_of truth_of harms relevant requires owner starts some each number variables step_size pairs rank total width count assignment values vars step_vars value_of state_before earlier in_step run after initially
release-passes = refl

take-passes : breaks taking 1 take_plan ≡ None
unfolding listed listed_pair taking first_false labelled labelled_step start step goal agenda_of kept_of next same same_unless pass_on turn turn_of truth_of harms relevant requires owner starts some each number variables step_size pairs rank total width count assignment values vars step_vars value_of state_before earlier in_step run after initially
take-passes = refl

wait-said : plan_of slipping 2 (assignment (values slipping 2 wait_plan)) ≡ wait_plan
unfolding listed listed_pair slipping plan_of plan_from each number variables step_size pairs rank total width count relevant requires owner starts assignment values vars step_vars value_of state_before earlier in_step run after initially
wait-said = refl

release-said : plan_of releasing 2 (assignment (values releasing 2 release_plan)) ≡ release_plan
unfolding listed listed_pair releasing plan_of plan_from each number variables step_size pairs rank total width count relevant requires owner starts assignment values vars step_vars value_of state_before earlier in_step run after initially
release-said = refl

take-said : plan_of taking 1 (assignment (values taking 1 take_plan)) ≡ take_plan
unfolding listed listed_pair taking plan_of plan_from each number variables step_size pairs rank total width count relevant requires owner starts assignment values vars step_vars value_of state_before earlier in_step run after initially
take-said = refl

pub pitfalls : Pitfalls
pitfalls = record {
  carried = carried;
  flipped = flipped;
  slip_invalid = invalid-if slipping 2 slip_plan (16, 3, 1) slip-stopped;
  slip_stopped = slip-stopped;
  wait_valid = valid-if slipping 2 wait_plan wait-passes wait-said;
  wait_passes = wait-passes;
  release_valid = valid-if releasing 2 release_plan release-passes release-said;
  release_passes = release-passes;
  take_valid = valid-if taking 1 take_plan take-passes take-said;
  take_passes = take-passes;
}
