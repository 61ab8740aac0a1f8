-- Tiny cells, each with a plan on which a likely mistake in the clauses shows.
-- Assumes nothing.
use Rattle.std.specs.Prelude.{◌≡◌, ℕ, [], ◌∷◌, Some, None, Option}
use Rattle.encoding.specs.Listed.{listed, listed_pair}
use Rattle.encoding.specs.Tables.{Table}
use Rattle.encoding.specs.Plans.{Plan, Valid}
use Rattle.encoding.specs.Labels.{labelled, first_false}
use Rattle.encoding.specs.Values.{values, assignment}

-- the first false clause under a plan's values
abbrev pub breaks : Table → ℕ → Plan → Option (ℕ × ℕ × ℕ)
breaks T n π = first_false (assignment (values T n π)) 1 (labelled T n)

-- Fact 1 is initial, and the start of the one action needs it. One step
unfoldable pub gripping : Table
gripping = record {
  facts = 1;
  actions = 1;
  needs = listed_pair ((1, 1) ∷ []);
  adds = listed_pair [];
  deletes = listed_pair [];
  held = listed_pair [];
  initial = listed (1 ∷ []);
  goal = listed [];
}

-- Fact 1 is initial. Action 1 holds it, and the start of action 2 deletes it. Two steps
unfoldable pub slipping : Table
slipping = record {
  facts = 1;
  actions = 2;
  needs = listed_pair [];
  adds = listed_pair [];
  deletes = listed_pair ((3, 1) ∷ []);
  held = listed_pair ((1, 1) ∷ []);
  initial = listed (1 ∷ []);
  goal = listed [];
}

-- Fact 1 is initial. The one action holds it and deletes it at its end. Two steps
unfoldable pub releasing : Table
releasing = record {
  facts = 1;
  actions = 1;
  needs = listed_pair [];
  adds = listed_pair [];
  deletes = listed_pair ((2, 1) ∷ []);
  held = listed_pair ((1, 1) ∷ []);
  initial = listed (1 ∷ []);
  goal = listed [];
}

-- No fact is initial. The one action holds fact 1, which its start adds. One step
unfoldable pub taking : Table
taking = record {
  facts = 1;
  actions = 1;
  needs = listed_pair [];
  adds = listed_pair ((1, 1) ∷ []);
  deletes = listed_pair [];
  held = listed_pair ((1, 1) ∷ []);
  initial = listed [];
  goal = listed [];
}

-- start 1 and start 2 in step 1, end 1 and end 2 in step 2
abbrev pub slip_plan : Plan
slip_plan = (1, 1) ∷ (1, 3) ∷ (2, 2) ∷ (2, 4) ∷ []

-- start 1 in step 1, then end 1, start 2 and end 2 in step 2
abbrev pub wait_plan : Plan
wait_plan = (1, 1) ∷ (2, 2) ∷ (2, 3) ∷ (2, 4) ∷ []

-- start 1 in step 1, end 1 in step 2
abbrev pub release_plan : Plan
release_plan = (1, 1) ∷ (2, 2) ∷ []

-- start 1 and end 1 in step 1
abbrev pub take_plan : Plan
take_plan = (1, 1) ∷ (1, 2) ∷ []

pub record Pitfalls : Type 0 where
  -- The value of a fact is handed on past an event that only requires it, in the step or not. Start and end in step 1 make 1, 3, 4, 5 and 6 true:
  -- 3 and 4 are the events, and 1, 5 and 6 the fact before the step, before the start and after the step. With 6 false a clause of family 4 is false
  pub carried : first_false (listed (1 ∷ 3 ∷ 4 ∷ 5 ∷ 6 ∷ [])) 1 (labelled gripping 1) ≡ None
  pub flipped : first_false (listed (1 ∷ 3 ∷ 4 ∷ 5 ∷ [])) 1 (labelled gripping 1) ≡ Some (12, 4, 1)
  -- An action that was opened earlier in the same step is open at the event's turn
  pub slip_invalid : Valid slipping 2 slip_plan → ⊥
  pub slip_stopped : breaks slipping 2 slip_plan ≡ Some (16, 3, 1)
  -- and one that was closed earlier in the same step is not
  pub wait_valid : Valid slipping 2 wait_plan
  pub wait_passes : breaks slipping 2 wait_plan ≡ None
  -- An end may delete what its own action holds
  pub release_valid : Valid releasing 2 release_plan
  pub release_passes : breaks releasing 2 release_plan ≡ None
  -- A start need not find what it adds itself
  pub take_valid : Valid taking 1 take_plan
  pub take_passes : breaks taking 1 take_plan ≡ None
