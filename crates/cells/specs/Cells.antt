-- Two small cells as tables. Each names its facts, actions and events by their numbers; event 2a - 1 starts action a, event 2a ends it.
-- Assumes nothing.
use Rattle.std.specs.Prelude.{[], ◌∷◌}
use Rattle.encoding.specs.Tables.{Table}
use Rattle.encoding.specs.Plans.{Plan}
use Rattle.encoding.specs.Listed.{listed, listed_pair}

-- One fact, one action. The end of action 1 adds fact 1, which is the goal
unfoldable pub cell_one : Table
cell_one = record {
  facts = 1;
  actions = 1;
  needs = listed_pair [];
  adds = listed_pair ((2, 1) ∷ []);
  deletes = listed_pair [];
  held = listed_pair [];
  initial = listed [];
  goal = listed (1 ∷ []);
}

-- Two facts, two actions. Action 1 adds fact 1 at its start and deletes it at its end. Action 2 holds fact 1 and adds fact 2, the goal, at its end
unfoldable pub cell_two : Table
cell_two = record {
  facts = 2;
  actions = 2;
  needs = listed_pair [];
  adds = listed_pair ((1, 1) ∷ (4, 2) ∷ []);
  deletes = listed_pair ((2, 1) ∷ []);
  held = listed_pair ((2, 1) ∷ []);
  initial = listed [];
  goal = listed (2 ∷ []);
}

-- Start 1, start 2 and end 2 in step 1, then end 1 in step 2
abbrev pub plan_two : Plan
plan_two = (1, 1) ∷ (1, 3) ∷ (1, 4) ∷ (2, 2) ∷ []
