-- However reading what is left ends, so ends reading it all; and each line makes what is left shorter.
use Rattle.std.proofs.Common.{ℕ, length, Result}
use Rattle.planner.specs.Contents.{in_draft}
use Rattle.table.specs.Entries.{Entries}
use Rattle.text.specs.declared.cursor.Reader.{Reader}
use Rattle.text.specs.declared.faults.Stop.{Stop}
use Rattle.text.specs.Ends.{Ends}
use Rattle.text.specs.Tags.{rank_in}
use Rattle.text.proofs.cursor.Reader.table.Given as goal

abbrev pub invariant-loop-line : goal.invariant-loop-line
invariant-loop-line l =
    (r : Result ℕ Stop) (T : Entries) (q : Reader)
    → Ends (rank_in l.last) l.steps (in_draft l.draft) l.self r T q
    → Ends 0 0 (in_draft l.initial.draft) l.initial.self r T q

abbrev pub decreases-loop-line : goal.decreases-loop-line
decreases-loop-line l = length l.self.left.now
