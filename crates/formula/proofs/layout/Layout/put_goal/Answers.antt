-- The facts' clauses, then the actions'.
-- Assumes nothing.
use Rattle.std.proofs.Common.{sym, subst}
use Rattle.encoding.specs.Clauses.{goal_facts, none_open, numbered, goal as goal'}
use Rattle.encoding.proofs.Emitting.{numbered-append}
use Rattle.formula.specs.Layouts.{table_in}
use Rattle.formula.specs.Listings.{Joined}
use Rattle.formula.proofs.Joining.{joined-more}
use Rattle.formula.proofs.layout.Layout.put_goal.Goals as goal

pub returns : goal.returns
unfolding goal'
returns g c =
    let T = table_in c.args.self.now in
    subst (Joined c.args.out.now c.put_none_open.new.out) (sym (numbered-append T (goal_facts T 0) (none_open T 0)))
    (joined-more c.args.out.now c.put_goal_facts.new.out c.put_none_open.new.out (numbered T (goal_facts T 0)) (numbered T (none_open T 0)) c.put_goal_facts.ensures c.put_none_open.ensures)
