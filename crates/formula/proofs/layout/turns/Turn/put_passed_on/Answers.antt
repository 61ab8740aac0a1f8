-- In each case the clauses are those of the definition.
-- Assumes nothing.
use Rattle.std.proofs.Common.{subst}
use Rattle.formula.specs.Listings.{Joined}
use Rattle.formula.proofs.Joining.{joined-two}
use Rattle.formula.proofs.Equal.{pass-added, pass-deleted, pass_same}
use Rattle.formula.proofs.layout.turns.Turn.put_passed_on.Goals as goal

pub returns-then-self : goal.returns-then-self
returns-then-self g c =
    let t = c.args.self.now in
    joined-two c.args.out.now c.push.new.self c.extend.new.self _ _ _ c.push.ensures c.extend.ensures (pass-added t.adds t.deletes t.event t.before t.after _ c.if-self.true c.same_unless.ensures)

pub returns-then-self-2 : goal.returns-then-self-2
returns-then-self-2 g c =
    let t = c.args.self.now in
    joined-two c.args.out.now c.push-then-self-2.new.self c.extend-then-self-2.new.self _ _ _ c.push-then-self-2.ensures c.extend-then-self-2.ensures
    (pass-deleted t.adds t.deletes t.event t.before t.after _ c.if-self.false c.if-self-2.true c.same_unless-then-self-2.ensures)

pub returns-else-self-2 : goal.returns-else-self-2
returns-else-self-2 g c =
    let t = c.args.self.now in
    subst (Joined c.args.out.now c.extend-else-self-2.new.self) (pass_same t.adds t.deletes t.event t.before t.after _ c.if-self.false c.if-self-2.false c.same.ensures) c.extend-else-self-2.ensures
