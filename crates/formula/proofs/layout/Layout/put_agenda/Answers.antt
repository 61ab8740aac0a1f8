-- One action more.
-- Assumes nothing.
use Rattle.std.proofs.Common.{ap, ◌∙◌, arith}
use Rattle.encoding.specs.Variables.{Y, number}
use Rattle.formula.specs.Layouts.{table_in}
use Rattle.formula.proofs.Joining.{joined-none, joined-next, joined-last}
use Rattle.formula.proofs.Ranges.{agenda_at}
use Rattle.encoding.specs.Ranges.{each}
use Rattle.encoding.proofs.Emitting.{numbered-agenda}
use Rattle.formula.proofs.Equal.{agenda-equal}
use Rattle.formula.proofs.layout.Layout.put_agenda.Goals as goal

pub loop-number-init : goal.loop-number-init
unfolding each
loop-number-init g c = joined-none c.args.out.now

pub loop-number-preserved : goal.loop-number-preserved
loop-number-preserved g c =
    joined-next c.args.out.now c.loop-number.out c.extend.new.self c.loop-number.number _ (agenda_at (table_in c.args.self.now)) _ c.loop-number.auto.number (omega arith) c.loop-number.invariant
    c.extend.ensures (c.agenda_of.ensures ∙ agenda-equal _ _ _ _ _ _ _ _ (c.event.ensures ∙ ap (λ e. number (table_in c.args.self.now) (Y 1 e)) c.start.ensures) (c.event-in-loop-number.ensures ∙ ap (λ e. number (table_in c.args.self.now) (Y 1 e)) c.end.ensures) c.open_before.ensures c.open_after.ensures)

pub returns-2 : goal.returns-2
returns-2 g c =
    joined-last c.args.out.now c.loop-number.out c.extend.new.self c.loop-number.number (table_in c.args.self.now).actions (agenda_at (table_in c.args.self.now)) _ _ c.loop-number.auto.number (omega arith) c.loop-number.invariant
    c.extend.ensures (c.agenda_of.ensures ∙ agenda-equal _ _ _ _ _ _ _ _ (c.event.ensures ∙ ap (λ e. number (table_in c.args.self.now) (Y 1 e)) c.start.ensures) (c.event-in-loop-number.ensures ∙ ap (λ e. number (table_in c.args.self.now) (Y 1 e)) c.end.ensures) c.open_before.ensures c.open_after.ensures) (numbered-agenda (table_in c.args.self.now) 0)
