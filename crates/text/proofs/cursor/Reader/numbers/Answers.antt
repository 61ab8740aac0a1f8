-- One number after another, and then the end.
use Rattle.std.proofs.Common.{ℕ}
use lib.ListN.{length-replicate}
use Rattle.std.proofs.lemmas.Result.{err_from_is_err_and}
use Rattle.text.proofs.Rows.{row-begun, row-goes-on, row-open, row-stops, row-whole}
use Rattle.text.proofs.cursor.Reader.numbers.Goals as goal

pub loop-number-init : goal.loop-number-init
loop-number-init g c = row-begun g.row.N _ c.args.self.now (length-replicate {A = ℕ} g.row.N 0)

pub returns-in_err-number : goal.returns-in_err-number
returns-in_err-number g c =
    let p = err_from_is_err_and c.from_residual.result c.from_residual.ensures.1 in
    let l = c.loop-number in
    rw (p.1, p.2) (row-stops g.row.N l.number-index l.number-items c.args.self.now l.self c.in_err-number.field-0.0.at c.loop-number-test.true c.in_err-number.ensures l.invariant)

pub loop-number-preserved : goal.loop-number-preserved
loop-number-preserved g c =
    let l = c.loop-number in
    row-goes-on g.row.N l.number-index _ l.number-items c.args.self.now l.self _ c.loop-number-test.true c.in_ok-number.ensures l.invariant

pub returns-in_err-end : goal.returns-in_err-end
returns-in_err-end g c =
    let p = err_from_is_err_and c.from_residual-in_err-end.result c.from_residual-in_err-end.ensures.1 in
    let l = c.loop-number in
    rw (p.1, p.2) (row-open g.row.N l.number-index l.number-items c.args.self.now l.self c.in_err-end.field-0.0.at c.loop-number-test.false c.in_err-end.ensures l.invariant)

pub returns : goal.returns
returns g c =
    let l = c.loop-number in
    row-whole g.row.N l.number-index l.number-items c.args.self.now l.self c.end.new.self c.loop-number-test.false c.in_ok-end.ensures l.invariant
