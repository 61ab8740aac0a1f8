-- The steps of the loop over columns.
use Rattle.std.proofs.Common.{◌≡◌, ◌≤◌, length, get_or, Err, sym, ap, ◌∙◌, rules, arith}
use Rattle.std.proofs.lemmas.Result.{err_from_is_err_and}
use Rattle.text.specs.Columns.{column}
use Rattle.text.proofs.Reading.{read-done, read-end, read_none, read_some, within_more}
use Rattle.text.proofs.fields.columns.Goals as goal

pub returns-in_default : goal.returns-in_default
returns-in_default c =
    let l = c.loop-i in
    let h : length c.args.s.now ≤ l.i = search rules in
    sym (read-end l.i l.at c.args.s.now c.loop-i-test.true h) ∙ l.invariant.0

pub loop-i-preserved : goal.loop-i-preserved
loop-i-preserved c = search (rules, read_some, within_more)

pub returns-in_err-at : goal.returns-in_err-at
returns-in_err-at c =
    let p = err_from_is_err_and c.from_residual.result c.from_residual.ensures.1 in
    let l = c.loop-i in
    let b : c.in-Some.b.now ≡ get_or c.args.s.now l.i 0 = search rules in
    let e = read_none l.i c.in_err-at.field-0.0 l.at c.args.s.now c.loop-i-test.true (search rules) (ap (column l.i l.at) (sym b) ∙ sym c.in_err-at.ensures) in
    p.1 ∙ ap Err p.2 ∙ sym e ∙ l.invariant.0

pub returns : goal.returns
returns c =
    let l = c.loop-i in
    c.ok_or.ensures.value ∙ sym (read-done l.i l.at c.args.s.now (omega arith)) ∙ l.invariant.0
