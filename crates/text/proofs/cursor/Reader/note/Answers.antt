-- With an action, or without.
use Rattle.std.proofs.Common.{rules}
use Rattle.std.proofs.lemmas.Result.{err_from_is_err_and}
use Rattle.table.specs.Roles.{actionless}
use Rattle.text.proofs.Rows.{bare-refused, full-refused}
use Rattle.text.proofs.cursor.Reader.note.Goals as goal

pub returns-in_err-action : goal.returns-in_err-action
returns-in_err-action c =
    let p = err_from_is_err_and c.from_residual.result c.from_residual.ensures.1 in
    rw (p.1, p.2) (full-refused (actionless c.args.role) c.args.self.now c.in_err-action.field-0.0.at (search rules) c.in_err-action.ensures)

pub returns-in_err-fact : goal.returns-in_err-fact
returns-in_err-fact c =
    let p = err_from_is_err_and c.from_residual-in_err-fact.result c.from_residual-in_err-fact.ensures.1 in
    rw (p.1, p.2) (bare-refused (actionless c.args.role) c.args.self.now c.in_err-fact.field-0.0.at (search rules) c.in_err-fact.ensures)
