-- A tag, and then what follows it.
use Rattle.std.proofs.lemmas.Result.{err_from_is_err_and}
use Rattle.text.specs.Tags.{rank_in}
use Rattle.text.specs.declared.tags.Tag.TheVariants.{Sizes, Note, Close}
use Rattle.text.proofs.Rows.{line-tag, line-tail}
use Rattle.text.proofs.cursor.Reader.line.Goals as goal

pub returns-in_err-tag : goal.returns-in_err-tag
returns-in_err-tag c =
    let p = err_from_is_err_and c.from_residual.result c.from_residual.ensures.1 in
    rw (p.1, p.2) (line-tag (rank_in c.args.last) c.args.self.now c.in_err-tag.field-0.0.at c.in_err-tag.ensures)

pub returns-in_err-facts-in-Sizes : goal.returns-in_err-facts-in-Sizes
returns-in_err-facts-in-Sizes c =
    let p = err_from_is_err_and c.from_residual-in_err-facts-in-Sizes.result c.from_residual-in_err-facts-in-Sizes.ensures.1 in
    rw (p.1, p.2) (line-tail (rank_in c.args.last) c.in_ok-tag.field-0 Sizes c.args.self.now c.tag.new.self c.in_err-facts-in-Sizes.field-0.0.at c.in-Sizes.is c.in_ok-tag.ensures c.in_err-facts-in-Sizes.ensures)

pub returns-in_err-action-in-Note : goal.returns-in_err-action-in-Note
returns-in_err-action-in-Note c =
    let p = err_from_is_err_and c.from_residual-in_err-action-in-Note.result c.from_residual-in_err-action-in-Note.ensures.1 in
    rw (p.1, p.2) (line-tail (rank_in c.args.last) c.in_ok-tag.field-0 (Note c.in-Note.role) c.args.self.now c.tag.new.self c.in_err-action-in-Note.field-0.0.at c.in-Note.is c.in_ok-tag.ensures c.in_err-action-in-Note.ensures)

pub returns-in_err-end-in-Close : goal.returns-in_err-end-in-Close
returns-in_err-end-in-Close c =
    let p = err_from_is_err_and c.from_residual-in_err-end-in-Close.result c.from_residual-in_err-end-in-Close.ensures.1 in
    rw (p.1, p.2) (line-tail (rank_in c.args.last) c.in_ok-tag.field-0 Close c.args.self.now c.tag.new.self c.in_err-end-in-Close.field-0.0.at c.in-Close.is c.in_ok-tag.ensures c.in_err-end-in-Close.ensures)
