-- The text in the store is the rendering of the clauses that were put, and a refusal is handed on.
-- Assumes nothing.
use Rattle.std.proofs.Common.{ℕ, take, replicate, Ok, Err, sym, refl, ap, ◌∙◌, subst}
use Rattle.std.proofs.lemmas.Result.{err_from_is_err_and}
use lib.ListN.{length-replicate}
use Rattle.store.proofs.Memory.{text-left}
use Rattle.store.specs.ReadBack.{clauses_of}
use Rattle.encode.specs.Printed.{Answers, store_size}
use Rattle.encode.proofs.Printing.{prints-refusal, prints-text, shown-whole, store-units}
use Rattle.encode.proofs.output.encode.Goals as goal

pub returns-in_err-write_table : goal.returns-in_err-write_table
returns-in_err-write_table c =
    let free = store-units _ c.new-store.ensures.free in
    let p = err_from_is_err_and c.from_residual.result c.from_residual.ensures.1 in
    let q = prints-refusal _ _ c.new-store.result c.write_table.new.store c.args.input.now free (Err c.in_err-write_table.field-0.0) c.in_err-write_table.field-0.0 refl c.in_err-write_table.ensures.written in
    subst (Answers c.args.input.now) (sym (p.1 ∙ ap Err p.2)) q

pub returns : goal.returns
returns c =
    let free = store-units _ c.new-store.ensures.free in
    let t = c.write_table.new.store in
    let n = c.new-store.ensures in
    let w = c.in_ok-write_table.ensures in
    let left = text-left c.new-store.result t (replicate {A = ℕ} store_size 32) (clauses_of (take t.used t.bytes.now)) n.memory n.empty w.grows refl in
    prints-text _ _ c.new-store.result t c.args.input.now free (Ok c.in_ok-write_table.field-0) c.in_ok-write_table.field-0 _ refl n.empty w.written
    (c.in_ok-text.ensures.items ∙ c.text.ensures ∙ sym t.shown ∙ left.0 ∙ shown-whole _ _ (length-replicate {A = ℕ} store_size 32))
