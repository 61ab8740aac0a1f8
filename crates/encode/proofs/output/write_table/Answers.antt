-- Each way to end is one of the cases.
-- Assumes nothing.
use Rattle.std.proofs.Common.{rules, Ok, Err, sym, refl, ap, ◌∙◌, subst}
use Rattle.std.proofs.lemmas.Result.{err_from_is_err_and}
use Rattle.encoder.specs.Emission.{Emitted, emit_answer}
use Rattle.planner.specs.Contents.{in_draft}
use Rattle.table.specs.Meaning.{meaning}
use Rattle.encode.specs.Printed.{not_read, not_put, put}
use Rattle.encode.proofs.Reading.{read_of}
use Rattle.encode.proofs.output.write_table.Goals as goal

pub returns-in_err-steps-clause-written : goal.returns-in_err-steps-clause-written
returns-in_err-steps-clause-written g c =
    let p = err_from_is_err_and c.from_residual.result c.from_residual.ensures.1 in
    let h = c.in_err-steps.ensures in
    let E = in_draft c.read_table.new.draft in
    let fault = c.in_err-steps.field-0.0 in
    not_read fault E (read_of c.args.input.now (Err fault) (in_draft c.new-draft.result) E (search rules) c.new-draft.ensures h.law h.only)
    (p.1 ∙ ap Err p.2) refl

pub returns-in_err-count-clause-written : goal.returns-in_err-count-clause-written
returns-in_err-count-clause-written g c =
    let p = err_from_is_err_and c.from_residual-in_err-count.result c.from_residual-in_err-count.ensures.1 in
    let h = c.in_ok-steps.ensures in
    let k = c.in_err-count.ensures in
    let E = in_draft c.read_table.new.draft in
    let n = c.in_ok-steps.steps in
    let rest = c.in_ok-steps.field-0-1.now in
    not_put n rest E c.in_err-count.field-0.0
    (read_of c.args.input.now (Ok (n, rest)) (in_draft c.new-draft.result) E (search rules) c.new-draft.ensures h.law h.only)
    (sym (k.answer ∙ ap (λ X. emit_answer (meaning X) n g.S.ClauseStore.prices (g.S.ClauseStore.units c.args.store.now)) c.seal-job.ensures.same))
    (p.1 ∙ ap Err p.2) k.after

pub returns-clause-written : goal.returns-clause-written
returns-clause-written g c =
    let h = c.in_ok-steps.ensures in
    let k = c.in_ok-count.ensures in
    let E = in_draft c.read_table.new.draft in
    let n = c.in_ok-steps.steps in
    let rest = c.in_ok-steps.field-0-1.now in
    put n rest E c.in_ok-count.count
    (read_of c.args.input.now (Ok (n, rest)) (in_draft c.new-draft.result) E (search rules) c.new-draft.ensures h.law h.only)
    (sym (k.answer ∙ ap (λ X. emit_answer (meaning X) n g.S.ClauseStore.prices (g.S.ClauseStore.units c.args.store.now)) c.seal-job.ensures.same))
    refl
    (subst (λ X. Emitted g.S.ClauseStore.held g.S.ClauseStore.units g.S.ClauseStore.prices c.args.store.now c.emit.new.store (meaning X) n (Ok c.in_ok-count.count)) c.seal-job.ensures.same k.after)
