-- The lines one after another.
use Rattle.std.proofs.Common.{◌≡◌, ◌-◌, Ok, Err, sym, ◌∙◌, rules}
use Rattle.planner.specs.Contents.{in_draft}
use Rattle.std.proofs.lemmas.Result.{err_from_is_err_and}
use Rattle.text.specs.declared.faults.LineFault.{LineFault}
use Rattle.text.specs.declared.faults.Stop.TheVariants.{Malformed, Refused}
use Rattle.table.specs.Roles.{number_of}
use Rattle.text.specs.Tags.{rank_in}
use Rattle.text.proofs.Runs.{ends_next, ends_close, ends_stuck, ends-refused, lined, closed}
use Rattle.text.proofs.cursor.Reader.table.Goals as goal

pub returns-in_err-line : goal.returns-in_err-line
returns-in_err-line c =
    let p = err_from_is_err_and c.from_residual.result c.from_residual.ensures.1 in
    let l = c.loop-line in
    rw (p.1, p.2) (l.invariant (Err (Malformed c.in_err-line.field-0.0.at)) (in_draft l.draft) c.line.new.self
    (ends_stuck (rank_in l.last) l.steps (in_draft l.draft) l.self c.line.new.self c.in_err-line.field-0.0.at c.in_err-line.ensures))

pub returns-in_err-map_err : goal.returns-in_err-map_err
returns-in_err-map_err c =
    let y = err_from_is_err_and c.from_residual-in_err-map_err.result c.from_residual-in_err-map_err.ensures.1 in
    let l = c.loop-line in
    let f = rank_in l.last in
    let p = l.self in
    let q = c.line.new.self in
    let x = c.in-Some.line in
    let a = c.in_err-map_err.field-0.0 in
    let r = lined f c.in_ok-line.field-0 x p q c.in-Some.is c.in_ok-line.ensures in
    let g : (e : LineFault) × (c.apply.result ≡ Err e) × (a ≡ Refused (q.at - 1) e) = search rules in
    rw (y.1, y.2, g.2) (l.invariant (Err (Refused (q.at - 1) g.0)) (in_draft c.apply.new.draft) q
    (ends-refused f l.steps (in_draft l.draft) (in_draft c.apply.new.draft) x g.0 p q r (◌∙◌ {c = Err g.0} (sym c.apply.ensures.answer) g.1) c.apply.ensures.after))

pub loop-line-preserved : goal.loop-line-preserved
loop-line-preserved c r T z h =
    let l = c.loop-line in
    let p = l.self in
    let q = c.line.new.self in
    let x = c.in-Some.line in
    let g : c.apply.result ≡ Ok tt = search rules in
    l.invariant r T z
    (ends_next (rank_in l.last) l.steps (number_of c.role.result) c.steps-steps.result (in_draft l.draft) (in_draft c.apply.new.draft) T x p q z r
    c.role.ensures c.steps-steps.ensures c.apply.ensures.after
    (lined (rank_in l.last) c.in_ok-line.field-0 x p q c.in-Some.is c.in_ok-line.ensures)
    (sym c.apply.ensures.answer ∙ g) h)

pub returns : goal.returns
returns c =
    let l = c.loop-line in
    let p = l.self in
    let q = c.line.new.self in
    l.invariant (Ok l.steps) (in_draft l.draft) q (ends_close (rank_in l.last) l.steps (in_draft l.draft) p q (closed (rank_in l.last) c.in_ok-line.field-0 p q c.in_default.is c.in_ok-line.ensures))
