-- The first fault that is found is the plan's, and a plan without one is valid.
-- Assumes nothing.
use Rattle.std.proofs.Common.{◌≡◌, ℕ, Some, None, Err, Option, ap, ◌∙◌, arith}
use Rattle.std.proofs.lemmas.Result.{err_from_is_err_and}
use Rattle.encoding.specs.Plans.{Plan}
use Rattle.encoding.specs.Tables.{Table}
use Rattle.table.specs.declared.faults.PlanFault.{PlanFault}
use Rattle.table.specs.Model.{meant}
use Rattle.table.specs.States.{state_of}
use Rattle.table.specs.Verdicts.{Decides, plan_answer, plan_fault, unless_fault}
use Rattle.table.proofs.Decided.{decided, at_pair, at-event, at-end, events-within}
use Rattle.table.proofs.rows.Table.check_plan.Goals as goal

-- both clauses, from the fault that was found
answered : (T : Table) (n : ℕ) (π : Plan) (o : Option PlanFault) → o ≡ plan_fault T n π
    → record { answer : unless_fault tt o ≡ plan_answer T n π; decides : Decides T n π (unless_fault tt o) }
answered T n π o h = let a = ap (unless_fault tt) h in record { answer = a; decides = decided T n π (unless_fault tt o) a }

pub play-requires : goal.play-requires
play-requires c k l =
    let h = events-within (meant c.args.self.now) c.args.n c.args.plan.now c.in_default.ensures k l in
    omega (arith, h)

pub returns-in-Some : goal.returns-in-Some
returns-in-Some c =
    let T = meant c.args.self.now in
    answered T c.args.n c.args.plan.now _ (at_pair T c.args.n c.args.plan.now c.in-Some.place c.in-Some.ensures)

pub returns-in_err-end : goal.returns-in_err-end
returns-in_err-end c =
    let T = meant c.args.self.now in
    let p = err_from_is_err_and c.from_residual.result c.from_residual.ensures.1 in
    let f : PlanFault = c.in_err-end.field-0.0 in
    let a : c.from_residual.result ≡ plan_answer T c.args.n c.args.plan.now =
    p.1 ∙ ap Err p.2 ∙ ap (unless_fault tt) (at-event T c.args.n c.args.plan.now c.in_default.ensures f c.in_err-end.ensures) in
    record { answer = a; decides = decided T c.args.n c.args.plan.now c.from_residual.result a }

pub returns-in-Some-unmet : goal.returns-in-Some-unmet
returns-in-Some-unmet c =
    let T = meant c.args.self.now in
    answered T c.args.n c.args.plan.now _
    (at-end T c.args.n c.args.plan.now c.in_default.ensures c.in_ok-end.ensures.0 (state_of c.in_ok-end.end) c.in_ok-end.ensures.1 (Some c.in-Some-unmet.unmet) c.in-Some-unmet.ensures)

pub returns : goal.returns
returns c =
    let T = meant c.args.self.now in
    answered T c.args.n c.args.plan.now _
    (at-end T c.args.n c.args.plan.now c.in_default.ensures c.in_ok-end.ensures.0 (state_of c.in_ok-end.end) c.in_ok-end.ensures.1 None c.in_default-unmet.ensures)
