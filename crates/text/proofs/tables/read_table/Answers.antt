-- Where reading stopped is the outcome, and there is no other.
use Rattle.planner.specs.Contents.{in_draft}
use Rattle.std.proofs.Common.{◌≡◌, Ok, Err, MatchResult, rules, subst}
use Rattle.std.proofs.lemmas.Result.{MatchResult-weaker, err_from_is_err_and}
use Rattle.text.specs.Ends.{Ends, fault_at}
use Rattle.text.proofs.Once.{no_other}
use Rattle.text.proofs.Runs.{fault-outcome, done-outcome}
use Rattle.text.proofs.tables.read_table.Goals as goal

pub returns-in_err-steps : goal.returns-in_err-steps
returns-in_err-steps c =
    let E = in_draft c.args.draft.now in
    let T = in_draft c.table.new.draft in
    let s = c.args.text.now in
    let r = c.table.result in
    let e = c.in_err-steps.field-0.0 in
    let p = err_from_is_err_and c.from_residual.result c.from_residual.ensures.1 in
    let h : MatchResult r (λ n. ⊥) (λ x. e ≡ fault_at s x) = MatchResult-weaker r c.in_err-steps.ensures.cases (λ n q. search rules) (λ x q. search rules) in
    let o = fault-outcome E T c.new-reader.result c.table.new.self s r e c.new-reader.ensures.left c.new-reader.ensures.at h c.table.ensures in
    rw (p.1, p.2) (record { law = o; only = no_other E T s (Err e) o })

pub returns-clause-only : goal.returns-clause-only
returns-clause-only c =
    let E = in_draft c.args.draft.now in
    let T = in_draft c.table.new.draft in
    let s = c.args.text.now in
    let n = c.from.result in
    let p = c.new-reader.result in
    let q = c.table.new.self in
    let o : c.table.result ≡ Ok n = search rules in
    no_other E T s (Ok (n, q.left.now)) (done-outcome E T p q s n c.new-reader.ensures.left (subst (λ r. Ends 0 0 E p r T q) o c.table.ensures))
