-- The numbers of the first variables, and the truth clauses over them.
-- Assumes nothing.
use Rattle.std.proofs.Common.{◌≡◌, ℕ, suc, ◌+◌, ◌-◌, ◌≤◌, sym, ap, ◌∙◌, subst, zero-mul, arith}
use Rattle.encoding.specs.Chains.{truth_at}
use Rattle.encoding.specs.Clauses.{numbered, truth, truth_of}
use Rattle.encoding.specs.Ranges.{each, total}
use Rattle.encoding.specs.Tables.{Table}
use Rattle.encoding.specs.Variables.{number, step_size, variables, width}
use Rattle.encoding.proofs.Emitting.{numbered-each, truth_of-numbers}
use Rattle.formula.proofs.Ranges.{truth_from}

pub first_variables : (T : Table) → variables T 0 ≡ T.facts + T.actions
unfolding variables
first_variables T = omega (arith, zero-mul (step_size T))

-- the truth clauses of fact p, where so many pairs come before its own
pub truth_is : (T : Table) (p before : ℕ) → 1 ≤ p → before ≡ total (p - 1) (width T) → truth_at T p (variables T 0) before p ≡ truth_from T p
unfolding number
truth_is T p before l h =
    let m : suc (p - 1) ≡ p = omega arith in
    let P : ℕ → Type 0 = λ q. truth_at T q (variables T 0) (total (p - 1) (width T)) q ≡ truth_from T q in
    ap (λ b. truth_at T p (variables T 0) b p) h ∙ subst P m (sym (truth_of-numbers T 0 (p - 1)))

pub truth-each : (T : Table) → numbered T (truth T 0) ≡ each T.facts (truth_from T)
truth-each T = numbered-each T T.facts (truth_of T 0)
