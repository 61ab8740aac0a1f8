-- One event more.
-- Assumes nothing.
use Rattle.std.proofs.Common.{◌≡◌, ℕ, ◌-◌, ◌*◌, ◌++◌, refl, ap, ◌∙◌, arith}
use Rattle.encoding.specs.Chains.{turn_at}
use Rattle.encoding.specs.Clauses.{same}
use Rattle.encoding.specs.Ranges.{count, each}
use Rattle.encoding.specs.Tables.{relevant}
use Rattle.encoding.specs.Variables.{variables}
use Rattle.encoding.proofs.Ranges.{count-le}
use Rattle.formula.specs.Layouts.{table_in}
use Rattle.formula.proofs.Joining.{joined-last, joined-next, joined-none, joined-two}
use Rattle.formula.proofs.Ranges.{counted, turn_from}
use Rattle.formula.proofs.layout.truth.Chain.put.Goals as goal

pub loop-number-init : goal.loop-number-init
unfolding count each
loop-number-init g c = (refl, joined-none c.extend.new.self)

pub put_turn-count-requires : goal.put_turn-count-requires
put_turn-count-requires g c = omega (arith, c.loop-number.auto.number, c.loop-number.invariant.0, count-le (c.loop-number.number - 1) (λ e. relevant (table_in c.args.self.now.layout.now) e c.args.self.now.fact))

pub loop-number-preserved : goal.loop-number-preserved
loop-number-preserved g c =
    let h = c.args.self.now in
    let T = table_in h.layout.now in
    let n : (k : ℕ) → k ≡ c.loop-number.number → c.put_turn-count.result ≡ count k (λ e. relevant T e h.fact) = λ k e. c.put_turn-count.ensures.count ∙ counted c.loop-number.number k c.loop-number.count _ (λ e. relevant T e h.fact) c.loop-number.auto.number e c.loop-number.invariant.0 refl in (
      n _ (omega arith),
      joined-next c.extend.new.self c.loop-number.out c.put_turn-count.new.out c.loop-number.number _ (turn_from T h.fact h.before) _ c.loop-number.auto.number (omega arith) c.loop-number.invariant.1 c.put_turn-count.ensures.puts
          (ap (turn_at T h.fact (variables T 0) h.before c.loop-number.number) (n c.loop-number.number refl)),
    )

pub returns-2 : goal.returns-2
returns-2 g c =
    let h = c.args.self.now in
    let T = table_in h.layout.now in
    let n : c.put_turn-count.result ≡ count c.loop-number.number (λ e. relevant T e h.fact) = c.put_turn-count.ensures.count ∙ counted c.loop-number.number c.loop-number.number c.loop-number.count _ (λ e. relevant T e h.fact) c.loop-number.auto.number refl c.loop-number.invariant.0 refl in
    joined-two c.args.out.now c.extend.new.self c.put_turn-count.new.out _ (each (2 * T.actions) (turn_from T h.fact h.before)) _ c.extend.ensures
    (joined-last c.extend.new.self c.loop-number.out c.put_turn-count.new.out c.loop-number.number (2 * T.actions) (turn_from T h.fact h.before) _ _ c.loop-number.auto.number (omega arith) c.loop-number.invariant.1 c.put_turn-count.ensures.puts
    (ap (turn_at T h.fact (variables T 0) h.before c.loop-number.number) n) refl)
    (ap (λ cs. cs ++ each (2 * T.actions) (turn_from T h.fact h.before)) (c.same.ensures ∙ ap (same h.fact) c.next.ensures))
