-- The sum is small.
-- Assumes nothing.
use Rattle.std.proofs.Common.{◌≤◌, get_or, ap, arith}
use Rattle.encoder.proofs.Counting.{once-small, steps-small}
use Rattle.encoder.proofs.counts.Counts.price.Goals as goal

pub overflow_add-result-2 : goal.overflow_add-result-2
overflow_add-result-2 g c =
    let p = g.S.ClauseStore.priced in
    let a : get_or c.price_list.result 0 0 ≤ 64 = omega (arith, p.one.1, ap (λ r. get_or r 0 0) c.price_list.ensures) in
    let b : get_or c.price_list.result 1 0 ≤ 64 = omega (arith, p.two.1, ap (λ r. get_or r 1 0) c.price_list.ensures) in
    let d : get_or c.price_list.result 2 0 ≤ 64 = omega (arith, p.three.1, ap (λ r. get_or r 2 0) c.price_list.ensures) in
    let x = once-small c.args.self.now.ones _ c.args.self.now.few.0 a in
    let y = steps-small c.args.steps.count c.args.self.now.twos _ c.args.steps.few c.args.self.now.few.1 b in
    let z = steps-small c.args.steps.count c.args.self.now.threes _ c.args.steps.few c.args.self.now.few.2 d in
    omega arith
