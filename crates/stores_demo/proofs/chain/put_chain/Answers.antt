-- A put that the price covers is not refused; each turn adds one clause and composes the growth.
use Rattle.std.proofs.Common.{◌≡◌, ◌+◌, ◌*◌, ◌≤◌, [], ◌∷◌, pos, refl, ap, subst, arith}
use Rattle.store.specs.Clauses.{Added}
use Rattle.store.proofs.Meaning.{no-refusal}
use Rattle.store.proofs.Adding.{added-one, added-put, added_more}
use Rattle.stores_demo.specs.Chain.{implications, chain}
use Rattle.stores_demo.proofs.Steps.{written, written-lawful, implications-more, implications-price, chain-price, chain_length, covered}
use Rattle.stores_demo.proofs.chain.put_chain.Goals as goal

pub returns-then-free-price : goal.returns-then-free-price
returns-then-free-price g c =
    let S = g.S.ClauseStore in
    let q : c.args.n * c.price-2.result ≡ c.args.n * S.prices.two = ap (λ t. c.args.n * t) c.price-2.ensures in
    record {
      puts = (refl, omega arith, omega (arith, chain-price S.prices c.args.n, c.free.ensures, c.price.ensures));
      grows = S.growth.none c.args.store.now;
    }

pub returns-in_err-put-2 : goal.returns-in_err-put-2
unfolding written
returns-in_err-put-2 g c =
    let S = g.S.ClauseStore in
    let j = c.in_ok-put.ensures.puts in
    let a : S.prices.one + c.args.n * S.prices.two ≤ S.units c.args.store.now = omega (arith, c.free.ensures, c.price.ensures, ap (λ t. c.args.n * t) c.price-2.ensures) in
    let p : S.units c.loop-k.store + (S.prices.one + c.loop-k.k * S.prices.two) ≡ S.units c.args.store.now = omega (arith, c.loop-k.invariant.0.paid, implications-price S.prices c.loop-k.k, j.units, j.room) in
    let r : S.prices.two ≤ S.units c.loop-k.store = covered c.loop-k.k c.args.n S.prices.two S.prices.one (S.units c.args.store.now) (S.units c.loop-k.store) c.loop-k-test.true a p in
    absurd (no-refusal (Unit {0}) S.held S.units S.prices c.loop-k.store c.put-in-loop-k.new.self (written c.loop-k.k) c.in_err-put-2.field-0.0 (written-lawful c.loop-k.k (omega arith)) r c.in_err-put-2.ensures.puts)

pub loop-k-preserved : goal.loop-k-preserved
unfolding written
loop-k-preserved g c =
    let S = g.S.ClauseStore in
    let h = c.in_ok-put-2.ensures in
    let a = added-put S.held S.units S.prices c.put.new.self c.loop-k.store c.put-in-loop-k.new.self (implications c.loop-k.k) (written c.loop-k.k) c.loop-k.invariant.0 h.puts in (
      subst (Added S.held S.units S.prices c.put.new.self c.put-in-loop-k.new.self) (implications-more c.loop-k.k (omega arith)) a,
      S.growth.more c.put.new.self c.loop-k.store c.put-in-loop-k.new.self c.loop-k.invariant.1 h.grows,
    )

pub returns : goal.returns
returns g c =
    let S = g.S.ClauseStore in
    let h = c.in_ok-put.ensures in
    let k : c.loop-k.k ≡ c.args.n = omega arith in
    let q : c.args.n * c.price-2.result ≡ c.args.n * S.prices.two = ap (λ t. c.args.n * t) c.price-2.ensures in
    let one = added-one S.held S.units S.prices c.args.store.now c.put.new.self (pos 1 ∷ []) h.puts in
    let all = added_more S.held S.units S.prices c.args.store.now c.put.new.self c.loop-k.store ((pos 1 ∷ []) ∷ []) (implications c.loop-k.k) one c.loop-k.invariant.0 in
    record {
      puts = record {
        count = chain_length c.args.n;
        low = omega arith;
        room = omega (arith, chain-price S.prices c.args.n, c.free.ensures, c.price.ensures);
        added = subst (λ n. Added S.held S.units S.prices c.args.store.now c.loop-k.store (chain n)) k all;
      };
      grows = S.growth.more c.args.store.now c.put.new.self c.loop-k.store h.grows c.loop-k.invariant.1;
    }
