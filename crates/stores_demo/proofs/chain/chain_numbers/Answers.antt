-- The store that is let go says what the numbers are.
use Rattle.std.proofs.Common.{◌≡◌, ◌++◌, length, sym, ap, ◌∙◌, arith, rules}
use Rattle.store.specs.Growth.{over}
use Rattle.store.specs.Numbers.{numbers_of}
use Rattle.store.proofs.Memory.{numbers-left}
use Rattle.stores_demo.specs.Chain.{chain}
use Rattle.stores_demo.proofs.chain.chain_numbers.Goals as goal

pub returns : goal.returns
returns c =
    let t = c.put_chain.new.store in
    let p = c.in_ok-put_chain.ensures in
    let n = c.new-store.ensures in
    let left = numbers-left c.new-store.result t c.args.numbers.now (chain c.args.n) n.memory p.grows (p.puts.added.joined ∙ ap (λ cs. cs ++ chain c.args.n) n.empty) in
    let m : t.numbers.now ≡ over (numbers_of (chain c.args.n)) c.args.numbers.now = left.1 in (
      ap length (c.numbers.ensures ∙ sym t.laid ∙ left.0),
      p.puts.low,
      omega (arith, p.puts.room, n.used, ap length n.memory),
      search rules,
    )
