-- The store that is let go says what the bytes are.
use Rattle.std.proofs.Common.{◌≡◌, ◌++◌, length, sym, ap, ◌∙◌, arith, rules}
use Rattle.store.specs.Growth.{over}
use Rattle.store.specs.Rendering.{shown_in}
use Rattle.store.proofs.Memory.{text-left}
use Rattle.stores_demo.specs.Chain.{chain}
use Rattle.stores_demo.proofs.chain.chain_text.Goals as goal

pub returns : goal.returns
returns c =
    let d = c.args.bytes.now in
    let t = c.put_chain.new.store in
    let p = c.in_ok-put_chain.ensures in
    let n = c.new-store.ensures in
    let left = text-left c.new-store.result t d (chain c.args.n) n.memory n.empty p.grows (p.puts.added.joined ∙ ap (λ cs. cs ++ chain c.args.n) n.empty) in
    let m : t.bytes.now ≡ over (shown_in (length d) (chain c.args.n)) d = left.1 in (
      ap length (c.text.ensures ∙ sym t.shown ∙ left.0),
      p.puts.low,
      omega (arith, p.puts.room, n.free),
      search rules,
    )
