-- A count has at most seven digits.
use Rattle.std.proofs.Common.{◌≤◌, length, decimal, ap, ◌∙◌, arith}
use Rattle.std.proofs.lemmas.Fmt.{length-decimal-le}
use Rattle.store.specs.Rendering.{justified, field, width}
use Rattle.store.proofs.columns.write_count.Goals as goal

pub write_number-requires : goal.write_number-requires
write_number-requires c =
    let l : length (decimal c.args.n) ≤ width = length-decimal-le width c.args.n (omega arith) (omega arith) c.ranges.n.fits in
    omega (arith, c.requires.whole)

pub returns : goal.returns
unfolding field
returns c = c.write_number.ensures ∙ ap (λ w. justified w (decimal c.args.n)) c.requires.whole
