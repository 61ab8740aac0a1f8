-- The last byte is a digit in any case; the others are filled.
use Rattle.std.proofs.Common.{◌≡◌, ◌+◌, ◌%◌, suc, ◌++◌, ◌∷◌, [], length, sym, ap, ◌∙◌, arith, ◌≤◌, rules}
use Rattle.store.specs.Rendering.{justified}
use Rattle.store.specs.Spelling.{spelled}
use Rattle.store.proofs.Justify.{last_digit}
use Rattle.store.proofs.columns.write_number.Goals as goal

pub returns-in-Some : goal.returns-in-Some
returns-in-Some c =
    let w = length c.in-Some.front.now in
    let h = c.in-Some.ensures.cases in
    let e : length c.args.column.now ≡ suc w = search rules in
    let l : length (spelled c.args.n c.args.negative) ≤ suc w = omega (arith, c.requires) in
    ap (λ t. t ++ (48 + c.args.n % 10) ∷ []) c.fill.ensures
    ∙ last_digit w c.args.n c.args.negative c.ranges.n.fits l
    ∙ ap (λ k. justified k (spelled c.args.n c.args.negative)) (sym e)
