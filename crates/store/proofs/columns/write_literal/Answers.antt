-- A literal has at most five digits and a sign.
use Rattle.std.proofs.Common.{◌≡◌, length, pos, ap, ◌∙◌, arith, w32, to_z, of_z}
use lib.Signed.{lt_z}
use Rattle.std.specs.Fmt.{signed_decimal}
use Rattle.std.proofs.lemmas.Int.{to_z-of_z}
use Rattle.store.specs.Rendering.{justified, field}
use Rattle.store.specs.Spelling.{spelled}
use Rattle.store.proofs.Lines.{spelled_signed, length_literal}
use Rattle.store.proofs.columns.write_literal.Goals as goal

pub write_number-requires : goal.write_number-requires
write_number-requires c =
    let e : spelled c.unsigned_abs.result (lt_z (to_z w32 (of_z w32 c.args.z)) (pos 0)) ≡ signed_decimal c.args.z = spelled_signed c.args.z _ _ (to_z-of_z w32 _ c.ranges.z) c.unsigned_abs.ensures.value in
    omega (arith, ap length e, length_literal c.args.z c.requires.lawful, c.requires.whole)

pub returns : goal.returns
unfolding field
returns c =
    let e : spelled c.unsigned_abs.result (lt_z (to_z w32 (of_z w32 c.args.z)) (pos 0)) ≡ signed_decimal c.args.z = spelled_signed c.args.z _ _ (to_z-of_z w32 _ c.ranges.z) c.unsigned_abs.ensures.value in
    c.write_number.ensures ∙ ap (justified (length c.args.column.now)) e ∙ ap (λ w. justified w (signed_decimal c.args.z)) c.requires.whole
