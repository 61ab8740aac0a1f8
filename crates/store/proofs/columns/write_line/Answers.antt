-- Each turn writes one literal more.
use Rattle.std.proofs.Common.{◌*◌, ◌≤◌, length, get_or, pos, ap, ◌∙◌, arith, w32, SFits, to_z, of_z, rules}
use Rattle.std.proofs.lemmas.Int.{to_z-of_z}
use Rattle.store.specs.Clauses.{is_literal}
use Rattle.store.specs.Rendering.{width}
use Rattle.store.proofs.Meaning.{clause-parts}
use Rattle.store.proofs.Lines.{literal_at, fields_more}
use Rattle.store.proofs.columns.write_line.Goals as goal

pub loop-i-preserved : goal.loop-i-preserved
loop-i-preserved c =
    let cl = c.args.clause.literals.now in
    let i = c.loop-i.i in
    let z = to_z w32 (of_z w32 (get_or cl i (pos 0))) in
    let f : SFits w32 (get_or cl i (pos 0)) = search rules in
    let l : width * i ≤ length c.loop-i.line = omega (arith, c.loop-i.auto.line, c.requires) in
    fields_more c.loop-i.line c.write_literal.new.column _ i cl z c.loop-i-test.true (to_z-of_z w32 _ f) (ap is_literal (to_z-of_z w32 _ f) ∙ literal_at cl i (clause-parts cl c.args.clause.lawful).2 c.loop-i-test.true) l c.write_literal.ensures c.loop-i.invariant
