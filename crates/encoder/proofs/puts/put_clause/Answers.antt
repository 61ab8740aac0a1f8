-- The numbers of a clause within the limits are literals.
-- Assumes nothing.
use Rattle.std.proofs.Common.{◌+◌, ap, ◌∙◌, w32, SFits, to_z, of_z, rules}
use Rattle.std.proofs.lemmas.Int.{to_z-of_z}
use Rattle.encoding.specs.Clauses.{rename}
use Rattle.formula.specs.Listings.{lit}
use Rattle.store.specs.Clauses.{is_literal}
use Rattle.store.proofs.Meaning.{clause-3}
use Rattle.encoder.proofs.Moved.{literal-lawful, three-limits}
use Rattle.encoder.proofs.puts.put_clause.Goals as goal

pub put_signed-requires-in-Three : goal.put_signed-requires-in-Three
put_signed-requires-in-Three g c =
    let p = three-limits c.args.shift c.args.clause c.in-Three.a c.in-Three.b c.in-Three.c c.in-Three.is c.requires in
    let f : SFits w32 c.signed-in-Three.result = search rules in
    let h : SFits w32 c.signed-in-Three-2.result = search rules in
    let k : SFits w32 c.signed-in-Three-3.result = search rules in
    clause-3 (to_z w32 (of_z w32 c.signed-in-Three.result)) (to_z w32 (of_z w32 c.signed-in-Three-2.result)) (to_z w32 (of_z w32 c.signed-in-Three-3.result))
    (ap is_literal (to_z-of_z w32 _ f ∙ c.signed-in-Three.ensures) ∙ literal-lawful (rename (λ v. v + c.args.shift) (lit c.in-Three.a)) p.0)
    (ap is_literal (to_z-of_z w32 _ h ∙ c.signed-in-Three-2.ensures) ∙ literal-lawful (rename (λ v. v + c.args.shift) (lit c.in-Three.b)) p.1)
    (ap is_literal (to_z-of_z w32 _ k ∙ c.signed-in-Three-3.ensures) ∙ literal-lawful (rename (λ v. v + c.args.shift) (lit c.in-Three.c)) p.2)
