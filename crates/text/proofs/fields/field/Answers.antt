-- What the columns come to is the law.
use Rattle.text.proofs.Law.{field-law}
use Rattle.text.proofs.fields.field.Goals as goal

pub returns : goal.returns
returns c = field-law c.args.s.now c.columns.result c.columns.ensures
