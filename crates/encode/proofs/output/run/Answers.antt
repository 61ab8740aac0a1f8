-- What is written is the answer.
use Rattle.encode.proofs.Printing.{runs-by}
use Rattle.encode.proofs.output.run.Goals as goal

pub returns : goal.returns
returns g c = runs-by c.args.input.now c.encode.result c.print_output.result _ _ c.encode.ensures c.print_output.ensures.ends c.print_output.ensures.written
