-- First what is required, then what is handed on.
-- Assumes nothing.
use Rattle.std.proofs.Common.{refl}
use Rattle.encoding.specs.Clauses.{turn}
use Rattle.formula.proofs.Joining.{joined-two}
use Rattle.formula.proofs.layout.turns.Turn.put.Goals as goal

pub returns : goal.returns
unfolding turn
returns g c = joined-two c.args.out.now c.push_if.new.self c.put_passed_on.new.out _ _ _ c.push_if.ensures c.put_passed_on.ensures refl
