-- What the search for the first entry of a variable keeps true.
use Rattle.std.proofs.Common.{ℕ, ◌<◌, get_or, pos}
use Rattle.answer.specs.Kinds.{Names}
use Rattle.answer.proofs.list.ListSource.first_naming.Given as goal

-- no entry passed so far names the variable
abbrev pub invariant-loop-i : goal.invariant-loop-i
invariant-loop-i l = (k : ℕ) → k < l.i → Names l.variable (get_or l.self.entries.now k (pos 0)) → ⊥
