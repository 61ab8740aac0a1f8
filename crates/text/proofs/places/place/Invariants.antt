-- What is left to walk still ends at the same place.
use Rattle.std.proofs.Common.{◌≡◌, ◌+◌, ◌≤◌, drop}
use Rattle.text.specs.Places.{walk, place_of}
use Rattle.text.proofs.places.place.Given as goal

abbrev pub invariant-loop-b : goal.invariant-loop-b
invariant-loop-b l = (walk l.line l.column (drop l.b-index l.b-items) ≡ place_of l.b-items) × (l.line ≤ l.b-index + 1) × (l.column ≤ l.b-index + 1)
