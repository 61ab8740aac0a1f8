use Rattle.std.proofs.Common.{◌≡◌, string_bytes, take}
use Rattle.report.specs.Lines.{event_lines}
use Rattle.report.proofs.events.event_lines.Given as goal

-- the lines of the pairs so far
abbrev pub invariant-loop-step : goal.invariant-loop-step
invariant-loop-step l = string_bytes l.lines ≡ event_lines (take l.step-index l.plan)
