use Rattle.std.proofs.Common.{◌≤◌, length, ◌+◌}
use Rattle.port_kinds.proofs.tests.check.Given as goal

abbrev pub invariant-loop-shows : goal.invariant-loop-shows
invariant-loop-shows g l = length l.calls ≤ l.shows-index + (goal.Port-dyn g (l.port.vtable, l.port.value)).spare l.port.value
