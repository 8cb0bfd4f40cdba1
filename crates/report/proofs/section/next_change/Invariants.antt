use Rattle.std.proofs.Common.{◌<◌, ◌≤◌, take}
use Rattle.bao_types.specs.ByteRange.{address_space_end}
use Rattle.report.proofs.Memory.{AreBeside}
use Rattle.report.proofs.section.next_change.Given as goal

abbrev pub invariant-loop-entry : goal.invariant-loop-entry
invariant-loop-entry l = record {
  above : l.at < l.next;
  space : l.next ≤ address_space_end;
  beside : AreBeside l.at l.next (take l.entry-index l.map);
}
