use Rattle.std.proofs.Common.{◌≡◌, ◌+◌, ◌≤◌, ◌++◌, length, map, take}
use Rattle.bao_wellformed.specs.Map.{guard_entry}
use Rattle.bao_wellformed.proofs.map.push_guards.Given as goal

abbrev pub invariant-loop-guard : goal.invariant-loop-guard
invariant-loop-guard l =
    record {
      items : l.entries.items ≡ l.initial.entries.items ++ map guard_entry (take l.guard-index l.guards);
      room : length l.entries.items ≤ length l.initial.entries.items + l.guard-index;
    }
