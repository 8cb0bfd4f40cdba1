use Rattle.std.proofs.Common.{◌≡◌}
use Rattle.core.specs.Mem.Slots.{slots_filled, slots_ptr, slots_len}
use Rattle.core.specs.Mem.Slots.Ownership.{Filled}
use Rattle.phys_bank.proofs.directory.Directory.drop.Given as goal

abbrev pub invariant-loop-entry : goal.invariant-loop-entry
invariant-loop-entry l =
    (slots_ptr l.slots ≡ slots_ptr l.initial.slots) × (slots_len l.slots ≡ slots_len l.initial.slots)
    × Filled (slots_filled l.slots) l.entry (slots_len l.slots)
