use Rattle.std.proofs.Common.{◌≡◌, None, map, replicate, take}
use Rattle.core.specs.Mem.Slots.{slots_items, slots_filled, slots_ptr, slots_len}
use Rattle.core.specs.Mem.Slots.Ownership.{Filled}
use Rattle.phys_bank.proofs.directory.clear.Given as goal

abbrev pub invariant-loop-index : goal.invariant-loop-index
invariant-loop-index l =
    (slots_ptr l.slots ≡ slots_ptr l.fn.slots) × (slots_len l.slots ≡ slots_len l.fn.slots) × Filled (slots_filled l.slots) 0 l.index
    × (take l.index (map (λ page. page.held) (slots_items l.slots)) ≡ replicate l.index None)
