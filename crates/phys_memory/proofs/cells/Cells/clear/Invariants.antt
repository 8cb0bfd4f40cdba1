use Rattle.std.proofs.Common.{◌≡◌, Some, length, take, replicate}
use Rattle.phys_memory.proofs.cells.Cells.clear.Given as goal

abbrev pub invariant-loop-index : goal.invariant-loop-index
invariant-loop-index l = (l.self.at ≡ l.fn.self.at) × (length l.self.slots ≡ l.len) × (take l.index l.self.slots ≡ replicate l.index (Some 0))
