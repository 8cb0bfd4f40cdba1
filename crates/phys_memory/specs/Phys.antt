-- What a contract sees of a `Phys`, and what holds of its fields. No public clause cites this module.
use Rattle.std.specs.Prelude.{◌≡◌, ℕ, ◌≤◌, List, map, Some}
use Rattle.bao_types.specs.Shape.{memory_limit}
use Rattle.phys_memory.specs.Block.{IsOneBlock, values}
use Rattle.phys_memory.specs.declared.phys.Phys.TheInside.{Inside}

-- the block's bytes, in their order
abbrev pub bytes_of : Inside → List ℕ
bytes_of p = values p.cells.slots

-- the parts belong together, and each byte is written
pub record IsPhys (p : Inside) : Type 0 where
  pub block : IsOneBlock p.base p.cells p.deed p.alloc p.len
  pub bound : p.len ≤ memory_limit
  pub written : p.cells.slots ≡ map Some (bytes_of p)
