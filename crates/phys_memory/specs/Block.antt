-- What holds of the parts of a block. No public clause cites this module.
use Rattle.std.specs.Prelude.{◌≡◌, ℕ, List, [], ◌∷◌, length, Option, Some, None}
use Rattle.phys_memory.specs.declared.cells.Base.{Base}
use Rattle.phys_memory.specs.declared.cells.Cells.{Cells}
use Rattle.phys_memory.specs.declared.cells.Deed.{Deed}

-- the bytes, and the right to free them, are those of one block: len bytes from base on, which alloc gave
pub record IsOneBlock {A : Type 0} (base : Base) (cells : Cells) (deed : Deed A) (alloc : A) (len : ℕ) : Type 0 where
  pub bytes_begin : cells.at ≡ base.ptr
  pub bytes_count : length cells.slots ≡ len
  pub deed_begin : deed.at ≡ base.ptr
  pub deed_count : deed.len ≡ len
  pub giver : deed.alloc ≡ alloc

-- the values of the bytes that are written
abbrev pub values : List (Option ℕ) → List ℕ
values [] = []
values (None ∷ cs) = values cs
values (Some x ∷ cs) = x ∷ values cs
