-- What a contract sees of a `ListReg`.
use Rattle.std.specs.Prelude.{ℕ, Bool, false, not, ◌&&◌, List, [], replicate, slice_index_or}

pub record ListRegData : Type 0 where
  pub id : ℕ
  pub priority : ℕ
  pub pending : Bool
  pub active : Bool

-- the interrupt is neither pending nor active
abbrev pub is_free : ListRegData → Bool
is_free list = not list.pending && not list.active

abbrev pub free_register : ListRegData
free_register = record { id = 0; priority = 0; pending = false; active = false }

-- the list registers of a core after a reset
abbrev pub free_registers : List ListRegData
free_registers = replicate 4 free_register

-- the list registers of a core, of those of several
abbrev pub lists_at : List (List ListRegData) → ℕ → List ListRegData
lists_at lists core = slice_index_or lists core []
