-- What the owner of a block's bytes owns and lends. No public clause cites this module.
use Rattle.std.specs.Prelude.{ℕ, ◌+◌, ◌^◌, List, [], ◌∷◌, length, Option, Some, None}
use base.Fraction.{full_share}
use base.Fml.{Lft, Fml, ftrue, ffalse, fsep, flt, froom}
use mir.Syntax.{Ty, w8, ty_int, ty_array}
use denote.Builtin.{u8}
use denote.Memory.{part_at, shared_of}
use denote.Sharing.{nothing, said, beside}
use denote.RawPtr.{Ptr, block_ptr, null_ptr}

-- the type that a block of this many bytes is allocated for
abbrev pub block_of : ℕ → Ty
block_of n = ty_array (ty_int w8) n

-- one byte of the object b, o bytes from its start: a value, or room for one
abbrev pub cell : ℕ → ℕ → Option ℕ → Fml
cell b o (Some x) = part_at u8 full_share x b o
cell b o None = froom (ty_int w8) b o

-- bytes side by side
abbrev pub cells : ℕ → ℕ → List (Option ℕ) → Fml
cells b o [] = ftrue
cells b o (c ∷ cs) = fsep (cell b o c) (cells b (o + 1) cs)

-- a `&` to one byte
abbrev pub cell_lent : ℕ → ℕ → Option ℕ → Lft → Fml
cell_lent b o (Some x) = shared_of u8 x b o
cell_lent b o None = nothing

-- and to bytes side by side
abbrev pub cells_in : ℕ → ℕ → List (Option ℕ) → Lft → Fml
cells_in b o [] = nothing
cells_in b o (c ∷ cs) = beside (cell_lent b o c) (cells_in b (o + 1) cs)

-- there are fewer than 2 ^ 63 bytes
abbrev pub fit : List (Option ℕ) → Fml
fit cs = flt (length cs) (2 ^ 63)

-- the bytes from the pointer on
abbrev pub cells_own : Ptr → List (Option ℕ) → Fml
cells_own (block_ptr b o) cs = fsep (fit cs) (cells b o cs)
cells_own null_ptr cs = ffalse

-- what a `&` to them holds
abbrev pub cells_lent : Ptr → List (Option ℕ) → Lft → Fml
cells_lent (block_ptr b o) cs = beside (said (fit cs)) (cells_in b o cs)
cells_lent null_ptr cs = said ffalse
