-- The tables of several VMs, of which each has its own frames.
use Rattle.std.specs.Prelude.{◌≡◌, ◌≢◌, ◌<◌, ℕ, List, Option, length, slice_set}
use Rattle.vgic_table.specs.Interrupts.{Interrupts, tables_of}
use Rattle.vgic_emul.specs.declared.place.FramePlace.{FramePlace}
use Rattle.vgic_emul.specs.Registers.{after, answer}

-- what an access to a frame of a VM answers
abbrev pub answer_in : List Interrupts → ℕ → FramePlace → ℕ → Option ℕ → ℕ
answer_in tables vm place width write = answer (tables_of tables vm) place width write

-- the tables after an access to a frame of a VM
abbrev pub after_in : List Interrupts → ℕ → FramePlace → ℕ → Option ℕ → List Interrupts
after_in tables vm place width write = slice_set tables vm (after (tables_of tables vm) place width write)

-- where two worlds have one table for a VM, an access to its frames is the same in both
abbrev pub LooksAtItsOwn : Type 0
LooksAtItsOwn =
    (tables others : List Interrupts) (vm : ℕ) (place : FramePlace) (width : ℕ) (write : Option ℕ) →
    vm < length tables → vm < length others → tables_of tables vm ≡ tables_of others vm →
    (answer_in tables vm place width write ≡ answer_in others vm place width write)
    × (tables_of (after_in tables vm place width write) vm ≡ tables_of (after_in others vm place width write) vm)

-- an access to the frames of a VM leaves the tables of all others
abbrev pub ChangesItsOwn : Type 0
ChangesItsOwn =
    (tables : List Interrupts) (vm other : ℕ) (place : FramePlace) (width : ℕ) (write : Option ℕ) → other ≢ vm →
    tables_of (after_in tables vm place width write) other ≡ tables_of tables other
