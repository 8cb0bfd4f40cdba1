-- A VM's interrupts, of which some stand in a core's list registers.
use Rattle.std.specs.Prelude.{◌≡◌, ◌<◌, ℕ, zero, suc, nat_lt, Bool, true, false, ◌&&◌, if◌then◌else◌, List, [], ◌∷◌, Option, Some, None, find}
use Rattle.bao_types.specs.ListReg.{ListRegData, free_register, is_free}
use Rattle.bao_types.specs.Controller.{id_end}
use Rattle.vgic_iface.specs.Interface.{best_listed, holds}
use Rattle.vgic_iface.specs.Rank.{no_rank, id_of, priority_of}
use Rattle.vgic_table.specs.Interrupts.{Interrupts, best, belongs, state_of}
use Rattle.vgic_table.specs.Changes.{with_state}

-- a register goes back to the table: its id has the register's pending and active
abbrev pub put_back : Interrupts → ℕ → ListRegData → Interrupts
put_back vm core list =
    if is_free list then vm
    else with_state vm core list.id (record (state_of vm core list.id) { pending = list.pending; active = list.active })

-- table and registers together: an id has the pending and active of the first register in which it stands, else those
-- of the table
abbrev pub joined : Interrupts → ℕ → List ListRegData → Interrupts
joined vm core [] = vm
joined vm core (list ∷ lists) = put_back (joined vm core lists) core list

-- what an occupied register has in common with the table: its id belongs to the core, has its priority, and is in the
-- table neither pending nor active; if the register is pending, the id is enabled and the distributor on
pub record Fits (vm : Interrupts) (core : ℕ) (list : ListRegData) : Type 0 where
  pub id : list.id < id_end
  pub owned : belongs vm core list.id ≡ true
  pub priority : list.priority ≡ (state_of vm core list.id).priority
  pub not_pending : (state_of vm core list.id).pending ≡ false
  pub not_active : (state_of vm core list.id).active ≡ false
  pub may_be_pending : list.pending ≡ true → (vm.on && (state_of vm core list.id).enabled) ≡ true

-- each occupied register fits the table, and no id stands in two
abbrev pub Tidy : Interrupts → ℕ → List ListRegData → Type 0
Tidy vm core [] = Unit {0}
Tidy vm core (list ∷ lists) =
    (is_free list ≡ false → Fits vm core list × (find (holds list.id) lists ≡ None)) × Tidy vm core lists

-- a register for the best id of the core; free where there is none
abbrev pub register_for : ℕ → ListRegData
register_for best =
    if nat_lt best no_rank then record { id = id_of best; priority = priority_of best; pending = true; active = false }
    else free_register

-- the table without that id's pending
abbrev pub without_best : Interrupts → ℕ → ℕ → Interrupts
without_best vm core best =
    if nat_lt best no_rank then with_state vm core (id_of best) (record (state_of vm core (id_of best)) { pending = false })
    else vm

-- the best ids of the core, this many of them, each in a register
abbrev pub registers : ℕ → Interrupts → ℕ → List ListRegData
registers zero vm core = []
registers (suc count) vm core = register_for (best vm core) ∷ registers count (without_best vm core (best vm core)) core

-- and what they leave in the table
abbrev pub left_by_registers : ℕ → Interrupts → ℕ → Interrupts
left_by_registers zero vm core = vm
left_by_registers (suc count) vm core = left_by_registers count (without_best vm core (best vm core)) core

-- an id that is left in the table comes before the best one in the registers, so that these are filled again
abbrev pub is_due : Interrupts → ℕ → List ListRegData → Bool
is_due vm core lists = nat_lt (best vm core) (best_listed lists)

-- what the registers are filled with again, where that is due
abbrev pub refilled : Interrupts → ℕ → List ListRegData → Option (List ListRegData)
refilled vm core lists = if is_due vm core lists then Some (registers 4 (joined vm core lists) core) else None

-- the registers after that
abbrev pub refilled_lists : Interrupts → ℕ → List ListRegData → List ListRegData
refilled_lists vm core lists = if is_due vm core lists then registers 4 (joined vm core lists) core else lists

-- and the table
abbrev pub refilled_table : Interrupts → ℕ → List ListRegData → Interrupts
refilled_table vm core lists = if is_due vm core lists then left_by_registers 4 (joined vm core lists) core else vm
