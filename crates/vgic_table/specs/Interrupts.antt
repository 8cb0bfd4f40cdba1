-- The interrupts of a VM as a whole, with no list register in them: whether its distributor is on, and what each id of
-- each virtual core is (GICv3, "Interrupt states"). An id from 32 on is the VM's, and is the same for all its cores.
use Rattle.std.specs.Prelude.{◌==◌, ℕ, ◌+◌, ◌*◌, nat_lt, Bool, false, not, ◌&&◌, ◌||◌, if◌then◌else◌, List, replicate, slice_index_or}
use Rattle.bao_types.specs.Controller.{id_end}
use Rattle.vgic_iface.specs.Rank.{rank, no_rank, least}
use Rattle.vgic_table.specs.declared.id_state.IdState.{IdState}

-- `ids` has the ids 0 to 31 of 8 virtual cores, one core after another, and after them the ids 32 to 95 of the VM
pub record Interrupts : Type 0 where
  pub on : Bool
  pub cores : ℕ
  pub ids : List IdState

-- how an id is at boot
abbrev pub quiet : IdState
quiet = record { enabled = false; priority = 0; pending = false; active = false }

-- the interrupts of a VM with this many virtual cores at boot
abbrev pub quiet_interrupts : ℕ → Interrupts
quiet_interrupts cores = record { on = false; cores = cores; ids = replicate 320 quiet }

-- of a list of several VMs' interrupts, those of each by its place; past the list's end there are none
abbrev pub tables_of : List Interrupts → ℕ → Interrupts
tables_of tables vm = slice_index_or tables vm (quiet_interrupts 0)

-- the place of a core's id
abbrev pub place : ℕ → ℕ → ℕ
place core id = if nat_lt id 32 then 32 * core + id else 224 + id

-- what an id of a core is
abbrev pub state_of : Interrupts → ℕ → ℕ → IdState
state_of vm core id = slice_index_or vm.ids (place core id) quiet

-- the id belongs to the core: one of its own 0 to 31, or one of the VM's, which all belong to core 0
abbrev pub belongs : Interrupts → ℕ → ℕ → Bool
belongs vm core id = nat_lt id 32 || core == 0

-- the core may take the id, its priority aside
abbrev pub may_take : Interrupts → ℕ → ℕ → Bool
may_take vm core id =
    let state = state_of vm core id in
    vm.on && belongs vm core id && state.enabled && state.pending && not state.active

-- the rank of an id of the core
abbrev pub rank_at : Interrupts → ℕ → ℕ → ℕ
rank_at vm core id = if may_take vm core id then rank (state_of vm core id).priority id else no_rank

-- the best rank of the core
abbrev pub best : Interrupts → ℕ → ℕ
best vm core = least (rank_at vm core) id_end
