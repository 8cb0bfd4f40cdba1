-- Changes of a VM's interrupts.
use Rattle.std.specs.Prelude.{ℕ, ◌-◌, ◌%◌, nat_lt, Bool, true, false, if◌then◌else◌, Option, map, slice_set}
use Rattle.std.specs.List.{enumerate_from}
use Rattle.bao_types.specs.IfaceRegs.{IfaceData}
use Rattle.bao_types.specs.Controller.{id_end}
use Rattle.vgic_iface.specs.Interface.{is_signalled, signalled}
use Rattle.vgic_iface.specs.Rank.{id_of}
use Rattle.vgic_table.specs.declared.id_state.IdState.{IdState}
use Rattle.vgic_table.specs.Interrupts.{Interrupts, best, place, state_of}

-- one id of a core is another; all others stay
abbrev pub with_state : Interrupts → ℕ → ℕ → IdState → Interrupts
with_state vm core id state = record vm { ids = slice_set vm.ids (place core id) state }

-- a state whose priority has the bits 7 to 3 alone
abbrev pub masked : IdState → IdState
masked state = record state { priority = state.priority - state.priority % 8 }

abbrev pub made_pending : Interrupts → ℕ → ℕ → Interrupts
made_pending vm core id = with_state vm core id (record (state_of vm core id) { pending = true })

abbrev pub made_inactive : Interrupts → ℕ → ℕ → Interrupts
made_inactive vm core id = with_state vm core id (record (state_of vm core id) { active = false })

abbrev pub taken : Interrupts → ℕ → ℕ → Interrupts
taken vm core id = with_state vm core id (record (state_of vm core id) { pending = false; active = true })

-- an id where it is made pending or left
abbrev pub pended_if : Bool → IdState → IdState
pended_if chosen state = if chosen then record state { pending = true } else state

-- each id at one of these places is pending
abbrev pub pended_at : (ℕ → Bool) → Interrupts → Interrupts
pended_at chosen vm = record vm { ids = map (λ each. pended_if (chosen each.0) each.1) (enumerate_from 0 vm.ids) }

-- the number that an acknowledgement by the core answers
abbrev pub signal : Interrupts → ℕ → IfaceData → Option ℕ
signal vm core iface = signalled iface (best vm core)

-- after an acknowledgement: the interrupt that is signalled is active, and pending no longer; where there is none all
-- stays
abbrev pub after_acknowledge : Interrupts → ℕ → IfaceData → Interrupts
after_acknowledge vm core iface = if is_signalled iface (best vm core) then taken vm core (id_of (best vm core)) else vm

-- after the end of an id: it is inactive
abbrev pub after_end : Interrupts → ℕ → ℕ → Interrupts
after_end vm core id = if nat_lt id id_end then made_inactive vm core id else vm
