-- The virtual interface of a core: which interrupt it signals, and what an acknowledgement and an end change (GICv3,
-- ICC_IAR1_EL1, ICC_EOIR1_EL1). That an id counts in the first register in which it stands is our own choice.
use Rattle.std.specs.Prelude.{◌==◌, ℕ, nat_lt, min, Bool, true, false, not, ◌&&◌, if◌then◌else◌, List, [], ◌∷◌, Option, Some, None, find, is_some}
use Rattle.std.specs.Option.{option_map_or}
use Rattle.bao_types.specs.ListReg.{ListRegData, is_free}
use Rattle.bao_types.specs.IfaceRegs.{IfaceData}
use Rattle.bao_types.specs.Controller.{id_end}
use Rattle.vgic_iface.specs.Rank.{rank, no_rank, least, id_of, priority_of}
use Rattle.vgic_iface.specs.Active.{running, with_priority, without_running}

-- what ICC_IAR1_EL1 reads where no interrupt is signalled
abbrev pub no_interrupt : ℕ
no_interrupt = 1023

-- the id stands in the register
abbrev pub holds : ℕ → ListRegData → Bool
holds id list = not (is_free list) && list.id == id

-- the rank of the interrupt in a register: there is one where it is pending and not active
abbrev pub rank_in : ListRegData → ℕ
rank_in list = if list.pending && not list.active then rank list.priority list.id else no_rank

-- the rank of an id by the registers: that of the first register in which it stands
abbrev pub listed_rank : List ListRegData → ℕ → ℕ
listed_rank lists id = option_map_or rank_in (find (holds id) lists) no_rank

-- what a register adds to the search for the best rank: where it has something to take itself, the rank of its id
abbrev pub rank_by : List ListRegData → ListRegData → ℕ
rank_by lists list = if list.pending && not list.active then listed_rank lists list.id else no_rank

-- the best rank in the registers
abbrev pub best_listed : List ListRegData → ℕ
best_listed lists = least (listed_rank lists) id_end

-- the core may take an interrupt of this rank: its priority is below the mask and below the running one
abbrev pub is_signalled : IfaceData → ℕ → Bool
is_signalled iface best = iface.group && nat_lt (priority_of best) (min iface.pmr (running iface.active))

-- the interrupt that the core may take, where the best one has this rank
abbrev pub signalled : IfaceData → ℕ → Option ℕ
signalled iface best = if is_signalled iface best then Some (id_of best) else None

-- the interrupt that the core may take, by its registers
abbrev pub listed_signal : IfaceData → List ListRegData → Option ℕ
listed_signal iface lists = signalled iface (best_listed lists)

-- the first register in which the id stands is changed
abbrev pub with_holder : (ListRegData → ListRegData) → ℕ → List ListRegData → List ListRegData
with_holder change id [] = []
with_holder change id (list ∷ lists) = if holds id list then change list ∷ lists else list ∷ with_holder change id lists

abbrev pub made_active : ListRegData → ListRegData
made_active list = record list { pending = false; active = true }

abbrev pub made_inactive : ListRegData → ListRegData
made_inactive list = record list { active = false }

-- the interface after an acknowledgement, where the best interrupt has this rank: its priority is active, if it is
-- signalled
abbrev pub acknowledged : IfaceData → ℕ → IfaceData
acknowledged iface best =
    record iface { active = if is_signalled iface best then with_priority iface.active (priority_of best) else iface.active }

-- the registers after an acknowledgement: the first in which the signalled id stands is active, and pending no longer
abbrev pub lists_acknowledged : IfaceData → List ListRegData → List ListRegData
lists_acknowledged iface lists =
    if is_signalled iface (best_listed lists) then with_holder made_active (id_of (best_listed lists)) lists else lists

-- the interface after the end of an id: the running priority is active no longer; an id of 96 or more changes nothing
abbrev pub ended : IfaceData → ℕ → IfaceData
ended iface id = record iface { active = if nat_lt id id_end then without_running iface.active else iface.active }

-- the registers after it: the first in which the id stands is active no longer
abbrev pub lists_ended : List ListRegData → ℕ → List ListRegData
lists_ended lists id = if nat_lt id id_end then with_holder made_inactive id lists else lists

-- the id stands in no register, so that its end is the table's
abbrev pub is_unlisted : List ListRegData → ℕ → Bool
is_unlisted lists id = nat_lt id id_end && not (is_some (find (holds id) lists))
