-- A hypervisor and a board before an event and after it, and what an event leaves to the machine.
use Rattle.std.specs.Prelude.{◌≡◌, ℕ, ◌<◌, Bool, true, false, IsTrue}
use Rattle.std.specs.List.{list_any}
use Rattle.bao_types.specs.ListReg.{lists_at}
use Rattle.bao_config.specs.Data.{ConfigData}
use Rattle.board.specs.Attempt.{Outcome, Ran, Acknowledged, Ended, Leave}
use Rattle.board.specs.declared.board.Exit.TheVariants as exit
use Rattle.board.specs.Machine.{Machine, port_given, step_exit, stepped}
use Rattle.vgic_iface.specs.Interface.{best_listed, holds}
use Rattle.vgic_iface.specs.Rank.{id_of, no_rank}
use Rattle.vgic_table.specs.Interrupts.{tables_of}
use Rattle.vm_model.specs.Flat.{Flat, flat_effect, flat_ready, runs}
use Rattle.vm_model.specs.Interrupts.{best_of}
use Rattle.vm_model.specs.Project.{joined_tables}
use Rattle.hypervisor.specs.Hyp.{HypData, stands_for}
use Rattle.hypervisor.specs.declared.event.Event.{Event}
use Rattle.hypervisor.specs.declared.event.Event.TheVariants.{Step, Input}

-- a hypervisor and a board before an event, or a part of one, and after it
pub record Change : Type 0 where
  pub old : HypData
  pub new : HypData
  pub before : Machine
  pub after : Machine

abbrev pub change_of : HypData → HypData → Machine → Machine → Change
change_of old new before after = record { old = old; new = new; before = before; after = after }

-- the best interrupt of a core, of all that its VM has, stands in the core's list registers; or there is none
abbrev pub IsListed : ConfigData → HypData → Machine → ℕ → Type 0
IsListed cfg hyp m core =
    best_of cfg (joined_tables cfg m.lists (tables_of hyp.tables)) core ≡ best_listed (lists_at m.lists core)

-- a step of a core that runs is quiet: the board takes it with no exit, and the best interrupt of the core is listed before it
pub record IsQuiet (cfg : ConfigData) (change : Change) (core count : ℕ) : Type 0 where
  pub runs : runs cfg (stands_for cfg change.old change.before) core ≡ true
  pub ran : step_exit change.before core count ≡ exit.Ran
  pub listed : IsListed cfg change.old change.before core

-- the board has become this, by itself: the hypervisor keeps what it kept
pub record IsOfBoard (change : Change) (now : Machine) : Type 0 where
  pub hyp : change.new ≡ change.old
  pub board : change.after ≡ now

-- What is left to the machine: a quiet step and an input are the board's alone, and a core that doesn't run changes nothing.
abbrev pub IsLeftToBoard : ConfigData → Change → Event → Type 0
IsLeftToBoard cfg change (Step core count) =
    (IsQuiet cfg change core count → IsOfBoard change (stepped change.before core count))
    × (runs cfg (stands_for cfg change.old change.before) core ≡ false → IsOfBoard change change.before)
IsLeftToBoard cfg change (Input port byte) = IsOfBoard change (port_given change.before port byte)

-- the core goes on, at the next instruction or at an exception of its own
abbrev pub goes_on : Outcome → Bool
goes_on Ran = true
goes_on Acknowledged = true
goes_on (Ended id) = false
goes_on (Leave esr far) = false

-- The best interrupt of a core that runs, once the lines are forwarded that are raised for it, stands in a list register of the
-- core after a step in which the core goes on.
abbrev pub IsBestKept : ConfigData → Change → Event → Type 0
IsBestKept cfg change (Step core count) =
    let ready : Flat = flat_ready cfg (stands_for cfg change.old change.before) core count in
    runs cfg (stands_for cfg change.old change.before) core ≡ true → goes_on (flat_effect cfg ready core count).outcome ≡ true
    → best_of cfg ready.tables core < no_rank
    → IsTrue (list_any (holds (id_of (best_of cfg ready.tables core))) (lists_at change.after.lists core))
IsBestKept cfg change (Input port byte) = Unit {0}
