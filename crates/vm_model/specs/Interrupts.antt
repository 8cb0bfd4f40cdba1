-- Interrupts in the model: each VM has one table of them, and no list register. A line that is raised is a core's timer's or a
-- port's.
use Rattle.std.specs.Prelude.{ℕ, ◌==◌, ◌&&◌, ◌||◌, Bool, false, if◌then◌else◌, Option, None, Some}
use Rattle.std.specs.List.{find, list_any}
use Rattle.std.specs.Option.{option_map}
use Rattle.bao_types.specs.IfaceRegs.{IfaceData}
use Rattle.bao_config.specs.Data.{ConfigData, VmData}
use Rattle.bao_wellformed.specs.Map.{owner}
use Rattle.board.specs.Attempt.{Outcome, Ran, Acknowledged, Ended, Leave}
use Rattle.vgic_table.specs.Interrupts.{Interrupts, best, place, quiet_interrupts}
use Rattle.vgic_table.specs.Changes.{after_acknowledge, after_end}
use Rattle.vm_model.specs.Cores.{affinity_of, is_place, place_of}
use Rattle.vm_model.specs.Guests.{Tables}

-- the number that a core has in its VM
abbrev pub virtual_number : ConfigData → ℕ → ℕ
virtual_number cfg core = affinity_of (owner cfg core) core

-- the interrupts of the VM at a place, where there is one
abbrev pub table_at : Tables → Option ℕ → Interrupts
table_at tables None = quiet_interrupts 0
table_at tables (Some v) = tables v

-- the best rank of a core, among the interrupts of its VM
abbrev pub best_of : ConfigData → Tables → ℕ → ℕ
best_of cfg tables core = best (table_at tables (place_of cfg core)) (virtual_number cfg core)

-- the interrupts of one VM are changed, where there is one
abbrev pub with_table : Option ℕ → (Interrupts → Interrupts) → Tables → Tables
with_table vm change tables v = if is_place v vm then change (tables v) else tables v

-- the interrupts of a VM after a step of its core that came to this, with this interface
abbrev pub table_after : Outcome → ℕ → IfaceData → Interrupts → Interrupts
table_after Ran core iface table = table
table_after Acknowledged core iface table = after_acknowledge table core iface
table_after (Ended id) core iface table = after_end table core id
table_after (Leave esr far) core iface table = table

-- the id of a core's timer, which is the number of its line too
abbrev pub timer_irq : ℕ
timer_irq = 27

-- the id that a port has in a VM which is given it
abbrev pub irq_of_port : VmData → ℕ → Option ℕ
irq_of_port vm port = option_map (λ dev. dev.irq) (find (λ dev. dev.port == port) vm.devs)

-- an id of a core stands at this place of its VM's table
abbrev pub stands_at : ℕ → Option ℕ → ℕ → Bool
stands_at core None at = false
stands_at core (Some id) at = place core id == at

-- which of the lines that may reach a core are raised: its timer's, and each port's by its number
pub record RaisedLines : Type 0 where
  pub timer : Bool
  pub ports : ℕ → Bool

-- The id at this place of a VM's table is that of a raised line: of the timer of its core with a number, or of a port that the
-- VM is given.
abbrev pub is_line_at : ConfigData → Option VmData → ℕ → RaisedLines → ℕ → Bool
is_line_at cfg None core raised at = false
is_line_at cfg (Some vm) core raised at =
    raised.timer && stands_at core (Some timer_irq) at
    || list_any (λ port. raised.ports port.id && stands_at core (irq_of_port vm port.id) at) cfg.platform.ports
