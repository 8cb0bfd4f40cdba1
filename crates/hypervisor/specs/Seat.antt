-- A virtual core: its VM's place, its number there, and the physical core on which it runs. And the ids that it has.
use Rattle.std.specs.Prelude.{◌≡◌, ℕ, ◌==◌, nat_lt, if◌then◌else◌, List, Option, None, Some, slice_get, option_and_then}
use Rattle.std.specs.List.{find}
use Rattle.bao_types.specs.ListReg.{ListRegData, lists_at}
use Rattle.bao_config.specs.Data.{ConfigData, VmData}
use Rattle.vgic_table.specs.Interrupts.{Interrupts, tables_of}
use Rattle.vgic_table.specs.Registers.{joined}
use Rattle.vm_model.specs.Cores.{place_of}
use Rattle.vm_model.specs.Interrupts.{irq_of_port, timer_irq, virtual_number}
use Rattle.hypervisor.specs.declared.seat.Seat.{Seat}

-- the seat is one of a VM's
pub record IsSeat (cfg : ConfigData) (seat : Seat) : Type 0 where
  pub vm : VmData
  pub place : slice_get cfg.vms seat.vm ≡ Some vm
  pub core : slice_get vm.cores seat.own ≡ Some seat.core

-- it is that of a physical core
pub record IsSeatOf (cfg : ConfigData) (physical : ℕ) (seat : Seat) : Type 0 where
  pub is : IsSeat cfg seat
  pub place : place_of cfg physical ≡ Some seat.vm
  pub number : virtual_number cfg physical ≡ seat.own
  pub core : seat.core ≡ physical

-- the id that a raised line has in a VM: the timer's is the same in all, and a port's is that of its device there
abbrev pub irq_of_line : ConfigData → VmData → ℕ → Option ℕ
irq_of_line cfg vm intid =
    if intid == timer_irq then Some timer_irq
    else option_and_then (λ port. irq_of_port vm port.id) (find (λ port. port.spi == intid) cfg.platform.ports)

-- where there is such a VM
abbrev pub line_of : ConfigData → Option VmData → ℕ → Option ℕ
line_of cfg None intid = None
line_of cfg (Some vm) intid = irq_of_line cfg vm intid

-- the virtual core that has an id of a core: its own below 32, and the VM's first core above
abbrev pub holder_of : ℕ → ℕ → ℕ
holder_of own id = if nat_lt id 32 then own else 0

-- a VM's interrupts, once the list registers of a core are back among them
abbrev pub taken_back : List Interrupts → List (List ListRegData) → Seat → Interrupts
taken_back tables lists seat = joined (tables_of tables seat.vm) seat.own (lists_at lists seat.core)
