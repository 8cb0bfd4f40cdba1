-- Facts on the whole of a VM's interrupts.
use Rattle.std.specs.Prelude.{◌≡◌, ◌≤◌, ℕ, List, length}
use Rattle.bao_types.specs.ListReg.{ListRegData}
use Rattle.vgic_iface.specs.Interface.{best_listed}
use Rattle.vgic_table.specs.Interrupts.{Interrupts, best}

-- there are ids for eight virtual cores and the VM
abbrev pub IsShaped : Interrupts → Type 0
IsShaped vm = length vm.ids ≡ 320

-- no id that is left in the table comes before the best one in the registers
abbrev pub BestIsListed : Interrupts → ℕ → List ListRegData → Type 0
BestIsListed vm core lists = best_listed lists ≤ best vm core
