-- The flat machine at boot: the images lie in memory, the first core of each VM is about to run, the ports are new, and no line is
-- raised.
use Rattle.std.specs.Prelude.{ℕ, zero, suc, false, List, [], ◌∷◌, map, Option, None, Some, slice_get}
use Rattle.std.specs.List.{enumerate_from}
use Rattle.a64_state.specs.Core.{CoreData}
use Rattle.a64_state.specs.Registers.{reset_core}
use Rattle.bao_config.specs.Data.{ConfigData, VmData}
use Rattle.bao_wellformed.specs.Map.{owner}
use Rattle.board.specs.Ports.{standard_ports}
use Rattle.board.specs.Machine.{over}
use Rattle.hypercalls.specs.declared.power.Power.{Power}
use Rattle.hypercalls.specs.declared.power.Power.TheVariants.{On, Off}
use Rattle.vm_model.specs.Cores.{virtual_core}
use Rattle.vm_model.specs.Guests.{boot_table}
use Rattle.vm_model.specs.Flat.{Flat}

-- memory at boot: zero but for the images, each at its VM's place
abbrev pub boot_bytes : List VmData → List (List ℕ) → ℕ → ℕ
boot_bytes [] images = λ at. 0
boot_bytes (vm ∷ vms) [] = λ at. 0
boot_bytes (vm ∷ vms) (image ∷ images) = over vm.place.base image (boot_bytes vms images)

abbrev pub core_of_vm : VmData → Option ℕ → CoreData
core_of_vm vm None = reset_core 0
core_of_vm vm (Some zero) = record (reset_core 0) { pc = vm.start }
core_of_vm vm (Some (suc j)) = reset_core (suc j)

-- every core is reset; virtual core 0 of each VM begins at its start
abbrev pub boot_core : Option VmData → ℕ → CoreData
boot_core None core = reset_core 0
boot_core (Some vm) core = core_of_vm vm (virtual_core vm core)

abbrev pub power_of_vm : Option ℕ → Power
power_of_vm None = Off
power_of_vm (Some zero) = On
power_of_vm (Some (suc j)) = Off

-- virtual core 0 of each VM is on, and no other
abbrev pub boot_power : Option VmData → ℕ → Power
boot_power None core = Off
boot_power (Some vm) core = power_of_vm (virtual_core vm core)

-- the cores of the platform, and their powers
abbrev pub boot_cores : ConfigData → List CoreData
boot_cores cfg = map (λ place. boot_core (owner cfg place.0) place.0) (enumerate_from 0 cfg.platform.cores)

abbrev pub boot_powers : ConfigData → List Power
boot_powers cfg = map (λ place. boot_power (owner cfg place.0) place.0) (enumerate_from 0 cfg.platform.cores)

abbrev pub boot : ConfigData → List (List ℕ) → Flat
boot cfg images =
    record {
      bytes = boot_bytes cfg.vms images;
      cores = boot_cores cfg;
      powers = boot_powers cfg;
      tables = λ v. boot_table (slice_get cfg.vms v);
      ports = standard_ports;
      timer_lines = λ core. false;
      port_lines = λ port. false;
    }
