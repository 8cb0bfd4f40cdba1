use Rattle.std.proofs.Common.{◌≡◌, ◌++◌, length, map, drop}
use Rattle.bao_config.specs.Config.{config_data}
use Rattle.bao_config.specs.Data.{vm_data}
use Rattle.vgic_table.specs.Interrupts.{quiet_interrupts}
use Rattle.hypervisor.specs.Hyp.{boot_tables}
use Rattle.hypervisor.proofs.hyp.boot_tables.Given as goal

abbrev pub invariant-loop-vm : goal.invariant-loop-vm
invariant-loop-vm l =
    record {
      tables : l.tables.items ++ map (λ vm. quiet_interrupts (length vm.cores)) (map vm_data (drop l.vm-index l.vm-items))
          ≡ boot_tables (config_data l.config);
      len : length l.tables.items ≡ l.vm-index;
    }
