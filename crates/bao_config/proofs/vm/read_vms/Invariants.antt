use Rattle.std.specs.Prelude.{Some}
use Rattle.bao_config.specs.Row as row
use Rattle.bao_config.specs.Faults.{faults, in_i, at_row}
use Rattle.bao_config.specs.KeyTable.{vm}
use Rattle.bao_config.specs.Spelled.{vm_of, keys_of}
use Rattle.bao_config.specs.Fits.{VmFits}
use Rattle.std.specs.Prelude.{map}
use Rattle.bao_config.specs.Data.{vm_data}
use Rattle.bao_config.proofs.Lists.{IsRead}
use Rattle.bao_config.proofs.vm.read_vms.Given as goal

abbrev pub invariant-loop-i : goal.invariant-loop-i
invariant-loop-i l =
    IsRead VmFits (λ n d. faults vm (in_i n (at_row row.vm l.spot)) d) (λ d. vm_of (keys_of (Some d))) l.items l.i (map vm_data l.vms.items)
