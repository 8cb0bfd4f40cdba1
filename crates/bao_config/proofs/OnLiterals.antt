-- What a proof unfolds to compute what a literal document spells.
use Rattle.std.specs.Prelude.{⊤}
use Rattle.std.specs.Str.{is_utf8, chars}
use Rattle.toml.proofs.OnLiterals.{toml_on_literals}
use Rattle.bao_config.specs.KeyTable.{range, port, banks, platform_cores, ports, platform, shmem, shmems, vm_cores, region, regions, dev, devs, irqs, ipc, ipcs, guards, vm, vms, document}

unfoldable pub config_on_literals : ⊤
unfolding toml_on_literals is_utf8 chars range port banks platform_cores ports platform shmem shmems vm_cores region regions dev devs irqs ipc ipcs guards vm vms document
config_on_literals = tt
