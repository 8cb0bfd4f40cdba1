-- The numbers that VMs claim for themselves.
use Rattle.std.specs.Prelude.{ℕ, List, ◌++◌, map, flat_map}
use Rattle.bao_config.specs.Data.{ConfigData, VmData}
use Rattle.bao_wellformed.specs.declared.claim.Claim.{Claim}
use Rattle.bao_wellformed.specs.declared.claim.Claimed.{Claimed}
use Rattle.bao_wellformed.specs.declared.claim.Claimed.TheVariants.{Cores, Ports, Shmems, Irqs}
use Rattle.bao_wellformed.specs.Break.{indexed}

-- what a VM claims, in order; of its interrupt numbers those of its devices come first, then those of its windows
abbrev pub numbers_of : Claimed → VmData → List ℕ
numbers_of Cores vm = vm.cores
numbers_of Ports vm = map (λ dev. dev.port) vm.devs
numbers_of Shmems vm = map (λ ipc. ipc.shmem) vm.ipcs
numbers_of Irqs vm = map (λ dev. dev.irq) vm.devs ++ flat_map (λ ipc. ipc.irqs) vm.ipcs

-- the claims of the VM at a place
abbrev pub claims_of_vm : Claimed → ℕ → VmData → List Claim
claims_of_vm claimed v vm = map (λ (j, number). record { vm = v; item = j; number = number }) (indexed (numbers_of claimed vm))

-- what all VMs claim
abbrev pub claims : Claimed → ConfigData → List Claim
claims claimed cfg = flat_map (λ (v, vm). claims_of_vm claimed v vm) (indexed cfg.vms)
