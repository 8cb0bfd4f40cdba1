-- What each service asks for is the VM's own.
use Rattle.std.proofs.Common.{◌≡◌, ℕ, ◌||◌, zero, suc, ◌<◌, ◌==◌, ◌^◌, ◌%◌, nat_lt, Bool, true, false, cond, List, [], ◌∷◌, Option, None, Some, length, slice_get, refl, ap, ◌∙◌, arith}
use Rattle.std.specs.List.{list_any}
use Rattle.std.specs.Option.{option_map_or}
use Rattle.std.proofs.lemmas.Bool.{eq-eqb}
use Rattle.std.proofs.lemmas.Bool.Decides.{nat_tests}
use Rattle.std.proofs.lemmas.Option.{slice_get_within}
use Rattle.bao_config.specs.declared.config.Shmem.{Shmem}
use Rattle.bao_config.specs.Data.{ConfigData, VmData, IpcData}
use Rattle.bao_wellformed.specs.Laws.{IsVm}
use Rattle.shared_windows.specs.Windows.{events_of, is_on}
use Rattle.hypercalls.specs.declared.power.Power.{Power}
use Rattle.hypercalls.specs.declared.power.Power.TheVariants as power
use Rattle.hypercalls.specs.declared.service.Service.{Service}
use Rattle.hypercalls.specs.declared.service.Service.TheVariants.{Ring, Version, CpuOff, CpuOn, AffinityInfo, SystemOff}
use Rattle.hypercalls.specs.Calls.{affinity_info, call_in, cpu_on, doorbell, invalid_parameters, outcome_of, power_in, service_of, told_of, x_in}
use Rattle.hypercalls.specs.declared.outcome.Outcome.TheVariants as outcome
use Rattle.hypercalls.specs.Laws.{IsLawful, OutcomesLawful}

-- a VM lists the memory of each of its windows
any_at : (windows : List IpcData) (place : ℕ) (window : IpcData) → slice_get windows place ≡ Some window
    → list_any (is_on window.shmem) windows ≡ true
any_at [] place window got = cc
any_at (w ∷ ws) zero window got =
    let same : w ≡ window = cc in
    let on : is_on window.shmem w ≡ true = eq-eqb w.shmem window.shmem (ap (λ (x : IpcData). x.shmem) same) in rw on refl
any_at (w ∷ ws) (suc place) window got = by_test (is_on window.shmem w) (any_at ws place window got)
  where
    by_test : (b : Bool) → list_any (is_on window.shmem) ws ≡ true → (b || list_any (is_on window.shmem) ws) ≡ true
    by_test true rest = refl
    by_test false rest = rest

module _ (cfg : ConfigData) (v : ℕ) (powers : List Power) (vm : VmData) (is : IsVm cfg v vm) where
  -- what has an event is there
  memory_with_events : (memories : Option Shmem) (event : ℕ)
      → nat_lt event (option_map_or (λ memory. memory.events) memories 0) ≡ true
      → (memory : Shmem) × (memories ≡ Some memory)
  memory_with_events None event low = absurd (let no : event < 0 = grind (arith, nat_tests) in omega (arith, no))
  memory_with_events (Some memory) event low = (memory, refl)

  lawful_ring : (place : ℕ) (o : Option IpcData) (event : ℕ) → slice_get vm.ipcs place ≡ o
      → IsLawful cfg v powers (doorbell cfg o event)
  lawful_ring place None event got = tt
  lawful_ring place (Some window) event got = by_test (nat_lt event (events_of cfg window.shmem)) refl
    where
      by_test : (b : Bool) → nat_lt event (events_of cfg window.shmem) ≡ b
          → IsLawful cfg v powers (cond b (outcome.Ring window.shmem event) (outcome.Answer invalid_parameters))
      by_test true low =
          let m = memory_with_events (slice_get cfg.shmems window.shmem) event low in
          let lists_of : Option VmData → Bool = λ o. option_map_or (λ vm. list_any (is_on window.shmem) vm.ipcs) o false in
          record {
            listed = ap lists_of is ∙ any_at vm.ipcs place window got;
            memory = slice_get_within cfg.shmems window.shmem m.0 m.1;
            in_range = grind (arith, nat_tests);
          }
      by_test false low = tt

  lawful_start : (core start arg : ℕ) → IsLawful cfg v powers (cpu_on (power_in vm powers core) core start arg)
  lawful_start core start arg = by_test (nat_lt core (length vm.cores)) refl
    where
      by_power : (o : Option Power) → core < length vm.cores → slice_get powers core ≡ o
          → IsLawful cfg v powers (cpu_on o core start arg)
      by_power None low got = tt
      by_power (Some power.On) low got = tt
      by_power (Some power.Off) low got = record { vm = vm; is_vm = is; own = low; off = got }
      by_power (Some (power.Parked esr far)) low got = tt

      by_test : (b : Bool) → nat_lt core (length vm.cores) ≡ b
          → IsLawful cfg v powers (cpu_on (cond b (slice_get powers core) None) core start arg)
      by_test true low = by_power (slice_get powers core) (grind (arith, nat_tests)) refl
      by_test false low = tt

  lawful_info : (o : Option Power) (level : ℕ) → IsLawful cfg v powers (affinity_info o level)
  lawful_info None level = tt
  lawful_info (Some power) level = by_test (level == 0)
    where
      by_test : (b : Bool) → IsLawful cfg v powers (cond b (outcome.Answer (told_of power)) (outcome.Answer invalid_parameters))
      by_test true = tt
      by_test false = tt

  lawful_service : (o : Option Service) (regs : List ℕ) → IsLawful cfg v powers (outcome_of cfg vm powers o regs)
  lawful_service None regs = tt
  lawful_service (Some Ring) regs = lawful_ring (x_in regs 1) (slice_get vm.ipcs (x_in regs 1)) (x_in regs 2) refl
  lawful_service (Some Version) regs = tt
  lawful_service (Some CpuOff) regs = tt
  lawful_service (Some CpuOn) regs = lawful_start (x_in regs 1) (x_in regs 2) (x_in regs 3)
  lawful_service (Some AffinityInfo) regs = lawful_info (power_in vm powers (x_in regs 1)) (x_in regs 2)
  lawful_service (Some SystemOff) regs = tt

pub outcomes_lawful : OutcomesLawful
outcomes_lawful cfg v powers regs = by_vm (slice_get cfg.vms v) refl
  where
    by_vm : (o : Option VmData) → slice_get cfg.vms v ≡ o → IsLawful cfg v powers (call_in cfg o powers regs)
    by_vm None is = tt
    by_vm (Some vm) is = lawful_service cfg v powers vm is (service_of (x_in regs 0 % 2 ^ 32)) regs
