-- The events of a generated workload are such as a schedule gives.
use Rattle.std.proofs.Common.{◌≡◌, ◌≢◌, ℕ, zero, suc, ◌+◌, ◌*◌, ◌/◌, ◌%◌, ◌<◌, ◌≤◌, ◌==◌, ◌||◌, ◌⊎◌, inl, inr, Bool, true, false, if◌then◌else◌, List, ◌∷◌, map, refl, ap, ◌∙◌, arith, lit≤}
use Rattle.std.specs.List.{list_any, range_with_len}
use Rattle.std.proofs.Math.Nat.{mod-lt}
use Rattle.std.proofs.lemmas.Bool.{cases_eq}
use Rattle.std.proofs.lemmas.Bool.Decides.{nat_tests}
use Rattle.std.proofs.lemmas.List.FromFn.{length-map-range_with_len}
use Rattle.bao_types.specs.Shape.{event_limit}
use Rattle.bao_wellformed.specs.Map.{has_port}
use Rattle.hypervisor.specs.Event.{IsPlaced, is_assigned, is_core}
use Rattle.hypervisor.specs.declared.event.Event.{Event}
use Rattle.hypervisor.specs.declared.event.Event.TheVariants.{Step, Input}
use Rattle.schedule.specs.Lawful.{IsLawful, NeverFall}
use Rattle.schedule.specs.Workload.{config_of, core_count, draws, event_at, event_count, event_with, for_each_below, vm_at, workload_config, workload_events}
use Rattle.schedule.proofs.Counts.{all_below, count_bounds, length_below}

-- some element passes a test that the element of a number passes
any_from : {A : Type 0} (p : A → Bool) (element : ℕ → A) (v : ℕ) → p (element v) ≡ true → (low count : ℕ) → low ≤ v → v < low + count
    → list_any p (map element (range_with_len low count)) ≡ true
any_from p element v passes low zero from below = absurd (omega arith)
any_from p element v passes low (suc count) from below =
    by_place (cases_eq low v) (λ later. any_from p element v passes (low + 1) count (omega arith) (omega arith))
  where
    by_test : (b : Bool) → list_any p (map element (range_with_len (low + 1) count)) ≡ true
        → (b || list_any p (map element (range_with_len (low + 1) count))) ≡ true
    by_test true rest = refl
    by_test false rest = rest

    by_place : (low ≡ v) ⊎ (low ≡ v → ⊥) → (low ≢ v → list_any p (map element (range_with_len (low + 1) count)) ≡ true)
        → list_any p (map element (range_with_len low (suc count))) ≡ true
    by_place (inl here) rest = let pass : p (element low) ≡ true = ap (λ w. p (element w)) here ∙ passes in rw pass refl
    by_place (inr later) rest = by_test (p (element low)) (rest later)

abbrev sixteen : ℕ → ℕ
sixteen core = 16

cores_are : (count core : ℕ) → core < count → is_core (config_of count) core ≡ true
cores_are count core below = let size = length_below sixteen count in grind (arith, nat_tests, size)

ports_are : (count port : ℕ) → port < count → is_assigned (config_of count) port ≡ true
ports_are count port below = any_from (has_port port) vm_at port (grind (arith, nat_tests)) 0 count (omega arith) (omega arith)

is_placed : (count number r : ℕ) → 0 < count → IsPlaced (config_of count) (event_with count number r)
is_placed count number r some = by_test (r % 16 == 15)
  where
    place : r / 16 % count < count
    place = mod-lt (r / 16) some

    by_test : (b : Bool) → IsPlaced (config_of count) (if b then Input (r / 16 % count) (r / 64 % 256) else Step (r / 16 % count) number)
    by_test true = ports_are count (r / 16 % count) place
    by_test false = cores_are count (r / 16 % count) place

never_fall : (count : ℕ) (drawn : ℕ → ℕ) (events low last : ℕ) → last ≤ low
    → NeverFall last (map (λ number. event_with count number (drawn number)) (range_with_len low events))
never_fall count drawn zero low last above = tt
never_fall count drawn (suc events) low last above =
    by_test (drawn low % 16 == 15) (λ last lower. never_fall count drawn events (low + 1) last lower)
  where
    rest : List Event
    rest = map (λ number. event_with count number (drawn number)) (range_with_len (low + 1) events)

    by_test : (b : Bool) → ((last : ℕ) → last ≤ low + 1 → NeverFall last rest) → NeverFall last ((if b then Input (drawn low / 16 % count) (drawn low / 64 % 256) else Step (drawn low / 16 % count) low) ∷ rest)
    by_test true later = later last (omega arith)
    by_test false later = (above, later low (omega arith))

lawful_upto : (n events : ℕ) → events ≤ event_limit → IsLawful (workload_config n) (for_each_below events (event_at n))
unfolding workload_config
lawful_upto n events few =
    record {
      placed = all_below (IsPlaced (workload_config n)) (event_at n) events
          (λ number low. let bounds = count_bounds n in is_placed (core_count n) number (draws n (2 * core_count n + number)) (omega (arith, bounds.0)));
      counts = never_fall (core_count n) (λ number. draws n (2 * core_count n + number)) events 0 0 (omega arith);
      few = let size = length-map-range_with_len (event_at n) 0 events in omega (arith, size, few);
    }

few_enough : event_count ≤ event_limit
unfolding event_count
few_enough = lit≤ tt

pub lawful : (n : ℕ) → IsLawful (workload_config n) (workload_events n)
unfolding workload_events
lawful n = lawful_upto n event_count few_enough
