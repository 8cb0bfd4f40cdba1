-- Each core of a generated workload has three runs: the hypervisor's range, the memory of its VM, and its port.
use Rattle.std.proofs.Common.{◌≡◌, ◌≢◌, ℕ, zero, suc, ◌+◌, ◌<◌, ◌≤◌, ◌==◌, ◌⊎◌, inl, inr, Bool, true, false, if◌then◌else◌, List, [], ◌∷◌, map, length, find, slice_get, None, Some, refl, sym, ap, ◌∙◌, arith}
use Rattle.std.specs.List.{range_with_len}
use Rattle.std.proofs.lemmas.Bool.{cases_eq}
use Rattle.std.proofs.lemmas.Bool.Decides.{nat_tests}
use Rattle.bao_types.specs.ByteRange.{address_space_end, is_within}
use Rattle.bao_types.specs.Shape.{port_range}
use Rattle.bao_types.specs.declared.access.Class.{Class}
use Rattle.bao_types.specs.declared.access.Class.TheVariants.{Nothing, Hyp, Guest}
use Rattle.bao_types.specs.declared.range.ByteRange.{ByteRange}
use Rattle.bao_types.proofs.Ranges.{is_within-bounds}
use Rattle.bao_config.specs.declared.config.PortPlace.{PortPlace}
use Rattle.bao_wellformed.specs.declared.map.Kind.TheVariants.{Ram, Port}
use Rattle.bao_wellformed.specs.Map.{class_of, grant, has_core, kind_of, owner}
use Rattle.region_list.specs.declared.run.Run.{Run}
use Rattle.region_list.specs.Runs.{AreMaximalRuns, IsMaximalRun}
use Rattle.mpu_packer.specs.declared.packing.PackError.{PackError}
use Rattle.mpu_packer.specs.declared.packing.PackError.TheVariants.{TooMany, OutOfMemory}
use Rattle.mpu_packer.specs.Plan.{CountsRuns, TellsTooMany}
use Rattle.mpu_packer.specs.Runs.{all_runs, core_runs, run_of}
use Rattle.mpu_packer.proofs.OneList.{has_one_list}
use Rattle.schedule.specs.Workload.{config_of, core_count, for_each_below, load_at, port_at, vm_at, workload_config}
use Rattle.schedule.proofs.Counts.{count_bounds, got_below}

-- the element of a number is found by a test that it alone passes
module _ {A : Type 0} (p : A → Bool) (element : ℕ → A) (v : ℕ) (passes : p (element v) ≡ true)
    (fails : (other : ℕ) → other ≢ v → p (element other) ≡ false) where
  found_from : (low count : ℕ) → low ≤ v → v < low + count → find p (map element (range_with_len low count)) ≡ Some (element v)
  found_from low zero from below = absurd (omega arith)
  found_from low (suc count) from below =
      by_place (cases_eq low v) (λ later. found_from (low + 1) count (omega arith) (omega arith))
    where
      by_place : (low ≡ v) ⊎ (low ≡ v → ⊥) → (low ≢ v → find p (map element (range_with_len (low + 1) count)) ≡ Some (element v))
          → find p (map element (range_with_len low (suc count))) ≡ Some (element v)
      by_place (inl here) rest =
          let pass : p (element low) ≡ true = ap (λ w. p (element w)) here ∙ passes in
          rw pass (ap (λ w. Some (element w)) here)
      by_place (inr later) rest = let fail : p (element low) ≡ false = fails low later in rw fail (rest later)

  pub found_below : (count : ℕ) → v < count → find p (for_each_below count element) ≡ Some (element v)
  found_below count below = found_from 0 count (omega arith) (omega arith)

owner_is : (count v : ℕ) → v < count → owner (config_of count) v ≡ Some (vm_at v)
owner_is count v = found_below (has_core v) vm_at v (grind (arith, nat_tests)) (λ other differ. grind (arith, nat_tests)) count

port_is : (count v : ℕ) → v < count → find (λ (port : PortPlace). port.id == v) (for_each_below count port_at) ≡ Some (port_at v)
port_is count v =
    found_below (λ (port : PortPlace). port.id == v) port_at v (grind (arith, nat_tests)) (λ other differ. grind (arith, nat_tests)) count

-- the bytes of the hypervisor, of a VM's memory at an address, and of its port at another
abbrev hyp_range : ByteRange
hyp_range = record { base = 0; size = 0x10000 }

abbrev memory : ℕ → ByteRange
memory load = record { base = load; size = 0x10000 }

-- the class of a byte, where a VM has this memory and this port
abbrev class_with : ℕ → ℕ → ℕ → ℕ → Class
class_with load port id at =
    if is_within hyp_range at then Hyp
    else grant (kind_of (if is_within (port_range port) at then Some (record { range = port_range port; kind = Port id })
    else if is_within (memory load) at then Some (record { range = memory load; kind = Ram true true }) else None))

class_is : (count v at : ℕ) → v < count → class_of (config_of count) v at ≡ class_with (load_at v) (port_at v).base v at
class_is count v at below = rw (owner_is count v below, port_is count v below) refl

abbrev runs_with : ℕ → ℕ → List Run
runs_with load port =
    run_of 0 0x10000 Hyp ∷ run_of load 0x10000 (Guest true true false) ∷ run_of port 64 (Guest true false true) ∷ []

module _ (load port id : ℕ) (above : 0x10000 < load) (apart : load + 0x10000 < port) where
  abbrev class : ℕ → Class
  class = class_with load port id

  in_hyp : (at : ℕ) → at < 0x10000 → class at ≡ Hyp
  in_hyp at high = let inside : is_within hyp_range at ≡ true = grind (arith, nat_tests) in rw inside refl

  past_hyp : (at : ℕ) → 0x10000 ≤ at → is_within hyp_range at ≡ false
  past_hyp at low = grind (arith, nat_tests)

  in_port : (at : ℕ) → port ≤ at → at < port + 64 → class at ≡ Guest true false true
  in_port at low high =
      let inside : is_within (port_range port) at ≡ true = grind (arith, nat_tests) in rw (past_hyp at (omega arith), inside) refl

  in_memory : (at : ℕ) → load ≤ at → at < load + 0x10000 → class at ≡ Guest true true false
  in_memory at low high =
      let outside : is_within (port_range port) at ≡ false = grind (arith, nat_tests) in
      let inside : is_within (memory load) at ≡ true = grind (arith, nat_tests) in
      rw (past_hyp at (omega arith), outside, inside) refl

  between : (at : ℕ) → 0x10000 ≤ at → at < load → class at ≡ Nothing
  between at low high =
      let outside : is_within (port_range port) at ≡ false = grind (arith, nat_tests) in
      let lacking : is_within (memory load) at ≡ false = grind (arith, nat_tests) in
      rw (past_hyp at low, outside, lacking) refl

  behind : (at : ℕ) → load + 0x10000 ≤ at → at < port → class at ≡ Nothing
  behind at low high =
      let outside : is_within (port_range port) at ≡ false = grind (arith, nat_tests) in
      let lacking : is_within (memory load) at ≡ false = grind (arith, nat_tests) in
      rw (past_hyp at (omega arith), outside, lacking) refl

  beyond : (at : ℕ) → port + 64 ≤ at → class at ≡ Nothing
  beyond at low =
      let outside : is_within (port_range port) at ≡ false = grind (arith, nat_tests) in
      let lacking : is_within (memory load) at ≡ false = grind (arith, nat_tests) in
      rw (past_hyp at (omega arith), outside, lacking) refl

  -- a class isn't another
  differs : (at : ℕ) (one : Class) → class at ≡ Nothing → one ≢ Nothing → class at ≢ one
  differs at one nothing something same = something (sym same ∙ nothing)

  hyp_run : IsMaximalRun class (run_of 0 0x10000 Hyp)
  hyp_run =
      record {
        not_empty = omega arith;
        not_nothing = λ e. cc;
        equal = λ at within. let bounds = is_within-bounds hyp_range at within in in_hyp at (omega (arith, bounds.1));
        before = λ at next. absurd (omega arith);
        after = differs 0x10000 Hyp (between 0x10000 (omega arith) above) (λ e. cc);
      }

  memory_run : IsMaximalRun class (run_of load 0x10000 (Guest true true false))
  memory_run =
      record {
        not_empty = omega arith;
        not_nothing = λ e. cc;
        equal = λ at within. let bounds = is_within-bounds (memory load) at within in in_memory at bounds.0 bounds.1;
        before = λ at next. differs at (Guest true true false) (between at (omega arith) (omega arith)) (λ e. cc);
        after = differs (load + 0x10000) (Guest true true false) (behind (load + 0x10000) (omega arith) apart) (λ e. cc);
      }

  port_run : IsMaximalRun class (run_of port 64 (Guest true false true))
  port_run =
      record {
        not_empty = omega arith;
        not_nothing = λ e. cc;
        equal = λ at within. let bounds = is_within-bounds (port_range port) at within in in_port at bounds.0 bounds.1;
        before = λ at next. differs at (Guest true false true) (behind at (omega arith) (omega arith)) (λ e. cc);
        after = differs (port + 64) (Guest true false true) (beyond (port + 64) (omega arith)) (λ e. cc);
      }

  are_maximal : AreMaximalRuns class (runs_with load port)
  are_maximal = (
    hyp_run,
    omega arith,
    λ at low high. absurd (omega arith),
    (memory_run, omega arith, λ at low high. between at low high, (port_run, omega arith, λ at low high. behind at low high, λ at low. beyond at low)),
  )

  all_are : port + 64 ≤ address_space_end → all_runs class ≡ runs_with load port
  all_are in_space = sym (has_one_list class (runs_with load port) are_maximal (λ at low. beyond at (omega (arith, in_space, low))))

pub core_runs_are : (count v : ℕ) → v < count → count ≤ 4 → core_runs (config_of count) v ≡ runs_with (load_at v) (port_at v).base
core_runs_are count v below many =
    ap all_runs (λ t at. class_is count v at below t)
    ∙ all_are (load_at v) (port_at v).base v (omega arith) (omega arith) (omega arith)

-- so no core has more runs than entries
pub few_runs : (n core most : ℕ) → slice_get (workload_config n).platform.cores core ≡ Some most
    → length (core_runs (workload_config n) core) ≤ most
unfolding workload_config
few_runs n core most is =
    let bounds = count_bounds n in
    let got = got_below (λ (core : ℕ). 16) (core_count n) core most is in
    let three : length (core_runs (workload_config n) core) ≡ 3 = ap length (core_runs_are (core_count n) core got.0 bounds.1) in
    omega (arith, three, got.1)

-- and its packing fails for want of memory alone
pub packs : (n core : ℕ) (fault : PackError) → TellsTooMany (workload_config n) core fault → CountsRuns (workload_config n) core fault
    → fault ≡ OutOfMemory
packs n core (TooMany runs entries) too_many counted =
    absurd (let few = few_runs n core entries too_many.of_platform in omega (arith, few, too_many.too_many, counted))
packs n core OutOfMemory too_many counted = refl
