-- Where a physical core stands.
use Rattle.std.proofs.Common.{◌≡◌, ℕ, zero, suc, ◌+◌, ◌<◌, Bool, true, false, List, [], ◌∷◌, get_or, length, map, refl, sym, ap, subst, ◌∙◌, arith}
use Rattle.std.specs.Prelude.{◌==◌, ◌||◌, nat_lt, IsTrue, if◌then◌else◌, None, Some, is_some, slice_get, slice_index, unwrap_or}
use Rattle.std.specs.List.{enumerate_from, find, list_any, position_from}
use Rattle.std.proofs.lemmas.Bool.{eq-eqb}
use Rattle.std.proofs.lemmas.Bool.Decides.{nat_tests}
use Rattle.std.proofs.lemmas.List.{length-map}
use Rattle.std.proofs.lemmas.List.FromFn.{length-enumerate_from}
use Rattle.std.proofs.lemmas.Option.{slice_get_within}
use Rattle.bao_types.specs.Shape.{ShapeData}
use Rattle.bao_config.specs.Data.{ConfigData, VmData}
use Rattle.bao_wellformed.specs.WellFormed.{IsWellFormed}
use Rattle.board.specs.Machine.{Machine}
use Rattle.vgic_table.specs.Interrupts.{tables_of}
use Rattle.hypervisor.specs.Hyp.{HypData}
use Rattle.hypervisor.specs.Shape.{core_place}
use Rattle.hypervisor.specs.Tidy.{Tidy}
use Rattle.hypervisor.proofs.Calls.{counted, own_on_platform, table_there}
use Rattle.bao_wellformed.specs.Map.{has_core, owner}
use Rattle.vm_model.specs.Cores.{affinity_of, is_place, place_of, virtual_core}
use Rattle.vm_model.proofs.Lists.{first_by_place, placed_got}
use Rattle.hypervisor.specs.Seat.{IsSeat, IsSeatOf, holder_of}
use Rattle.hypervisor.specs.declared.seat.Seat.{Seat}

-- where none passes, none is found
pub none_found : {A : Type 0} (test : A → Bool) (xs : List A) (n : ℕ) → position_from test n xs ≡ None → find test xs ≡ None
none_found test [] n e = refl
none_found {A} test (x ∷ xs) n e = by_test (test x) e (none_found test xs (n + 1))
  where
    by_test : (here : Bool) → (if here then Some n else position_from test (n + 1) xs) ≡ None
        → (position_from test (n + 1) xs ≡ None → find test xs ≡ None) → (if here then Some x else find test xs) ≡ None
    by_test true e rest = cc
    by_test false e rest = rest e

-- a core of a list has a place in it
pub located : (cores : List ℕ) (core n : ℕ) → IsTrue (list_any (λ own. own == core) cores)
    → (k : ℕ) × (position_from (λ own. own == core) n cores ≡ Some (n + k)) × (slice_get cores k ≡ Some core)
located [] core n has = cc
located (own ∷ cores) core n has = by_own (own == core) refl has (located cores core (n + 1))
  where
    by_own : (here : Bool) → (own == core) ≡ here → IsTrue (here || list_any (λ c. c == core) cores)
        → (IsTrue (list_any (λ c. c == core) cores)
        → (k : ℕ) × (position_from (λ c. c == core) (n + 1) cores ≡ Some (n + 1 + k)) × (slice_get cores k ≡ Some core))
        → (k : ℕ) × ((if here then Some n else position_from (λ c. c == core) (n + 1) cores) ≡ Some (n + k))
        × (slice_get (own ∷ cores) k ≡ Some core)
    by_own true e h rest =
        let same : own ≡ core = grind (arith, nat_tests) in
        (0, ap Some (let p : n ≡ n + 0 = omega arith in p), ap Some same)
    by_own false e h rest =
        let r = rest h in (suc r.0, r.1 ∙ ap Some (let p : n + 1 + r.0 ≡ n + suc r.0 = omega arith in p), r.2)

-- a core without a VM
pub no_owner : (cfg : ConfigData) (core : ℕ) → place_of cfg core ≡ None → is_some (owner cfg core) ≡ false
no_owner cfg core none = ap is_some (none_found (has_core core) cfg.vms 0 none)

-- a core with one
module _ (cfg : ConfigData) (core v : ℕ) (there : place_of cfg core ≡ Some v) where
  got : (vm : VmData) × (slice_get cfg.vms v ≡ Some vm) × IsTrue (has_core core vm)
  got = placed_got (has_core core) cfg.vms v there

  owned : owner cfg core ≡ Some got.0
  owned = (first_by_place (has_core core) cfg.vms v got.0 got.1 (ap (is_place v) there ∙ eq-eqb v v refl)).0

  pub has_owner : is_some (owner cfg core) ≡ true
  has_owner = ap is_some owned

  pub seat_there : (vm : VmData) (own : ℕ) → slice_get cfg.vms v ≡ Some vm → own ≡ unwrap_or (virtual_core vm core) 0
      → IsSeatOf cfg core (record { vm = v; own = own; core = core })
  seat_there vm own is number = record {
    is = record {
      vm = got.0;
      place = got.1;
      core = ap (slice_get got.0.cores) (number ∙ ap (λ o. unwrap_or o 0) virtual_is ∙ (let p : 0 + place.0 ≡ place.0 = omega arith in p)) ∙ place.2;
    };
    place = there;
    number = ap (λ o. affinity_of o core) owned ∙ ap (λ (x : VmData). unwrap_or (virtual_core x core) 0) same ∙ sym number;
    core = refl;
  }
    where
      same : got.0 ≡ vm
      same = let e : Some got.0 ≡ Some vm = sym got.1 ∙ is in cc

      place : (k : ℕ) × (position_from (λ own. own == core) 0 got.0.cores ≡ Some (0 + k)) × (slice_get got.0.cores k ≡ Some core)
      place = located got.0.cores core 0 got.2

      virtual_is : virtual_core vm core ≡ Some (0 + place.0)
      virtual_is = ap (λ (x : VmData). virtual_core x core) (sym same) ∙ place.1

-- the VM of a core's seat has the core
pub owner_of_seat : (cfg : ConfigData) (seat : Seat) (is : IsSeatOf cfg seat.core seat) → owner cfg seat.core ≡ Some is.is.vm
owner_of_seat cfg seat is =
    (first_by_place (has_core seat.core) cfg.vms seat.vm is.is.vm is.is.place
    (ap (is_place seat.vm) is.place ∙ eq-eqb seat.vm seat.vm refl)).0

-- a seat of a hypervisor and a board that belong to the configuration
module _ (cfg : ConfigData) (hyp : HypData) (m : Machine) (well_formed : IsWellFormed cfg) (tidy : Tidy cfg hyp m) (seat : Seat) (is : IsSeat cfg seat) where
  pub low_vm : seat.vm < length cfg.vms
  low_vm = slice_get_within cfg.vms seat.vm is.vm is.place

  low_own : seat.own < length is.vm.cores
  low_own = slice_get_within is.vm.cores seat.own seat.core is.core

  pub on_platform : seat.core < length cfg.platform.cores
  on_platform =
      let e : slice_index is.vm.cores seat.own ≡ seat.core = at is.vm.cores seat.own is.core in
      subst (λ c. c < length cfg.platform.cores) e (own_on_platform cfg seat.vm seat.own is.vm well_formed is.place low_own)
    where
      at : (cores : List ℕ) (k : ℕ) → slice_get cores k ≡ Some seat.core → slice_index cores k ≡ seat.core
      at [] k e = cc
      at (c ∷ cores) zero e = cc
      at (c ∷ cores) (suc k) e = at cores k e

  pub on_board : seat.core < length m.shape.cores
  on_board =
      let cores : length m.shape.cores ≡ length cfg.platform.cores =
      ap (λ (s : ShapeData). length s.cores) tidy.shape ∙ length-map (enumerate_from 0 cfg.platform.cores) (λ place. core_place cfg place.0 place.1)
      ∙ length-enumerate_from 0 cfg.platform.cores in
      let low = on_platform in omega (arith, cores, low)

  pub has_table : seat.vm < length hyp.tables
  has_table = table_there cfg hyp.tables seat.vm tidy.held.counts low_vm

  -- the table of its VM is for the VM's cores
  pub table_cores : (tables_of hyp.tables seat.vm).cores ≡ length is.vm.cores
  table_cores =
      sym (counted hyp.tables seat.vm) ∙ ap (λ ns. get_or ns seat.vm 0) tidy.held.counts ∙ count_at cfg.vms seat.vm is.place
    where
      count_at : (vms : List VmData) (v : ℕ) → slice_get vms v ≡ Some is.vm → get_or (map (λ (vm : VmData). length vm.cores) vms) v 0 ≡ length is.vm.cores
      count_at [] v e = cc
      count_at (vm ∷ vms) zero e = let same : vm ≡ is.vm = cc in ap (λ (x : VmData). length x.cores) same
      count_at (vm ∷ vms) (suc v) e = count_at vms v e

  pub has_own : seat.own < (tables_of hyp.tables seat.vm).cores
  has_own = let count = table_cores in let low = low_own in omega (arith, count, low)

-- the first core of a VM has all ids that are the VM's, and its own
pub first_holds : (own id : ℕ) → own ≡ 0 → own ≡ holder_of 0 id
first_holds own id is = by_id (nat_lt id 32)
  where
    by_id : (here : Bool) → own ≡ (if here then 0 else 0)
    by_id true = is
    by_id false = is
