-- What the hypervisor does about a call, piece by piece.
use Rattle.std.proofs.Common.{◌≡◌, ◌≢◌, ℕ, zero, suc, ◌+◌, ◌<◌, ◌≤◌, Bool, true, false, List, [], ◌∷◌, All, get_or, length, map, set, refl, sym, ap, subst, ◌∙◌, arith}
use Rattle.std.specs.Prelude.{◌==◌, ◌&&◌, not, nat_lt, if◌then◌else◌, IfSome, Option, None, Some, slice_get, slice_index, slice_index_or, slice_set, unwrap_or}
use Rattle.std.specs.List.{enumerate_from, list_any}
use Rattle.std.specs.Option.{option_map, option_map_or}
use Rattle.std.proofs.lemmas.Bool.Decides.{nat_tests}
use Rattle.std.proofs.lemmas.List.{get_or-set_other, get_or-set_same, length-map, length-set}
use Rattle.std.proofs.lemmas.Option.{slice_get-get_or, slice_get-map, slice_get_past, unwrap_or-slice_get}
use Rattle.bao_types.specs.declared.shape.CorePlace.{CorePlace}
use Rattle.bao_types.specs.Shape.{ShapeData}
use Rattle.a64_state.specs.Registers.{reset_core}
use Rattle.board.specs.Machine.{Machine, begun, core_started}
use Rattle.bao_config.specs.Bounds.{IsInBounds, interrupt}
use Rattle.bao_config.specs.Data.{ConfigData, VmData}
use Rattle.bao_config.specs.Fits.{ConfigFits, IpcFits, VmFits}
use Rattle.bao_wellformed.proofs.Fits.{got_fits}
use Rattle.bao_wellformed.specs.Map.{owner}
use Rattle.bao_wellformed.specs.WellFormed.{IsWellFormed}
use Rattle.bao_wellformed.proofs.Places.{cores_of_platform}
use Rattle.hypercalls.specs.Laws.{IsLawful}
use Rattle.hypercalls.specs.declared.outcome.Outcome.TheVariants as call
use Rattle.hypercalls.specs.declared.power.Power.{Power}
use Rattle.hypercalls.specs.declared.power.Power.TheVariants.{Off}
use Rattle.shared_windows.specs.Windows.{HearsBy, irq_of, is_member, is_on}
use Rattle.vgic_table.specs.Interrupts.{Interrupts, quiet_interrupts, tables_of}
use Rattle.vm_model.specs.Cores.{affinity_of}
use Rattle.vm_model.specs.Duty.{pended, powers_of, rung, started}
use Rattle.vm_model.specs.Guests.{Tables}
use Rattle.vm_model.proofs.Lists.{set_get_other}
use Rattle.hypervisor.specs.Shape.{core_place, shape_of}
use Rattle.hypervisor.specs.Tidy.{core_counts}

-- two changes of one element, of which the second is of what the first gave
pub set_twice : {A : Type 0} (xs : List A) (i : ℕ) (d : A) (f g : A → A)
    → set (set xs i (f (get_or xs i d))) i (g (get_or (set xs i (f (get_or xs i d))) i d)) ≡ set xs i (g (f (get_or xs i d)))
set_twice [] i d f g = refl
set_twice (x ∷ xs) zero d f g = refl
set_twice (x ∷ xs) (suc i) d f g = ap (λ ys. x ∷ ys) (set_twice xs i d f g)

-- the power of one more core of a VM
pub one_more_power : (cores items : List ℕ) (powers own : List Power) (n d : ℕ) (x : Power) → items ≡ cores → n < length items
    → n < length own → x ≡ unwrap_or (slice_get powers (get_or items n d)) Off
    → ((core : ℕ) → core < n → slice_get own core ≡ slice_get (powers_of cores powers) core)
    → (core : ℕ) → core < n + 1 → slice_get (slice_set own n x) core ≡ slice_get (powers_of cores powers) core
one_more_power cores items powers own n d x same low room power before core less = by_place (core == n) refl
  where
    here : slice_get (powers_of cores powers) n ≡ Some x
    here =
        slice_get-map (λ core. slice_index_or powers core Off) cores n
        ∙ ap (λ xs. option_map (λ core. slice_index_or powers core Off) (slice_get xs n)) (sym same)
        ∙ ap (option_map (λ core. slice_index_or powers core Off)) (slice_get-get_or items n d low)
        ∙ ap Some (sym (unwrap_or-slice_get powers (get_or items n d) Off) ∙ sym power)

    there : slice_get (slice_set own n x) n ≡ Some x
    there =
        let long = length-set own n x in
        slice_get-get_or (set own n x) n x (omega (arith, room, long)) ∙ ap Some (get_or-set_same own n x x room)

    by_place : (b : Bool) → (core == n) ≡ b → slice_get (slice_set own n x) core ≡ slice_get (powers_of cores powers) core
    by_place true e =
        let at : core ≡ n = grind (arith, nat_tests) in
        ap (slice_get (slice_set own n x)) at ∙ there ∙ sym here ∙ sym (ap (slice_get (powers_of cores powers)) at)
    by_place false e =
        let other : core ≢ n = grind (arith, nat_tests) in
        set_get_other own n core x other ∙ before core (let b : core < n = grind (arith, nat_tests) in b)

-- each VM's interrupts are for at least one core
pub counted : (tables : List Interrupts) (v : ℕ) → get_or (core_counts tables) v 0 ≡ (tables_of tables v).cores
counted [] v = refl
counted (table ∷ tables) zero = refl
counted (table ∷ tables) (suc v) = counted tables v

has_cores : (vms : List VmData) (v : ℕ) → All VmFits vms → v < length vms → 1 ≤ get_or (map (λ (vm : VmData). length vm.cores) vms) v 0
has_cores [] v fit low = absurd (omega arith)
has_cores (vm ∷ vms) zero fit low = (fit 0 vm (omega arith)).cores.long_enough
has_cores (vm ∷ vms) (suc v) fit low = has_cores vms v (λ k d less. fit (suc k) d (omega (arith, less))) (omega arith)

pub first_core : (cfg : ConfigData) (tables : List Interrupts) (v : ℕ) → ConfigFits cfg
    → core_counts tables ≡ map (λ vm. length vm.cores) cfg.vms → v < length cfg.vms → 0 < (tables_of tables v).cores
first_core cfg tables v fits counts low =
    let some = has_cores cfg.vms v fits.vms.each low in
    let same = ap (λ ns. get_or ns v 0) counts in
    let here = counted tables v in
    omega (arith, some, same, here)

pub table_there : (cfg : ConfigData) (tables : List Interrupts) (v : ℕ) → core_counts tables ≡ map (λ vm. length vm.cores) cfg.vms
    → v < length cfg.vms → v < length tables
table_there cfg tables v counts low =
    let one = length-map tables (λ table. table.cores) in
    let two = length-map cfg.vms (λ vm. length vm.cores) in
    let same = ap (λ (ns : List ℕ). length ns) counts in
    omega (arith, one, two, same, low)

-- an event's number is one of the VM's
pub heard_number : (cfg : ConfigData) (v shmem event irq : ℕ) → ConfigFits cfg → HearsBy cfg v shmem event irq → irq < 96
heard_number cfg v shmem event irq fits heard =
    let vm = subst (λ o. IfSome o VmFits) heard.has.is_vm (got_fits VmFits cfg.vms v fits.vms.each) in
    let window = subst (λ o. IfSome o IpcFits) heard.has.has (got_fits IpcFits heard.has.vm.ipcs heard.place vm.ipcs.each) in
    let number =
    subst (λ o. IfSome o (IsInBounds interrupt)) heard.numbered (got_fits (IsInBounds interrupt) heard.window.irqs event window.irqs.each) in
    let most = number.most in
    omega (arith, most)

-- what becomes pending leaves the tables for as many cores
pub counts_kept : (tables : List Interrupts) (v : ℕ) (irq : Option ℕ)
    → core_counts (slice_set tables v (pended irq (tables_of tables v))) ≡ core_counts tables
counts_kept [] v irq = refl
counts_kept (table ∷ tables) zero None = refl
counts_kept (table ∷ tables) zero (Some irq) = refl
counts_kept (table ∷ tables) (suc v) irq = ap (λ ns. table.cores ∷ ns) (counts_kept tables v irq)

-- the VMs below one more have heard
module _ (hears : ℕ → Bool) (made : ℕ → Interrupts → Interrupts) (old now next : Tables) (n : ℕ) where
  abbrev so_far : ℕ → ℕ → Interrupts
  so_far end v = if nat_lt v end then (if hears v then made v (old v) else old v) else old v

  pub one_more_heard : ((v : ℕ) → now v ≡ so_far n v) → next n ≡ (if hears n then made n (now n) else now n)
      → ((v : ℕ) → v ≢ n → next v ≡ now v) → (v : ℕ) → next v ≡ so_far (n + 1) v
  one_more_heard before here others v = by_place (v == n) refl
    where
      before_here : now n ≡ old n
      before_here = before n ∙ by_test (nat_lt n n) refl
        where
          by_test : (b : Bool) → nat_lt n n ≡ b → (if b then (if hears n then made n (old n) else old n) else old n) ≡ old n
          by_test true e = absurd (grind (arith, nat_tests))
          by_test false e = refl

      within : nat_lt n (n + 1) ≡ true
      within = grind (arith, nat_tests)

      by_place : (b : Bool) → (v == n) ≡ b → next v ≡ so_far (n + 1) v
      by_place true e =
          let at : v ≡ n = grind (arith, nat_tests) in
          ap next at ∙ here ∙ ap (λ t. if hears n then made n t else t) before_here
          ∙ sym (ap (λ b. if b then (if hears n then made n (old n) else old n) else old n) within)
          ∙ sym (ap (so_far (n + 1)) at)
      by_place false e =
          let other : v ≢ n = grind (arith, nat_tests) in
          others v other ∙ before v
          ∙ ap (λ b. if b then (if hears v then made v (old v) else old v) else old v) (same_side (nat_lt v n) refl)
        where
          same_side : (b : Bool) → nat_lt v n ≡ b → b ≡ nat_lt v (n + 1)
          same_side true l = grind (arith, nat_tests)
          same_side false l = grind (arith, nat_tests)

-- past the last VM nobody hears
pub nobody : (cfg : ConfigData) (shmem caller v : ℕ) → length cfg.vms ≤ v → is_member cfg shmem caller v ≡ false
nobody cfg shmem caller v past =
    ap (λ o. not (v == caller) && option_map_or (λ vm. list_any (is_on shmem) vm.ipcs) o false) (slice_get_past cfg.vms v past)
    ∙ and_false (not (v == caller))
  where
    and_false : (b : Bool) → (b && false) ≡ false
    and_false true = refl
    and_false false = refl

-- all have heard
module _ (cfg : ConfigData) (shmem caller event : ℕ) (old now : Tables) (n : ℕ) (all : length cfg.vms ≤ n)
    (before : (v : ℕ) → now v ≡ (if nat_lt v n then rung cfg (is_member cfg shmem caller) shmem event old v else old v)) where
  pub all_heard : now ≡ rung cfg (is_member cfg shmem caller) shmem event old
  all_heard = λ i v. at_place v i
    where
      at_place : (v : ℕ) → now v ≡ rung cfg (is_member cfg shmem caller) shmem event old v
      at_place v = before v ∙ by_test (nat_lt v n) refl
        where
          by_test : (b : Bool) → nat_lt v n ≡ b
              → (if b then rung cfg (is_member cfg shmem caller) shmem event old v else old v)
              ≡ rung cfg (is_member cfg shmem caller) shmem event old v
          by_test true e = refl
          by_test false e =
              let past : length cfg.vms ≤ v = grind (arith, nat_tests) in
              sym (ap (λ b. if b then pended (irq_of cfg v shmem event) (old v) else old v) (nobody cfg shmem caller v past))

-- the other tables stay
pub table_set : (tables : List Interrupts) (n : ℕ) (x : Interrupts) → n < length tables → tables_of (slice_set tables n x) n ≡ x
table_set tables n x low = get_or-set_same tables n x (quiet_interrupts 0) low

pub table_kept : (tables : List Interrupts) (n v : ℕ) (x : Interrupts) → v ≢ n → tables_of (slice_set tables n x) v ≡ tables_of tables v
table_kept tables n v x other = get_or-set_other tables n v x (quiet_interrupts 0) other

-- a core that is turned on is one of the VM's
pub start_lawful : (cfg : ConfigData) (v : ℕ) (powers : List Power) (vm : VmData) (own entry arg : ℕ) → slice_get cfg.vms v ≡ Some vm
    → IsLawful cfg v powers (call.On own entry arg) → own < length vm.cores
start_lawful cfg v powers vm own entry arg is lawful =
    let same : lawful.vm ≡ vm = (let e : Some lawful.vm ≡ Some vm = sym lawful.is_vm ∙ is in cc) in
    subst (λ (vm : VmData). own < length vm.cores) same lawful.own

-- a core is reset on the board as in the model
module _ (cfg : ConfigData) where
  numbered : (entries : List ℕ) (n core : ℕ) (d : CorePlace) → core < length entries
      → (get_or (map (λ place. core_place cfg place.0 place.1) (enumerate_from n entries)) core d).affinity
      ≡ affinity_of (owner cfg (n + core)) (n + core)
  numbered [] n core d low = absurd (omega arith)
  numbered (count ∷ entries) n zero d low = let here : n ≡ n + 0 = omega arith in ap (λ c. affinity_of (owner cfg c) c) here
  numbered (count ∷ entries) n (suc core) d low =
      let there : n + 1 + core ≡ n + suc core = omega arith in
      numbered entries (n + 1) core d (omega arith) ∙ ap (λ c. affinity_of (owner cfg c) c) there

  pub starts_alike : (m : Machine) (core entry arg : ℕ) → m.shape ≡ shape_of cfg m.shape.events → core < length cfg.platform.cores
      → core_started m.shape core entry arg ≡ started cfg core entry arg
  starts_alike m core entry arg shaped low =
      let here : 0 + core ≡ core = omega arith in
      ap (λ (s : ShapeData). core_started s core entry arg) shaped
      ∙ ap (λ affinity. begun (reset_core affinity) entry arg)
      (numbered cfg.platform.cores 0 core (record { entries = 0; affinity = 0 }) low ∙ ap (λ c. affinity_of (owner cfg c) c) here)

-- a core of a VM is one of the platform's
pub own_on_platform : (cfg : ConfigData) (v own : ℕ) (vm : VmData) → IsWellFormed cfg → slice_get cfg.vms v ≡ Some vm → own < length vm.cores
    → slice_index vm.cores own < length cfg.platform.cores
own_on_platform cfg v own vm well_formed is low = each vm.cores own (cores_of_platform cfg v vm well_formed is) low
  where
    each : (cores : List ℕ) (own : ℕ) → All (λ core. core < length cfg.platform.cores) cores → own < length cores
        → slice_index cores own < length cfg.platform.cores
    each [] own all low = absurd (omega arith)
    each (core ∷ cores) zero all low = all 0 core (omega arith)
    each (core ∷ cores) (suc own) all low = each cores own (λ k d less. all (suc k) d (omega (arith, less))) (omega arith)
