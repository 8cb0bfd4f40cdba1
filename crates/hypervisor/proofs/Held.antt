-- One core's list registers and its VM's table change: what tables and registers hold together, of all VMs.
use Rattle.std.proofs.Common.{◌≡◌, ◌≢◌, ℕ, zero, suc, ◌<◌, Bool, true, false, List, [], ◌∷◌, All, get_or, length, map, refl, sym, ap, subst, ◌∙◌, arith}
use Rattle.std.specs.Prelude.{◌==◌, ◌||◌, IsTrue, if◌then◌else◌, None, Some, slice_get, slice_index_or, slice_set}
use Rattle.std.specs.List.{list_any}
use Rattle.std.proofs.lemmas.Bool.{eq-eqb}
use Rattle.std.proofs.lemmas.Bool.Decides.{nat_tests}
use Rattle.std.proofs.lemmas.List.{get_or-set_other, get_or-set_same, length-map, length-set}
use Rattle.std.proofs.lemmas.List.Elements.{All-set}
use Rattle.std.proofs.lemmas.Option.{slice_get_within}
use Rattle.bao_types.specs.ListReg.{ListRegData, lists_at}
use Rattle.bao_config.specs.Data.{ConfigData, VmData}
use Rattle.bao_config.specs.Fits.{ConfigFits, VmFits}
use Rattle.bao_wellformed.specs.WellFormed.{IsWellFormed}
use Rattle.bao_wellformed.proofs.Once.{cores_apart, cores_once}
use Rattle.vgic_table.specs.Interrupts.{Interrupts, quiet_interrupts, tables_of}
use Rattle.vgic_table.specs.Shape.{IsShaped}
use Rattle.vgic_table.specs.Cores.{AreTidy, IsCoreOf, joined_cores}
use Rattle.vgic_table.specs.CoresLaws.{StandFor}
use Rattle.vm_model.specs.Duty.{cores_of}
use Rattle.vm_model.specs.Interrupts.{with_table}
use Rattle.vm_model.specs.Project.{joined_tables, lists_of}
use Rattle.hypervisor.specs.Tidy.{AreHeld, core_counts}
use Rattle.hypervisor.proofs.Calls.{table_there}

-- the registers of cores of a list, once those of one core are others
kept_lists : (lists : List (List ListRegData)) (new : List ListRegData) (core : ℕ) (cores : List ℕ)
    → ((i : ℕ) → i < length cores → get_or cores i 0 ≢ core)
    → map (lists_at (slice_set lists core new)) cores ≡ map (lists_at lists) cores
kept_lists lists new core [] apart = refl
kept_lists lists new core (own ∷ cores) apart =
    ap (λ l. l ∷ map (lists_at (slice_set lists core new)) cores) (get_or-set_other lists core own new [] (apart 0 (omega arith)))
    ∙ ap (λ rest. lists_at lists own ∷ rest) (kept_lists lists new core cores (λ i low. apart (suc i) (omega (arith, low))))

-- where the core stands at one place of the list alone
set_lists : (lists : List (List ListRegData)) (new : List ListRegData) (core : ℕ) (cores : List ℕ) (k : ℕ) → core < length lists
    → slice_get cores k ≡ Some core → ((i : ℕ) → slice_get cores i ≡ Some core → i ≡ k)
    → map (lists_at (slice_set lists core new)) cores ≡ slice_set (map (lists_at lists) cores) k new
set_lists lists new core [] k low at once = cc
set_lists lists new core (own ∷ cores) zero low at once =
    let here : own ≡ core = cc in
    ap (λ c. lists_at (slice_set lists core new) c ∷ map (lists_at (slice_set lists core new)) cores) here
    ∙ ap (λ l. l ∷ map (lists_at (slice_set lists core new)) cores) (get_or-set_same lists core new [] low)
    ∙ ap (λ rest. new ∷ rest)
    (kept_lists lists new core cores
    (λ i less same. absurd (omega (arith, once (suc i) (got cores i less ∙ ap Some same)))))
  where
    got : (cores : List ℕ) (i : ℕ) → i < length cores → slice_get cores i ≡ Some (get_or cores i 0)
    got [] i less = absurd (omega (arith, less))
    got (c ∷ cs) zero less = refl
    got (c ∷ cs) (suc i) less = got cs i (omega (arith, less))
set_lists lists new core (own ∷ cores) (suc k) low at once =
    ap (λ l. l ∷ map (lists_at (slice_set lists core new)) cores)
    (get_or-set_other lists core own new [] (λ same. absurd (omega (arith, once 0 (ap Some same)))))
    ∙ ap (λ rest. lists_at lists own ∷ rest)
    (set_lists lists new core cores k low at (λ i there. let e = once (suc i) there in omega (arith, e)))

-- a core that is listed is one of the VM's
first_passes : (b rest : Bool) → b ≡ true → IsTrue (b || rest)
first_passes true rest e = refl
first_passes false rest e = cc

later_passes : (b rest : Bool) → IsTrue rest → IsTrue (b || rest)
later_passes true rest e = refl
later_passes false rest e = e

listed_at : (cores : List ℕ) (i core : ℕ) → slice_get cores i ≡ Some core → IsTrue (list_any (λ own. own == core) cores)
listed_at [] i core at = cc
listed_at (own ∷ cores) zero core at =
    first_passes (own == core) (list_any (λ c. c == core) cores) (eq-eqb own core (let e : own ≡ core = cc in e))
listed_at (own ∷ cores) (suc i) core at =
    later_passes (own == core) (list_any (λ c. c == core) cores) (listed_at cores i core at)

module _ (cfg : ConfigData) (well_formed : IsWellFormed cfg) (fits : ConfigFits cfg) (v k core : ℕ) (vm : VmData)
    (place : slice_get cfg.vms v ≡ Some vm) (at : slice_get vm.cores k ≡ Some core)
    (tables : List Interrupts) (lists : List (List ListRegData)) (held : AreHeld cfg tables lists) (low : core < length lists) where
  -- the registers of the VM's cores
  abbrev pub own : List (List ListRegData)
  own = map (lists_at lists) vm.cores

  low_vm : v < length cfg.vms
  low_vm = slice_get_within cfg.vms v vm place

  pub own_is : lists_of cfg lists v ≡ own
  own_is = ap (λ o. map (λ c. lists_at lists c) (cores_of o)) place

  vm_fits : VmFits vm
  vm_fits = fits_at cfg.vms v fits.vms.each place
    where
      fits_at : (vms : List VmData) (v : ℕ) → All VmFits vms → slice_get vms v ≡ Some vm → VmFits vm
      fits_at [] v all is = cc
      fits_at (one ∷ vms) zero all is = let same : one ≡ vm = cc in subst VmFits same (all 0 one (omega arith))
      fits_at (one ∷ vms) (suc v) all is = fits_at vms v (λ i d less. all (suc i) d (omega (arith, less))) is

  -- the core is one of the VM's, whose registers fit its table
  pub is_core : IsCoreOf (tables_of tables v) own k
  is_core = record {
    few = let n = length-map vm.cores (lists_at lists) in let most = vm_fits.cores.short_enough in omega (arith, n, most);
    within = let n = length-map vm.cores (lists_at lists) in let less = slice_get_within vm.cores k core at in omega (arith, n, less);
    shaped = shaped_at tables v held.shaped (table_there cfg tables v held.counts low_vm);
    tidy = subst (λ l. AreTidy 0 l (tables_of tables v)) own_is (held.fit v low_vm);
  }
    where
      shaped_at : (tables : List Interrupts) (v : ℕ) → All IsShaped tables → v < length tables → IsShaped (tables_of tables v)
      shaped_at [] v all less = absurd (omega (arith, less))
      shaped_at (t ∷ ts) zero all less = all 0 t (omega arith)
      shaped_at (t ∷ ts) (suc v) all less = shaped_at ts v (λ i d under. all (suc i) d (omega (arith, under))) (omega (arith, less))

  -- its registers
  pub here : slice_index_or own k [] ≡ lists_at lists core
  here = at_place vm.cores k at
    where
      at_place : (cores : List ℕ) (k : ℕ) → slice_get cores k ≡ Some core → slice_index_or (map (lists_at lists) cores) k [] ≡ lists_at lists core
      at_place [] k is = cc
      at_place (c ∷ cores) zero is = let same : c ≡ core = cc in ap (lists_at lists) same
      at_place (c ∷ cores) (suc k) is = at_place cores k is

  module _ (new : List ListRegData) (table : Interrupts) (change : Interrupts → Interrupts)
      (cores : table.cores ≡ (tables_of tables v).cores) (shaped : IsShaped table)
      (stands : StandFor (change (joined_cores 0 own (tables_of tables v))) (slice_set own k new) table) where
    own_after : lists_of cfg (slice_set lists core new) v ≡ slice_set own k new
    own_after =
        ap (λ o. map (λ c. lists_at (slice_set lists core new) c) (cores_of o)) place
        ∙ set_lists lists new core vm.cores k low at (λ i there. cores_once cfg v vm i k core well_formed place there at)

    other_after : (w : ℕ) → w ≢ v → lists_of cfg (slice_set lists core new) w ≡ lists_of cfg lists w
    other_after w differ = by_vm (slice_get cfg.vms w) refl
      where
        by_vm : (o : _) → slice_get cfg.vms w ≡ o
            → map (λ c. lists_at (slice_set lists core new) c) (cores_of o) ≡ map (λ c. lists_at lists c) (cores_of o)
        by_vm None e = refl
        by_vm (Some other) e =
            kept_lists lists new core other.cores
            (λ i less same.
            differ (cores_apart cfg w v other vm core well_formed e place (listed_at other.cores i core (got other.cores i less ∙ ap Some same))
            (listed_at vm.cores k core at)))
          where
            got : (cores : List ℕ) (i : ℕ) → i < length cores → slice_get cores i ≡ Some (get_or cores i 0)
            got [] i less = absurd (omega (arith, less))
            got (c ∷ cs) zero less = refl
            got (c ∷ cs) (suc i) less = got cs i (omega (arith, less))

    there : v < length tables
    there = table_there cfg tables v held.counts low_vm

    counts_after : core_counts (slice_set tables v table) ≡ core_counts tables
    counts_after = same_counts tables v cores
      where
        same_counts : (tables : List Interrupts) (v : ℕ) → table.cores ≡ (tables_of tables v).cores
            → core_counts (slice_set tables v table) ≡ core_counts tables
        same_counts [] v e = refl
        same_counts (t ∷ ts) zero e = ap (λ n. n ∷ core_counts ts) e
        same_counts (t ∷ ts) (suc v) e = ap (λ ns. t.cores ∷ ns) (same_counts ts v e)

    -- tables and registers hold the interrupts still
    pub held_after : AreHeld cfg (slice_set tables v table) (slice_set lists core new)
    held_after = record {
      counts = counts_after ∙ held.counts;
      shaped = All-set IsShaped tables v table shaped held.shaped;
      registers = length-set lists core new ∙ held.registers;
      fit = λ w less. by_place w less (w == v) refl;
    }
      where
        by_place : (w : ℕ) → w < length cfg.vms → (same : Bool) → (w == v) ≡ same
            → AreTidy 0 (lists_of cfg (slice_set lists core new) w) (tables_of (slice_set tables v table) w)
        by_place w less true e =
            let is : w ≡ v = grind (arith, nat_tests) in
            subst (λ w. AreTidy 0 (lists_of cfg (slice_set lists core new) w) (tables_of (slice_set tables v table) w)) (sym is)
            (subst (λ t. AreTidy 0 (lists_of cfg (slice_set lists core new) v) t) (sym (get_or-set_same tables v table (quiet_interrupts 0) there))
            (subst (λ l. AreTidy 0 l table) (sym own_after) stands.tidy))
        by_place w less false e =
            let differ : w ≢ v = grind (arith, nat_tests) in
            subst (λ t. AreTidy 0 (lists_of cfg (slice_set lists core new) w) t) (sym (get_or-set_other tables v w table (quiet_interrupts 0) differ))
            (subst (λ l. AreTidy 0 l (tables_of tables w)) (sym (other_after w differ)) (held.fit w less))

    -- and of the VM's they are changed, and of no other
    pub all_after : joined_tables cfg (slice_set lists core new) (tables_of (slice_set tables v table))
        ≡ with_table (Some v) change (joined_tables cfg lists (tables_of tables))
    all_after = λ i w. at_place w (v == w) refl i
      where
        at_place : (w : ℕ) (same : Bool) → (v == w) ≡ same
            → joined_cores 0 (lists_of cfg (slice_set lists core new) w) (tables_of (slice_set tables v table) w)
            ≡ with_table (Some v) change (joined_tables cfg lists (tables_of tables)) w
        at_place w true e =
            let is : w ≡ v = grind (arith, nat_tests) in
            ap (λ w. joined_cores 0 (lists_of cfg (slice_set lists core new) w) (tables_of (slice_set tables v table) w)) is
            ∙ ap (λ t. joined_cores 0 (lists_of cfg (slice_set lists core new) v) t) (get_or-set_same tables v table (quiet_interrupts 0) there)
            ∙ ap (λ l. joined_cores 0 l table) own_after ∙ stands.same
            ∙ ap (λ l. change (joined_cores 0 l (tables_of tables v))) (sym own_is)
            ∙ sym (ap (λ w. change (joined_tables cfg lists (tables_of tables) w)) is)
            ∙ sym (ap (λ b. if b then change (joined_tables cfg lists (tables_of tables) w) else joined_tables cfg lists (tables_of tables) w) e)
        at_place w false e =
            let differ : w ≢ v = grind (arith, nat_tests) in
            ap (λ t. joined_cores 0 (lists_of cfg (slice_set lists core new) w) t) (get_or-set_other tables v w table (quiet_interrupts 0) differ)
            ∙ ap (λ l. joined_cores 0 l (tables_of tables w)) (other_after w differ)
            ∙ sym (ap (λ b. if b then change (joined_tables cfg lists (tables_of tables) w) else joined_tables cfg lists (tables_of tables) w) e)
