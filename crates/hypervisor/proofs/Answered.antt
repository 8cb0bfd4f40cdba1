-- Accesses that a VM's interrupt controller answers: the list registers of all the VM's cores are taken back, the table is changed, and
-- the core goes on.
use Rattle.std.proofs.Common.{arith, ◌*◌, ◌/◌, ◌^◌, ◌%◌, ◌≡◌, ◌≢◌, ℕ, zero, suc, ◌+◌, ◌<◌, ◌≤◌, ◌==◌, ◌⊎◌, inl, inr, Bool, true, false, List, [], ◌∷◌, All, find, length, map, replicate, refl, sym, ap, subst, ◌∙◌}
use Rattle.std.specs.Prelude.{if◌then◌else◌, Option, None, Some, slice_get, slice_set}
use Rattle.std.specs.Int.{bit_at}
use Rattle.std.specs.Option.{option_map}
use Rattle.std.proofs.lemmas.Bool.Decides.{nat_tests}
use Rattle.std.proofs.lemmas.List.{get_or-set_other, get_or-set_same}
use Rattle.std.proofs.lemmas.List.Elements.{All-set}
use Rattle.std.proofs.lemmas.Option.{slice_get_within}
use Rattle.bao_types.specs.ListReg.{ListRegData, free_registers, lists_at}
use Rattle.a64_state.specs.Core.{CoreData}
use Rattle.a64_state.specs.Registers.{with_x, x_of}
use Rattle.a64_decode.specs.Operands.{loaded}
use Rattle.a64_execute.specs.Branch.{advanced}
use Rattle.bao_config.specs.Data.{ConfigData}
use Rattle.bao_config.specs.Fits.{ConfigFits}
use Rattle.bao_wellformed.specs.WellFormed.{IsWellFormed}
use Rattle.board.specs.Machine.{Machine, core_at, with_core, with_lists}
use Rattle.vgic_emul.specs.declared.place.FramePlace.{FramePlace}
use Rattle.vgic_emul.specs.declared.place.FramePlace.TheVariants.{Dist, Redist, Sgi}
use Rattle.vgic_emul.specs.Effects.{Effect, changed, changed_by_bits, control, core_type, distributor_type, enabled, flags, pending, priorities, with_enabled, with_pending, with_priorities}
use Rattle.vgic_emul.specs.Registers.{Row, after, answer, distributor_rows, kept_of, private_rows, reaches, redistributor_rows}
use Rattle.vgic_table.specs.declared.id_state.IdState.{IdState}
use Rattle.vgic_table.specs.Changes.{masked}
use Rattle.vgic_table.specs.Cores.{AreTidy, joined_cores}
use Rattle.vgic_table.specs.Interrupts.{Interrupts, quiet_interrupts, state_of, tables_of}
use Rattle.vgic_table.specs.Shape.{IsShaped}
use Rattle.vgic_table.proofs.CoresLemmas.{all_free}
use Rattle.vgic_table.proofs.StateLemmas.{shaped-with}
use Rattle.vm_model.specs.Duty.{Emulate, cores_of, done}
use Rattle.vm_model.specs.Frames.{FrameAccess, accessed, after_access, stored_value}
use Rattle.vm_model.specs.Guests.{Guests}
use Rattle.vm_model.specs.Interrupts.{with_table}
use Rattle.vm_model.specs.Project.{joined_tables, lists_of}
use Rattle.hypervisor.specs.Change.{Change}
use Rattle.hypervisor.specs.Hyp.{HypData}
use Rattle.hypervisor.specs.Seat.{IsSeat, taken_back}
use Rattle.hypervisor.specs.declared.seat.Seat.{Seat}
use Rattle.hypervisor.specs.Taken.{IsLeft, guests_of, with_registers}
use Rattle.hypervisor.specs.Tidy.{AreHeld, Tidy, core_counts}
use Rattle.hypervisor.proofs.Back.{all_back, held_back}
use Rattle.hypervisor.proofs.Calls.{table_there}
use Rattle.hypervisor.proofs.Left.{left_guests, left_same, left_then, left_tidy}
use Rattle.hypervisor.proofs.Seats.{on_platform}

-- what an access keeps of a table: for how many cores it is, and its shape
pub record KeepsCores (old new : Interrupts) : Type 0 where
  pub cores : new.cores ≡ old.cores
  pub shaped : IsShaped old → IsShaped new

keeps-none : (vm : Interrupts) → KeepsCores vm vm
keeps-none vm = record { cores = refl; shaped = λ shaped. shaped }

-- one more id is changed
keeps-changed : (vm next : Interrupts) (core id : ℕ) (change : IdState → IdState) → KeepsCores vm next
    → KeepsCores vm (changed next core id change)
keeps-changed vm next core id change keeps =
    record {
      cores = keeps.cores;
      shaped = λ shaped. shaped-with next core id (masked (change (state_of next core id))) (keeps.shaped shaped);
    }

keeps-bits : (vm : Interrupts) (core : ℕ) (change : IdState → IdState) (value first count : ℕ)
    → KeepsCores vm (changed_by_bits (λ id vm. changed vm core id change) vm value first count)
unfolding changed_by_bits
keeps-bits vm core change value first zero = keeps-none vm
keeps-bits vm core change value first (suc count) =
    by_test (bit_at value count == 1) (changed_by_bits (λ id vm. changed vm core id change) vm value first count)
    (keeps-bits vm core change value first count)
  where
    by_test : (test : Bool) (before : Interrupts) → KeepsCores vm before
        → KeepsCores vm (if test then changed before core (first + count) change else before)
    by_test true before rest = keeps-changed vm before core (first + count) change rest
    by_test false before rest = rest

keeps-bytes : (vm : Interrupts) (core value first count : ℕ) → KeepsCores vm (with_priorities vm core value first count)
unfolding with_priorities
keeps-bytes vm core value first zero = keeps-none vm
keeps-bytes vm core value first (suc count) =
    keeps-changed vm (with_priorities vm core value first count) core (first + count)
    (λ state. record state { priority = value / 2 ^ (8 * count) % 256 }) (keeps-bytes vm core value first count)

-- a write of a register
abbrev Keeps : Effect → Type 0
Keeps effect = (vm : Interrupts) (core offset width value : ℕ) → KeepsCores vm (effect.keeps vm core offset width value)

keeps-control : Keeps control
keeps-control vm core offset width value = record { cores = refl; shaped = λ shaped. shaped }

keeps-distributor : Keeps distributor_type
keeps-distributor vm core offset width value = keeps-none vm

keeps-core : Keeps core_type
keeps-core vm core offset width value = keeps-none vm

keeps-flags : (flag : IdState → Bool) (change : IdState → IdState) → Keeps (flags flag change)
keeps-flags flag change vm core offset width value = keeps-bits vm core change value _ 32

keeps-priorities : Keeps priorities
keeps-priorities vm core offset width value = keeps-bytes vm core value _ width

abbrev AllKeep : List Row → Type 0
AllKeep [] = Unit {0}
AllKeep (row ∷ rows) = Keeps row.effect × AllKeep rows

keeps-found : (rows : List Row) (test : Row → Bool) → AllKeep rows → (vm : Interrupts) (place : FramePlace) (width value : ℕ)
    → KeepsCores vm (kept_of vm place width value (option_map (λ row. row.effect) (find test rows)))
keeps-found [] test all vm place width value = keeps-none vm
keeps-found (row ∷ rows) test all vm place width value = by_test (test row) (keeps-found rows test all.1 vm place width value)
  where
    by_test : (here : Bool) → KeepsCores vm (kept_of vm place width value (option_map (λ row. row.effect) (find test rows)))
        → KeepsCores vm (kept_of vm place width value (option_map (λ row. row.effect) (if here then Some row else find test rows)))
    by_test true rest = all.0 vm _ _ width value
    by_test false rest = rest

-- an access keeps that of a table
pub after-keeps : (vm : Interrupts) (place : FramePlace) (width : ℕ) (write : Option ℕ) → KeepsCores vm (after vm place width write)
after-keeps vm place width None = keeps-none vm
after-keeps vm (Dist offset) width (Some value) =
    keeps-found distributor_rows (reaches offset width) (
      keeps-control,
      (
        keeps-distributor,
        (
          keeps-flags enabled (with_enabled true),
          (
            keeps-flags enabled (with_enabled false),
            (keeps-flags pending (with_pending true), (keeps-flags pending (with_pending false), (keeps-priorities, tt))),
          ),
        ),
      ),
    ) vm (Dist offset) width value
after-keeps vm (Redist core offset) width (Some value) =
    keeps-found redistributor_rows (reaches offset width) (keeps-core, tt) vm (Redist core offset) width value
after-keeps vm (Sgi core offset) width (Some value) =
    keeps-found private_rows (reaches offset width) (
      keeps-flags enabled (with_enabled true),
      (
        keeps-flags enabled (with_enabled false),
        (keeps-flags pending (with_pending true), (keeps-flags pending (with_pending false), (keeps-priorities, tt))),
      ),
    ) vm (Sgi core offset) width value

-- A VM all of whose cores have free registers: they add nothing to its table, and fit any table.
module _ (cfg : ConfigData) (v : ℕ) (low : v < length cfg.vms) (tables : List Interrupts) (lists : List (List ListRegData))
    (held : AreHeld cfg tables lists)
    (free : lists_of cfg lists v ≡ replicate (length (cores_of (slice_get cfg.vms v))) free_registers) where
  free_fit : (t : Interrupts) → AreTidy 0 (lists_of cfg lists v) t
  free_fit t = subst (λ l. AreTidy 0 l t) (sym free) (all_free (length (cores_of (slice_get cfg.vms v))) 0 t).1

  pub free_joined : (t : Interrupts) → joined_cores 0 (lists_of cfg lists v) t ≡ t
  free_joined t = ap (λ l. joined_cores 0 l t) free ∙ (all_free (length (cores_of (slice_get cfg.vms v))) 0 t).0

  there : v < length tables
  there = table_there cfg tables v held.counts low

  module _ (t : Interrupts) (keeps : KeepsCores (tables_of tables v) t) where
    -- tables and registers hold the interrupts still, once the table is another
    pub free_held : AreHeld cfg (slice_set tables v t) lists
    free_held = record {
      counts = same_counts tables v keeps.cores ∙ held.counts;
      shaped = All-set IsShaped tables v t (keeps.shaped (shaped_at tables v held.shaped there)) held.shaped;
      registers = held.registers;
      fit = λ w less. by_place w less (w == v) refl;
    }
      where
        same_counts : (tables : List Interrupts) (v : ℕ) → t.cores ≡ (tables_of tables v).cores
            → core_counts (slice_set tables v t) ≡ core_counts tables
        same_counts [] v e = refl
        same_counts (one ∷ ts) zero e = ap (λ n. n ∷ core_counts ts) e
        same_counts (one ∷ ts) (suc v) e = ap (λ ns. one.cores ∷ ns) (same_counts ts v e)

        shaped_at : (tables : List Interrupts) (v : ℕ) → All IsShaped tables → v < length tables → IsShaped (tables_of tables v)
        shaped_at [] v all less = absurd (omega (arith, less))
        shaped_at (one ∷ ts) zero all less = all 0 one (omega arith)
        shaped_at (one ∷ ts) (suc v) all less = shaped_at ts v (λ i d under. all (suc i) d (omega (arith, under))) (omega (arith, less))

        by_place : (w : ℕ) → w < length cfg.vms → (same : Bool) → (w == v) ≡ same
            → AreTidy 0 (lists_of cfg lists w) (tables_of (slice_set tables v t) w)
        by_place w less true e =
            let is : w ≡ v = grind (arith, nat_tests) in
            subst (λ w. AreTidy 0 (lists_of cfg lists w) (tables_of (slice_set tables v t) w)) (sym is)
            (free_fit (tables_of (slice_set tables v t) v))
        by_place w less false e =
            let differ : w ≢ v = grind (arith, nat_tests) in
            subst (λ t. AreTidy 0 (lists_of cfg lists w) t) (sym (get_or-set_other tables v w t (quiet_interrupts 0) differ)) (held.fit w less)

    -- and all interrupts of the VM are changed as the table is
    pub free_all : (change : Interrupts → Interrupts) → t ≡ change (tables_of tables v)
        → joined_tables cfg lists (tables_of (slice_set tables v t)) ≡ with_table (Some v) change (joined_tables cfg lists (tables_of tables))
    free_all change is = λ i w. at_place w (v == w) refl i
      where
        at_place : (w : ℕ) (same : Bool) → (v == w) ≡ same
            → joined_cores 0 (lists_of cfg lists w) (tables_of (slice_set tables v t) w)
            ≡ (if same then change (joined_cores 0 (lists_of cfg lists w) (tables_of tables w))
            else joined_cores 0 (lists_of cfg lists w) (tables_of tables w))
        at_place w true e =
            let here : w ≡ v = grind (arith, nat_tests) in
            subst
            (λ w. joined_cores 0 (lists_of cfg lists w) (tables_of (slice_set tables v t) w)
            ≡ change (joined_cores 0 (lists_of cfg lists w) (tables_of tables w))) (sym here)
            (ap (joined_cores 0 (lists_of cfg lists v)) (get_or-set_same tables v t (quiet_interrupts 0) there)
            ∙ free_joined t ∙ is ∙ ap change (sym (free_joined (tables_of tables v))))
        at_place w false e =
            let differ : w ≢ v = grind (arith, nat_tests) in
            ap (joined_cores 0 (lists_of cfg lists w)) (get_or-set_other tables v w t (quiet_interrupts 0) differ)

-- a core's registers alone are others after what is left
pub left_core : (cfg : ConfigData) (old new : HypData) (before between after : Machine) (guests : Guests)
    → IsLeft cfg (record { old = old; new = new; before = before; after = between }) guests → (core : ℕ) (f : CoreData → CoreData)
    → after ≡ with_core between core (f (core_at between.cores core))
    → IsLeft cfg (record { old = old; new = new; before = before; after = after })
    (record guests { cores = slice_set guests.cores core (f (core_at guests.cores core)) })
left_core cfg old new before between after guests left core f after_is = record {
  state =
      after_is ∙ ap (λ (m : Machine). with_core m core (f (core_at m.cores core))) left.state
      ∙ ap (with_registers before (slice_set guests.cores core (f (core_at guests.cores core)))) (sym lists_is);
  powers = left.powers;
  tables = ap (λ lists. joined_tables cfg lists (tables_of new.tables)) lists_is ∙ left.tables;
  held = subst (λ lists. AreHeld cfg new.tables lists) (sym lists_is) left.held;
}
  where
    lists_is : after.lists ≡ between.lists
    lists_is = ap (λ (m : Machine). m.lists) after_is

-- one core's registers are taken back
pub left_back : (cfg : ConfigData) → IsWellFormed cfg → ConfigFits cfg → (old new : HypData) (before after : Machine) → Tidy cfg old before
    → (seat : Seat) → IsSeat cfg seat → after ≡ with_lists before seat.core free_registers → new.powers ≡ old.powers
    → new.tables ≡ slice_set old.tables seat.vm (taken_back old.tables before.lists seat)
    → IsLeft cfg (record { old = old; new = new; before = before; after = after }) (guests_of cfg old before)
left_back cfg well_formed fits old new before after tidy seat is state powers tables = record {
  state = state ∙ ap (with_registers before before.cores) (sym (ap (λ (m : Machine). m.lists) state));
  powers = powers;
  tables = all_back cfg well_formed fits old new before after tidy seat is tables (ap (λ (m : Machine). m.lists) state);
  held = held_back cfg well_formed fits old new before after tidy seat is tables (ap (λ (m : Machine). m.lists) state);
}

-- the registers of a VM's cores below a number are taken back
pub record AreBack (cfg : ConfigData) (v : ℕ) (change : Change) (n : ℕ) : Type 0 where
  pub left : IsLeft cfg change (guests_of cfg change.old change.before)
  pub free : (k core : ℕ) → k < n → slice_get (cores_of (slice_get cfg.vms v)) k ≡ Some core
      → lists_at change.after.lists core ≡ free_registers

module _ (cfg : ConfigData) (v : ℕ) (old : HypData) (before : Machine) (tidy : Tidy cfg old before) where
  pub back_none : AreBack cfg v (record { old = old; new = old; before = before; after = before }) 0
  back_none = record { left = left_same cfg old before tidy; free = λ k core less at. absurd (omega (arith, less)) }

  module _ (mid : HypData) (between : Machine) (n : ℕ)
      (so_far : AreBack cfg v (record { old = old; new = mid; before = before; after = between }) n) where
    pub back_tidy : Tidy cfg mid between
    back_tidy = left_tidy cfg old mid before between (guests_of cfg old before) tidy so_far.left refl

    pub back_next : IsWellFormed cfg → ConfigFits cfg → (new : HypData) (after : Machine) (seat : Seat) → IsSeat cfg seat → seat.vm ≡ v
        → seat.own ≡ n → after ≡ with_lists between seat.core free_registers → new.powers ≡ mid.powers
        → new.tables ≡ slice_set mid.tables seat.vm (taken_back mid.tables between.lists seat)
        → AreBack cfg v (record { old = old; new = new; before = before; after = after }) (n + 1)
    back_next well_formed fits new after seat is vm_is own_is state powers tables = record {
      left =
          left_then cfg old mid new before between after (guests_of cfg old before) (guests_of cfg old before) so_far.left
          (subst (IsLeft cfg (record { old = mid; new = new; before = between; after = after }))
          (left_guests cfg old mid before between (guests_of cfg old before) so_far.left)
          (left_back cfg well_formed fits mid new between after back_tidy seat is state powers tables));
      free = λ k core less at. ap (λ (m : Machine). lists_at m.lists core) state ∙ by_core k core less at (core == seat.core) refl;
    }
      where
        low : seat.core < length between.lists
        low =
            let on = on_platform cfg mid between well_formed back_tidy seat is in let count = back_tidy.held.registers in omega (arith, on, count)

        here : slice_get (cores_of (slice_get cfg.vms v)) n ≡ Some seat.core
        here =
            ap (λ w. slice_get (cores_of (slice_get cfg.vms w)) n) (sym vm_is) ∙ ap (λ o. slice_get (cores_of o) n) is.place
            ∙ ap (slice_get is.vm.cores) (sym own_is) ∙ is.core

        by_core : (k core : ℕ) → k < n + 1 → slice_get (cores_of (slice_get cfg.vms v)) k ≡ Some core → (same : Bool)
            → (core == seat.core) ≡ same → lists_at (slice_set between.lists seat.core free_registers) core ≡ free_registers
        by_core k core less at true e =
            let is : core ≡ seat.core = grind (arith, nat_tests) in
            ap (lists_at (slice_set between.lists seat.core free_registers)) is
            ∙ get_or-set_same between.lists seat.core free_registers [] low
        by_core k core less at false e =
            let differ : core ≢ seat.core = grind (arith, nat_tests) in
            get_or-set_other between.lists seat.core core free_registers [] differ
            ∙ so_far.free k core (below differ (let either : (k < n) ⊎ (k ≡ n) = grind arith in either)) at
          where
            below : core ≢ seat.core → (k < n) ⊎ (k ≡ n) → k < n
            below differ (inl less) = less
            below differ (inr last) =
                let same : Some core ≡ Some seat.core =
                sym at ∙ ap (slice_get (cores_of (slice_get cfg.vms v))) last ∙ here in
                absurd (differ (let e : core ≡ seat.core = cc in e))

    -- all are free then
    pub back_all : length (cores_of (slice_get cfg.vms v)) ≤ n
        → lists_of cfg between.lists v ≡ replicate (length (cores_of (slice_get cfg.vms v))) free_registers
    back_all all =
        mapped (cores_of (slice_get cfg.vms v))
        (λ k core at.
        so_far.free k core
        (let within = slice_get_within (cores_of (slice_get cfg.vms v)) k core at in omega (arith, within, all)) at)
      where
        mapped : (cores : List ℕ) → ((k core : ℕ) → slice_get cores k ≡ Some core → lists_at between.lists core ≡ free_registers)
            → map (λ core. lists_at between.lists core) cores ≡ replicate (length cores) free_registers
        mapped [] each = refl
        mapped (core ∷ cores) each =
            ap (λ l. l ∷ map (λ core. lists_at between.lists core) cores) (each 0 core refl)
            ∙ ap (λ rest. free_registers ∷ rest) (mapped cores (λ k c at. each (suc k) c at))

-- a core after an access that stores or loads
abbrev after_as : FrameAccess → CoreData → Bool → ℕ → CoreData
after_as access core stores got =
    if stores then advanced core
    else advanced (with_x core access.register (loaded access.signed access.wide (8 * access.width) got))

-- what a load gives its register is what is read; a store gives none
registers_same : (access : FrameAccess) (core : CoreData) (table : Interrupts) (value : ℕ) (write : Option ℕ) → write ≡ stored_value access core
    → value ≡ answer table access.place access.width write
    → after_access access value core ≡ after_access access (answer table access.place access.width None) core
registers_same access core table value write write_is value_is = by_stores access.stores refl
  where
    by_stores : (stores : Bool) → access.stores ≡ stores
        → after_as access core stores value ≡ after_as access core stores (answer table access.place access.width None)
    by_stores true e = refl
    by_stores false e =
        ap (after_as access core false)
        (value_is
        ∙ ap (answer table access.place access.width)
        (write_is ∙ ap (λ stores. if stores then Some (x_of core access.register % 2 ^ (8 * access.width)) else None) e))

module _ (cfg : ConfigData) (old mid : HypData) (before between : Machine) (v : ℕ) (low : v < length cfg.vms)
    (left : IsLeft cfg (record { old = old; new = mid; before = before; after = between }) (guests_of cfg old before))
    (free : lists_of cfg between.lists v ≡ replicate (length (cores_of (slice_get cfg.vms v))) free_registers)
    (access : FrameAccess) (core : ℕ) (write : Option ℕ) (write_is : write ≡ stored_value access (core_at between.cores core)) where
  abbrev table : Interrupts
  table = tables_of mid.tables v

  abbrev guests : Guests
  guests = guests_of cfg old before

  same_cores : between.cores ≡ before.cores
  same_cores = ap (λ (m : Machine). m.cores) left.state

  writes : write ≡ stored_value access (core_at before.cores core)
  writes = write_is ∙ ap (λ cores. stored_value access (core_at cores core)) same_cores

  -- an access is answered from the table
  pub left_emulated : (new : HypData) → new.powers ≡ mid.powers
      → new.tables ≡ slice_set mid.tables v (after table access.place access.width write)
      → IsLeft cfg (record { old = old; new = new; before = before; after = between })
      (record guests { tables = with_table (Some v) (accessed access (core_at before.cores core)) guests.tables })
  left_emulated new powers tables = record {
    state = left.state;
    powers = powers ∙ left.powers;
    tables =
        ap (λ ts. joined_tables cfg between.lists (tables_of ts)) tables
        ∙ free_all cfg v low mid.tables between.lists left.held free (after table access.place access.width write)
        (after-keeps table access.place access.width write) (accessed access (core_at before.cores core))
        (ap (after table access.place access.width) writes)
        ∙ ap (with_table (Some v) (accessed access (core_at before.cores core))) left.tables;
    held =
        subst (λ ts. AreHeld cfg ts between.lists) (sym tables)
        (free_held cfg v low mid.tables between.lists left.held free (after table access.place access.width write)
        (after-keeps table access.place access.width write));
  }

  -- and the core goes on after it
  pub left_answered : (new : HypData) (after_it : Machine) (value : ℕ) → new.powers ≡ mid.powers
      → new.tables ≡ slice_set mid.tables v (after table access.place access.width write)
      → value ≡ answer table access.place access.width write
      → after_it ≡ with_core between core (after_access access value (core_at between.cores core))
      → IsLeft cfg (record { old = old; new = new; before = before; after = after_it }) (done cfg core (Emulate v access) guests)
  left_answered new after_it value powers tables value_is state =
      subst
      (λ registers. IsLeft cfg (record { old = old; new = new; before = before; after = after_it })
      (record guests {
        cores = slice_set before.cores core registers;
        tables = with_table (Some v) (accessed access (core_at before.cores core)) guests.tables;
      }))
      (registers_same access (core_at before.cores core) table value write writes value_is
      ∙ ap (λ t. after_access access (answer t access.place access.width None) (core_at before.cores core))
      (sym (free_joined cfg v low mid.tables between.lists left.held free table) ∙ ap (λ ts. ts v) left.tables))
      (left_core cfg old new before between after_it
      (record guests { tables = with_table (Some v) (accessed access (core_at before.cores core)) guests.tables })
      (left_emulated new powers tables) core (after_access access value) state)
