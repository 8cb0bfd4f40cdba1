-- What the hypervisor does to tables and list registers, one core at a time, is what it does to all interrupts.
use Rattle.std.proofs.Common.{arith, ◌≡◌, ℕ, ◌<◌, ◌≤◌, ◌==◌, Bool, true, false, List, [], map, length, refl, sym, ap, subst, ◌∙◌}
use Rattle.std.specs.Prelude.{nat_lt, ◌||◌, if◌then◌else◌, Some, IfSome, find, slice_get, slice_index_or, slice_set}
use Rattle.std.proofs.lemmas.Bool.{eq-eqb}
use Rattle.std.proofs.lemmas.Bool.Decides.{nat_tests}
use Rattle.std.proofs.lemmas.List.{get_or-set_same}
use Rattle.bao_types.specs.ListReg.{ListRegData, free_registers, lists_at}
use Rattle.bao_config.specs.Data.{ConfigData, VmData}
use Rattle.bao_config.specs.Fits.{ConfigFits, VmFits}
use Rattle.bao_wellformed.proofs.Fits.{got_fits}
use Rattle.bao_wellformed.specs.WellFormed.{IsWellFormed}
use Rattle.board.specs.Machine.{Machine, with_lists}
use Rattle.vgic_iface.specs.Interface.{holds}
use Rattle.vgic_table.specs.declared.id_state.IdState.{IdState}
use Rattle.vgic_table.specs.Interrupts.{Interrupts, belongs, tables_of}
use Rattle.vgic_table.specs.Registers.{joined, refilled_lists, refilled_table}
use Rattle.vgic_table.specs.Cores.{IsCoreOf, joined_cores}
use Rattle.vgic_table.specs.CoresLaws.{CoreRefills, StandFor}
use Rattle.vgic_table.proofs.StateLemmas.{change_at}
use Rattle.vgic_table.proofs.CoresLemmas.{core-changes, core-collects, core-refills, shared-change}
use Rattle.vgic_table.proofs.FrameLemmas.{SameFrame, frame-change, frame-joined, frame-refilled, frame-then, still-core}
use Rattle.vm_model.specs.Guests.{Tables}
use Rattle.vm_model.specs.Interrupts.{with_table}
use Rattle.vm_model.specs.Project.{joined_tables}
use Rattle.hypervisor.specs.declared.seat.Seat.{Seat}
use Rattle.hypervisor.specs.Hyp.{HypData}
use Rattle.hypervisor.specs.Seat.{IsSeat, holder_of, irq_of_line, taken_back}
use Rattle.hypervisor.specs.Taken.{IsLeft, guests_of, with_registers}
use Rattle.hypervisor.specs.Tidy.{AreHeld, Tidy}
use Rattle.hypervisor.proofs.Seats.{on_platform}
use Rattle.hypervisor.proofs.RaisedTaken.{irq_of_line-bound}
use Rattle.hypervisor.proofs.Held.{all_after, held_after, here, is_core, own}

-- tables and registers hold the interrupts, and stand for these
pub record Hold (cfg : ConfigData) (tables : List Interrupts) (lists : List (List ListRegData)) (all : Tables) : Type 0 where
  pub held : AreHeld cfg tables lists
  pub all_is : joined_tables cfg lists (tables_of tables) ≡ all

-- a change that is none
pub unchanged : (v : ℕ) (tables : Tables) → with_table (Some v) (λ table. table) tables ≡ tables
unchanged v tables = λ i w. by_place w (v == w) i
  where
    by_place : (w : ℕ) (here : Bool) → (if here then tables w else tables w) ≡ tables w
    by_place w true = refl
    by_place w false = refl

module _ (cfg : ConfigData) (well_formed : IsWellFormed cfg) (fits : ConfigFits cfg) (v k core : ℕ) (vm : VmData)
    (place : slice_get cfg.vms v ≡ Some vm) (at : slice_get vm.cores k ≡ Some core)
    (tables : List Interrupts) (lists : List (List ListRegData)) (held : AreHeld cfg tables lists) (low : core < length lists) where
  abbrev t : Interrupts
  t = tables_of tables v

  abbrev l : List ListRegData
  l = lists_at lists core

  abbrev rs : List (List ListRegData)
  rs = map (lists_at lists) vm.cores

  is : IsCoreOf t rs k
  is = is_core cfg well_formed fits v k core vm place at tables lists held low

  l_is : slice_index_or rs k [] ≡ l
  l_is = here cfg well_formed fits v k core vm place at tables lists held low

  -- one core's registers and its VM's table are others
  pub moved : (new : List ListRegData) (table : Interrupts) (change : Interrupts → Interrupts) → SameFrame t table
      → StandFor (change (joined_cores 0 rs t)) (slice_set rs k new) table
      → Hold cfg (slice_set tables v table) (slice_set lists core new) (with_table (Some v) change (joined_tables cfg lists (tables_of tables)))
  moved new table change frame stands = record {
    held = held_after cfg well_formed fits v k core vm place at tables lists held low new table change frame.cores (frame.shaped is.shaped) stands;
    all_is = all_after cfg well_formed fits v k core vm place at tables lists held low new table change frame.cores (frame.shaped is.shaped) stands;
  }

  -- the registers are taken back
  collects : StandFor (joined_cores 0 rs t) (slice_set rs k free_registers) (joined t k l)
  collects =
      subst (λ r. StandFor (joined_cores 0 rs t) (slice_set rs k free_registers) (joined t k r)) l_is (core-collects t rs k is)

  pub collected : Hold cfg (slice_set tables v (joined t k l)) (slice_set lists core free_registers) (joined_tables cfg lists (tables_of tables))
  collected =
      subst (Hold cfg (slice_set tables v (joined t k l)) (slice_set lists core free_registers)) (unchanged v (joined_tables cfg lists (tables_of tables)))
      (moved free_registers (joined t k l) (λ table. table) (frame-joined t k l) collects)

  -- the registers are filled again where that is due; they have the best interrupt of the core then
  refills : CoreRefills t rs k
  refills = core-refills t rs k is

  pub refilled : Hold cfg (slice_set tables v (refilled_table t k l)) (slice_set lists core (refilled_lists t k l))
      (joined_tables cfg lists (tables_of tables))
  refilled =
      subst (Hold cfg (slice_set tables v (refilled_table t k l)) (slice_set lists core (refilled_lists t k l)))
      (unchanged v (joined_tables cfg lists (tables_of tables)))
      (moved (refilled_lists t k l) (refilled_table t k l) (λ table. table) (frame-refilled t k l)
      (subst (λ r. StandFor (joined_cores 0 rs t) (slice_set rs k (refilled_lists t k r)) (refilled_table t k r)) l_is refills.after))

  -- an id of the core is changed, once the registers are back
  pub changed : (id : ℕ) (f : IdState → IdState) → id < 96 → belongs t k id ≡ true
      → Hold cfg (slice_set tables v (change_at (joined t k l) k id f)) (slice_set lists core free_registers)
      (with_table (Some v) (λ table. change_at table k id f) (joined_tables cfg lists (tables_of tables)))
  changed id f inside owned =
      moved free_registers (change_at (joined t k l) k id f) (λ table. change_at table k id f)
      (frame-then t (joined t k l) (change_at (joined t k l) k id f) (frame-joined t k l) (frame-change (joined t k l) k id f))
      (record {
        same = change.same ∙ ap (λ table. change_at table k id f) collects.same;
        tidy = change.tidy;
      })
    where
      free_here : slice_index_or (slice_set rs k free_registers) k [] ≡ free_registers
      free_here = get_or-set_same rs k free_registers [] is.within

      still : IsCoreOf (joined t k l) (slice_set rs k free_registers) k
      still = still-core t (joined t k l) rs k k free_registers (frame-joined t k l) collects.tidy is

      change : StandFor (change_at (joined_cores 0 (slice_set rs k free_registers) (joined t k l)) k id f)
          (slice_set rs k free_registers) (change_at (joined t k l) k id f)
      change =
          core-changes (joined t k l) (slice_set rs k free_registers) k still id f inside owned
          (ap (λ r. find (holds id) r) free_here)

  -- an id of any core of the VM, once the registers of the core that has it are back
  pub changed_by_holder : (own id : ℕ) (f : IdState → IdState) → k ≡ holder_of own id → id < 96
      → Hold cfg (slice_set tables v (change_at (joined t k l) k id f)) (slice_set lists core free_registers)
      (with_table (Some v) (λ table. change_at table own id f) (joined_tables cfg lists (tables_of tables)))
  changed_by_holder own id f holder inside =
      subst
      (λ change. Hold cfg (slice_set tables v (change_at (joined t k l) k id f)) (slice_set lists core free_registers)
      (with_table (Some v) change (joined_tables cfg lists (tables_of tables)))) (λ i table. same_change table (nat_lt id 32) refl i)
      (changed id f inside (belongs_to (nat_lt id 32) refl))
    where
      belongs_to : (low : Bool) → nat_lt id 32 ≡ low → (low || k == 0) ≡ true
      belongs_to true e = refl
      belongs_to false e = eq-eqb k 0 (holder ∙ ap (λ b. if b then own else 0) e)

      same_change : (table : Interrupts) (low : Bool) → nat_lt id 32 ≡ low → change_at table k id f ≡ change_at table own id f
      same_change table true e = ap (λ c. change_at table c id f) (holder ∙ ap (λ b. if b then own else 0) e)
      same_change table false e =
          let high : 32 ≤ id = grind (arith, nat_tests) in
          shared-change table k id f high ∙ sym (shared-change table own id f high)

-- the hypervisor and the board, once an id of a VM's core is changed so
pub left_by_change : (cfg : ConfigData) → IsWellFormed cfg → ConfigFits cfg → (old new : HypData) (before after : Machine) → Tidy cfg old before
    → (seat : Seat) (is : IsSeat cfg seat) (v own id : ℕ) (f : IdState → IdState) → seat.vm ≡ v → seat.own ≡ holder_of own id → id < 96
    → after ≡ with_lists before seat.core free_registers → new.powers ≡ old.powers
    → new.tables ≡ slice_set old.tables seat.vm
    (change_at (taken_back old.tables before.lists seat) seat.own id f)
    → IsLeft cfg (record { old = old; new = new; before = before; after = after })
    (record (guests_of cfg old before) {
      tables = with_table (Some v) (λ table. change_at table own id f) (guests_of cfg old before).tables;
    })
left_by_change cfg well_formed fits old new before after tidy seat is v own id f vm_is holder inside state powers tables =
    record {
      state = state ∙ ap (λ lists. with_registers before before.cores lists) (sym (ap (λ (m : Machine). m.lists) state));
      powers = powers;
      tables =
          ap (λ ts. joined_tables cfg after.lists (tables_of ts)) tables
          ∙ ap (λ (m : Machine). joined_tables cfg m.lists (tables_of next)) state
          ∙ holds.all_is
          ∙ ap (λ w. with_table (Some w) (λ table. change_at table own id f) (joined_tables cfg before.lists (tables_of old.tables))) vm_is;
      held =
          subst (λ ts. AreHeld cfg ts after.lists) (sym tables)
          (subst (λ (m : Machine). AreHeld cfg next m.lists) (sym state) holds.held);
    }
  where
    next : List Interrupts
    next =
        slice_set old.tables seat.vm
        (change_at (taken_back old.tables before.lists seat) seat.own id f)

    low : seat.core < length before.lists
    low =
        let on = on_platform cfg old before well_formed tidy seat is in let count = tidy.held.registers in omega (arith, on, count)

    holds : Hold cfg next (slice_set before.lists seat.core free_registers)
        (with_table (Some seat.vm) (λ table. change_at table own id f) (joined_tables cfg before.lists (tables_of old.tables)))
    holds =
        changed_by_holder cfg well_formed fits seat.vm seat.own seat.core is.vm is.place is.core old.tables before.lists tidy.held low own id f holder
        inside

-- nothing is changed
pub left_by_none : (cfg : ConfigData) (hyp : HypData) (m : Machine) → Tidy cfg hyp m → (v : ℕ)
    → IsLeft cfg (record { old = hyp; new = hyp; before = m; after = m })
    (record (guests_of cfg hyp m) { tables = with_table (Some v) (λ table. table) (guests_of cfg hyp m).tables })
left_by_none cfg hyp m tidy v = record { state = refl; powers = refl; tables = sym (unchanged v _); held = tidy.held }

-- the id of a line is one of a core's
pub line_bound : (cfg : ConfigData) → ConfigFits cfg → (v intid id : ℕ) (vm : VmData) → slice_get cfg.vms v ≡ Some vm
    → irq_of_line cfg vm intid ≡ Some id → id < 96
line_bound cfg fits v intid id vm place is =
    irq_of_line-bound vm (subst (λ o. IfSome o VmFits) place (got_fits VmFits cfg.vms v fits.vms.each)) cfg intid id is
