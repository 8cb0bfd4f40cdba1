-- A step that is carried out changes its core's list registers as it does all interrupts of the VM, but for an id that ends in
-- none of the registers: that end is left to the hypervisor.
use Rattle.std.proofs.Common.{◌≡◌, ℕ, ◌<◌, ◌≤◌, Bool, true, false, List, [], length, map, refl, sym, ap, subst, ◌∙◌, arith}
use Rattle.std.specs.Prelude.{◌&&◌, not, is_some, min, nat_lt, if◌then◌else◌, Option, None, Some, find, slice_index_or, slice_set}
use Rattle.std.proofs.lemmas.Bool.{false≢true}
use Rattle.std.proofs.lemmas.Bool.Decides.{nat_tests}
use Rattle.std.proofs.lemmas.List.{set-get_or}
use Rattle.bao_types.specs.IfaceRegs.{IfaceData}
use Rattle.bao_types.specs.ListReg.{ListRegData, lists_at}
use Rattle.bao_types.specs.Controller.{id_end}
use Rattle.bao_config.specs.Data.{ConfigData}
use Rattle.bao_config.specs.Fits.{ConfigFits}
use Rattle.bao_wellformed.specs.WellFormed.{IsWellFormed}
use Rattle.board.specs.Attempt.{Effect, Outcome, Ran, Acknowledged, Ended, Leave}
use Rattle.board.specs.Interrupts.{exit_of, lists_after}
use Rattle.board.specs.Machine.{Machine, carried_out, machine_effect}
use Rattle.board.specs.declared.board.Exit.{Exit}
use Rattle.board.specs.declared.board.Exit.TheVariants as exit
use Rattle.vgic_iface.specs.Interface.{best_listed, holds, is_unlisted, lists_acknowledged, lists_ended, with_holder}
use Rattle.vgic_iface.specs.Interface.{made_inactive as list_inactive}
use Rattle.vgic_iface.proofs.ListsLemmas.{with_holder-none}
use Rattle.vgic_table.specs.Interrupts.{Interrupts, best, tables_of}
use Rattle.vgic_table.specs.Changes.{after_acknowledge, after_end, made_inactive}
use Rattle.vgic_table.specs.Cores.{IsCoreOf, joined_cores}
use Rattle.vgic_table.specs.CoresLaws.{StandFor}
use Rattle.vgic_table.specs.Shape.{BestIsListed}
use Rattle.vgic_table.proofs.CoresLemmas.{best-others, core-acknowledges, core-ends, core-last, others, own-tidy, shaped-others, tidy-others}
use Rattle.vgic_table.proofs.FrameLemmas.{frame-none}
use Rattle.vgic_table.proofs.JoinedLemmas.{best-joined}
use Rattle.vm_model.specs.Interrupts.{best_of, table_after, table_at, virtual_number, with_table}
use Rattle.vm_model.specs.Project.{joined_tables}
use Rattle.hypervisor.specs.Change.{IsListed}
use Rattle.hypervisor.specs.Hyp.{HypData}
use Rattle.hypervisor.specs.Seat.{IsSeatOf}
use Rattle.hypervisor.specs.declared.seat.Seat.{Seat}
use Rattle.hypervisor.specs.Tidy.{Tidy}
use Rattle.hypervisor.proofs.Held.{here, is_core, own_is}
use Rattle.hypervisor.proofs.Moves.{Hold, moved, unchanged}
use Rattle.hypervisor.proofs.Raised.{lines_accessed-ppis, lines_accessed-quieted}
use Rattle.hypervisor.proofs.Seats.{on_platform}

-- the best interrupt of a core among all of its VM's is the best in the table or the best in its registers
best_of_cores : (vm : Interrupts) (all : List (List ListRegData)) (core : ℕ) → IsCoreOf vm all core
    → best (joined_cores 0 all vm) core ≡ min (best vm core) (best_listed (lists_at all core))
best_of_cores vm all core is =
    ap (λ t. best t core) (core-last vm all core is vm)
    ∙ best-joined (others vm all core is vm) core (lists_at all core) below (shaped-others vm all core is vm is.shaped)
    (tidy-others vm all core is vm (lists_at all core) (own-tidy vm all core is))
    ∙ ap (λ b. min b (best_listed (lists_at all core))) (best-others vm all core is vm)
  where
    below : core < 8
    below = omega (arith, is.few, is.within)

-- the interrupts of a VM after a step of its core that came to this, but for the end of an id that none of the core's list
-- registers holds: that is left
abbrev pub table_carried : Outcome → List ListRegData → ℕ → IfaceData → Interrupts → Interrupts
table_carried Ran lists core iface table = table
table_carried Acknowledged lists core iface table = after_acknowledge table core iface
table_carried (Ended id) lists core iface table = if is_unlisted lists id then table else after_end table core id
table_carried (Leave esr far) lists core iface table = table

-- what is left is done
abbrev pub table_settled : Exit → ℕ → Interrupts → Interrupts
table_settled exit.Ran core table = table
table_settled exit.Irq core table = table
table_settled (exit.Sync esr far) core table = table
table_settled (exit.End id) core table = made_inactive table core id

-- the interrupts are those after the step then
pub carried_settled : (outcome : Outcome) (lists : List ListRegData) (core : ℕ) (iface : IfaceData) (table : Interrupts)
    → table_settled (exit_of outcome lists) core (table_carried outcome lists core iface table) ≡ table_after outcome core iface table
carried_settled Ran lists core iface table = refl
carried_settled Acknowledged lists core iface table = refl
carried_settled (Leave esr far) lists core iface table = refl
carried_settled (Ended id) lists core iface table = by_tests (nat_lt id id_end) (not (is_some (find (holds id) lists)))
  where
    by_tests : (low none : Bool)
        → table_settled (if low && none then exit.End id else exit.Ran) core
        (if low && none then table else (if low then made_inactive table core id else table))
        ≡ (if low then made_inactive table core id else table)
    by_tests true true = refl
    by_tests true false = refl
    by_tests false none = refl

-- an id that is left to end is one of a core's
pub unlisted_low : (lists : List ListRegData) (id : ℕ) → is_unlisted lists id ≡ true → id < id_end
unlisted_low lists id is = by_test (nat_lt id 96) refl is
  where
    less_of : nat_lt id 96 ≡ true → id < 96
    less_of is = grind (arith, nat_tests)

    by_test : (low : Bool) → nat_lt id 96 ≡ low → (low && not (is_some (find (holds id) lists))) ≡ true → id < 96
    by_test true e is = less_of e
    by_test false e is = absurd (false≢true is)

module _ (cfg : ConfigData) (well_formed : IsWellFormed cfg) (fits : ConfigFits cfg) (hyp : HypData) (m : Machine) (tidy : Tidy cfg hyp m)
    (seat : Seat) (is : IsSeatOf cfg seat.core seat) where
  abbrev pub table : Interrupts
  table = tables_of hyp.tables seat.vm

  abbrev pub lists : List ListRegData
  lists = lists_at m.lists seat.core

  abbrev all : List (List ListRegData)
  all = map (lists_at m.lists) is.is.vm.cores

  pub low : seat.core < length m.lists
  low =
      let on = on_platform cfg hyp m well_formed tidy seat is.is in let count = tidy.held.registers in omega (arith, on, count)

  pub its_core : IsCoreOf table all seat.own
  its_core =
      is_core cfg well_formed fits seat.vm seat.own seat.core is.is.vm is.is.place is.is.core hyp.tables m.lists tidy.held low

  pub lists_is : slice_index_or all seat.own [] ≡ lists
  lists_is = here cfg well_formed fits seat.vm seat.own seat.core is.is.vm is.is.place is.is.core hyp.tables m.lists tidy.held low

  joined_is : joined_tables cfg m.lists (tables_of hyp.tables) seat.vm ≡ joined_cores 0 all table
  joined_is =
      ap (λ l. joined_cores 0 l table)
      (own_is cfg well_formed fits seat.vm seat.own seat.core is.is.vm is.is.place is.is.core hyp.tables m.lists tidy.held low)

  -- the best interrupt of the core, of its VM's
  pub best_is : best_of cfg (joined_tables cfg m.lists (tables_of hyp.tables)) seat.core ≡ min (best table seat.own) (best_listed lists)
  best_is =
      ap (λ place. best (table_at (joined_tables cfg m.lists (tables_of hyp.tables)) place) (virtual_number cfg seat.core)) is.place
      ∙ ap (best (joined_tables cfg m.lists (tables_of hyp.tables) seat.vm)) is.number
      ∙ ap (λ t. best t seat.own) joined_is
      ∙ best_of_cores table all seat.own its_core
      ∙ ap (λ l. min (best table seat.own) (best_listed l)) lists_is

  -- where it is listed, none that is left in the table comes before it
  pub listed_first : IsListed cfg hyp m seat.core → BestIsListed table seat.own lists
  listed_first listed = let both = sym best_is ∙ listed in omega (arith, both)

  -- the core's registers are others, and the table stays
  register_changed : (new : List ListRegData) (change : Interrupts → Interrupts)
      → StandFor (change (joined_cores 0 all table)) (slice_set all seat.own new) table
      → Hold cfg hyp.tables (slice_set m.lists seat.core new)
      (with_table (Some seat.vm) change (joined_tables cfg m.lists (tables_of hyp.tables)))
  register_changed new change stands =
      subst
      (λ ts. Hold cfg ts (slice_set m.lists seat.core new) (with_table (Some seat.vm) change (joined_tables cfg m.lists (tables_of hyp.tables))))
      (set-get_or hyp.tables seat.vm _)
      (moved cfg well_formed fits seat.vm seat.own seat.core is.is.vm is.is.place is.is.core hyp.tables m.lists tidy.held low new table change
      (frame-none table) stands)

  -- the registers stay too
  stays : (new : List ListRegData) → new ≡ lists
      → Hold cfg hyp.tables (slice_set m.lists seat.core new)
      (with_table (Some seat.vm) (λ t. t) (joined_tables cfg m.lists (tables_of hyp.tables)))
  stays new same =
      subst (Hold cfg hyp.tables (slice_set m.lists seat.core new)) (sym (unchanged seat.vm _))
      (subst (λ l. Hold cfg hyp.tables l (joined_tables cfg m.lists (tables_of hyp.tables)))
      (sym (ap (slice_set m.lists seat.core) same ∙ set-get_or m.lists seat.core []))
      (record { held = tidy.held; all_is = refl }))

  -- an id that stands in no register changes none of them
  unlisted_stays : (id : ℕ) → is_unlisted lists id ≡ true → lists_ended lists id ≡ lists
  unlisted_stays id none = by_id (nat_lt id 96) (find (holds id) lists) refl none
    where
      by_id : (inside : Bool) (found : Option ListRegData) → find (holds id) lists ≡ found → (inside && not (is_some found)) ≡ true
          → (if inside then with_holder list_inactive id lists else lists) ≡ lists
      by_id true None at e = with_holder-none list_inactive id lists at
      by_id true (Some list) at e = cc
      by_id false found at e = cc

  -- tables and registers hold the interrupts still, which are changed so
  held_carried : (outcome : Outcome) (iface : IfaceData) → IsListed cfg hyp m seat.core
      → Hold cfg hyp.tables (slice_set m.lists seat.core (lists_after outcome iface lists))
      (with_table (Some seat.vm) (table_carried outcome lists seat.own iface) (joined_tables cfg m.lists (tables_of hyp.tables)))
  held_carried Ran iface listed = stays lists refl
  held_carried Acknowledged iface listed =
      register_changed (lists_acknowledged iface lists) (λ t. after_acknowledge t seat.own iface)
      (subst (λ l. StandFor (after_acknowledge (joined_cores 0 all table) seat.own iface) (slice_set all seat.own (lists_acknowledged iface l)) table)
      lists_is
      (core-acknowledges table all seat.own its_core iface
      (subst (λ l. best_listed l ≤ best table seat.own) (sym lists_is) (listed_first listed))).after)
  held_carried (Ended id) iface listed = by_test (is_unlisted lists id) refl
    where
      by_test : (none : Bool) → is_unlisted lists id ≡ none
          → Hold cfg hyp.tables (slice_set m.lists seat.core (lists_ended lists id))
          (with_table (Some seat.vm) (λ t. if none then t else after_end t seat.own id) (joined_tables cfg m.lists (tables_of hyp.tables)))
      by_test true none = stays (lists_ended lists id) (unlisted_stays id none)
      by_test false some =
          register_changed (lists_ended lists id) (λ t. after_end t seat.own id)
          (subst
          (λ b. StandFor (after_end (joined_cores 0 all table) seat.own id) (slice_set all seat.own (lists_ended lists id))
          (if b then made_inactive table seat.own id else table)) some
          (subst
          (λ l. StandFor (after_end (joined_cores 0 all table) seat.own id) (slice_set all seat.own (lists_ended l id))
          (if is_unlisted l id then made_inactive table seat.own id else table)) lists_is
          (core-ends table all seat.own its_core id
          (λ none. absurd (false≢true (sym (ap (λ l. is_unlisted l id) lists_is ∙ some) ∙ none))))))
  held_carried (Leave esr far) iface listed = stays lists refl

  -- all interrupts after the step
  pub carried_tables : (effect : Effect) → IsListed cfg hyp m seat.core
      → joined_tables cfg (carried_out m seat.core effect).lists (tables_of hyp.tables)
      ≡ with_table (Some seat.vm) (table_carried effect.outcome lists seat.own effect.core.iface)
      (joined_tables cfg m.lists (tables_of hyp.tables))
  carried_tables effect listed = (held_carried effect.outcome effect.core.iface listed).all_is

  -- hypervisor and board belong to the configuration still
  pub carried_tidy : (count : ℕ) → IsListed cfg hyp m seat.core → Tidy cfg hyp (carried_out m seat.core (machine_effect m seat.core count))
  carried_tidy count listed = tidy_after (machine_effect m seat.core count)
    where
      tidy_after : (effect : Effect) → Tidy cfg hyp (carried_out m seat.core effect)
      tidy_after effect = record {
        fitted = tidy.fitted;
        shape = tidy.shape;
        entries = tidy.entries;
        timer_lines = ap (λ (flags : List Bool). length flags) (lines_accessed-ppis effect.touched m.ports m.lines) ∙ tidy.timer_lines;
        port_lines = lines_accessed-quieted effect.touched m.ports m.lines ∙ tidy.port_lines;
        powers = tidy.powers;
        held = (held_carried effect.outcome effect.core.iface listed).held;
      }
