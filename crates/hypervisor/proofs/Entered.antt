-- A core's list registers are filled again and its timer is looked at before it enters: for which state of the model hypervisor and
-- board stand then.
use Rattle.std.proofs.Common.{◌≡◌, ℕ, zero, suc, ◌<◌, ◌≤◌, nat_lt, Bool, true, false, ◌&&◌, not, if◌then◌else◌, List, [], ◌∷◌, length, map, None, Some, slice_index_or, slice_set, refl, sym, ap, subst, ◌∙◌, arith, inl, inr}
use Rattle.std.specs.Prelude.{◌⊎◌, min, unwrap_or}
use Rattle.std.proofs.lemmas.Bool.{both_ways}
use Rattle.std.proofs.lemmas.Bool.Decides.{nat_tests}
use Rattle.std.proofs.lemmas.List.{get_or-set_same, set-get_or}
use Rattle.bao_types.specs.ListReg.{ListRegData, lists_at}
use Rattle.a64_state.specs.Core.{CoreData}
use Rattle.bao_config.specs.Data.{ConfigData}
use Rattle.bao_config.specs.Fits.{ConfigFits}
use Rattle.bao_wellformed.specs.WellFormed.{IsWellFormed}
use Rattle.board.specs.Attempt.{Outcome, Ran, Acknowledged, Ended, Leave}
use Rattle.board.specs.declared.board.Exit.{Exit}
use Rattle.board.specs.declared.board.Exit.TheVariants as exit
use Rattle.board.specs.Interrupts.{exit_of, is_raised, lines_timed, timed}
use Rattle.board.specs.Machine.{Machine, carried_out, core_at, exit_after, machine_effect, proceeded, step_exit, stepped, ticked, with_lists}
use Rattle.generic_timer.specs.Timer.{line_level, rises}
use Rattle.gic_core.specs.Lines.{with_ppi}
use Rattle.vgic_iface.specs.Interface.{best_listed, is_unlisted}
use Rattle.vgic_table.specs.Interrupts.{Interrupts, best, quiet_interrupts, tables_of}
use Rattle.vgic_table.specs.Registers.{is_due, joined, left_by_registers, refilled, refilled_lists, refilled_table, registers}
use Rattle.vgic_table.specs.Shape.{BestIsListed}
use Rattle.vgic_table.specs.Cores.{IsCoreOf, joined_cores}
use Rattle.vgic_table.proofs.CoresLemmas.{best-others, core-last, core-refills, others, own-tidy, shaped-others, tidy-others}
use Rattle.vgic_table.proofs.JoinedLemmas.{best-joined}
use Rattle.vm_model.specs.Flat.{flat_forwarded, flat_ticked}
use Rattle.vm_model.specs.Guests.{Tables}
use Rattle.vm_model.specs.Interrupts.{best_of, table_at, virtual_number}
use Rattle.vm_model.specs.Project.{is_port_raised, joined_tables}
use Rattle.hypervisor.specs.Again.{filled_again}
use Rattle.hypervisor.specs.Change.{Change, IsListed}
use Rattle.hypervisor.specs.Hyp.{HypData, stands_for}
use Rattle.hypervisor.specs.declared.seat.Seat.{Seat}
use Rattle.hypervisor.specs.Seat.{IsSeatOf}
use Rattle.hypervisor.specs.Taken.{IsEntered, IsForwarded}
use Rattle.hypervisor.specs.Tidy.{AreHeld, Tidy, quieted}
use Rattle.hypervisor.proofs.Forwarded.{none_forwarded, tidy_kept}
use Rattle.hypervisor.proofs.Held.{here, is_core, own_is}
use Rattle.hypervisor.proofs.Moves as moves
use Rattle.hypervisor.proofs.Raised.{is_timer_raised, lines_timed-length, lines_timed-ports, lines_timed-timer}
use Rattle.hypervisor.proofs.Seats.{has_table, on_platform}

-- the table that is left, with its shut name
filled_is : (table : Interrupts) (own : ℕ) (lists : List ListRegData) → filled_again table own lists ≡ refilled_table table own lists
unfolding filled_again
filled_is table own lists = refl

-- A core's registers have been filled again, where that was due: it is for the same state that hypervisor and board stand, of the board
-- list registers alone are others, and the best interrupt of the core is listed. Where it was before, nothing has changed.
pub record IsRefilled (cfg : ConfigData) (core : ℕ) (change : Change) : Type 0 where
  pub tidy : Tidy cfg change.new change.after
  pub same : stands_for cfg change.new change.after ≡ stands_for cfg change.old change.before
  pub board : change.after ≡ record change.before { lists = change.after.lists }
  pub listed : IsListed cfg change.new change.after core
  pub still : IsListed cfg change.old change.before core → (change.new ≡ change.old) × (change.after ≡ change.before)

module _ (cfg : ConfigData) (well_formed : IsWellFormed cfg) (fits : ConfigFits cfg) (seat : Seat) (is : IsSeatOf cfg seat.core seat) where
  module _ (hyp : HypData) (m : Machine) (tidy : Tidy cfg hyp m) where
    abbrev t : Interrupts
    t = tables_of hyp.tables seat.vm

    abbrev l : List ListRegData
    l = lists_at m.lists seat.core

    abbrev rs : List (List ListRegData)
    rs = map (lists_at m.lists) is.is.vm.cores

    low : seat.core < length m.lists
    low = let on = on_platform cfg hyp m well_formed tidy seat is.is in let count = tidy.held.registers in omega (arith, on, count)

    is_one : IsCoreOf t rs seat.own
    is_one = is_core cfg well_formed fits seat.vm seat.own seat.core is.is.vm is.is.place is.is.core hyp.tables m.lists tidy.held low

    l_is : slice_index_or rs seat.own [] ≡ l
    l_is = here cfg well_formed fits seat.vm seat.own seat.core is.is.vm is.is.place is.is.core hyp.tables m.lists tidy.held low

    below : seat.own < 8
    below = let few = is_one.few in let within = is_one.within in omega (arith, few, within)

    best_at : (tables : Tables) → best_of cfg tables seat.core ≡ best (tables seat.vm) seat.own
    best_at tables =
        ap (λ place. best (table_at tables place) (virtual_number cfg seat.core)) is.place
        ∙ ap (λ number. best (tables seat.vm) number) is.number

    -- the best interrupt of a core is the better one of its VM's table and its registers
    best_is : best_of cfg (joined_tables cfg m.lists (tables_of hyp.tables)) seat.core ≡ min (best t seat.own) (best_listed l)
    best_is =
        best_at (joined_tables cfg m.lists (tables_of hyp.tables))
        ∙ ap (λ all. best (joined_cores 0 all t) seat.own)
        (own_is cfg well_formed fits seat.vm seat.own seat.core is.is.vm is.is.place is.is.core hyp.tables m.lists tidy.held low)
        ∙ ap (λ table. best table seat.own) (core-last t rs seat.own is_one t)
        ∙ best-joined (others t rs seat.own is_one t) seat.own (slice_index_or rs seat.own []) below
        (shaped-others t rs seat.own is_one t is_one.shaped)
        (tidy-others t rs seat.own is_one t (slice_index_or rs seat.own []) (own-tidy t rs seat.own is_one))
        ∙ ap (λ rank. min rank (best_listed (slice_index_or rs seat.own []))) (best-others t rs seat.own is_one t)
        ∙ ap (λ lists. min (best t seat.own) (best_listed lists)) l_is

  module _ (hyp new : HypData) (m after : Machine) (tidy : Tidy cfg hyp m)
      (tables_are : new.tables
      ≡ slice_set hyp.tables seat.vm (filled_again (tables_of hyp.tables seat.vm) seat.own (lists_at m.lists seat.core)))
      (powers_are : new.powers ≡ hyp.powers)
      (state : after
      ≡ with_lists m seat.core
      (unwrap_or (refilled (tables_of hyp.tables seat.vm) seat.own (lists_at m.lists seat.core)) (lists_at m.lists seat.core))) where
    abbrev t₀ : Interrupts
    t₀ = tables_of hyp.tables seat.vm

    abbrev l₀ : List ListRegData
    l₀ = lists_at m.lists seat.core

    abbrev table_new : Interrupts
    table_new = refilled_table t₀ seat.own l₀

    abbrev lists_new : List ListRegData
    lists_new = refilled_lists t₀ seat.own l₀

    tables_is : new.tables ≡ slice_set hyp.tables seat.vm table_new
    tables_is = tables_are ∙ ap (slice_set hyp.tables seat.vm) (filled_is t₀ seat.own l₀)

    board_is : after ≡ with_lists m seat.core lists_new
    board_is = state ∙ ap (with_lists m seat.core) (by_test (is_due t₀ seat.own l₀))
      where
        by_test : (due : Bool) → unwrap_or (if due then Some (registers 4 (joined t₀ seat.own l₀) seat.own) else None) l₀
            ≡ (if due then registers 4 (joined t₀ seat.own l₀) seat.own else l₀)
        by_test true = refl
        by_test false = refl

    lists_after : after.lists ≡ slice_set m.lists seat.core lists_new
    lists_after = ap (λ (b : Machine). b.lists) board_is

    holds : moves.Hold cfg (slice_set hyp.tables seat.vm table_new) (slice_set m.lists seat.core lists_new)
        (joined_tables cfg m.lists (tables_of hyp.tables))
    holds =
        moves.refilled cfg well_formed fits seat.vm seat.own seat.core is.is.vm is.is.place is.is.core hyp.tables m.lists tidy.held
        (low hyp m tidy)

    tidy_new : Tidy cfg new after
    tidy_new =
        tidy_kept cfg hyp new m after tidy (ap (λ (b : Machine). b.fitted) board_is) (ap (λ (b : Machine). b.shape) board_is)
        (ap (λ (b : Machine). b.entries) board_is) (ap (λ (b : Machine). length b.lines.ppis) board_is)
        (ap (λ (b : Machine). map quieted b.lines.ports) board_is) (ap length powers_are)
        (subst (λ tables. AreHeld cfg tables after.lists) (sym tables_is)
        (subst (λ lists. AreHeld cfg (slice_set hyp.tables seat.vm table_new) lists) (sym lists_after) holds.held))

    same : stands_for cfg new after ≡ stands_for cfg hyp m
    same = λ i. record {
      bytes = (board_is i).bytes;
      cores = (board_is i).cores;
      powers = powers_are i;
      tables = tables_same i;
      ports = (board_is i).ports;
      timer_lines = is_timer_raised (board_is i).lines;
      port_lines = is_port_raised (board_is i).lines.ports;
    }
      where
        tables_same : joined_tables cfg after.lists (tables_of new.tables) ≡ joined_tables cfg m.lists (tables_of hyp.tables)
        tables_same =
            ap (λ tables. joined_tables cfg after.lists (tables_of tables)) tables_is
            ∙ ap (λ lists. joined_tables cfg lists (tables_of (slice_set hyp.tables seat.vm table_new))) lists_after
            ∙ holds.all_is

    listed : IsListed cfg new after seat.core
    listed = best_is new after tidy_new ∙ least (best (tables_of new.tables seat.vm) seat.own) (best_listed (lists_at after.lists seat.core)) comes
      where
        least : (a b : ℕ) → b ≤ a → min a b ≡ b
        least a b less = omega (arith, less)

        table_is : tables_of new.tables seat.vm ≡ table_new
        table_is =
            ap (λ tables. tables_of tables seat.vm) tables_is
            ∙ get_or-set_same hyp.tables seat.vm table_new (quiet_interrupts 0) (has_table cfg hyp m well_formed tidy seat is.is)

        lists_is : lists_at after.lists seat.core ≡ lists_new
        lists_is = ap (λ lists. lists_at lists seat.core) lists_after ∙ get_or-set_same m.lists seat.core lists_new [] (low hyp m tidy)

        best_new : BestIsListed table_new seat.own lists_new
        best_new =
            subst (λ lists. BestIsListed (refilled_table t₀ seat.own lists) seat.own (refilled_lists t₀ seat.own lists)) (l_is hyp m tidy)
            (core-refills t₀ (rs hyp m tidy) seat.own (is_one hyp m tidy)).best

        comes : best_listed (lists_at after.lists seat.core) ≤ best (tables_of new.tables seat.vm) seat.own
        comes =
            subst (λ lists. best_listed lists ≤ best (tables_of new.tables seat.vm) seat.own) (sym lists_is)
            (subst (λ table. best_listed lists_new ≤ best table seat.own) (sym table_is) best_new)

    still : IsListed cfg hyp m seat.core → (new ≡ hyp) × (after ≡ m)
    still was = ((λ i. record { powers = powers_are i; tables = tables_still i }), board_is ∙ ap (λ lists. record m { lists = lists }) lists_still)
      where
        not_before : (a b : ℕ) → min a b ≡ b → nat_lt a b ≡ false
        not_before a b same = grind (arith, nat_tests)

        not_due : is_due t₀ seat.own l₀ ≡ false
        not_due = not_before (best t₀ seat.own) (best_listed l₀) (sym (best_is hyp m tidy) ∙ was)

        tables_still : new.tables ≡ hyp.tables
        tables_still =
            tables_is
            ∙ ap (λ due. slice_set hyp.tables seat.vm (if due then left_by_registers 4 (joined t₀ seat.own l₀) seat.own else t₀)) not_due
            ∙ set-get_or hyp.tables seat.vm (quiet_interrupts 0)

        lists_still : slice_set m.lists seat.core lists_new ≡ m.lists
        lists_still =
            ap (λ due. slice_set m.lists seat.core (if due then registers 4 (joined t₀ seat.own l₀) seat.own else l₀)) not_due
            ∙ set-get_or m.lists seat.core []

    pub refills : IsRefilled cfg seat.core (record { old = hyp; new = new; before = m; after = after })
    refills = record {
      tidy = tidy_new;
      same = same;
      board = board_is ∙ ap (λ lists. record m { lists = lists }) (sym lists_after);
      listed = listed;
      still = still;
    }

-- once a core's timer is looked at
module _ (cfg : ConfigData) (hyp : HypData) (m : Machine) (core count : ℕ) (tidy : Tidy cfg hyp m) where
  pub tidy_ticked : Tidy cfg hyp (ticked m core count)
  tidy_ticked =
      tidy_kept cfg hyp hyp m (ticked m core count) tidy refl refl refl (lines_timed-length m.lines core (core_at m.cores core) count)
      (ap (map quieted) (lines_timed-ports m.lines core (core_at m.cores core) count)) refl tidy.held

  stands_ticked : core < 8 → stands_for cfg hyp (ticked m core count) ≡ flat_ticked (stands_for cfg hyp m) core count
  stands_ticked few = λ i. record (flat_ticked (stands_for cfg hyp m) core count) {
    timer_lines = λ other. lines_timed-timer m.lines core (core_at m.cores core) count low other i;
    port_lines = is_port_raised (lines_timed-ports m.lines core (core_at m.cores core) count i);
  }
    where
      low : core < length m.lines.ppis
      low = let timers = tidy.timer_lines in omega (arith, timers, few)

-- a timer that is looked at twice at one count is as after the first look
timed_twice : (cores : List CoreData) (core count : ℕ)
    → slice_set (slice_set cores core (timed (core_at cores core) count)) core
    (timed (core_at (slice_set cores core (timed (core_at cores core) count)) core) count)
    ≡ slice_set cores core (timed (core_at cores core) count)
timed_twice [] core count = refl
timed_twice (c ∷ cores) zero count = refl
timed_twice (c ∷ cores) (suc core) count = ap (λ rest. c ∷ rest) (timed_twice cores core count)

-- and its level doesn't rise again
no_rise : (cores : List CoreData) (core count : ℕ)
    → rises (core_at (slice_set cores core (timed (core_at cores core) count)) core).timer count ≡ false
no_rise [] core count = refl
no_rise (c ∷ cores) zero count = never (line_level c.timer count)
  where
    never : (level : Bool) → (level && not level) ≡ false
    never true = refl
    never false = refl
no_rise (c ∷ cores) (suc core) count = no_rise cores core count

-- so a board whose core's timer has been looked at is as it is, once more at the same count
ticked_twice : (m : Machine) (cores : List CoreData) (core count : ℕ) → m.cores ≡ slice_set cores core (timed (core_at cores core) count)
    → ticked m core count ≡ m
ticked_twice m cores core count is = λ i. record m { cores = cores_same i; lines = lines_same i }
  where
    cores_same : slice_set m.cores core (timed (core_at m.cores core) count) ≡ m.cores
    cores_same = ap (λ cs. slice_set cs core (timed (core_at cs core) count)) is ∙ timed_twice cores core count ∙ sym is

    lines_same : lines_timed m.lines core (core_at m.cores core) count ≡ m.lines
    lines_same =
        ap (λ up. if up then with_ppi m.lines core else m.lines)
        (ap (λ cs. rises (core_at cs core).timer count) is ∙ no_rise cores core count)

-- a step ends by a line exactly where one is raised
raised_by_exit : (raised : Bool) (outcome : Outcome) (lists : List ListRegData) → (if raised then exit.Irq else exit_of outcome lists) ≡ exit.Irq
    → raised ≡ true
raised_by_exit true outcome lists irq = refl
raised_by_exit false Ran lists irq = cc
raised_by_exit false Acknowledged lists irq = cc
raised_by_exit false (Ended id) lists irq = by_test (is_unlisted lists id) irq
  where
    by_test : (unlisted : Bool) → (if unlisted then exit.End id else exit.Ran) ≡ exit.Irq → false ≡ true
    by_test true e = cc
    by_test false e = cc
raised_by_exit false (Leave esr far) lists irq = cc

quiet_by_exit : (raised : Bool) (outcome : Outcome) (lists : List ListRegData)
    → ((if raised then exit.Irq else exit_of outcome lists) ≡ exit.Irq → false ≡ true) → raised ≡ false
quiet_by_exit true outcome lists other = sym (other refl)
quiet_by_exit false outcome lists other = refl

-- an exit that is one of the others is none by a line
pub other_exit : (ended : Exit)
    → (ended ≡ exit.Ran) ⊎ (((esr : ℕ) × (far : ℕ) × (ended ≡ exit.Sync esr far)) ⊎ ((id : ℕ) × (ended ≡ exit.End id)))
    → ended ≡ exit.Irq → false ≡ true
other_exit ended (inl ran) irq = cc
other_exit ended (inr (inl (esr, far, sync))) irq = cc
other_exit ended (inr (inr (id, end))) irq = cc

module _ (m last : Machine) (core count : ℕ) (ended : Exit) (last_is : last ≡ stepped m core count)
    (ended_is : ended ≡ step_exit m core count) where
  -- a step that ends by a line
  pub raised_here : ended ≡ exit.Irq → is_raised (ticked m core count).lines core ≡ true
  raised_here irq =
      raised_by_exit (is_raised (ticked m core count).lines core) (machine_effect (ticked m core count) core count).outcome
      (lists_at m.lists core) (sym ended_is ∙ irq)

  pub only_ticked : ended ≡ exit.Irq → last ≡ ticked m core count
  only_ticked irq =
      last_is
      ∙ ap (λ raised. if raised then ticked m core count
      else carried_out (ticked m core count) core (machine_effect (ticked m core count) core count)) (raised_here irq)

  -- and one that doesn't
  pub quiet_here : (ended ≡ exit.Irq → false ≡ true) → is_raised (ticked m core count).lines core ≡ false
  quiet_here other =
      quiet_by_exit (is_raised (ticked m core count).lines core) (machine_effect (ticked m core count) core count).outcome
      (lists_at m.lists core) (λ e. other (ended_is ∙ e))

-- a board on which no line is raised for the core carries out its step
carried_here : (m : Machine) (core count : ℕ) → is_raised m.lines core ≡ false
    → proceeded m core count ≡ carried_out m core (machine_effect m core count)
carried_here m core count quiet = ap (λ raised. if raised then m else carried_out m core (machine_effect m core count)) quiet

module _ (cfg : ConfigData) (well_formed : IsWellFormed cfg) (fits : ConfigFits cfg) (seat : Seat) (is : IsSeatOf cfg seat.core seat)
    (old first : HypData) (before filled : Machine) (count : ℕ) (tidy : Tidy cfg old before)
    (refill : IsRefilled cfg seat.core (record { old = old; new = first; before = before; after = filled })) where
  few : seat.core < 8
  few =
      let on = on_platform cfg old before well_formed tidy seat is.is in let most = fits.platform.cores.short_enough in omega (arith, on, most)

  tidy_first : Tidy cfg first (ticked filled seat.core count)
  tidy_first = tidy_ticked cfg first filled seat.core count refill.tidy

  stands_first : stands_for cfg first (ticked filled seat.core count) ≡ flat_ticked (stands_for cfg old before) seat.core count
  stands_first =
      stands_ticked cfg first filled seat.core count refill.tidy few ∙ ap (λ f. flat_ticked f seat.core count) refill.same

  -- the core enters at once, where no line is raised for it
  module _ (last : Machine) (ended : Exit) (last_is : last ≡ stepped filled seat.core count)
      (ended_is : ended ≡ step_exit filled seat.core count) where
    pub enters_at_once : (ended ≡ exit.Irq → false ≡ true)
        → IsEntered cfg (record { old = old; new = first; before = before; after = last }) seat.core count ended
    enters_at_once other = record {
      hyp = first;
      board = ticked filled seat.core count;
      tidy = tidy_first;
      state =
          sym (none_forwarded cfg seat is well_formed first (ticked filled seat.core count) tidy_first quiet)
          ∙ ap (λ f. flat_forwarded cfg f seat.core) stands_first;
      quiet = quiet;
      listed = refill.listed;
      entered = ap (λ (b : Machine). b.entered) refill.board;
      spent = ap (λ (b : Machine). b.spent) refill.board;
      shape = ap (λ (b : Machine). b.shape) refill.board;
      entries = ap (λ (b : Machine). b.entries) refill.board;
      new = refl;
      after = last_is ∙ carried_here (ticked filled seat.core count) seat.core count quiet;
      exit = ended_is;
      calm = λ was down. let same = refill.still was in (same.0, ap (λ (b : Machine). ticked b seat.core count) same.1);
    }
      where
        quiet : is_raised (ticked filled seat.core count).lines seat.core ≡ false
        quiet = quiet_here filled last seat.core count ended last_is ended_is other

    -- else lines are forwarded first
    module _ (irq : ended ≡ exit.Irq) where
      pub tidy_between : Tidy cfg first last
      tidy_between = subst (Tidy cfg first) (sym (only_ticked filled last seat.core count ended last_is ended_is irq)) tidy_first

      module _ (second third : HypData) (handed again : Machine)
          (forward : IsForwarded cfg seat.core (record { old = first; new = second; before = last; after = handed }))
          (refill_again : IsRefilled cfg seat.core (record { old = second; new = third; before = handed; after = again })) where
        last_here : last ≡ ticked filled seat.core count
        last_here = only_ticked filled last seat.core count ended last_is ended_is irq

        again_is : again ≡ record last { lists = again.lists; lines = handed.lines }
        again_is = refill_again.board ∙ ap (λ (b : Machine). record b { lists = again.lists; lines = handed.lines }) forward.board

        again_here : again ≡ record (ticked filled seat.core count) { lists = again.lists; lines = handed.lines }
        again_here = again_is ∙ ap (λ (b : Machine). record b { lists = again.lists; lines = handed.lines }) last_here

        again_before : again ≡ record (ticked before seat.core count) { lists = again.lists; lines = handed.lines }
        again_before = again_here
            ∙ ap (λ (b : Machine). record (ticked b seat.core count) { lists = again.lists; lines = handed.lines }) refill.board

        once : ticked again seat.core count ≡ again
        once = ticked_twice again filled.cores seat.core count (ap (λ (b : Machine). b.cores) again_here)

        quiet_again : is_raised again.lines seat.core ≡ false
        quiet_again = ap (λ (b : Machine). is_raised b.lines seat.core) refill_again.board ∙ forward.quiet

        pub spent_again : again.spent ≡ before.spent
        spent_again = ap (λ (b : Machine). b.spent) again_before

        pub shape_again : again.shape ≡ before.shape
        shape_again = ap (λ (b : Machine). b.shape) again_before

        pub enters_later : (stepped_to : Machine) (ends : Exit) → stepped_to ≡ stepped again seat.core count
            → ends ≡ step_exit again seat.core count
            → IsEntered cfg (record { old = old; new = third; before = before; after = stepped_to }) seat.core count ends
        enters_later stepped_to ends stepped_is ends_is = record {
          hyp = third;
          board = again;
          tidy = refill_again.tidy;
          state =
              refill_again.same ∙ forward.state
              ∙ ap (λ (b : Machine). flat_forwarded cfg (stands_for cfg first b) seat.core) last_here
              ∙ ap (λ f. flat_forwarded cfg f seat.core) stands_first;
          quiet = quiet_again;
          listed = refill_again.listed;
          entered = ap (λ (b : Machine). b.entered) again_before;
          spent = spent_again;
          shape = shape_again;
          entries = ap (λ (b : Machine). b.entries) again_before;
          new = refl;
          after = stepped_is ∙ ap (λ (b : Machine). proceeded b seat.core count) once ∙ carried_here again seat.core count quiet_again;
          exit = ends_is ∙ ap (λ (b : Machine). exit_after b seat.core count) once;
          calm = λ was down. absurd (both_ways (is_raised (ticked before seat.core count).lines seat.core) down raised_before);
        }
          where
            raised_before : is_raised (ticked before seat.core count).lines seat.core ≡ true
            raised_before =
                sym (ap (λ (b : Machine). is_raised (ticked b seat.core count).lines seat.core) refill.board)
                ∙ raised_here filled last seat.core count ended last_is ended_is irq
