-- An event on the machine is a step of the model; and what of it is left to the board alone.
use Rattle.std.proofs.Common.{◌≡◌, ℕ, ◌+◌, ◌<◌, ◌≤◌, Bool, true, false, List, [], ◌∷◌, find, length, map, refl, sym, ap, subst, ◌∙◌, arith}
use Rattle.std.specs.Prelude.{◌==◌, ◌&&◌, ◌||◌, not, IsTrue, if◌then◌else◌, Option, None, Some, is_some, slice_get, slice_index_or, unwrap_or}
use Rattle.std.specs.List.{list_any}
use Rattle.std.proofs.lemmas.Bool.{false≢true}
use Rattle.std.proofs.lemmas.List.{get_or-set_same}
use Rattle.bao_types.specs.IfaceRegs.{IfaceData}
use Rattle.bao_types.specs.ListReg.{ListRegData, is_free, lists_at}
use Rattle.bao_types.specs.Shape.{ShapeData}
use Rattle.bao_config.specs.Data.{ConfigData}
use Rattle.bao_config.specs.Fits.{ConfigFits}
use Rattle.bao_wellformed.specs.Map.{has_core, owner}
use Rattle.bao_wellformed.specs.WellFormed.{IsWellFormed}
use Rattle.board.specs.Attempt.{Effect, Outcome, Ran, Acknowledged, Ended, Leave}
use Rattle.board.specs.Interrupts.{exit_of, is_raised, lists_after, lines_given}
use Rattle.board.specs.Machine.{Machine, carried_out, exit_after, machine_effect, port_given, stepped, ticked}
use Rattle.board.specs.declared.board.Exit.TheVariants as exit
use Rattle.gic_core.specs.PortLine.{quiet_line}
use Rattle.vgic_iface.specs.Interface.{best_listed, holds, is_signalled, made_active, with_holder}
use Rattle.vgic_iface.specs.Rank.{id_of, no_rank}
use Rattle.vgic_table.specs.Registers.{Tidy as FitsTable}
use Rattle.vgic_table.proofs.CoresLemmas.{own-tidy}
use Rattle.vgic_table.proofs.LawLemmas.{holder}
use Rattle.vm_model.specs.Cores.{place_of, virtual_core}
use Rattle.vm_model.specs.Flat.{Flat, Step, flat_duty, flat_effect, flat_given, flat_guests, flat_ready, flat_step, flat_stepped, is_entered, is_on, runs}
use Rattle.vm_model.specs.Duty.{done}
use Rattle.vm_model.specs.Interrupts.{best_of}
use Rattle.vm_model.specs.Project.{is_port_raised}
use Rattle.vm_model.proofs.Lists.{placed_got}
use Rattle.hypervisor.specs.Change.{Change, IsBestKept, IsLeftToBoard, IsOfBoard, IsQuiet, goes_on}
use Rattle.hypervisor.specs.Event.{IsPlaced, flat_event, is_assigned}
use Rattle.hypervisor.specs.declared.event.Event.{Event}
use Rattle.hypervisor.specs.declared.event.Event.TheVariants as event
use Rattle.hypervisor.specs.Hyp.{HypData, stands_for}
use Rattle.hypervisor.specs.Seat.{IsSeatOf}
use Rattle.hypervisor.specs.declared.seat.Seat.{Seat}
use Rattle.hypervisor.specs.Taken.{IsAfter, IsEntered, IsGiven, IsLeft, IsRun, IsSame, IsSettled, IsSteppedIf}
use Rattle.hypervisor.specs.Tidy.{Tidy}
use Rattle.hypervisor.proofs.Carried.{its_core, lists_is, low, table}
use Rattle.hypervisor.proofs.Composed.{effect_is, settled_flat, settled_left, settled_tidy}
use Rattle.hypervisor.proofs.Models.{given_is_there}
use Rattle.hypervisor.proofs.Raised.{has_line, has_line-platform, lines_given-ports, lines_given-ppis, lines_given-quieted}
use Rattle.hypervisor.proofs.Seats.{no_owner, seat_there}

-- what an event is to the model, and to the board
pub record IsModelled (cfg : ConfigData) (change : Change) (e : Event) : Type 0 where
  pub tidy : Tidy cfg change.new change.after
  pub state : stands_for cfg change.new change.after ≡ flat_step cfg (stands_for cfg change.old change.before) (flat_event e)
  pub entered : change.after.entered
      ≡ change.before.entered + (if is_entered cfg (stands_for cfg change.old change.before) (flat_event e) then 1 else 0)
  pub spent : change.after.spent ≤ change.before.spent + 1
  pub shape : change.after.shape ≡ change.before.shape
  pub entries : change.after.entries ≡ change.before.entries
  pub quiet : IsLeftToBoard cfg change e
  pub best : IsBestKept cfg change e

-- the seat of a core that a VM has
seated : (cfg : ConfigData) (core : ℕ) → is_some (owner cfg core) ≡ true → (seat : Seat) × (seat.core ≡ core) × IsSeatOf cfg core seat
seated cfg core some = by_place (place_of cfg core) refl
  where
    by_place : (place : Option ℕ) → place_of cfg core ≡ place → (seat : Seat) × (seat.core ≡ core) × IsSeatOf cfg core seat
    by_place None e = absurd (false≢true (sym (no_owner cfg core e) ∙ some))
    by_place (Some v) e =
        let got = placed_got (has_core core) cfg.vms v e in (
          record { vm = v; own = unwrap_or (virtual_core got.0 core) 0; core = core },
          refl,
          seat_there cfg core v e got.0 (unwrap_or (virtual_core got.0 core) 0) got.1 refl,
        )

-- an interrupt that stands in a register does so still once it is active
later : (here rest : Bool) → rest ≡ true → (here || rest) ≡ true
later true rest e = refl
later false rest e = e

held_active : (id : ℕ) (lists : List ListRegData) → list_any (holds id) lists ≡ true
    → list_any (holds id) (with_holder made_active id lists) ≡ true
held_active id [] has = has
held_active id (list ∷ lists) has = by_test (not (is_free list)) (list.id == id) refl has (held_active id lists)
  where
    by_test : (taken here : Bool) → (list.id == id) ≡ here → ((taken && here) || list_any (holds id) lists) ≡ true
        → (list_any (holds id) lists ≡ true → list_any (holds id) (with_holder made_active id lists) ≡ true)
        → list_any (holds id)
        (if taken && here then made_active list ∷ lists else list ∷ with_holder made_active id lists) ≡ true
    by_test true true e has rest = ap (λ b. b || list_any (holds id) lists) e
    by_test true false e has rest = later (holds id list) (list_any (holds id) (with_holder made_active id lists)) (rest has)
    by_test false here e has rest = later (holds id list) (list_any (holds id) (with_holder made_active id lists)) (rest has)

-- what is found is there
found_any : {A : Type 0} (test : A → Bool) (xs : List A) (x : A) → find test xs ≡ Some x → list_any test xs ≡ true
found_any test [] x e = cc
found_any {A} test (y ∷ ys) x e = by_test (test y) e (found_any test ys x)
  where
    by_test : (here : Bool) → (if here then Some y else find test ys) ≡ Some x → (find test ys ≡ Some x → list_any test ys ≡ true)
        → (here || list_any test ys) ≡ true
    by_test true e rest = refl
    by_test false e rest = rest e

-- the best interrupt, which stood in a register, does so after a step in which the core goes on
still_listed : (lists : List ListRegData) (iface : IfaceData) (outcome : Outcome) → goes_on outcome ≡ true
    → list_any (holds (id_of (best_listed lists))) lists ≡ true
    → list_any (holds (id_of (best_listed lists))) (lists_after outcome iface lists) ≡ true
still_listed lists iface Ran on has = has
still_listed lists iface Acknowledged on has = by_test (is_signalled iface (best_listed lists))
  where
    by_test : (test : Bool)
        → list_any (holds (id_of (best_listed lists)))
        (if test then with_holder made_active (id_of (best_listed lists)) lists else lists) ≡ true
    by_test true = held_active (id_of (best_listed lists)) lists has
    by_test false = has
still_listed lists iface (Ended id) on has = absurd (false≢true on)
still_listed lists iface (Leave esr far) on has = absurd (false≢true on)

-- a core goes on where the step tells nothing
goes_on_ran : (outcome : Outcome) (lists : List ListRegData) → goes_on outcome ≡ true → exit_of outcome lists ≡ exit.Ran
goes_on_ran Ran lists on = refl
goes_on_ran Acknowledged lists on = refl
goes_on_ran (Ended id) lists on = absurd (false≢true on)
goes_on_ran (Leave esr far) lists on = absurd (false≢true on)

module _ (cfg : ConfigData) (well_formed : IsWellFormed cfg) (fits : ConfigFits cfg) (change : Change) where
  abbrev f : Flat
  f = stands_for cfg change.old change.before

  -- a core that runs
  module _ (seat : Seat) (at : IsSeatOf cfg seat.core seat) (count : ℕ) (on : runs cfg f seat.core ≡ true)
      (run : IsRun cfg change seat.core count) where
    abbrev core : ℕ
    core = seat.core

    abbrev entry : IsEntered cfg (record change { new = run.hyp; after = run.board }) core count run.ended
    entry = run.entered

    abbrev hyp : HypData
    hyp = entry.hyp

    abbrev m : Machine
    m = entry.board

    abbrev effect : Effect
    effect = machine_effect m core count

    exit_is : run.ended ≡ exit_of effect.outcome (lists_at m.lists core)
    exit_is = entry.exit ∙ ap (λ b. if b then exit.Irq else exit_of effect.outcome (lists_at m.lists core)) entry.quiet

    settled : IsSettled cfg core run.ended
        (record { old = hyp; new = change.new; before = carried_out m core effect; after = change.after })
    settled =
        subst
        (λ b. IsSettled cfg core run.ended (record { old = hyp; new = change.new; before = b; after = change.after })) entry.after
        (subst (λ h. IsSettled cfg core run.ended (record { old = h; new = change.new; before = run.board; after = change.after }))
        entry.new run.settled)

    left : IsLeft cfg (record { old = hyp; new = change.new; before = carried_out m core effect; after = change.after })
        (done cfg core (flat_duty cfg (stands_for cfg hyp m) core count)
        (flat_guests cfg (stands_for cfg hyp m) core (flat_effect cfg (stands_for cfg hyp m) core count)))
    left =
        settled_left cfg well_formed fits hyp m entry.tidy seat at count entry.listed change.new change.after run.ended exit_is settled

    abbrev ready : Flat
    ready = flat_ready cfg f core count

    state : stands_for cfg change.new change.after ≡ flat_step cfg f (Step core count)
    state =
        settled_flat cfg well_formed fits hyp m entry.tidy seat at count entry.listed change.new change.after run.ended exit_is settled
        ∙ ap (λ g. flat_stepped cfg g core count) entry.state ∙ sym (ap (λ b. if b then flat_stepped cfg ready core count else f) on)

    -- a step at which the hypervisor has nothing to do is the board's
    same_of : run.ended ≡ exit.Ran → IsSame (record { old = hyp; new = change.new; before = carried_out m core effect; after = change.after })
    same_of ran =
        subst
        (λ x. IsSettled cfg core x (record { old = hyp; new = change.new; before = carried_out m core effect; after = change.after })) ran settled

    quiet : IsQuiet cfg change core count → IsOfBoard change (stepped change.before core count)
    quiet is = record {
      hyp = same.hyp ∙ calm.0;
      board =
          same.board ∙ ap (λ b. carried_out b core (machine_effect b core count)) calm.1
          ∙ sym (ap (λ b. if b then looked else carried_out looked core (machine_effect looked core count)) down);
    }
      where
        looked : Machine
        looked = ticked change.before core count

        down : is_raised looked.lines core ≡ false
        down = by_raised (is_raised looked.lines core) refl is.ran
          where
            by_raised : (raised : Bool) → is_raised looked.lines core ≡ raised
                → (if raised then exit.Irq else exit_of (machine_effect looked core count).outcome (lists_at looked.lists core)) ≡ exit.Ran
                → is_raised looked.lines core ≡ false
            by_raised true e ran = cc
            by_raised false e ran = e

        calm : (hyp ≡ change.old) × (m ≡ looked)
        calm = entry.calm is.listed down

        same : IsSame (record { old = hyp; new = change.new; before = carried_out m core effect; after = change.after })
        same = same_of (entry.exit ∙ ap (λ b. exit_after b core count) calm.1 ∙ is.ran)

    best : IsBestKept cfg change (event.Step core count)
    best _ goes some =
        subst (λ b. list_any (holds (id_of b)) (lists_at change.after.lists core) ≡ true) (sym best_is)
        (ap (list_any (holds (id_of (best_listed lists)))) after_is
        ∙ still_listed lists effect.core.iface effect.outcome goes_here has)
      where
        lists : List ListRegData
        lists = lists_at m.lists core

        best_is : best_of cfg ready.tables core ≡ best_listed lists
        best_is = ap (λ (g : Flat). best_of cfg g.tables core) (sym entry.state) ∙ entry.listed

        goes_here : goes_on effect.outcome ≡ true
        goes_here =
            ap (λ (e : Effect). goes_on e.outcome) (effect_is cfg well_formed fits hyp m entry.tidy seat at count entry.listed)
            ∙ ap (λ g. goes_on (flat_effect cfg g core count).outcome) entry.state ∙ goes

        after_is : lists_at change.after.lists core ≡ lists_after effect.outcome effect.core.iface lists
        after_is =
            ap (λ (b : Machine). lists_at b.lists core)
            (same_of (exit_is ∙ goes_on_ran effect.outcome lists goes_here)).board
            ∙ get_or-set_same m.lists core (lists_after effect.outcome effect.core.iface lists) [] (low cfg well_formed fits hyp m entry.tidy seat at)

        has : list_any (holds (id_of (best_listed lists))) lists ≡ true
        has =
            let there =
            holder (table cfg well_formed fits hyp m entry.tidy seat at) seat.own lists
            (subst (FitsTable (table cfg well_formed fits hyp m entry.tidy seat at) seat.own)
            (lists_is cfg well_formed fits hyp m entry.tidy seat at)
            (own-tidy _ _ seat.own (its_core cfg well_formed fits hyp m entry.tidy seat at)))
            (subst (λ b. b < no_rank) best_is some) in
            found_any (holds (id_of (best_listed lists))) lists there.list there.found

    pub run_modelled : IsModelled cfg change (event.Step core count)
    run_modelled = record {
      tidy =
          settled_tidy cfg well_formed fits hyp m entry.tidy seat at count entry.listed change.new change.after run.ended exit_is settled;
      state = state;
      entered =
          ap (λ (b : Machine). b.entered) left.state ∙ ap (λ n. n + 1) entry.entered
          ∙ sym (ap (λ b. change.before.entered + (if b then 1 else 0)) on);
      spent = let now = ap (λ (b : Machine). b.spent) left.state ∙ ap (λ n. n + 1) entry.spent in omega (arith, now);
      shape = ap (λ (b : Machine). b.shape) left.state ∙ entry.shape;
      entries = ap (λ (b : Machine). b.entries) left.state ∙ entry.entries;
      quiet = (quiet, λ off. absurd (false≢true (sym off ∙ on)));
      best = best;
    }

  -- a core that doesn't
  waiting : (core count : ℕ) → runs cfg f core ≡ false → IsSame change → Tidy cfg change.old change.before
      → IsModelled cfg change (event.Step core count)
  waiting core count off wait tidy = record {
    tidy =
        subst (λ h. Tidy cfg h change.after) (sym wait.hyp) (subst (Tidy cfg change.old) (sym wait.board) tidy);
    state =
        ap (λ h. stands_for cfg h change.after) wait.hyp ∙ ap (stands_for cfg change.old) wait.board
        ∙ sym (ap (λ b. if b then flat_stepped cfg (flat_ready cfg f core count) core count else f) off);
    entered =
        let none : change.before.entered ≡ change.before.entered + 0 = omega arith in
        ap (λ (b : Machine). b.entered) wait.board ∙ none
        ∙ sym (ap (λ b. change.before.entered + (if b then 1 else 0)) off);
    spent = let now = ap (λ (b : Machine). b.spent) wait.board in omega (arith, now);
    shape = ap (λ (b : Machine). b.shape) wait.board;
    entries = ap (λ (b : Machine). b.entries) wait.board;
    quiet =
        (λ is. absurd (false≢true (sym off ∙ is.runs)), λ _. record { hyp = wait.hyp; board = wait.board });
    best = λ on _ _. absurd (false≢true (sym off ∙ on));
  }

  -- a byte for a port
  given : (port byte : ℕ) → is_assigned cfg port ≡ true → IsGiven change port byte → Tidy cfg change.old change.before
      → IsModelled cfg change (event.Input port byte)
  given port byte assigned is tidy = record {
    tidy = subst (λ h. Tidy cfg h change.after) (sym is.hyp) (subst (Tidy cfg change.old) (sym is.board) after);
    state =
        ap (λ h. stands_for cfg h change.after) is.hyp ∙ ap (stands_for cfg change.old) is.board
        ∙ ap (λ ppis. with_lines (λ c. slice_index_or ppis c false) (is_port_raised (lines_given m.ports port m.lines).ports))
        (lines_given-ppis m.ports port m.lines)
        ∙ ap (with_lines f.timer_lines) (λ i other. lines_given-ports m.ports port m.lines has other i);
    entered =
        let none : m.entered ≡ m.entered + 0 = omega arith in ap (λ (b : Machine). b.entered) is.board ∙ none;
    spent = let now = ap (λ (b : Machine). b.spent) is.board in omega (arith, now);
    shape = ap (λ (b : Machine). b.shape) is.board;
    entries = ap (λ (b : Machine). b.entries) is.board;
    quiet = record { hyp = is.hyp; board = is.board };
    best = tt;
  }
    where
      m : Machine
      m = change.before

      with_lines : (ℕ → Bool) → (ℕ → Bool) → Flat
      with_lines timers ports = record (flat_given f port byte) { timer_lines = timers; port_lines = ports }

      has : IsTrue (has_line m.lines.ports port)
      has =
          has_line-platform cfg m.lines.ports (tidy.port_lines ∙ ap (λ (s : ShapeData). map quiet_line s.ports) tidy.shape) port
          ∙ given_is_there cfg port well_formed assigned

      after : Tidy cfg change.old (port_given m port byte)
      after = record {
        fitted = tidy.fitted;
        shape = tidy.shape;
        entries = tidy.entries;
        timer_lines = ap (λ (flags : List Bool). length flags) (lines_given-ppis m.ports port m.lines) ∙ tidy.timer_lines;
        port_lines = lines_given-quieted m.ports port m.lines ∙ tidy.port_lines;
        powers = tidy.powers;
        held = tidy.held;
      }

  -- every event
  pub modelled : (e : Event) → Tidy cfg change.old change.before → IsPlaced cfg e → IsAfter cfg change e → IsModelled cfg change e
  modelled (event.Step core count) tidy placed after = by_run (runs cfg f core) refl after
    where
      owned : (some up : Bool) → (some && up) ≡ true → some ≡ true
      owned true up e = refl
      owned false up e = e

      by_run : (on : Bool) → runs cfg f core ≡ on → IsSteppedIf on cfg change core count → IsModelled cfg change (event.Step core count)
      by_run true on run =
          let seat = seated cfg core (owned (is_some (owner cfg core)) (is_on (slice_get change.old.powers core)) on) in
          seated_run seat.0 seat.1 seat.2 on run
        where
          seated_run : (seat : Seat) → seat.core ≡ core → IsSeatOf cfg core seat → runs cfg f core ≡ true
              → IsRun cfg change core count → IsModelled cfg change (event.Step core count)
          seated_run seat same at on run =
              subst (λ c. IsModelled cfg change (event.Step c count)) same
              (run_modelled seat (subst (λ c. IsSeatOf cfg c seat) (sym same) at) count (ap (runs cfg f) same ∙ on)
              (subst (λ c. IsRun cfg change c count) (sym same) run))
      by_run false off wait = waiting core count off wait tidy
  modelled (event.Input port byte) tidy placed after = given port byte placed after tidy
