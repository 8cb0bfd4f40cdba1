-- The lines that are raised for a core are forwarded one after another, until none is left.
use Rattle.std.proofs.Common.{◌≡◌, ℕ, ◌<◌, ◌==◌, Bool, true, false, ◌&&◌, ◌||◌, not, length, map, Option, Some, None, slice_get, refl, sym, ap, subst, ◌∙◌, arith}
use Rattle.std.specs.Prelude.{IsTrue, if◌then◌else◌, is_some}
use Rattle.std.proofs.lemmas.Bool.{eqb-true}
use Rattle.std.proofs.lemmas.Bool.Decides.{nat_tests}
use Rattle.bao_types.specs.Shape.{ShapeData}
use Rattle.bao_types.specs.ListReg.{lists_at}
use Rattle.bao_config.specs.Data.{ConfigData, VmData}
use Rattle.bao_config.specs.Fits.{ConfigFits}
use Rattle.bao_wellformed.specs.Map.{has_core, has_port, owner}
use Rattle.bao_wellformed.specs.WellFormed.{IsWellFormed}
use Rattle.board.specs.Interrupts.{is_raised}
use Rattle.board.specs.Machine.{Machine, acked}
use Rattle.gic_core.specs.Lines.{LinesData, after_ack, least_raised, raised_intids}
use Rattle.gic_core.specs.PortLine.{quiet_line}
use Rattle.vgic_table.specs.Interrupts.{Interrupts, place, tables_of}
use Rattle.vgic_table.specs.Changes.{pended_at}
use Rattle.vgic_table.specs.Cores.{IsCoreOf}
use Rattle.vgic_table.specs.Shape.{IsShaped}
use Rattle.vgic_table.proofs.OthersLemmas.{others-shaped}
use Rattle.vgic_table.proofs.PendedLemmas.{made_pending-at, pended-both, pended-none, pended-same}
use Rattle.vgic_table.proofs.StateLemmas.{place-within}
use Rattle.vm_model.specs.Flat.{Flat, flat_forwarded, has_dev, raised_for}
use Rattle.vm_model.specs.Guests.{Tables}
use Rattle.vm_model.specs.Interrupts.{is_line_at, stands_at, virtual_number, with_table}
use Rattle.vm_model.specs.Project.{is_port_raised, joined_tables, lists_of}
use Rattle.hypervisor.specs.Change.{Change}
use Rattle.hypervisor.specs.Hyp.{HypData, stands_for}
use Rattle.hypervisor.specs.declared.seat.Seat.{Seat}
use Rattle.hypervisor.specs.Seat.{IsSeatOf, irq_of_line, line_of}
use Rattle.hypervisor.specs.Shape.{shape_of}
use Rattle.hypervisor.specs.Taken.{IsForwarded, IsLeft, guests_of, line_guests, pended_for}
use Rattle.hypervisor.specs.Tidy.{AreHeld, Tidy, quieted}
use Rattle.hypervisor.proofs.Held.{is_core}
use Rattle.hypervisor.proofs.Moves.{line_bound}
use Rattle.hypervisor.proofs.Raised.{AreLinesOf, after_ack-length, after_ack-quieted, is_timer_raised}
use Rattle.hypervisor.proofs.RaisedTaken.{IsQuiet, IsTaken, board_lines, has_core_at, line_taken, quiet_lines_of}
use Rattle.hypervisor.proofs.Seats.{on_platform, owner_of_seat}

-- a hypervisor and a board belong together still, where the parts are as before that a core's step or an interrupt leaves
pub tidy_kept : (cfg : ConfigData) (old new : HypData) (before after : Machine) → Tidy cfg old before → after.fitted ≡ before.fitted
    → after.shape ≡ before.shape → after.entries ≡ before.entries → length after.lines.ppis ≡ length before.lines.ppis
    → map quieted after.lines.ports ≡ map quieted before.lines.ports → length new.powers ≡ length old.powers
    → AreHeld cfg new.tables after.lists → Tidy cfg new after
tidy_kept cfg old new before after tidy fitted shape entries timers ports powers held = record {
  fitted = fitted ∙ tidy.fitted;
  shape = subst (λ (s : ShapeData). s ≡ shape_of cfg s.events) (sym shape) tidy.shape;
  entries = entries ∙ tidy.entries;
  timer_lines = timers ∙ tidy.timer_lines;
  port_lines = ports ∙ tidy.port_lines ∙ sym (ap (λ (s : ShapeData). map quiet_line s.ports) shape);
  powers = powers ∙ tidy.powers;
  held = held;
}

-- the lines of the board are those of the platform's ports
pub lines_are : (cfg : ConfigData) (hyp : HypData) (m : Machine) → Tidy cfg hyp m → AreLinesOf cfg cfg.platform.ports m.lines.ports
lines_are cfg hyp m tidy = tidy.port_lines ∙ ap (λ (s : ShapeData). map quiet_line s.ports) tidy.shape

-- two changes of one VM's interrupts are a third
pub with_table-twice : (v : ℕ) (second first both : Interrupts → Interrupts) (tables : Tables) → second (first (tables v)) ≡ both (tables v)
    → with_table (Some v) second (with_table (Some v) first tables) ≡ with_table (Some v) both tables
with_table-twice v second first both tables same = λ i w. by_place w (v == w) refl i
  where
    by_place : (w : ℕ) (here : Bool) → (v == w) ≡ here
        → (if here then second (if here then first (tables w) else tables w) else (if here then first (tables w) else tables w))
        ≡ (if here then both (tables w) else tables w)
    by_place w true e = subst (λ n. second (first (tables n)) ≡ both (tables n)) (eqb-true v w e) same
    by_place w false e = refl

-- a change that leaves each VM's interrupts
pub with_table-none : (v : ℕ) (change : Interrupts → Interrupts) (tables : Tables) → ((table : Interrupts) → change table ≡ table)
    → with_table (Some v) change tables ≡ tables
with_table-none v change tables none = λ i w. by_place w (v == w) i
  where
    by_place : (w : ℕ) (here : Bool) → (if here then change (tables w) else tables w) ≡ tables w
    by_place w true = none (tables w)
    by_place w false = refl

-- a flag that is down where it is cleared
down_here : (was here : Bool) → (here ≡ true → was ≡ false) → (was && not here) ≡ was
down_here true true down = sym (down refl)
down_here true false down = refl
down_here false here down = refl

-- the lines are forwarded that are raised for the core with a number in a VM at a place
abbrev forwarded_by : ConfigData → Option ℕ → Option VmData → ℕ → ℕ → Flat → Flat
forwarded_by cfg place owned number core f =
    record f {
      tables = with_table place (pended_at (is_line_at cfg owned number (raised_for f core))) f.tables;
      timer_lines = λ other. f.timer_lines other && not (other == core);
      port_lines = λ port. f.port_lines port && not (has_dev port owned);
    }

module _ (cfg : ConfigData) (seat : Seat) (is : IsSeatOf cfg seat.core seat) where
  owner_is : owner cfg seat.core ≡ Some is.is.vm
  owner_is = owner_of_seat cfg seat is

  forwarded_is : (f : Flat) → flat_forwarded cfg f seat.core ≡ forwarded_by cfg (Some seat.vm) (Some is.is.vm) seat.own seat.core f
  forwarded_is f =
      ap (λ place. forwarded_by cfg place (owner cfg seat.core) (virtual_number cfg seat.core) seat.core f) is.place
      ∙ ap (λ owned. forwarded_by cfg (Some seat.vm) owned (virtual_number cfg seat.core) seat.core f) owner_is
      ∙ ap (λ number. forwarded_by cfg (Some seat.vm) (Some is.is.vm) number seat.core f) is.number

  -- where no line of the VM is raised for the core, nothing is forwarded
  pub quiet_forwarded : (f : Flat) → f.timer_lines seat.core ≡ false
      → ((port : ℕ) → IsTrue (has_port port is.is.vm) → f.port_lines port ≡ false)
      → ((at : ℕ) → is_line_at cfg (Some is.is.vm) seat.own (raised_for f seat.core) at ≡ false)
      → flat_forwarded cfg f seat.core ≡ f
  quiet_forwarded f timer ports none =
      forwarded_is f ∙ (λ i. record f { tables = tables i; timer_lines = λ other. timers other i; port_lines = λ port. down port i })
    where
      tables : with_table (Some seat.vm) (pended_at (is_line_at cfg (Some is.is.vm) seat.own (raised_for f seat.core))) f.tables
          ≡ f.tables
      tables = with_table-none seat.vm (pended_at (is_line_at cfg (Some is.is.vm) seat.own (raised_for f seat.core))) f.tables
          (λ table. pended-none table (is_line_at cfg (Some is.is.vm) seat.own (raised_for f seat.core)) none)

      timers : (other : ℕ) → (f.timer_lines other && not (other == seat.core)) ≡ f.timer_lines other
      timers other =
          down_here (f.timer_lines other) (other == seat.core) (λ e. ap f.timer_lines (eqb-true other seat.core e) ∙ timer)

      down : (port : ℕ) → (f.port_lines port && not (has_port port is.is.vm)) ≡ f.port_lines port
      down port = down_here (f.port_lines port) (has_port port is.is.vm) (ports port)

  module _ (well_formed : IsWellFormed cfg) (hyp : HypData) (m : Machine) (tidy : Tidy cfg hyp m) where
    has : IsTrue (has_core seat.core is.is.vm)
    has = has_core_at is.is.vm seat.own seat.core is.is.core

    -- so it is on a board for whose core no line is raised
    pub none_forwarded : is_raised m.lines seat.core ≡ false → flat_forwarded cfg (stands_for cfg hyp m) seat.core ≡ stands_for cfg hyp m
    none_forwarded quiet = quiet_forwarded (stands_for cfg hyp m) nothing.timer nothing.ports (nothing.at seat.own)
      where
        nothing : IsQuiet cfg is.is.vm seat.core m.lines
        nothing =
            quiet_lines_of cfg well_formed seat.vm seat.core is.is.vm is.is.place has m.lines (lines_are cfg hyp m tidy) quiet

    -- One line is acknowledged, and its id made pending.
    module _ (fits : ConfigFits cfg) (intid : ℕ) (answer : least_raised m.lines seat.core ≡ Some intid) where
      abbrev left_lines : LinesData
      left_lines = after_ack m.lines seat.core (Some intid)

      abbrev acked_board : Machine
      acked_board = record m { lines = left_lines }

      taken : IsTaken cfg is.is.vm seat.core intid m.lines left_lines
      taken =
          line_taken cfg well_formed seat.vm seat.core is.is.vm is.is.place has m.lines (lines_are cfg hyp m tidy) fits intid answer

      abbrev all : Tables
      all = joined_tables cfg m.lists (tables_of hyp.tables)

      low : seat.core < length m.lists
      low = let on = on_platform cfg hyp m well_formed tidy seat is.is in let count = tidy.held.registers in omega (arith, on, count)

      is_one : IsCoreOf (tables_of hyp.tables seat.vm) (map (lists_at m.lists) is.is.vm.cores) seat.own
      is_one = is_core cfg well_formed fits seat.vm seat.own seat.core is.is.vm is.is.place is.is.core hyp.tables m.lists tidy.held low

      shaped_all : IsShaped (all seat.vm)
      shaped_all = others-shaped (tables_of hyp.tables seat.vm) 0 (lists_of cfg m.lists seat.vm) is_one.shaped

      below : seat.own < 8
      below = let few = is_one.few in let within = is_one.within in omega (arith, few, within)

      turned : (a b : ℕ) → (a == b) ≡ (b == a)
      turned a b = grind (arith, nat_tests)

      one_pended : (irq : Option ℕ) → ((id : ℕ) → irq ≡ Some id → id < 96)
          → pended_for seat.own irq (all seat.vm) ≡ pended_at (λ at. stands_at seat.own irq at) (all seat.vm)
      one_pended None small = sym (pended-none (all seat.vm) (λ at. stands_at seat.own None at) (λ p. refl))
      one_pended (Some id) small =
          let within : place seat.own id < length (all seat.vm).ids =
          (let shape = shaped_all in let inside = place-within seat.own id below (small id refl) in omega (arith, shape, inside)) in
          made_pending-at (all seat.vm) seat.own id within
          ∙ pended-same (all seat.vm) (λ p. p == place seat.own id) (λ at. stands_at seat.own (Some id) at) (λ p. turned p (place seat.own id))

      abbrev irq : Option ℕ
      irq = irq_of_line cfg is.is.vm intid

      abbrev lines_at : LinesData → ℕ → Bool
      lines_at lines = is_line_at cfg (Some is.is.vm) seat.own (board_lines lines seat.core)

      table_taken : pended_at (lines_at left_lines) (pended_for seat.own irq (all seat.vm)) ≡ pended_at (lines_at m.lines) (all seat.vm)
      table_taken =
          ap (pended_at (lines_at left_lines))
          (one_pended irq (λ id is_id. line_bound cfg fits seat.vm intid id is.is.vm is.is.place is_id))
          ∙ pended-both (all seat.vm) (lines_at left_lines) (λ at. stands_at seat.own irq at)
          ∙ pended-same (all seat.vm) (λ at. lines_at left_lines at || stands_at seat.own irq at) (lines_at m.lines)
          (λ at. sym (taken.at seat.own at))

      irq_is : line_of cfg (slice_get cfg.vms seat.vm) intid ≡ irq
      irq_is = ap (λ vm. line_of cfg vm intid) is.is.place

      module _ (new : HypData) (after : Machine)
          (left : IsLeft cfg (record { old = hyp; new = new; before = acked_board; after = after })
          (line_guests cfg seat.vm seat.own intid (guests_of cfg hyp acked_board))) where
        tables_after : joined_tables cfg after.lists (tables_of new.tables) ≡ with_table (Some seat.vm) (pended_for seat.own irq) all
        tables_after = left.tables ∙ ap (λ o. with_table (Some seat.vm) (pended_for seat.own o) all) irq_is

        abbrev next : Flat
        next = record (stands_for cfg hyp m) {
          tables = with_table (Some seat.vm) (pended_for seat.own irq) all;
          timer_lines = is_timer_raised left_lines;
          port_lines = is_port_raised left_lines.ports;
        }

        stands : stands_for cfg new after ≡ next
        stands = λ i. record {
          bytes = (left.state i).bytes;
          cores = (left.state i).cores;
          powers = left.powers i;
          tables = tables_after i;
          ports = (left.state i).ports;
          timer_lines = is_timer_raised (left.state i).lines;
          port_lines = is_port_raised (left.state i).lines.ports;
        }

        same : forwarded_by cfg (Some seat.vm) (Some is.is.vm) seat.own seat.core next
            ≡ forwarded_by cfg (Some seat.vm) (Some is.is.vm) seat.own seat.core (stands_for cfg hyp m)
        same = λ i. record (stands_for cfg hyp m) {
          tables = tables_same i;
          timer_lines = λ other. taken.timers other i;
          port_lines = λ port. taken.ports port i;
        }
          where
            tables_same : with_table (Some seat.vm) (pended_at (lines_at left_lines)) (with_table (Some seat.vm) (pended_for seat.own irq) all)
                ≡ with_table (Some seat.vm) (pended_at (lines_at m.lines)) all
            tables_same =
                with_table-twice seat.vm (pended_at (lines_at left_lines)) (pended_for seat.own irq) (pended_at (lines_at m.lines)) all table_taken

        -- what is forwarded after it is what is forwarded before it
        pub forwarded_later : flat_forwarded cfg (stands_for cfg new after) seat.core ≡ flat_forwarded cfg (stands_for cfg hyp m) seat.core
        forwarded_later =
            ap (λ f. flat_forwarded cfg f seat.core) stands ∙ forwarded_is next ∙ same ∙ sym (forwarded_is (stands_for cfg hyp m))

        lines_after : after.lines ≡ left_lines
        lines_after = ap (λ (b : Machine). b.lines) left.state

        pub tidy_later : Tidy cfg new after
        tidy_later =
            tidy_kept cfg hyp new m after tidy (ap (λ (b : Machine). b.fitted) left.state) (ap (λ (b : Machine). b.shape) left.state)
            (ap (λ (b : Machine). b.entries) left.state)
            (ap (λ (l : LinesData). length l.ppis) lines_after ∙ after_ack-length m.lines seat.core (Some intid))
            (ap (λ (l : LinesData). map quieted l.ports) lines_after ∙ after_ack-quieted m.lines seat.core (Some intid))
            (ap length left.powers) left.held

        -- and fewer lines are raised for the core
        pub fewer_later : length (raised_intids after.lines seat.core) < length (raised_intids m.lines seat.core)
        fewer_later =
            subst (λ (l : LinesData). length (raised_intids l seat.core) < length (raised_intids m.lines seat.core)) (sym lines_after) taken.fewer

        pub board_later : after ≡ record m { lists = after.lists; lines = after.lines }
        board_later = left.state ∙ ap (λ l. record m { lists = after.lists; lines = l }) (sym lines_after)

-- In the midst of forwarding: what is forwarded from here is what was forwarded from the start, and of the board only list registers and
-- lines are others.
pub record IsForwarding (cfg : ConfigData) (core : ℕ) (change : Change) : Type 0 where
  pub tidy : Tidy cfg change.new change.after
  pub state :
      flat_forwarded cfg (stands_for cfg change.new change.after) core ≡ flat_forwarded cfg (stands_for cfg change.old change.before) core
  pub board : change.after ≡ record change.before { lists = change.after.lists; lines = change.after.lines }

-- at the start
pub begins : (cfg : ConfigData) (core : ℕ) (hyp : HypData) (m : Machine) → Tidy cfg hyp m
    → IsForwarding cfg core (record { old = hyp; new = hyp; before = m; after = m })
begins cfg core hyp m tidy = record { tidy = tidy; state = refl; board = refl }

module _ (cfg : ConfigData) (well_formed : IsWellFormed cfg) (fits : ConfigFits cfg) (seat : Seat) (is : IsSeatOf cfg seat.core seat)
    (old hyp : HypData) (before m : Machine)
    (so_far : IsForwarding cfg seat.core (record { old = old; new = hyp; before = before; after = m })) where
  -- a core's acknowledgement leaves hypervisor and board so that they belong together
  pub tidy_acked : (mid : Machine) → mid ≡ acked m seat.core → Tidy cfg hyp mid
  tidy_acked mid mid_is =
      subst (Tidy cfg hyp) (sym mid_is)
      (tidy_kept cfg hyp hyp m (acked m seat.core) so_far.tidy refl refl refl (after_ack-length m.lines seat.core (least_raised m.lines seat.core))
      (after_ack-quieted m.lines seat.core (least_raised m.lines seat.core)) refl so_far.tidy.held)

  module _ (intid : ℕ) (answer : least_raised m.lines seat.core ≡ Some intid) (mid : Machine) (mid_is : mid ≡ acked m seat.core)
      (new : HypData) (after : Machine)
      (left : IsLeft cfg (record { old = hyp; new = new; before = mid; after = after })
      (line_guests cfg seat.vm seat.own intid (guests_of cfg hyp mid))) where
    mid_board : mid ≡ record m { lines = after_ack m.lines seat.core (Some intid) }
    mid_board = mid_is ∙ ap (λ taken. record m { lines = after_ack m.lines seat.core taken }) answer

    left_here : IsLeft cfg (record { old = hyp; new = new; before = record m { lines = after_ack m.lines seat.core (Some intid) }; after = after })
        (line_guests cfg seat.vm seat.own intid (guests_of cfg hyp (record m { lines = after_ack m.lines seat.core (Some intid) })))
    left_here =
        subst
        (λ (b : Machine). IsLeft cfg (record { old = hyp; new = new; before = b; after = after })
        (line_guests cfg seat.vm seat.own intid (guests_of cfg hyp b))) mid_board left

    -- once a line has been forwarded
    pub goes_on : IsForwarding cfg seat.core (record { old = old; new = new; before = before; after = after })
    goes_on = record {
      tidy = tidy_later cfg seat is well_formed hyp m so_far.tidy fits intid answer new after left_here;
      state = forwarded_later cfg seat is well_formed hyp m so_far.tidy fits intid answer new after left_here ∙ so_far.state;
      board =
          board_later cfg seat is well_formed hyp m so_far.tidy fits intid answer new after left_here
          ∙ ap (λ (b : Machine). record b { lists = after.lists; lines = after.lines }) so_far.board;
    }

    pub goes_down : length (raised_intids after.lines seat.core) < length (raised_intids m.lines seat.core)
    goes_down = fewer_later cfg seat is well_formed hyp m so_far.tidy fits intid answer new after left_here

  -- once none is left
  pub ends : least_raised m.lines seat.core ≡ None → (mid : Machine) → mid ≡ acked m seat.core
      → IsForwarded cfg seat.core (record { old = old; new = hyp; before = before; after = mid })
  ends none mid mid_is =
      subst (λ (b : Machine). IsForwarded cfg seat.core (record { old = old; new = hyp; before = before; after = b })) (sym same)
      (record {
        tidy = so_far.tidy;
        state = sym (none_forwarded cfg seat is well_formed hyp m so_far.tidy (ap is_some none)) ∙ so_far.state;
        quiet = ap is_some none;
        board = so_far.board;
      })
    where
      same : mid ≡ m
      same = mid_is ∙ ap (λ taken. record m { lines = after_ack m.lines seat.core taken }) none
