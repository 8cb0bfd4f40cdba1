-- What the parts of an event leave, one after another: hypervisor and board still belong to the configuration.
use Rattle.std.proofs.Common.{◌≡◌, ◌≢◌, ℕ, zero, suc, ◌+◌, ◌==◌, ◌≤◌, Bool, true, false, List, [], ◌∷◌, length, map, refl, sym, ap, subst, ◌∙◌, arith}
use Rattle.std.specs.Prelude.{nat_lt, if◌then◌else◌, Some, slice_get, slice_index, slice_set}
use Rattle.std.proofs.lemmas.Bool.{eq-eqb, eqb-true}
use Rattle.std.proofs.lemmas.Bool.Decides.{nat_tests}
use Rattle.bao_types.specs.ListReg.{free_registers}
use Rattle.a64_state.specs.Core.{CoreData}
use Rattle.bao_config.specs.Data.{ConfigData}
use Rattle.bao_config.specs.Fits.{ConfigFits}
use Rattle.bao_wellformed.specs.WellFormed.{IsWellFormed}
use Rattle.board.specs.Machine.{Machine, restarted, with_core}
use Rattle.gic_core.specs.PortLine.{quiet_line}
use Rattle.hypercalls.specs.declared.power.Power.{Power}
use Rattle.hypercalls.specs.declared.power.Power.TheVariants.{On}
use Rattle.shared_windows.specs.Windows.{irq_of, is_member}
use Rattle.vgic_table.specs.Interrupts.{Interrupts, tables_of}
use Rattle.vm_model.specs.Duty.{cores_of, pended, rung, started, turned_on}
use Rattle.vm_model.specs.Guests.{Guests, Tables}
use Rattle.vm_model.specs.Interrupts.{with_table}
use Rattle.vm_model.specs.Project.{joined_tables}
use Rattle.hypervisor.specs.Hyp.{HypData}
use Rattle.hypervisor.specs.Seat.{IsSeat, taken_back}
use Rattle.hypervisor.specs.declared.seat.Seat.{Seat}
use Rattle.hypervisor.specs.Shape.{shape_of}
use Rattle.hypervisor.specs.Taken.{IsLeft, guests_of, with_registers}
use Rattle.hypervisor.specs.Tidy.{AreHeld, Tidy, quieted}
use Rattle.hypervisor.proofs.Back.{all_back, held_back}
use Rattle.hypervisor.proofs.Calls.{all_heard, one_more_heard, starts_alike}
use Rattle.hypervisor.proofs.Seats.{on_platform}

-- hypervisor and board belong to the configuration still
pub left_tidy : (cfg : ConfigData) (old new : HypData) (before after : Machine) (guests : Guests) → Tidy cfg old before
    → IsLeft cfg (record { old = old; new = new; before = before; after = after }) guests → length guests.powers ≡ length old.powers
    → Tidy cfg new after
left_tidy cfg old new before after guests tidy left count = record {
  fitted = ap (λ (m : Machine). m.fitted) left.state ∙ tidy.fitted;
  shape =
      ap (λ (m : Machine). m.shape) left.state ∙ tidy.shape ∙ sym (ap (λ (m : Machine). shape_of cfg m.shape.events) left.state);
  entries = ap (λ (m : Machine). m.entries) left.state ∙ tidy.entries;
  timer_lines = ap (λ (m : Machine). length m.lines.ppis) left.state ∙ tidy.timer_lines;
  port_lines =
      ap (λ (m : Machine). map quieted m.lines.ports) left.state ∙ tidy.port_lines
      ∙ sym (ap (λ (m : Machine). map quiet_line m.shape.ports) left.state);
  powers = ap (λ (ps : List Power). length ps) left.powers ∙ count ∙ tidy.powers;
  held = left.held;
}

-- what the hypervisor works on next is what is left
pub left_guests : (cfg : ConfigData) (old new : HypData) (before after : Machine) (guests : Guests)
    → IsLeft cfg (record { old = old; new = new; before = before; after = after }) guests → guests_of cfg new after ≡ guests
left_guests cfg old new before after guests left =
    ap {B = Guests} (λ cores. record { cores = cores; powers = new.powers; tables = joined_tables cfg after.lists (tables_of new.tables) })
    (ap (λ (m : Machine). m.cores) left.state)
    ∙ ap {B = Guests} (λ powers. record { cores = guests.cores; powers = powers; tables = joined_tables cfg after.lists (tables_of new.tables) })
    left.powers
    ∙ ap {B = Guests} (λ tables. record { cores = guests.cores; powers = guests.powers; tables = tables }) left.tables

-- two parts are one
pub left_then : (cfg : ConfigData) (old mid new : HypData) (before between after : Machine) (first second : Guests)
    → IsLeft cfg (record { old = old; new = mid; before = before; after = between }) first
    → IsLeft cfg (record { old = mid; new = new; before = between; after = after }) second
    → IsLeft cfg (record { old = old; new = new; before = before; after = after }) second
left_then cfg old mid new before between after first second one two = record {
  state = two.state ∙ ap (λ (m : Machine). with_registers m second.cores after.lists) one.state;
  powers = two.powers;
  tables = two.tables;
  held = two.held;
}

-- nothing is done
pub left_same : (cfg : ConfigData) (hyp : HypData) (m : Machine) → Tidy cfg hyp m
    → IsLeft cfg (record { old = hyp; new = hyp; before = m; after = m }) (guests_of cfg hyp m)
left_same cfg hyp m tidy = record { state = refl; powers = refl; tables = refl; held = tidy.held }

-- powers alone are others
pub left_powers : (cfg : ConfigData) (old new : HypData) (m : Machine) (powers : List Power) → Tidy cfg old m
    → new.powers ≡ powers → new.tables ≡ old.tables
    → IsLeft cfg (record { old = old; new = new; before = m; after = m }) (record (guests_of cfg old m) { powers = powers })
left_powers cfg old new m powers tidy given kept = record {
  state = refl;
  powers = given;
  tables = ap (λ ts. joined_tables cfg m.lists (tables_of ts)) kept;
  held = subst (λ ts. AreHeld cfg ts m.lists) (sym kept) tidy.held;
}

-- a core is turned on, once its registers are back
pub left_on : (cfg : ConfigData) → IsWellFormed cfg → ConfigFits cfg → (old new : HypData) (before after : Machine) → Tidy cfg old before
    → (seat : Seat) → IsSeat cfg seat → (start arg : ℕ) → after ≡ restarted before seat.core start arg
    → new.powers ≡ slice_set old.powers seat.core On
    → new.tables ≡ slice_set old.tables seat.vm (taken_back old.tables before.lists seat)
    → IsLeft cfg (record { old = old; new = new; before = before; after = after })
    (turned_on cfg seat.core start arg (guests_of cfg old before))
left_on cfg well_formed fits old new before after tidy seat is start arg state powers tables = record {
  state =
      state
      ∙ ap (λ c. with_registers before (slice_set before.cores seat.core c) (slice_set before.lists seat.core free_registers))
      (starts_alike cfg before seat.core start arg tidy.shape (on_platform cfg old before well_formed tidy seat is))
      ∙ ap (λ lists. with_registers before (slice_set before.cores seat.core (started cfg seat.core start arg)) lists)
      (sym (ap (λ (m : Machine). m.lists) state));
  powers = powers;
  tables = all_back cfg well_formed fits old new before after tidy seat is tables (ap (λ (m : Machine). m.lists) state);
  held = held_back cfg well_formed fits old new before after tidy seat is tables (ap (λ (m : Machine). m.lists) state);
}

-- the physical core of a seat
pub seat_core : (cfg : ConfigData) (seat : Seat) → IsSeat cfg seat → (v own : ℕ) → seat.vm ≡ v → seat.own ≡ own
    → slice_index (cores_of (slice_get cfg.vms v)) own ≡ seat.core
seat_core cfg seat is v own vm_is own_is =
    ap (λ o. slice_index (cores_of o) own) (ap (slice_get cfg.vms) (sym vm_is) ∙ is.place) ∙ ap (slice_index is.vm.cores) (sym own_is)
    ∙ at is.vm.cores seat.own is.core
  where
    at : (cores : List ℕ) (k : ℕ) → slice_get cores k ≡ Some seat.core → slice_index cores k ≡ seat.core
    at [] k e = cc
    at (c ∷ cores) zero e = cc
    at (c ∷ cores) (suc k) e = at cores k e

-- a core's registers alone are others: what belongs together does so still
pub tidy_core : (cfg : ConfigData) (hyp : HypData) (m : Machine) (core : ℕ) (registers : CoreData) → Tidy cfg hyp m
    → Tidy cfg hyp (with_core m core registers)
tidy_core cfg hyp m core registers tidy = record {
  fitted = tidy.fitted;
  shape = tidy.shape;
  entries = tidy.entries;
  timer_lines = tidy.timer_lines;
  port_lines = tidy.port_lines;
  powers = tidy.powers;
  held = tidy.held;
}

-- the VMs below a number have heard of a ring of an event of a shared memory
module _ (cfg : ConfigData) (caller shmem event : ℕ) where
  abbrev pub heard_below : ℕ → Guests → Guests
  heard_below n guests =
      record guests {
        tables = λ v. if nat_lt v n then rung cfg (is_member cfg shmem caller) shmem event guests.tables v else guests.tables v;
      }

  abbrev made : ℕ → Interrupts → Interrupts
  made v table = pended (irq_of cfg v shmem event) table

  -- at first none has
  none_heard : (guests : Guests) → guests ≡ heard_below 0 guests
  none_heard guests =
      ap {B = Guests} (λ tables. record { cores = guests.cores; powers = guests.powers; tables = tables })
      (λ i v. by_test v (nat_lt v 0) refl i)
    where
      by_test : (v : ℕ) (b : Bool) → nat_lt v 0 ≡ b
          → guests.tables v ≡ (if b then rung cfg (is_member cfg shmem caller) shmem event guests.tables v else guests.tables v)
      by_test v true e = absurd (grind (arith, nat_tests))
      by_test v false e = refl

  -- the next one hears
  next_heard : (n : ℕ) (guests : Guests) → is_member cfg shmem caller n ≡ true
      → record guests { tables = with_table (Some n) (made n) (heard_below n guests).tables } ≡ heard_below (n + 1) guests
  next_heard n guests hears =
      ap {B = Guests} (λ tables. record { cores = guests.cores; powers = guests.powers; tables = tables })
      (λ i v.
      one_more_heard (is_member cfg shmem caller) made guests.tables now (with_table (Some n) (made n) now) n (λ v. refl) here others v i)
    where
      now : Tables
      now = (heard_below n guests).tables

      here : with_table (Some n) (made n) now n ≡ (if is_member cfg shmem caller n then made n (now n) else now n)
      here =
          ap (λ b. if b then made n (now n) else now n) (eq-eqb n n refl)
          ∙ sym (ap (λ b. if b then made n (now n) else now n) hears)

      others : (v : ℕ) → v ≢ n → with_table (Some n) (made n) now v ≡ now v
      others v other = by_place (n == v) refl
        where
          by_place : (same : Bool) → (n == v) ≡ same → (if same then made n (now v) else now v) ≡ now v
          by_place true e = absurd (other (sym (eqb-true n v e)))
          by_place false e = refl

  -- or doesn't
  next_unheard : (n : ℕ) (guests : Guests) → is_member cfg shmem caller n ≡ false → heard_below n guests ≡ heard_below (n + 1) guests
  next_unheard n guests hears =
      ap {B = Guests} (λ tables. record { cores = guests.cores; powers = guests.powers; tables = tables })
      (λ i v.
      one_more_heard (is_member cfg shmem caller) made guests.tables now now n (λ v. refl)
      (sym (ap (λ b. if b then made n (now n) else now n) hears)) (λ v other. refl) v i)
    where
      now : Tables
      now = (heard_below n guests).tables

  module _ (old : HypData) (before : Machine) where
    -- what is left once those below a number have heard
    abbrev pub IsRung : ℕ → HypData → Machine → Type 0
    IsRung n new after =
        IsLeft cfg (record { old = old; new = new; before = before; after = after }) (heard_below n (guests_of cfg old before))

    pub rung_none : Tidy cfg old before → IsRung 0 old before
    rung_none tidy =
        subst (IsLeft cfg (record { old = old; new = old; before = before; after = before })) (none_heard (guests_of cfg old before))
        (left_same cfg old before tidy)

    pub rung_next : (n : ℕ) (mid new : HypData) (between after : Machine) → IsRung n mid between → is_member cfg shmem caller n ≡ true
        → IsLeft cfg (record { old = mid; new = new; before = between; after = after })
        (record (guests_of cfg mid between) {
          tables = with_table (Some n) (pended (irq_of cfg n shmem event)) (guests_of cfg mid between).tables;
        })
        → IsRung (n + 1) new after
    rung_next n mid new between after so_far hears more =
        left_then cfg old mid new before between after (heard_below n guests) (heard_below (n + 1) guests) so_far
        (subst (IsLeft cfg (record { old = mid; new = new; before = between; after = after }))
        (ap {B = Guests} (λ (g : Guests). record g { tables = with_table (Some n) (made n) g.tables })
        (left_guests cfg old mid before between (heard_below n guests) so_far)
        ∙ next_heard n guests hears) more)
      where
        guests : Guests
        guests = guests_of cfg old before

    pub rung_skip : (n : ℕ) (mid : HypData) (between : Machine) → IsRung n mid between → is_member cfg shmem caller n ≡ false
        → IsRung (n + 1) mid between
    rung_skip n mid between so_far hears =
        subst (IsLeft cfg (record { old = old; new = mid; before = before; after = between }))
        (next_unheard n (guests_of cfg old before) hears) so_far

    pub rung_all : (n : ℕ) (new : HypData) (after : Machine) → length cfg.vms ≤ n → IsRung n new after
        → IsLeft cfg (record { old = old; new = new; before = before; after = after })
        (record (guests_of cfg old before) {
          tables = rung cfg (is_member cfg shmem caller) shmem event (guests_of cfg old before).tables;
        })
    rung_all n new after all so_far =
        subst (IsLeft cfg (record { old = old; new = new; before = before; after = after }))
        (ap {B = Guests} (λ tables. record { cores = before.cores; powers = old.powers; tables = tables })
        (all_heard cfg shmem caller event (guests_of cfg old before).tables (heard_below n (guests_of cfg old before)).tables n all (λ v. refl)))
        so_far

    -- it belongs together still
    pub rung_tidy : (n : ℕ) (new : HypData) (after : Machine) → Tidy cfg old before → IsRung n new after → Tidy cfg new after
    rung_tidy n new after tidy so_far = left_tidy cfg old new before after (heard_below n (guests_of cfg old before)) tidy so_far refl
