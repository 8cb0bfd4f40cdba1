-- A step of a core that runs, and what the hypervisor does about it, are a step of the model.
use Rattle.std.proofs.Common.{◌≡◌, ℕ, Bool, true, false, List, map, refl, sym, ap, subst, ◌∙◌}
use Rattle.std.specs.Prelude.{◌==◌, ◌||◌, IsTrue, if◌then◌else◌, Option, Some, slice_index_or, slice_set}
use Rattle.bao_types.specs.Shape.{ShapeData}
use Rattle.bao_types.specs.ListReg.{lists_at}
use Rattle.bao_config.specs.Data.{ConfigData}
use Rattle.bao_config.specs.Fits.{ConfigFits}
use Rattle.bao_wellformed.specs.Map.{by_map}
use Rattle.bao_wellformed.specs.WellFormed.{IsWellFormed}
use Rattle.board.specs.Attempt.{Effect, Outcome, Ran, Acknowledged, Ended, Leave}
use Rattle.board.specs.Interrupts.{core_after, exit_of}
use Rattle.board.specs.Machine.{Machine, carried_out, core_at, machine_effect, written}
use Rattle.board.specs.Ports.{all_accessed, raises_line}
use Rattle.board.specs.Stage.{by_regions}
use Rattle.board.specs.declared.board.Exit.{Exit}
use Rattle.board.specs.declared.board.Exit.TheVariants as exit
use Rattle.board.proofs.Reached.{AllTouched, touched_by_second}
use Rattle.gic_core.specs.PortLine.{quiet_line}
use Rattle.hypercalls.specs.declared.power.Power.{Power}
use Rattle.vgic_iface.specs.Interface.{is_unlisted}
use Rattle.vgic_table.specs.Interrupts.{Interrupts, tables_of}
use Rattle.vgic_table.specs.Changes.{made_inactive}
use Rattle.vm_model.specs.Cores.{place_of}
use Rattle.vm_model.specs.Duty.{done, duty_of}
use Rattle.vm_model.specs.Flat.{Flat, flat_duty, flat_effect, flat_guests, flat_left, flat_moment, flat_stepped, platform_places}
use Rattle.vm_model.specs.Guests.{Guests, Tables}
use Rattle.vm_model.specs.Interrupts.{best_of, table_after, virtual_number, with_table}
use Rattle.vm_model.specs.Project.{is_port_raised, joined_tables, project}
use Rattle.hypervisor.specs.Change.{Change, IsListed}
use Rattle.hypervisor.specs.Hyp.{HypData, stands_for}
use Rattle.hypervisor.specs.Seat.{IsSeatOf}
use Rattle.hypervisor.specs.declared.seat.Seat.{Seat}
use Rattle.hypervisor.specs.Taken.{IsLeft, IsSame, IsSettled, ended_guests, guests_of}
use Rattle.hypervisor.specs.Tidy.{Tidy}
use Rattle.hypervisor.proofs.Carried.{carried_settled, carried_tables, carried_tidy, table_carried, table_settled}
use Rattle.hypervisor.proofs.Left.{left_same, left_tidy}
use Rattle.hypervisor.proofs.Models.{done_length, tidy_packed}
use Rattle.hypervisor.proofs.Raised.{has_line, lines_accessed-ports, lines_accessed-ppis, touched_have_lines}
use Rattle.hypervisor.proofs.Refines.{steps_alike}
use Rattle.hypervisor.proofs.Seats.{on_platform}

-- two changes of a VM's interrupts are one
tables_twice : (v : ℕ) (first second : Interrupts → Interrupts) (tables : Tables)
    → with_table (Some v) second (with_table (Some v) first tables) ≡ with_table (Some v) (λ t. second (first t)) tables
tables_twice v first second tables = λ i w. by_place w (v == w) i
  where
    by_place : (w : ℕ) (here : Bool)
        → (if here then second (if here then first (tables w) else tables w) else (if here then first (tables w) else tables w))
        ≡ (if here then second (first (tables w)) else tables w)
    by_place w true = refl
    by_place w false = refl

-- a core whose best interrupt is listed, and for which no line is raised
module _ (cfg : ConfigData) (well_formed : IsWellFormed cfg) (fits : ConfigFits cfg) (hyp : HypData) (m : Machine) (tidy : Tidy cfg hyp m)
    (seat : Seat) (at : IsSeatOf cfg seat.core seat) (count : ℕ) (listed : IsListed cfg hyp m seat.core) where
  abbrev core : ℕ
  core = seat.core

  -- the model's machine before the step, and what the step does
  abbrev flat : Flat
  flat = stands_for cfg hyp m

  abbrev effect : Effect
  effect = machine_effect m core count

  -- the board after it
  abbrev board : Machine
  board = carried_out m core effect

  abbrev joint : Tables
  joint = joined_tables cfg m.lists (tables_of hyp.tables)

  pub effect_is : effect ≡ flat_effect cfg flat core count
  effect_is =
      steps_alike cfg m hyp.powers (tables_of hyp.tables) core count
      ((tidy_packed cfg hyp m tidy well_formed fits).realised core (on_platform cfg hyp m well_formed tidy seat at.is)) tidy.shape listed

  -- the ports that it touches have lines
  have_lines : AllTouched (λ port. IsTrue (has_line m.lines.ports port)) effect.touched
  have_lines =
      subst (λ (e : Effect). AllTouched (λ port. IsTrue (has_line m.lines.ports port)) e.touched) (sym effect_is)
      (touched_have_lines cfg m.lines.ports (tidy.port_lines ∙ ap (λ (s : ShapeData). map quiet_line s.ports) tidy.shape) (by_map cfg core)
      (flat_effect cfg flat core count).touched
      (touched_by_second (by_regions (core_at m.cores core)) (by_map cfg core) (platform_places cfg) m.ports m.bytes (core_at m.cores core)
      (flat_moment cfg flat core count)))

  -- the model's machine once the hypervisor has left such cores, powers and interrupts
  pub left_flat : (new : HypData) (after : Machine) (guests : Guests)
      → IsLeft cfg (record { old = hyp; new = new; before = board; after = after }) guests
      → stands_for cfg new after ≡ flat_left cfg flat core count guests
  left_flat new after guests left =
      ap (project cfg new.powers (tables_of new.tables)) left.state
      ∙ ap
      (λ powers. made powers (joined_tables cfg after.lists (tables_of new.tables)) (λ c. slice_index_or board.lines.ppis c false)
      (is_port_raised board.lines.ports) effect) left.powers
      ∙ ap (λ tables. made guests.powers tables (λ c. slice_index_or board.lines.ppis c false) (is_port_raised board.lines.ports) effect)
      left.tables
      ∙ ap (λ ppis. made guests.powers guests.tables (λ c. slice_index_or ppis c false) (is_port_raised board.lines.ports) effect)
      (lines_accessed-ppis effect.touched m.ports m.lines)
      ∙ ap (λ ports. made guests.powers guests.tables flat.timer_lines ports effect)
      (λ i port. lines_accessed-ports effect.touched m.ports m.lines have_lines port i)
      ∙ ap
      (λ (e : Effect). made guests.powers guests.tables flat.timer_lines
      (λ port. is_port_raised m.lines.ports port || raises_line e.touched m.ports port) e) effect_is
    where
      made : List Power → Tables → (ℕ → Bool) → (ℕ → Bool) → Effect → Flat
      made powers tables timers ports e =
          record {
            bytes = written e.stored m.bytes;
            cores = guests.cores;
            powers = powers;
            tables = tables;
            ports = all_accessed e.touched m.ports;
            timer_lines = timers;
            port_lines = ports;
          }

  -- cores, powers and interrupts after the step, by the registers alone, and all
  abbrev by_lists : Outcome → Guests
  by_lists outcome =
      record {
        cores = slice_set m.cores core (core_after effect (best_of cfg joint core));
        powers = hyp.powers;
        tables = with_table (Some seat.vm) (table_carried outcome (lists_at m.lists core) seat.own effect.core.iface) joint;
      }

  abbrev all : Outcome → Guests
  all outcome =
      record {
        cores = slice_set m.cores core (core_after effect (best_of cfg joint core));
        powers = hyp.powers;
        tables = with_table (Some seat.vm) (table_after outcome seat.own effect.core.iface) joint;
      }

  by_lists_is : guests_of cfg hyp board ≡ by_lists effect.outcome
  by_lists_is =
      ap {B = Guests} (λ tables. record { cores = board.cores; powers = hyp.powers; tables = tables })
      (carried_tables cfg well_formed fits hyp m tidy seat at effect listed)
      ∙ ap {B = Guests}
      (λ best. record {
        cores = slice_set m.cores core (core_after effect best);
        powers = hyp.powers;
        tables = (by_lists effect.outcome).tables;
      }) (sym listed)

  pub all_is : all effect.outcome ≡ flat_guests cfg flat core (flat_effect cfg flat core count)
  all_is =
      ap (λ place. of_effect effect place seat.own) (sym at.place)
      ∙ ap (of_effect effect (place_of cfg core)) (sym at.number)
      ∙ ap (λ e. of_effect e (place_of cfg core) (virtual_number cfg core)) effect_is
    where
      of_effect : Effect → Option ℕ → ℕ → Guests
      of_effect e place own =
          record {
            cores = slice_set m.cores core (core_after e (best_of cfg joint core));
            powers = hyp.powers;
            tables = with_table place (table_after e.outcome own e.core.iface) joint;
          }

  -- where the step comes to this, what the hypervisor did about it is what the model says
  abbrev duties : Outcome → Guests
  duties outcome = done cfg core (duty_of cfg core outcome (all outcome)) (all outcome)

  module _ (new : HypData) (after : Machine) where
    abbrev change : Change
    change = record { old = hyp; new = new; before = board; after = after }

    same_left : IsSame change → IsLeft cfg change (guests_of cfg hyp board)
    same_left same =
        subst (λ h. IsLeft cfg (record { old = hyp; new = h; before = board; after = after }) (guests_of cfg hyp board)) (sym same.hyp)
        (subst (λ b. IsLeft cfg (record { old = hyp; new = hyp; before = board; after = b }) (guests_of cfg hyp board)) (sym same.board)
        (left_same cfg hyp board (carried_tidy cfg well_formed fits hyp m tidy seat at count listed)))

    by_outcome : (outcome : Outcome) → guests_of cfg hyp board ≡ by_lists outcome
        → IsSettled cfg core (exit_of outcome (lists_at m.lists core)) change → IsLeft cfg change (duties outcome)
    by_outcome Ran is settled = subst (IsLeft cfg change) is (same_left settled)
    by_outcome Acknowledged is settled = subst (IsLeft cfg change) is (same_left settled)
    by_outcome (Ended id) is settled = by_test (is_unlisted (lists_at m.lists core) id) refl is settled
      where
        ended_is : (none : Bool) → is_unlisted (lists_at m.lists core) id ≡ none
            → (t : Interrupts)
            → table_settled (if none then exit.End id else exit.Ran) seat.own
            (table_carried (Ended id) (lists_at m.lists core) seat.own effect.core.iface t) ≡ table_after (Ended id) seat.own effect.core.iface t
        ended_is none e t =
            ap
            (λ b. table_settled (if b then exit.End id else exit.Ran) seat.own
            (table_carried (Ended id) (lists_at m.lists core) seat.own effect.core.iface t)) (sym e)
            ∙ carried_settled (Ended id) (lists_at m.lists core) seat.own effect.core.iface t

        with_tables : (Interrupts → Interrupts) → Guests
        with_tables f =
            record {
              cores = slice_set m.cores core (core_after effect (best_of cfg joint core));
              powers = hyp.powers;
              tables = with_table (Some seat.vm) f joint;
            }

        by_test : (none : Bool) → is_unlisted (lists_at m.lists core) id ≡ none → guests_of cfg hyp board ≡ by_lists (Ended id)
            → IsSettled cfg core (if none then exit.End id else exit.Ran) change → IsLeft cfg change (all (Ended id))
        by_test true e is settled =
            subst (IsLeft cfg change)
            (ap (ended_guests seat.vm seat.own id) is
            ∙ ap {B = Guests}
            (λ tables. record { cores = (all (Ended id)).cores; powers = hyp.powers; tables = tables })
            (tables_twice seat.vm (table_carried (Ended id) (lists_at m.lists core) seat.own effect.core.iface)
            (λ t. made_inactive t seat.own id) joint)
            ∙ ap with_tables (λ i t. ended_is true e t i))
            (settled seat at)
        by_test false e is settled = subst (IsLeft cfg change) (is ∙ ap with_tables (λ i t. ended_is false e t i)) (same_left settled)
    by_outcome (Leave esr far) is settled =
        subst (λ g. IsLeft cfg change (done cfg core (duty_of cfg core (Leave esr far) g) g)) is settled

    -- what is left is what the model says
    pub settled_left : (ended : Exit) → ended ≡ exit_of effect.outcome (lists_at m.lists core) → IsSettled cfg core ended change
        → IsLeft cfg change (done cfg core (flat_duty cfg flat core count) (flat_guests cfg flat core (flat_effect cfg flat core count)))
    settled_left ended is settled =
        subst
        (λ (e : Effect). IsLeft cfg change
        (done cfg core (duty_of cfg core e.outcome (flat_guests cfg flat core (flat_effect cfg flat core count)))
        (flat_guests cfg flat core (flat_effect cfg flat core count)))) effect_is
        (subst (λ g. IsLeft cfg change (done cfg core (duty_of cfg core effect.outcome g) g)) all_is
        (by_outcome effect.outcome by_lists_is (subst (λ x. IsSettled cfg core x change) is settled)))

    -- so the whole step is the model's
    pub settled_flat : (ended : Exit) → ended ≡ exit_of effect.outcome (lists_at m.lists core) → IsSettled cfg core ended change
        → stands_for cfg new after ≡ flat_stepped cfg flat core count
    settled_flat ended is settled = left_flat new after _ (settled_left ended is settled)

    -- and leaves what belongs together
    pub settled_tidy : (ended : Exit) → ended ≡ exit_of effect.outcome (lists_at m.lists core) → IsSettled cfg core ended change
        → Tidy cfg new after
    settled_tidy ended is settled =
        left_tidy cfg hyp new board after _ (carried_tidy cfg well_formed fits hyp m tidy seat at count listed) (settled_left ended is settled)
        (done_length cfg core (flat_guests cfg flat core (flat_effect cfg flat core count)) (flat_duty cfg flat core count))
