-- A step of a core of the VM does the same in both.
use Rattle.std.proofs.Common.{◌≡◌, ℕ, Bool, true, false, length-set, refl, sym, ap, subst, ◌∙◌, inl, inr}
use Rattle.std.specs.Prelude.{IsTrue, ◌&&◌, ◌||◌, ◌⊎◌, if◌then◌else◌, Some, is_some, slice_get, slice_set}
use Rattle.bao_types.specs.declared.access.Access.{Access}
use Rattle.bao_types.specs.declared.access.Access.TheVariants.{Read, Write, Exec}
use Rattle.bao_types.specs.declared.access.Class.TheVariants.{Hyp}
use Rattle.a64_state.specs.Registers.{reset_core}
use Rattle.bao_config.specs.Data.{ConfigData, VmData}
use Rattle.bao_types.specs.ByteRange.{is_within}
use Rattle.bao_wellformed.specs.declared.map.Kind.{Kind}
use Rattle.bao_wellformed.specs.declared.map.Kind.TheVariants.{Ram, Port, Window, Hole}
use Rattle.bao_wellformed.specs.Map.{kind_at, grant, guest_class, has_core, has_port, owner}
use Rattle.bao_wellformed.specs.Map.{verdict_of, by_map}
use Rattle.board.specs.Stage.{Stage, both, by_regions, is_allowed}
use Rattle.a64_state.specs.Core.{CoreData}
use Rattle.vgic_iface.specs.Interface.{signalled}
use Rattle.vgic_table.specs.Interrupts.{best}
use Rattle.board.specs.Ports.{all_accessed, raises_line}
use Rattle.board.specs.Judge.{reach_of}
use Rattle.board.specs.Attempt.{Effect, step_effect}
use Rattle.board.specs.Interrupts.{core_after}
use Rattle.board.specs.Machine.{core_at, written}
use Rattle.vm_model.specs.Cores.{affinity_of, place_of}
use Rattle.vm_model.specs.Interrupts.{best_of, table_after, table_at, virtual_number}
use Rattle.vm_model.specs.Flat.{Flat, Step, is_on, runs, platform_places, flat_reach, flat_moment, flat_effect, flat_duty, flat_guests, flat_ready, flat_stepped, flat_step}
use Rattle.vm_model.specs.Duty.{done, duty_of}
use Rattle.vm_model.specs.Lone.{is_core_of}
use Rattle.board.specs.Reached.{ReachesPort}
use Rattle.board.proofs.Reached.{allowed_by_second, lines_alike, observes_nothing_else, port_by_second, touched_by_second}
use Rattle.vm_model.specs.Agree.{is_present, IsInMap, Agree}
use Rattle.vm_model.proofs.Duties.{single, SameGuests, at_place, done_alike}
use Rattle.vm_model.proofs.Lists.{first_by_place, set_alike}
use Rattle.vm_model.proofs.Ports.{accesses_alike}
use Rattle.vm_model.proofs.Ready.{own_ready, table_alike}
use Rattle.vm_model.proofs.Stores.{written_alike}

-- a byte that is reached is in the map
pub present_of : (hyp : Bool) (kind : Kind) (access : Access)
    → IsTrue (is_allowed (verdict_of (if hyp then Hyp else grant kind) access)) → IsTrue (is_present kind)
present_of true kind Read h = cc
present_of true kind Write h = cc
present_of true kind Exec h = cc
present_of false (Ram write exec) access h = refl
present_of false (Port id) access h = refl
present_of false (Window shmem write) access h = refl
present_of false Hole access h = cc

pub first_of : (b c : Bool) → IsTrue (b && c) → IsTrue b
first_of true c h = refl
first_of false c h = cc

module _ (cfg : ConfigData) (v : ℕ) (vm : VmData) (place : slice_get cfg.vms v ≡ Some vm) (core : ℕ) (own : IsTrue (is_core_of cfg v core)) where
  pub owned : (owner cfg core ≡ Some vm) × IsTrue (has_core core vm)
  owned = first_by_place (has_core core) cfg.vms v vm place own

  pub owned_alone : owner (single cfg vm) core ≡ Some vm
  owned_alone = let has = owned.1 in rw has refl

  place_alone : place_of (single cfg vm) core ≡ Some 0
  place_alone = let has = owned.1 in rw has refl

  pub map_alike : by_map cfg core ≡ by_map (single cfg vm) core
  unfolding by_map
  map_alike =
      ap (λ o. λ access at. verdict_of (if is_within cfg.hyp at then Hyp else guest_class cfg o at) access)
      (owned.0 ∙ sym owned_alone)

  pub allowed_in_map : (access : Access) (at : ℕ) → IsTrue (is_allowed (by_map cfg core access at)) → IsInMap cfg vm at
  unfolding by_map
  allowed_in_map access at h =
      present_of (is_within cfg.hyp at) (kind_at cfg vm at) access
      (subst
      (λ o. IsTrue (is_allowed (verdict_of (if is_within cfg.hyp at then Hyp else guest_class cfg o at) access))) owned.0 h)

  -- what both stages let the core read or execute
  seen_in_map : (one : Stage) (at : ℕ)
      → IsTrue (is_allowed (both one (by_map cfg core) Read at)) ⊎ IsTrue (is_allowed (both one (by_map cfg core) Exec at))
      → IsInMap cfg vm at
  seen_in_map one at (inl h) = allowed_in_map Read at (allowed_by_second one (by_map cfg core) Read at h)
  seen_in_map one at (inr h) = allowed_in_map Exec at (allowed_by_second one (by_map cfg core) Exec at h)

  module _ (own_cores : (c : ℕ) → IsTrue (has_core c vm) → IsTrue (is_core_of cfg v c))
      (own_ports : (port : ℕ) → ReachesPort (by_map cfg core) (platform_places cfg) port → IsTrue (has_port port vm))
      (f g : Flat) (agree : Agree cfg v vm f g) (now : ℕ) where
    pub runs_alike : runs cfg f core ≡ runs (single cfg vm) g core
    runs_alike =
        ap (λ o. is_some o && is_on (slice_get f.powers core)) (owned.0 ∙ sym owned_alone)
        ∙ ap (λ p. is_some (owner (single cfg vm) core) && is_on p) (agree.powers core owned.1)

    best_alike : best_of cfg f.tables core ≡ best_of (single cfg vm) g.tables core
    best_alike =
        ap (λ o. best (table_at f.tables o) (virtual_number cfg core)) (at_place v (place_of cfg core) own)
        ∙ ap (λ t. best t (virtual_number cfg core)) agree.table
        ∙ ap (λ o. best (g.tables 0) (affinity_of o core)) (owned.0 ∙ sym owned_alone)
        ∙ sym (ap (λ o. best (table_at g.tables o) (virtual_number (single cfg vm) core)) place_alone)

    moment_alike : flat_moment cfg f core now ≡ flat_moment (single cfg vm) g core now
    moment_alike =
        ap (λ (c : CoreData). record { count = now; signal = signalled c.iface (best_of cfg f.tables core) }) (agree.cores core owned.1)
        ∙ ap (λ rank. record { count = now; signal = signalled (core_at g.cores core).iface rank }) best_alike

    effect_alike : flat_effect cfg f core now ≡ flat_effect (single cfg vm) g core now
    effect_alike =
        let one = by_regions (core_at g.cores core) in let places = platform_places cfg in
        ap (λ m. step_effect (flat_reach cfg f core) (core_at f.cores core) m) moment_alike
        ∙ ap (λ c. step_effect (reach_of (by_regions c) (by_map cfg core) places f.ports f.bytes) c (flat_moment (single cfg vm) g core now))
        (agree.cores core owned.1)
        ∙ observes_nothing_else one (by_map cfg core) places f.ports g.ports f.bytes g.bytes (core_at g.cores core)
        (flat_moment (single cfg vm) g core now)
        (λ port reached. agree.ports port (own_ports port (port_by_second one (by_map cfg core) places port reached)))
        (λ at h. agree.bytes at (seen_in_map one at h))
        ∙ ap (λ two. step_effect (reach_of one two places g.ports g.bytes) (core_at g.cores core) (flat_moment (single cfg vm) g core now))
        map_alike

    core_alike : core_after (flat_effect cfg f core now) (best_of cfg f.tables core)
        ≡ core_after (flat_effect (single cfg vm) g core now) (best_of (single cfg vm) g.tables core)
    core_alike =
        ap (λ e. core_after e (best_of cfg f.tables core)) effect_alike
        ∙ ap (core_after (flat_effect (single cfg vm) g core now)) best_alike

    -- what the step makes of the VM's interrupts
    change_alike : table_after (flat_effect cfg f core now).outcome (virtual_number cfg core) (flat_effect cfg f core now).core.iface
        ≡ table_after (flat_effect (single cfg vm) g core now).outcome (virtual_number (single cfg vm) core)
        (flat_effect (single cfg vm) g core now).core.iface
    change_alike =
        ap (λ (e : Effect). table_after e.outcome (virtual_number cfg core) e.core.iface) effect_alike
        ∙ ap (λ o. table_after (flat_effect (single cfg vm) g core now).outcome (affinity_of o core)
        (flat_effect (single cfg vm) g core now).core.iface) (owned.0 ∙ sym owned_alone)

    -- the step leaves the same to the hypervisor
    guests_alike : SameGuests v vm (flat_guests cfg f core (flat_effect cfg f core now))
        (flat_guests (single cfg vm) g core (flat_effect (single cfg vm) g core now))
    guests_alike = record {
      cores = λ c has.
          set_alike f.cores g.cores core c (core_after (flat_effect cfg f core now) (best_of cfg f.tables core)) (reset_core 0)
          agree.core_count (agree.cores c has)
          ∙ ap (λ x. core_at (slice_set g.cores core x) c) core_alike;
      powers = agree.powers;
      core_count =
          length-set f.cores core (core_after (flat_effect cfg f core now) (best_of cfg f.tables core)) ∙ agree.core_count
          ∙ sym (length-set g.cores core (core_after (flat_effect (single cfg vm) g core now) (best_of (single cfg vm) g.tables core)));
      table =
          table_alike v (place_of cfg core) (place_of (single cfg vm) core) (at_place v (place_of cfg core) own) place_alone _ _ change_alike
          f.tables g.tables agree.table;
    }

    left_alike : SameGuests v vm
        (done cfg core (flat_duty cfg f core now) (flat_guests cfg f core (flat_effect cfg f core now)))
        (done (single cfg vm) core (flat_duty (single cfg vm) g core now)
        (flat_guests (single cfg vm) g core (flat_effect (single cfg vm) g core now)))
    left_alike =
        let before = flat_guests (single cfg vm) g core (flat_effect (single cfg vm) g core now) in
        subst (λ o. SameGuests v vm
        (done cfg core (flat_duty cfg f core now) (flat_guests cfg f core (flat_effect cfg f core now)))
        (done (single cfg vm) core (duty_of (single cfg vm) core o before) before)) (ap (λ e. e.outcome) effect_alike)
        (done_alike cfg v vm place (λ c has. at_place v (place_of cfg c) (own_cores c has))
        (λ c has. (first_by_place (has_core c) cfg.vms v vm place (own_cores c has)).0) core owned.1
        (flat_effect cfg f core now).outcome _ _ guests_alike)

    line_alike : (port : ℕ) → raises_line (flat_effect cfg f core now).touched f.ports port
        ≡ raises_line (flat_effect (single cfg vm) g core now).touched g.ports port
    line_alike port =
        lines_alike (ReachesPort (by_map cfg core) (platform_places cfg)) (flat_effect cfg f core now).touched f.ports g.ports
        (touched_by_second (by_regions (core_at f.cores core)) (by_map cfg core) (platform_places cfg) f.ports f.bytes (core_at f.cores core)
        (flat_moment cfg f core now))
        (λ touched reached. agree.ports touched (own_ports touched reached)) port
        ∙ ap (λ (e : Effect). raises_line e.touched g.ports port) effect_alike

    pub stepped_alike : Agree cfg v vm (flat_stepped cfg f core now) (flat_stepped (single cfg vm) g core now)
    stepped_alike =
        let a = effect_alike in
        record {
          bytes = λ at in_map.
              written_alike (flat_effect cfg f core now).stored f.bytes g.bytes at (agree.bytes at in_map)
              ∙ ap (λ e. written e.stored g.bytes at) a;
          cores = left_alike.cores;
          powers = left_alike.powers;
          core_count = left_alike.core_count;
          table = left_alike.table;
          ports = λ port has.
              accesses_alike (flat_effect cfg f core now).touched f.ports g.ports port (agree.ports port has)
              ∙ ap (λ e. all_accessed e.touched g.ports port) a;
          timer_lines = agree.timer_lines;
          port_lines = λ port has.
              ap (λ raised. raised || raises_line (flat_effect cfg f core now).touched f.ports port) (agree.port_lines port has)
              ∙ ap (λ raised. g.port_lines port || raised) (line_alike port);
        }

  module _ (own_cores : (c : ℕ) → IsTrue (has_core c vm) → IsTrue (is_core_of cfg v c))
      (own_ports : (port : ℕ) → ReachesPort (by_map cfg core) (platform_places cfg) port → IsTrue (has_port port vm))
      (f g : Flat) (agree : Agree cfg v vm f g) (now : ℕ) where
    by_runs : (r s : Bool) → r ≡ s
        → Agree cfg v vm (if r then flat_stepped cfg (flat_ready cfg f core now) core now else f)
        (if s then flat_stepped (single cfg vm) (flat_ready (single cfg vm) g core now) core now else g)
    by_runs true true e =
        stepped_alike own_cores own_ports (flat_ready cfg f core now) (flat_ready (single cfg vm) g core now)
        (own_ready cfg v vm place core own f g agree now) now
    by_runs false false e = agree
    by_runs true false e = cc
    by_runs false true e = cc

    pub own_step : Agree cfg v vm (flat_step cfg f (Step core now)) (flat_step (single cfg vm) g (Step core now))
    own_step = by_runs (runs cfg f core) (runs (single cfg vm) g core) (runs_alike own_cores own_ports f g agree now)
