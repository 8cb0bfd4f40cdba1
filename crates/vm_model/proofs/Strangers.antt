-- A step of a core of another VM, and what it brings into the VM's own run.
use Rattle.std.proofs.Common.{◌≡◌, ◌≢◌, ℕ, Bool, true, false, List, [], ◌∷◌, ◌++◌, length-set, refl, sym, ap, subst, ◌∙◌}
use Rattle.std.specs.Prelude.{IsTrue, IsFalse, ◌||◌, if◌then◌else◌, filter, Option, None, Some, slice_get}
use Rattle.std.proofs.lemmas.Bool.{eq-eqb}
use Rattle.std.proofs.lemmas.List.{get_or-set_other}
use Rattle.bao_types.specs.declared.access.Access.TheVariants.{Write}
use Rattle.a64_state.specs.Registers.{reset_core}
use Rattle.bao_config.specs.Data.{ConfigData, VmData}
use Rattle.bao_wellformed.specs.Map.{has_core, has_port}
use Rattle.bao_wellformed.specs.Map.{by_map}
use Rattle.board.specs.Stage.{by_regions, is_allowed}
use Rattle.board.specs.Ports.{all_accessed, raises_line}
use Rattle.board.specs.Interrupts.{core_after}
use Rattle.board.specs.Reached.{ReachesPort}
use Rattle.board.specs.Machine.{core_at, written}
use Rattle.shared_windows.specs.Windows.{lists}
use Rattle.vm_model.specs.Cores.{is_place, place_of}
use Rattle.vm_model.specs.Interrupts.{best_of, table_after, virtual_number}
use Rattle.vm_model.specs.Duty.{done, ring_of, rung}
use Rattle.vm_model.specs.Flat.{Flat, Step, Rang, runs, platform_places, flat_moment, flat_effect, flat_duty, flat_guests, flat_ready, flat_stepped, flat_step, flat_run}
use Rattle.vm_model.specs.Lone.{is_core_of, is_in_window, as_event, as_ring, stored, rings, emitted}
use Rattle.vm_model.specs.Agree.{IsInMap, Agree}
use Rattle.vm_model.specs.Apart.{IsApart}
use Rattle.board.proofs.Reached.{accesses_leave, lines_leave, stored_by_second, touched_by_second}
use Rattle.vm_model.proofs.Duties.{single, SameGuests, done_foreign, heard}
use Rattle.vm_model.proofs.Lists.{placed_got}
use Rattle.vm_model.proofs.Ready.{stranger_ready}
use Rattle.vm_model.proofs.Stores.{kept_alike}

-- writes and a ring that are events, or none
module _ (cfg : ConfigData) (v : ℕ) (vm : VmData) (g : Flat) where
  after_ring : (ring : Option (ℕ × ℕ)) (g : Flat)
      → flat_run (single cfg vm) g (as_ring cfg v ring) ≡ record g { tables = heard cfg v vm ring g.tables }
  after_ring None g = refl
  after_ring (Some (shmem, event)) g = by_lists (lists cfg v shmem)
    where
      by_lists : (b : Bool)
          → flat_run (single cfg vm) g (if b then Rang shmem event ∷ [] else [])
          ≡ record g { tables = if b then rung (single cfg vm) (λ w. lists (single cfg vm) w shmem) shmem event g.tables else g.tables }
      by_lists true = refl
      by_lists false = refl

  after_events : (stores : List (ℕ × ℕ)) (ring : Option (ℕ × ℕ))
      → flat_run (single cfg vm) g (as_event stores ++ as_ring cfg v ring)
      ≡ record g { bytes = written stores g.bytes; tables = heard cfg v vm ring g.tables }
  after_events [] ring = after_ring ring g
  after_events (store ∷ stores) ring = after_ring ring (record g { bytes = written (store ∷ stores) g.bytes })

module _ (cfg : ConfigData) (images : List (List ℕ)) (v : ℕ) (vm : VmData) (apart : IsApart cfg images v vm)
    (core now : ℕ) (stranger : IsFalse (is_core_of cfg v core)) (f g : Flat) (agree : Agree cfg v vm f g) where
  window : ℕ → Bool
  window at = is_in_window cfg (slice_get cfg.vms v) at

  seen_stores : List (ℕ × ℕ)
  seen_stores = filter (λ store. is_in_window cfg (slice_get cfg.vms v) store.0) (flat_effect cfg f core now).stored

  other_core : (c : ℕ) → IsTrue (has_core c vm) → c ≢ core
  other_core c has same =
      let clash : true ≡ false = sym (apart.cores c has) ∙ ap (is_core_of cfg v) same ∙ stranger in cc

  -- the core isn't in the VM's list
  foreign : (b : Bool) → has_core core vm ≡ b → IsFalse b
  foreign true e = let clash : true ≡ false = sym (apart.cores core e) ∙ stranger in cc
  foreign false e = refl

  elsewhere : (w : ℕ) → place_of cfg core ≡ Some w → w ≢ v
  elsewhere w there same =
      let clash : true ≡ false = sym (ap (is_place v) there ∙ eq-eqb w v same) ∙ stranger in cc

  byte_alike : (at : ℕ) → IsInMap cfg vm at → written (flat_effect cfg f core now).stored f.bytes at ≡ written seen_stores g.bytes at
  unfolding seen_stores
  byte_alike at in_map =
      kept_alike (λ a. is_allowed (by_map cfg core Write a)) (λ a. is_in_window cfg (slice_get cfg.vms v) a) at
      (λ place may here.
      ap (λ o. is_in_window cfg o place) apart.place
      ∙ apart.stores core place stranger may (subst (IsInMap cfg vm) here in_map))
      (flat_effect cfg f core now).stored f.bytes g.bytes
      (stored_by_second (by_regions (core_at f.cores core)) (by_map cfg core) (platform_places cfg) f.ports f.bytes (core_at f.cores core) (flat_moment cfg f core now))
      (agree.bytes at in_map)

  -- its ports are none that the other reaches
  port_alike : (port : ℕ) → IsTrue (has_port port vm)
      → all_accessed (flat_effect cfg f core now).touched f.ports port ≡ g.ports port
  port_alike port has =
      accesses_leave (ReachesPort (by_map cfg core) (platform_places cfg)) port
      (λ reached. let clash : true ≡ false = sym has ∙ apart.other_ports core port stranger reached in cc)
      (flat_effect cfg f core now).touched f.ports
      (touched_by_second (by_regions (core_at f.cores core)) (by_map cfg core) (platform_places cfg) f.ports f.bytes (core_at f.cores core) (flat_moment cfg f core now))
      ∙ agree.ports port has

  -- nor does it raise a line of them
  line_alike : (port : ℕ) → IsTrue (has_port port vm)
      → (f.port_lines port || raises_line (flat_effect cfg f core now).touched f.ports port) ≡ g.port_lines port
  line_alike port has =
      ap (λ raised. f.port_lines port || raised)
      (lines_leave (ReachesPort (by_map cfg core) (platform_places cfg)) port
      (λ reached. let clash : true ≡ false = sym has ∙ apart.other_ports core port stranger reached in cc)
      (flat_effect cfg f core now).touched f.ports
      (touched_by_second (by_regions (core_at f.cores core)) (by_map cfg core) (platform_places cfg) f.ports f.bytes (core_at f.cores core)
      (flat_moment cfg f core now)))
      ∙ no_more (f.port_lines port) ∙ agree.port_lines port has
    where
      no_more : (b : Bool) → (b || false) ≡ b
      no_more true = refl
      no_more false = refl

  ring : Option (ℕ × ℕ)
  ring = ring_of (flat_duty cfg f core now)

  -- the step leaves the VM's part as it was
  guests_alike : SameGuests v vm (flat_guests cfg f core (flat_effect cfg f core now))
      (record { cores = g.cores; powers = g.powers; tables = g.tables })
  guests_alike = record {
    cores = λ c has.
        get_or-set_other f.cores core c (core_after (flat_effect cfg f core now) (best_of cfg f.tables core)) (reset_core 0)
        (other_core c has)
        ∙ agree.cores c has;
    powers = agree.powers;
    core_count = length-set f.cores core (core_after (flat_effect cfg f core now) (best_of cfg f.tables core)) ∙ agree.core_count;
    table =
        ap (λ b. if b then table_after (flat_effect cfg f core now).outcome (virtual_number cfg core) (flat_effect cfg f core now).core.iface (f.tables v)
        else f.tables v) stranger
        ∙ agree.table;
  }

  left_alike : SameGuests v vm
      (done cfg core (flat_duty cfg f core now) (flat_guests cfg f core (flat_effect cfg f core now)))
      (record { cores = g.cores; powers = g.powers; tables = heard cfg v vm ring g.tables })
  unfolding ring
  left_alike =
      done_foreign cfg v vm apart.place core (foreign (has_core core vm) refl) elsewhere apart.other_cores
      (λ w there. let at = placed_got (has_core core) cfg.vms w there in (at.0, at.1))
      (flat_effect cfg f core now).outcome (flat_guests cfg f core (flat_effect cfg f core now))
      (record { cores = g.cores; powers = g.powers; tables = g.tables }) guests_alike

  stepped_alike : Agree cfg v vm (flat_stepped cfg f core now)
      (record g { bytes = written seen_stores g.bytes; tables = heard cfg v vm ring g.tables })
  stepped_alike = record {
    bytes = byte_alike;
    cores = left_alike.cores;
    powers = left_alike.powers;
    core_count = left_alike.core_count;
    table = left_alike.table;
    ports = port_alike;
    timer_lines = agree.timer_lines;
    port_lines = line_alike;
  }

  pub stranger_stepped : Agree cfg v vm (flat_stepped cfg f core now)
      (flat_run (single cfg vm) g
      (as_event (filter (λ store. is_in_window cfg (slice_get cfg.vms v) store.0) (flat_effect cfg f core now).stored)
      ++ as_ring cfg v (ring_of (flat_duty cfg f core now))))
  unfolding seen_stores ring
  stranger_stepped = subst (Agree cfg v vm (flat_stepped cfg f core now)) (sym (after_events cfg v vm g seen_stores ring)) stepped_alike

module _ (cfg : ConfigData) (images : List (List ℕ)) (v : ℕ) (vm : VmData) (apart : IsApart cfg images v vm)
    (core now : ℕ) (stranger : IsFalse (is_core_of cfg v core)) (f g : Flat) (agree : Agree cfg v vm f g) where
  by_runs : (r : Bool)
      → Agree cfg v vm (if r then flat_stepped cfg (flat_ready cfg f core now) core now else f)
      (flat_run (single cfg vm) g
      (if r then as_event (filter (λ store. is_in_window cfg (slice_get cfg.vms v) store.0) (stored cfg f core now))
      ++ as_ring cfg v (rings cfg f core now) else []))
  by_runs true =
      stranger_stepped cfg images v vm apart core now stranger (flat_ready cfg f core now) g
      (stranger_ready cfg images v vm apart core stranger f g agree now)
  by_runs false = agree

  pub stranger_step : Agree cfg v vm (flat_step cfg f (Step core now)) (flat_run (single cfg vm) g (emitted cfg f v (Step core now)))
  stranger_step = by_runs (runs cfg f core)
