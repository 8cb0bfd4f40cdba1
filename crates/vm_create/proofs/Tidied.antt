-- The board after the boot is tidy: its entries are the packings, its list registers are free and no line is raised.
use Rattle.std.proofs.Common.{◌≡◌, ℕ, zero, suc, ◌+◌, false, List, [], ◌∷◌, All, length, map, replicate, Some, slice_get, refl, sym, subst, ap, ◌∙◌, arith}
use Rattle.std.specs.Prelude.{slice_index_or}
use Rattle.std.specs.List.{enumerate_from}
use Rattle.std.proofs.lemmas.List.{length-map}
use Rattle.std.proofs.lemmas.List.Elements.{All-cons, All-nil}
use Rattle.bao_types.specs.ListReg.{free_registers}
use Rattle.bao_types.specs.Shape.{ShapeData}
use Rattle.bao_types.specs.declared.shape.CorePlace.{CorePlace}
use Rattle.bao_config.specs.Data.{ConfigData, VmData}
use Rattle.bao_wellformed.specs.Map.{owner}
use Rattle.bao_wellformed.specs.WellFormed.{IsWellFormed}
use Rattle.board.specs.Machine.{Machine}
use Rattle.gic_core.specs.Lines.{LinesData, quiet_lines}
use Rattle.gic_core.specs.PortLine.{quiet_line}
use Rattle.mpu_packer.specs.declared.entries.Plan.{Plan}
use Rattle.mpu_packer.specs.Runs.{packing_of}
use Rattle.mpu_packer.proofs.Exact.{packing_is}
use Rattle.vgic_table.specs.Cores.{AreTidy}
use Rattle.vgic_table.specs.Interrupts.{quiet_interrupts, tables_of}
use Rattle.vgic_table.specs.Shape.{IsShaped}
use Rattle.vm_model.specs.Boot.{boot, boot_power, boot_powers}
use Rattle.vm_model.specs.Duty.{cores_of}
use Rattle.vm_model.specs.Guests.{boot_table}
use Rattle.vm_model.specs.Project.{is_port_raised, joined_tables, lists_of}
use Rattle.hypervisor.specs.Hyp.{boot_tables, stands_for}
use Rattle.hypervisor.specs.Packed.{all_filled, packings}
use Rattle.hypervisor.specs.Shape.{core_place, shape_of}
use Rattle.hypervisor.specs.Tidy.{AreHeld, Tidy, core_counts, quieted}
use Rattle.vm_create.specs.Boot.{ArePlans, IsFresh, IsPlanOf, booted, packings_of}
use Rattle.vm_create.proofs.Filled.{length_places}
use Rattle.vm_create.proofs.Free.{all_free, free_of, quiet_port, quiet_ports, quiet_timer}

-- the plans' entries are the packings of the cores
are_packings : (cfg : ConfigData) → IsWellFormed cfg → (counts : List ℕ) (plans : List Plan) (n : ℕ) → length plans ≡ length counts
    → ((k : ℕ) (plan : Plan) → slice_get plans k ≡ Some plan → IsPlanOf cfg (n + k) plan)
    → packings_of plans ≡ map (λ place. packing_of cfg place.0) (enumerate_from n counts)
are_packings cfg well_formed [] [] n same each = refl
are_packings cfg well_formed [] (plan ∷ plans) n same each = absurd (omega arith)
are_packings cfg well_formed (count ∷ counts) [] n same each = absurd (omega arith)
are_packings cfg well_formed (count ∷ counts) (plan ∷ plans) n same each =
    let here : n + 0 ≡ n = omega arith in
    let first = subst (λ core. IsPlanOf cfg core plan) here (each 0 plan refl) in
    ap (λ entries. entries ∷ packings_of plans) (packing_is cfg n well_formed plan first.packing)
    ∙ ap (λ packed. packing_of cfg n ∷ packed)
    (are_packings cfg well_formed counts plans (n + 1) (omega arith)
    (λ k p got. let place : n + suc k ≡ n + 1 + k = omega arith in subst (λ core. IsPlanOf cfg core p) place (each (suc k) p got)))

pub packings_are : (cfg : ConfigData) (plans : List Plan) → IsWellFormed cfg → ArePlans cfg plans → packings_of plans ≡ packings cfg
packings_are cfg plans well_formed are =
    are_packings cfg well_formed cfg.platform.cores plans 0 are.count
    (λ k plan got. let place : 0 + k ≡ k = omega arith in subst (λ core. IsPlanOf cfg core plan) (sym place) (are.each k plan got))

-- the interrupts at boot are for the cores of their VMs
counts_at_boot : (vms : List VmData) → core_counts (map (λ vm. quiet_interrupts (length vm.cores)) vms) ≡ map (λ vm. length vm.cores) vms
counts_at_boot [] = refl
counts_at_boot (vm ∷ vms) = ap (λ counts. length vm.cores ∷ counts) (counts_at_boot vms)

tables_at_boot : (vms : List VmData) (v : ℕ)
    → tables_of (map (λ vm. quiet_interrupts (length vm.cores)) vms) v ≡ boot_table (slice_get vms v)
tables_at_boot [] v = refl
tables_at_boot (vm ∷ vms) zero = refl
tables_at_boot (vm ∷ vms) (suc v) = tables_at_boot vms v

-- the list registers and the lines of a board that was just fitted
lists_fresh : (cfg : ConfigData) (old : Machine) → IsFresh cfg old → old.lists ≡ all_free (shape_of cfg old.shape.events).cores
lists_fresh cfg old fresh = ap (λ (m : Machine). m.lists) fresh

lines_fresh : (cfg : ConfigData) (old : Machine) → IsFresh cfg old → old.lines ≡ quiet_lines (shape_of cfg old.shape.events).ports
lines_fresh cfg old fresh = ap (λ (m : Machine). m.lines) fresh

-- a VM's interrupts at boot, of which none stands in list registers
joined_at_boot : (cfg : ConfigData) (places : List CorePlace) (v : ℕ)
    → joined_tables cfg (all_free places) (tables_of (boot_tables cfg)) v ≡ boot_table (slice_get cfg.vms v)
joined_at_boot cfg places v =
    (free_of places (cores_of (slice_get cfg.vms v)) 0 (tables_of (boot_tables cfg) v)).0 ∙ tables_at_boot cfg.vms v

-- what hypervisor and board stand for after the boot
pub stands_booted : (cfg : ConfigData) (images : List (List ℕ)) (plans : List Plan) (old : Machine) → IsFresh cfg old
    → stands_for cfg (record { powers = boot_powers cfg; tables = boot_tables cfg }) (booted cfg (packings_of plans) images old)
    ≡ record (boot cfg images) { ports = old.ports }
stands_booted cfg images plans old fresh =
    let model = record (boot cfg images) { ports = old.ports } in
    let shape = shape_of cfg old.shape.events in
    let tables = tables_of (boot_tables cfg) in
    ap (λ lists. record model {
      tables = joined_tables cfg lists tables;
      timer_lines = λ core. slice_index_or old.lines.ppis core false;
      port_lines = is_port_raised old.lines.ports;
    }) (lists_fresh cfg old fresh)
    ∙ ap (λ (lines : LinesData). record model {
      tables = joined_tables cfg (all_free shape.cores) tables;
      timer_lines = λ core. slice_index_or lines.ppis core false;
      port_lines = is_port_raised lines.ports;
    }) (lines_fresh cfg old fresh)
    ∙ ap (λ joined. record model {
      tables = joined;
      timer_lines = λ core. slice_index_or (replicate 8 false) core false;
      port_lines = is_port_raised (map quiet_line shape.ports);
    }) (λ i v. joined_at_boot cfg shape.cores v i)
    ∙ ap (λ timers. record model { timer_lines = timers; port_lines = is_port_raised (map quiet_line shape.ports) })
    (λ i core. quiet_timer 8 core i)
    ∙ ap (λ ports. record model { port_lines = ports }) (λ i port. quiet_port shape.ports port i)

-- each VM's table at boot has all its ids
shaped_at_boot : (vms : List VmData) → All IsShaped (map (λ vm. quiet_interrupts (length vm.cores)) vms)
shaped_at_boot [] = All-nil IsShaped
shaped_at_boot (vm ∷ vms) =
    All-cons IsShaped (quiet_interrupts (length vm.cores)) (map (λ vm. quiet_interrupts (length vm.cores)) vms) refl (shaped_at_boot vms)

-- tables and list registers hold the interrupts at boot
held_at_boot : (cfg : ConfigData) (old : Machine) → IsFresh cfg old → AreHeld cfg (boot_tables cfg) old.lists
held_at_boot cfg old fresh =
    let shape = shape_of cfg old.shape.events in
    record {
      counts = counts_at_boot cfg.vms;
      shaped = shaped_at_boot cfg.vms;
      registers = ap length (lists_fresh cfg old fresh) ∙ length-map shape.cores (λ place. free_registers)
          ∙ length_places (λ place. core_place cfg place.0 place.1) 0 cfg.platform.cores;
      fit = λ v low. subst (λ lists. AreTidy 0 (lists_of cfg lists v) (tables_of (boot_tables cfg) v)) (sym (lists_fresh cfg old fresh))
          (free_of shape.cores (cores_of (slice_get cfg.vms v)) 0 (tables_of (boot_tables cfg) v)).1;
    }

pub tidy_booted : (cfg : ConfigData) (images : List (List ℕ)) (plans : List Plan) (old : Machine) → IsFresh cfg old → IsWellFormed cfg → ArePlans cfg plans
    → Tidy cfg (record { powers = boot_powers cfg; tables = boot_tables cfg }) (booted cfg (packings_of plans) images old)
tidy_booted cfg images plans old fresh well_formed are =
    let shape = shape_of cfg old.shape.events in
    let shaped : old.shape ≡ shape = ap (λ (m : Machine). m.shape) fresh in
    record {
      fitted = ap (λ (m : Machine). m.fitted) fresh;
      shape = shaped;
      entries = ap (all_filled cfg.platform.cores) (packings_are cfg plans well_formed are);
      timer_lines = ap (λ (lines : LinesData). length lines.ppis) (lines_fresh cfg old fresh);
      port_lines = ap (λ (lines : LinesData). map quieted lines.ports) (lines_fresh cfg old fresh) ∙ quiet_ports shape.ports
          ∙ ap (λ (s : ShapeData). map quiet_line s.ports) (sym shaped);
      powers = length_places (λ place. boot_power (owner cfg place.0) place.0) 0 cfg.platform.cores;
      held = held_at_boot cfg old fresh;
    }
