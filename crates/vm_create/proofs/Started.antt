-- The cores while they are started: the first of each VM begins, and all others stay reset.
use Rattle.std.proofs.Common.{◌≡◌, ℕ, zero, suc, ◌<◌, List, map, set, get_or, slice_get, length, Option, None, Some, unwrap_or, refl, sym, ap, ◌∙◌}
use Rattle.std.specs.List.{enumerate_from}
use Rattle.std.proofs.lemmas.Option.{get_or_from_slice_get, slice_get-get_or, slice_get_within}
use Rattle.a64_state.specs.Core.{CoreData}
use Rattle.a64_state.specs.Registers.{reset_core}
use Rattle.bao_types.specs.Shape.{ShapeData}
use Rattle.bao_config.specs.Data.{ConfigData, VmData}
use Rattle.bao_wellformed.specs.Map.{owner}
use Rattle.bao_wellformed.proofs.Empty.{indexed_got, map_got}
use Rattle.board.specs.Machine.{Machine, core_started}
use Rattle.vm_model.specs.Boot.{boot_core, boot_cores, core_of_vm}
use Rattle.vm_model.specs.Cores.{affinity_of, virtual_core}
use Rattle.vm_create.specs.Boot.{start_of, start_of_vm}
use Rattle.hypervisor.specs.Shape.{core_place, shape_of}
use Rattle.vm_create.proofs.Filled.{length_places}
use Rattle.vm_create.proofs.Mixed.{mixed, mixed_same, mixed_set}

-- a reset core that begins at pc with 0 in X0
abbrev begun : ℕ → ℕ → CoreData
begun affinity pc = let fresh = reset_core affinity in record fresh { x = set fresh.x 0 0; pc = pc }

begun_vm : (vm : VmData) (v : Option ℕ) (pc : ℕ) → start_of_vm vm v ≡ Some pc → begun (unwrap_or v 0) pc ≡ core_of_vm vm v
begun_vm vm None pc e = cc
begun_vm vm (Some zero) pc e = let same : vm.start ≡ pc = cc in ap (begun 0) (sym same)
begun_vm vm (Some (suc j)) pc e = cc

begun_core : (o : Option VmData) (core pc : ℕ) → start_of o core ≡ Some pc → begun (affinity_of o core) pc ≡ boot_core o core
begun_core None core pc e = cc
begun_core (Some vm) core pc e = begun_vm vm (virtual_core vm core) pc e

waiting_vm : (vm : VmData) (v : Option ℕ) → start_of_vm vm v ≡ None → core_of_vm vm v ≡ reset_core (unwrap_or v 0)
waiting_vm vm None e = refl
waiting_vm vm (Some zero) e = cc
waiting_vm vm (Some (suc j)) e = refl

waiting_core : (o : Option VmData) (core : ℕ) → start_of o core ≡ None → boot_core o core ≡ reset_core (affinity_of o core)
waiting_core None core e = refl
waiting_core (Some vm) core e = waiting_vm vm (virtual_core vm core) e

abbrev pub with_cores : Machine → List CoreData → Machine
with_cores m cores = record m { cores = cores }

module _ (cfg : ConfigData) (events : ℕ) (shape : ShapeData) (is_shape : shape ≡ shape_of cfg events) where
  pub length_cores : length shape.cores ≡ length cfg.platform.cores
  length_cores = ap (λ (shape : ShapeData). length shape.cores) is_shape ∙ length_places (λ place. core_place cfg place.0 place.1) 0 cfg.platform.cores

  module _ (core : ℕ) (low : core < length cfg.platform.cores) where
    place_got : slice_get shape.cores core ≡ Some (core_place cfg core (get_or cfg.platform.cores core 0))
    place_got =
        ap (λ (shape : ShapeData). slice_get shape.cores core) is_shape
        ∙ map_got (λ place. core_place cfg place.0 place.1) (enumerate_from 0 cfg.platform.cores) core (core, get_or cfg.platform.cores core 0)
        (indexed_got core cfg.platform.cores (get_or cfg.platform.cores core 0) (slice_get-get_or cfg.platform.cores core 0 low))

    boot_got : slice_get (boot_cores cfg) core ≡ Some (boot_core (owner cfg core) core)
    boot_got =
        map_got (λ place. boot_core (owner cfg place.0) place.0) (enumerate_from 0 cfg.platform.cores) core (core, get_or cfg.platform.cores core 0)
        (indexed_got core cfg.platform.cores (get_or cfg.platform.cores core 0) (slice_get-get_or cfg.platform.cores core 0 low))

    is_started : (pc : ℕ) → start_of (owner cfg core) core ≡ Some pc → core_started shape core pc 0 ≡ boot_core (owner cfg core) core
    is_started pc begins =
        ap (λ place. begun place.affinity pc)
        (get_or_from_slice_get shape.cores core (core_place cfg core (get_or cfg.platform.cores core 0)) (record { entries = 0; affinity = 0 }) place_got)
        ∙ begun_core (owner cfg core) core pc begins

    module _ (before : List CoreData) (reset : before ≡ map (λ place. reset_core place.affinity) shape.cores) where
      reset_got : slice_get before core ≡ Some (reset_core (affinity_of (owner cfg core) core))
      reset_got =
          ap (λ cores. slice_get cores core) reset
          ∙ map_got (λ place. reset_core place.affinity) shape.cores core (core_place cfg core (get_or cfg.platform.cores core 0)) place_got

      pub starts : (cores : List CoreData) (next pc : ℕ) → start_of (owner cfg core) core ≡ Some pc → next ≡ suc core
          → cores ≡ mixed core (boot_cores cfg) before → set cores core (core_started shape core pc 0) ≡ mixed next (boot_cores cfg) before
      starts cores next pc begins step is =
          ap (λ started. set cores core started) (is_started pc begins)
          ∙ ap (λ all. set all core (boot_core (owner cfg core) core)) is
          ∙ mixed_set (boot_cores cfg) before core (boot_core (owner cfg core) core) boot_got (slice_get_within before core _ reset_got)
          ∙ ap (λ i. mixed i (boot_cores cfg) before) (sym step)

      pub waits : (next : ℕ) → start_of (owner cfg core) core ≡ None → next ≡ suc core → mixed core (boot_cores cfg) before ≡ mixed next (boot_cores cfg) before
      waits next idle step =
          mixed_same (boot_cores cfg) before core (reset_core (affinity_of (owner cfg core) core))
          (boot_got ∙ ap Some (waiting_core (owner cfg core) core idle)) reset_got
          ∙ ap (λ i. mixed i (boot_cores cfg) before) (sym step)
