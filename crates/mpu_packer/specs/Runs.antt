-- The maximal runs of a core's bytes as a list: from the last byte down, each byte that isn't of class Nothing joins the run
-- that begins right after it, if that has its class, and else is a run of its own.
use Rattle.std.specs.Prelude.{ℕ, zero, suc, ◌+◌, ◌==◌, ◌&&◌, Bool, true, false, not, if◌then◌else◌, List, [], ◌∷◌, map}
use Rattle.bao_types.specs.declared.access.Class.{Class}
use Rattle.bao_types.specs.declared.access.Class.TheVariants.{Nothing, Hyp, Guest}
use Rattle.bao_types.specs.declared.region.Region.{Region}
use Rattle.bao_types.specs.ByteRange.{address_space_end}
use Rattle.bao_config.specs.Data.{ConfigData}
use Rattle.bao_wellformed.specs.Map.{class_of}
use Rattle.region_list.specs.declared.run.Run.{Run}
use Rattle.mpu_packer.specs.Packing.{entry_of}

abbrev pub is_bit : Bool → Bool → Bool
is_bit true bit = bit
is_bit false bit = not bit

abbrev pub is_class : Class → Class → Bool
is_class Nothing Nothing = true
is_class Nothing Hyp = false
is_class Nothing (Guest write exec port) = false
is_class Hyp Nothing = false
is_class Hyp Hyp = true
is_class Hyp (Guest write exec port) = false
is_class (Guest write exec port) Nothing = false
is_class (Guest write exec port) Hyp = false
is_class (Guest write exec port) (Guest writes executes ports) = is_bit write writes && (is_bit exec executes && is_bit port ports)

abbrev pub run_of : ℕ → ℕ → Class → Run
run_of base size class = record { range = record { base = base; size = size }; class = class }

-- the byte in front of these runs
abbrev pub with_front : ℕ → Class → List Run → List Run
with_front at class [] = run_of at 1 class ∷ []
with_front at class (run ∷ runs) =
    if run.range.base == at + 1 && is_class run.class class then run_of at (1 + run.range.size) class ∷ runs
    else run_of at 1 class ∷ run ∷ runs

abbrev pub in_front : ℕ → Class → List Run → List Run
in_front at Nothing runs = runs
in_front at Hyp runs = with_front at Hyp runs
in_front at (Guest write exec port) runs = with_front at (Guest write exec port) runs

-- the runs of this many bytes from one on
unfoldable pub runs_from : (ℕ → Class) → ℕ → ℕ → List Run
runs_from classes at zero = []
runs_from classes at (suc count) = in_front at (classes at) (runs_from classes (at + 1) count)

-- of the whole address space
unfoldable pub all_runs : (ℕ → Class) → List Run
all_runs classes = runs_from classes 0 address_space_end

-- of a core, and its packing: an entry for each
abbrev pub core_runs : ConfigData → ℕ → List Run
core_runs cfg core = all_runs (class_of cfg core)

abbrev pub packing_of : ConfigData → ℕ → List Region
packing_of cfg core = map entry_of (core_runs cfg core)
