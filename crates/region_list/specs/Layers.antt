-- The class of a byte by ranges that are laid over one another.
use Rattle.std.specs.Prelude.{ℕ, ◌≤◌, if◌then◌else◌, List, fold, All}
use Rattle.bao_types.specs.declared.access.Class.{Class}
use Rattle.bao_types.specs.declared.access.Class.TheVariants.{Nothing}
use Rattle.bao_types.specs.declared.range.ByteRange.{ByteRange}
use Rattle.bao_types.specs.ByteRange.{address_space_end, end, is_within}
use Rattle.region_list.specs.declared.run.Run.{Run}

-- the class of the byte at `at`, where it has the class `below` under `layer`
abbrev pub class_over : ℕ → Class → Run → Class
class_over at below layer = if is_within layer.range at then layer.class else below

-- the class of the byte at `at` under these layers, of which a later one lies over an earlier one
abbrev pub class_in : List Run → ℕ → Class
class_in layers at = fold (class_over at) Nothing layers

-- the range ends in the address space of 2^48 bytes
abbrev pub IsInSpace : ByteRange → Type 0
IsInSpace range = end range ≤ address_space_end

-- each range ends in the address space
abbrev pub AreInSpace : List Run → Type 0
AreInSpace runs = All (λ run. IsInSpace run.range) runs
