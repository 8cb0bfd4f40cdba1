-- What a contract sees of a `Ranges`: the class of each byte.
--
-- No clause depends on how the layers are kept: each speaks of them through `class_of_byte` alone.
use Rattle.std.specs.Prelude.{◌≡◌, ℕ, IsTrue, IsFalse, List}
use Rattle.bao_types.specs.declared.access.Class.{Class}
use Rattle.bao_types.specs.declared.range.ByteRange.{ByteRange}
use Rattle.bao_types.specs.ByteRange.{is_within}
use Rattle.region_list.specs.declared.run.Run.{Run}
use Rattle.region_list.specs.Layers.{class_in}

-- ranges with their classes, of which a later one lies over an earlier one
pub record RangesData : Type 0 where
  pub layers : List Run

-- the class of the byte at `at`
abbrev pub class_of_byte : RangesData → ℕ → Class
class_of_byte ranges at = class_in ranges.layers at

-- every byte has the class that it had
abbrev pub IsUnchanged : RangesData → RangesData → Type 0
IsUnchanged old new = (at : ℕ) → class_of_byte new at ≡ class_of_byte old at

-- each byte of `range` has the class `class`, and every other byte the class that it had
pub record IsLaidOver (old new : RangesData) (range : ByteRange) (class : Class) : Type 0 where
  pub inside : (at : ℕ) → IsTrue (is_within range at) → class_of_byte new at ≡ class
  pub outside : (at : ℕ) → IsFalse (is_within range at) → class_of_byte new at ≡ class_of_byte old at
