-- What a contract sees of a packing: the entries of a core's runs, and what they do for each byte.
--
-- AP, XN and the attribute index of an entry follow the class of its bytes: AP 0 is for EL2 alone, 1 admits guests to read and
-- write, 3 to read; attribute 1 is that of device ports.
use Rattle.std.specs.Prelude.{◌≡◌, ℕ, ◌+◌, ◌-◌, ◌*◌, if◌then◌else◌, List, [], ◌∷◌, length, filter}
use Rattle.bao_types.specs.declared.access.Class.{Class}
use Rattle.bao_types.specs.declared.access.Class.TheVariants.{Nothing, Hyp, Guest}
use Rattle.bao_types.specs.declared.region.Region.{Region}
use Rattle.bao_types.specs.ByteRange.{end}
use Rattle.bao_types.specs.Region.{access_permission, attribute_index, granule, is_enabled, matching_regions, shareability}
use Rattle.bao_types.specs.Bits.{field}
use Rattle.region_list.specs.declared.run.Run.{Run}

-- AP, XN and the attribute index for a class
abbrev pub permission_of : Class → ℕ
permission_of Nothing = 0
permission_of Hyp = 0
permission_of (Guest write exec port) = if write then 1 else 3

abbrev pub execute_never_of : Class → ℕ
execute_never_of Nothing = 1
execute_never_of Hyp = 1
execute_never_of (Guest write exec port) = if exec then 0 else 1

abbrev pub attribute_of : Class → ℕ
attribute_of Nothing = 0
attribute_of Hyp = 0
attribute_of (Guest write exec port) = if port then 1 else 0

-- the entry of a run: BASE is its first granule and LIMIT its last
abbrev pub entry_of : Run → Region
entry_of run =
    record {
      base = run.range.base + 4 * permission_of run.class + 2 * execute_never_of run.class;
      limit = end run.range - granule + 2 * attribute_of run.class + 1;
    }

-- the bits of an entry besides BASE and LIMIT are those for the class
pub record HasBits (entry : Region) (class : Class) : Type 0 where
  pub permission : access_permission entry ≡ permission_of class
  pub execute_never : field entry.base 1 1 ≡ execute_never_of class
  pub attribute : attribute_index entry ≡ attribute_of class
  pub shareability : shareability entry ≡ 0
  pub non_secure : field entry.limit 4 4 ≡ 0

-- of the enabled entries that contain a byte: none for a byte of class Nothing, else one, with the bits of the class
abbrev pub IsRealised : Class → List Region → Type 0
IsRealised Nothing matching = matching ≡ []
IsRealised Hyp matching = (entry : Region) × (matching ≡ entry ∷ []) × HasBits entry Hyp
IsRealised (Guest write exec port) matching = (entry : Region) × (matching ≡ entry ∷ []) × HasBits entry (Guest write exec port)

-- the entries give each byte as its class says
abbrev pub Realises : List Region → (ℕ → Class) → Type 0
Realises entries class_of = (at : ℕ) → IsRealised (class_of at) (matching_regions entries at)

-- how many entries of a list count
abbrev pub enabled_count : List Region → ℕ
enabled_count entries = length (filter is_enabled entries)
