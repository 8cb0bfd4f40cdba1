-- The bits of the base and the limit register of a protection region (PMSAv8-64, with this project's layout).
use Rattle.std.specs.Prelude.{◌≡◌, ◌==◌, ℕ, ◌+◌, ◌-◌, ◌*◌, nat_le, Bool, ◌&&◌, List, filter, bit_and}
use Rattle.bao_types.specs.declared.region.Region.{Region}
use Rattle.bao_types.specs.Bits.{field}

-- the bytes of a granule
abbrev pub granule : ℕ
granule = 64

-- BASE times 64: the region's first byte
abbrev pub first_byte : Region → ℕ
first_byte region = field region.base 47 6 * granule

-- LIMIT times 64 + 63: the region's last byte
abbrev pub last_byte : Region → ℕ
last_byte region = field region.limit 47 6 * granule + (granule - 1)

-- a region of zeros, which is off
abbrev pub no_region : Region
no_region = record { base = 0; limit = 0 }

-- the byte lies in the region, be it enabled or not; where the base is above the limit no byte does
abbrev pub covers : Region → ℕ → Bool
covers region at = nat_le (first_byte region) at && nat_le at (last_byte region)

-- EN
abbrev pub is_enabled : Region → Bool
is_enabled region = field region.limit 0 0 == 1

-- AP
abbrev pub access_permission : Region → ℕ
access_permission region = field region.base 3 2

-- XN
abbrev pub is_execute_never : Region → Bool
is_execute_never region = field region.base 1 1 == 1

-- SH
abbrev pub shareability : Region → ℕ
shareability region = field region.base 5 4

-- the attribute index
abbrev pub attribute_index : Region → ℕ
attribute_index region = field region.limit 3 1

-- what a write of the base register keeps: BASE, SH, AP and XN
abbrev pub kept_base : ℕ → ℕ
kept_base value = bit_and value 0x0000FFFFFFFFFFFE

-- what a write of the limit register keeps: LIMIT, NS, the attribute index and EN
abbrev pub kept_limit : ℕ → ℕ
kept_limit value = bit_and value 0x0000FFFFFFFFFFDF

-- no bit stands outside the fields
abbrev pub IsWithinMasks : Region → Type 0
IsWithinMasks region = (kept_base region.base ≡ region.base) × (kept_limit region.limit ≡ region.limit)

-- the region counts for the byte: it is enabled and the byte lies in it
abbrev pub is_match : Region → ℕ → Bool
is_match region at = is_enabled region && covers region at

-- the enabled regions that contain the byte, in the order of the list
abbrev pub matching_regions : List Region → ℕ → List Region
matching_regions regions at = filter (λ region. is_match region at) regions
