-- Lemmas on the region registers, for callers.
use Rattle.std.proofs.Common.{◌≡◌, ◌≢◌, ℕ, ◌+◌, ◌-◌, ◌<◌, ◌^◌, ◌/◌, ◌%◌, length, get_or, bit_and, refl, ◌∙◌, ap, get_or-set_same, get_or-set_other}
use Rattle.std.proofs.Math.Nat.{mod-mod}
use Rattle.std.proofs.lemmas.Nat.{and_mask, and_shr, and_mod, and_assoc}
use Rattle.bao_types.specs.declared.region.Region.{Region}
use Rattle.bao_types.specs.Bits.{field}
use Rattle.bao_types.specs.Region.{IsWithinMasks, kept_base, kept_limit}
use Rattle.bao_types.specs.RegionFile.{RegionFileData}
use Rattle.pmsa_regs.specs.RegionRegs.{selected, with_selected}

-- what was written is selected
pub selected-with_selected :
    (file : RegionFileData) (region : Region) → file.select < length file.regions → selected (with_selected file region) ≡ region
selected-with_selected file region within = rw get_or-set_same refl

-- the other regions stay
pub regions-with_selected :
    (file : RegionFileData) (region default : Region) (other : ℕ) → other ≢ file.select →
    get_or (with_selected file region).regions other default ≡ get_or file.regions other default
regions-with_selected file region default other apart = rw get_or-set_other refl

-- a mask that has all bits of a field keeps the field
pub field-bit_and :
    (value mask high low : ℕ) → field mask high low ≡ 2 ^ (high + 1 - low) - 1 → field (bit_and value mask) high low ≡ field value high low
field-bit_and value mask high low ones =
    let width = high + 1 - low in
    ap (λ part. part % 2 ^ width) (and_shr value mask low)
    ∙ and_mod (value / 2 ^ low) (mask / 2 ^ low) width
    ∙ ap (λ part. bit_and (value / 2 ^ low % 2 ^ width) part) ones
    ∙ and_mask (value / 2 ^ low % 2 ^ width) width
    ∙ mod-mod (value / 2 ^ low) (2 ^ width)

-- each field of the base register is read as it was written
pub record KeepsBaseFields (value : ℕ) : Type 0 where
  pub base : field (kept_base value) 47 6 ≡ field value 47 6
  pub shareability : field (kept_base value) 5 4 ≡ field value 5 4
  pub access_permission : field (kept_base value) 3 2 ≡ field value 3 2
  pub execute_never : field (kept_base value) 1 1 ≡ field value 1 1

pub fields-kept_base : (value : ℕ) → KeepsBaseFields value
fields-kept_base value =
    record {
      base = field-bit_and value 0x0000FFFFFFFFFFFE 47 6 refl;
      shareability = field-bit_and value 0x0000FFFFFFFFFFFE 5 4 refl;
      access_permission = field-bit_and value 0x0000FFFFFFFFFFFE 3 2 refl;
      execute_never = field-bit_and value 0x0000FFFFFFFFFFFE 1 1 refl;
    }

-- each field of the limit register is read as it was written
pub record KeepsLimitFields (value : ℕ) : Type 0 where
  pub limit : field (kept_limit value) 47 6 ≡ field value 47 6
  pub non_secure : field (kept_limit value) 4 4 ≡ field value 4 4
  pub attribute_index : field (kept_limit value) 3 1 ≡ field value 3 1
  pub enabled : field (kept_limit value) 0 0 ≡ field value 0 0

pub fields-kept_limit : (value : ℕ) → KeepsLimitFields value
fields-kept_limit value =
    record {
      limit = field-bit_and value 0x0000FFFFFFFFFFDF 47 6 refl;
      non_secure = field-bit_and value 0x0000FFFFFFFFFFDF 4 4 refl;
      attribute_index = field-bit_and value 0x0000FFFFFFFFFFDF 3 1 refl;
      enabled = field-bit_and value 0x0000FFFFFFFFFFDF 0 0 refl;
    }

-- no other bit is kept
pub IsWithinMasks-base : (region : Region) (value : ℕ) → IsWithinMasks region → IsWithinMasks (record region { base = kept_base value })
IsWithinMasks-base region value within = (and_assoc 0x0000FFFFFFFFFFFE value 0x0000FFFFFFFFFFFE, within.1)

pub IsWithinMasks-limit : (region : Region) (value : ℕ) → IsWithinMasks region → IsWithinMasks (record region { limit = kept_limit value })
IsWithinMasks-limit region value within = (within.0, and_assoc 0x0000FFFFFFFFFFDF value 0x0000FFFFFFFFFFDF)
