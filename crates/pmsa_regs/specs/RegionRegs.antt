-- What a contract sees of the EL1 region registers: PRSELR_EL1, which selects a region, and PRBAR_EL1 and PRLAR_EL1,
-- which are the selected region's base and limit register (PMSAv8-64, Arm DDI 0600).
use Rattle.std.specs.Prelude.{ℕ, slice_index_or, slice_set}
use Rattle.bao_types.specs.declared.region.Region.{Region}
use Rattle.bao_types.specs.Bits.{field}
use Rattle.bao_types.specs.Region.{kept_base, kept_limit, no_region}
use Rattle.bao_types.specs.RegionFile.{RegionFileData}

-- the selected region
abbrev pub selected : RegionFileData → Region
selected file = slice_index_or file.regions file.select no_region

-- another region in the place of the selected one; all others and the selection stay
abbrev pub with_selected : RegionFileData → Region → RegionFileData
with_selected file region = record file { regions = slice_set file.regions file.select region }

-- PRSELR_EL1 written: bits 3 to 0 select, and all regions stay
abbrev pub with_select : RegionFileData → ℕ → RegionFileData
with_select file value = record file { select = field value 3 0 }

-- PRBAR_EL1 written: the selected region gets the masked value as its base register and keeps its limit register
abbrev pub with_base : RegionFileData → ℕ → RegionFileData
with_base file value = with_selected file (record (selected file) { base = kept_base value })

-- PRLAR_EL1 written: the selected region gets the masked value as its limit register and keeps its base register
abbrev pub with_limit : RegionFileData → ℕ → RegionFileData
with_limit file value = with_selected file (record (selected file) { limit = kept_limit value })
