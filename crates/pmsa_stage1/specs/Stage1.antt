-- What a contract sees of the first stage of protection: the verdict on one byte by the EL1 regions of a core, the
-- level of the access and SCTLR_EL1.
--
-- Registers and fields are those of PMSAv8-64 (Arm DDI 0600). Our own choice are the verdict on a byte in several
-- regions, one XN bit for both levels, execution at EL1 of what EL0 may write, and a background that allows all.
use Rattle.std.specs.Prelude.{◌==◌, ℕ, Bool, not, ◌&&◌, ◌||◌, if◌then◌else◌, List}
use Rattle.bao_types.specs.declared.access.Access.{Access}
use Rattle.bao_types.specs.declared.access.Access.TheVariants.{Read, Write, Exec}
use Rattle.bao_types.specs.declared.access.Verdict.{Verdict}
use Rattle.bao_types.specs.declared.access.Verdict.TheVariants.{Allow, Translation, Permission}
use Rattle.bao_types.specs.declared.region.Region.{Region}
use Rattle.bao_types.specs.declared.region_match.RegionMatch.{RegionMatch}
use Rattle.bao_types.specs.declared.region_match.RegionMatch.TheVariants.{Miss, Hit, Overlap}
use Rattle.bao_types.specs.Bits.{field}
use Rattle.bao_types.specs.Region.{access_permission, is_execute_never}
use Rattle.bao_types.specs.RegionMatch.{region_match}

-- SCTLR_EL1.M: the first stage is on
abbrev pub is_on : ℕ → Bool
is_on sctlr = field sctlr 0 0 == 1

-- SCTLR_EL1.BR: EL1 has a background region
abbrev pub has_background : ℕ → Bool
has_background sctlr = field sctlr 17 17 == 1

-- AP 01 and 11 admit both levels, 00 and 10 EL1 alone
abbrev pub admits_level : Region → ℕ → Bool
admits_level region level = level == 1 || access_permission region == 1 || access_permission region == 3

-- AP 00 and 01 are read and write, 10 and 11 read
abbrev pub is_writable : Region → Bool
is_writable region = access_permission region == 0 || access_permission region == 1

-- what a region gives a level: reading where it admits the level, writing where AP has it too, and execution of what
-- may be read where XN is clear
abbrev pub gives_level : Region → ℕ → Access → Bool
gives_level region level Read = admits_level region level
gives_level region level Write = admits_level region level && is_writable region
gives_level region level Exec = admits_level region level && not (is_execute_never region)

-- the verdict where no region contains the byte
abbrev pub background_verdict : ℕ → ℕ → Verdict
background_verdict sctlr level = if level == 1 && has_background sctlr then Allow else Translation

-- the verdict of the one region that contains the byte
abbrev pub region_verdict : Region → ℕ → Access → Verdict
region_verdict region level access = if gives_level region level access then Allow else Permission

-- the verdict by the number of enabled regions that contain the byte
abbrev pub match_verdict : RegionMatch → ℕ → ℕ → Access → Verdict
match_verdict Miss sctlr level access = background_verdict sctlr level
match_verdict (Hit region) sctlr level access = region_verdict region level access
match_verdict Overlap sctlr level access = Translation

-- the first stage's verdict on an access to one byte: all is allowed where the stage is off
unfoldable pub stage1 : List Region → ℕ → ℕ → Access → ℕ → Verdict
stage1 regions sctlr level access at = if is_on sctlr then match_verdict (region_match regions at) sctlr level access else Allow
