-- What a contract sees of the second stage of protection: the verdict on one byte by the EL2 entries of a core.
--
-- Registers and fields are those of PMSAv8-64 (Arm DDI 0600). Our own choice are the verdict on a byte in several
-- entries and that there is no background region for guests.
use Rattle.std.specs.Prelude.{◌==◌, ℕ, Bool, not, ◌&&◌, ◌||◌, if◌then◌else◌, List}
use Rattle.bao_types.specs.declared.access.Access.{Access}
use Rattle.bao_types.specs.declared.access.Access.TheVariants.{Read, Write, Exec}
use Rattle.bao_types.specs.declared.access.Verdict.{Verdict}
use Rattle.bao_types.specs.declared.access.Verdict.TheVariants.{Allow, Translation, Permission}
use Rattle.bao_types.specs.declared.region.Region.{Region}
use Rattle.bao_types.specs.declared.region_match.RegionMatch.{RegionMatch}
use Rattle.bao_types.specs.declared.region_match.RegionMatch.TheVariants.{Miss, Hit, Overlap}
use Rattle.bao_types.specs.Region.{access_permission, is_execute_never}
use Rattle.bao_types.specs.RegionMatch.{region_match}

-- AP 01 and 11 admit guests, 00 and 10 are for EL2 alone
abbrev pub admits_guest : Region → Bool
admits_guest entry = access_permission entry == 1 || access_permission entry == 3

-- what an entry gives a guest: reading where it admits guests, writing where AP is 01, and execution of what may be
-- read where XN is clear
abbrev pub gives_guest : Region → Access → Bool
gives_guest entry Read = admits_guest entry
gives_guest entry Write = access_permission entry == 1
gives_guest entry Exec = admits_guest entry && not (is_execute_never entry)

-- the verdict of the one entry that contains the byte
abbrev pub entry_verdict : Region → Access → Verdict
entry_verdict entry access = if gives_guest entry access then Allow else Permission

-- the verdict by the number of enabled entries that contain the byte
abbrev pub match_verdict : RegionMatch → Access → Verdict
match_verdict Miss access = Translation
match_verdict (Hit entry) access = entry_verdict entry access
match_verdict Overlap access = Translation

-- the second stage's verdict on an access to one byte
unfoldable pub stage2 : List Region → Access → ℕ → Verdict
stage2 entries access at = match_verdict (region_match entries at) access
