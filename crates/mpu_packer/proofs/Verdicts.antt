-- The verdict by entries is the one by the map.
use Rattle.std.proofs.Common.{◌≡◌, ◌≢◌, true, false, List, refl, ap, ◌∙◌}
use Rattle.bao_types.specs.declared.access.Access.{Access}
use Rattle.bao_types.specs.declared.access.Access.TheVariants.{Read, Write, Exec}
use Rattle.bao_types.specs.declared.access.Class.{Class}
use Rattle.bao_types.specs.declared.access.Class.TheVariants.{Nothing, Hyp, Guest}
use Rattle.bao_types.specs.declared.region.Region.{Region}
use Rattle.bao_types.specs.Region.{matching_regions}
use Rattle.bao_types.specs.RegionMatch.{match_of}
use Rattle.bao_wellformed.specs.Map.{by_map, class_of, verdict_of}
use Rattle.pmsa_stage2.specs.Stage2.{entry_verdict, match_verdict, stage2}
use Rattle.mpu_packer.specs.Packing.{HasBits, IsRealised}
use Rattle.mpu_packer.specs.Laws.{GivesTheMap}

by_bits : (class : Class) (entry : Region) (access : Access) → class ≢ Nothing → HasBits entry class → entry_verdict entry access ≡ verdict_of class access
by_bits Nothing entry access something bits = absurd (something refl)
by_bits Hyp entry Read something bits = let p = bits.permission in rw p refl
by_bits Hyp entry Write something bits = let p = bits.permission in rw p refl
by_bits Hyp entry Exec something bits = let p = bits.permission in rw p refl
by_bits (Guest true exec port) entry Read something bits = let p = bits.permission in rw p refl
by_bits (Guest false exec port) entry Read something bits = let p = bits.permission in rw p refl
by_bits (Guest true exec port) entry Write something bits = let p = bits.permission in rw p refl
by_bits (Guest false exec port) entry Write something bits = let p = bits.permission in rw p refl
by_bits (Guest true true port) entry Exec something bits = let p = bits.permission in let x = bits.execute_never in rw (p, x) refl
by_bits (Guest true false port) entry Exec something bits = let p = bits.permission in let x = bits.execute_never in rw (p, x) refl
by_bits (Guest false true port) entry Exec something bits = let p = bits.permission in let x = bits.execute_never in rw (p, x) refl
by_bits (Guest false false port) entry Exec something bits = let p = bits.permission in let x = bits.execute_never in rw (p, x) refl

by_class : (class : Class) (matching : List Region) (access : Access) → IsRealised class matching
    → match_verdict (match_of matching) access ≡ verdict_of class access
by_class Nothing matching access none = ap (λ regions. match_verdict (match_of regions) access) none
by_class Hyp matching access (entry, one, bits) =
    ap (λ regions. match_verdict (match_of regions) access) one ∙ by_bits Hyp entry access (λ e. cc) bits
by_class (Guest write exec port) matching access (entry, one, bits) =
    ap (λ regions. match_verdict (match_of regions) access) one ∙ by_bits (Guest write exec port) entry access (λ e. cc) bits

pub gives_the_map : GivesTheMap
unfolding stage2 by_map
gives_the_map cfg core entries access at realises = by_class (class_of cfg core at) (matching_regions entries at) access (realises at)
