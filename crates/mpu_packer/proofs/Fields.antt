-- The entries of aligned runs, field by field, and which of them contain a byte.
use Rattle.std.proofs.Common.{◌≡◌, ◌≢◌, ℕ, ◌+◌, ◌-◌, ◌*◌, ◌%◌, ◌^◌, ◌<◌, ◌≤◌, nat_le, nat_lt, ◌&&◌, Bool, true, false, cond, ◌⊎◌, inl, inr, List, [], ◌∷◌, map, filter, All, refl, sym, subst, ap, ◌∙◌, arith}
use Rattle.std.proofs.lemmas.Bool.{cases_lt, eq-eqb}
use Rattle.std.proofs.lemmas.Bool.Decides.{nat_tests}
use Rattle.std.proofs.lemmas.List.Elements.{All-filter, All-head, All-tail}
use Rattle.bao_types.specs.declared.access.Class.{Class}
use Rattle.bao_types.specs.declared.access.Class.TheVariants.{Nothing, Hyp, Guest}
use Rattle.bao_types.specs.declared.region.Region.{Region}
use Rattle.bao_types.specs.ByteRange.{end, is_within}
use Rattle.bao_types.specs.Bits.{field}
use Rattle.bao_types.specs.Region.{first_byte, last_byte, is_enabled, is_match, matching_regions}
use Rattle.bao_types.proofs.Ranges.{is_within-between}
use Rattle.region_list.specs.declared.run.Run.{Run}
use Rattle.region_list.specs.Layers.{IsInSpace}
use Rattle.region_list.specs.Runs.{AreRunsFrom}
use Rattle.mpu_packer.specs.Packing.{HasBits, IsRealised, attribute_of, entry_of, execute_never_of, permission_of}
use Rattle.mpu_packer.proofs.Granules.{IsAligned}

permission_low : (class : Class) → permission_of class < 4
permission_low Nothing = omega arith
permission_low Hyp = omega arith
permission_low (Guest true exec port) = omega arith
permission_low (Guest false exec port) = omega arith

execute_never_low : (class : Class) → execute_never_of class < 2
execute_never_low Nothing = omega arith
execute_never_low Hyp = omega arith
execute_never_low (Guest write true port) = omega arith
execute_never_low (Guest write false port) = omega arith

attribute_low : (class : Class) → attribute_of class < 2
attribute_low Nothing = omega arith
attribute_low Hyp = omega arith
attribute_low (Guest write exec true) = omega arith
attribute_low (Guest write exec false) = omega arith

-- the fields of a base register, and of a limit register
module _ (base ap' xn : ℕ) (aligned : base % 64 ≡ 0) (low : base < 2 ^ 48) (ap_low : ap' < 4) (xn_low : xn < 2) where
  base_field : field (base + 4 * ap' + 2 * xn) 47 6 * 64 ≡ base
  base_field = omega arith

  ap_field : field (base + 4 * ap' + 2 * xn) 3 2 ≡ ap'
  ap_field = omega arith

  xn_field : field (base + 4 * ap' + 2 * xn) 1 1 ≡ xn
  xn_field = omega arith

  sh_field : field (base + 4 * ap' + 2 * xn) 5 4 ≡ 0
  sh_field = omega arith

module _ (last attribute : ℕ) (aligned : last % 64 ≡ 0) (low : last < 2 ^ 48) (attribute_small : attribute < 2) where
  limit_field : field (last + 2 * attribute + 1) 47 6 * 64 ≡ last
  limit_field = omega arith

  enable_field : field (last + 2 * attribute + 1) 0 0 ≡ 1
  enable_field = omega arith

  attribute_field : field (last + 2 * attribute + 1) 3 1 ≡ attribute
  attribute_field = omega arith

  ns_field : field (last + 2 * attribute + 1) 4 4 ≡ 0
  ns_field = omega arith

-- an entry's bits are those of its run's class, and it contains the run's bytes
module _ (run : Run) (aligned : IsAligned run) (in_space : IsInSpace run.range) where
  base_low : run.range.base < 2 ^ 48
  base_low = let b = in_space in let l = aligned.least in omega (arith, b, l)

  last_aligned : (end run.range - 64) % 64 ≡ 0
  last_aligned = let b = aligned.base in let s = aligned.size in let l = aligned.least in omega (arith, b, s, l)

  last_low : end run.range - 64 < 2 ^ 48
  last_low = let b = in_space in omega (arith, b)

  pub has_bits : HasBits (entry_of run) run.class
  has_bits =
      let p = permission_low run.class in let x = execute_never_low run.class in let a = attribute_low run.class in
      record {
        permission = ap_field run.range.base (permission_of run.class) (execute_never_of run.class) aligned.base base_low p x;
        execute_never = xn_field run.range.base (permission_of run.class) (execute_never_of run.class) aligned.base base_low p x;
        attribute = attribute_field (end run.range - 64) (attribute_of run.class) last_aligned last_low a;
        shareability = sh_field run.range.base (permission_of run.class) (execute_never_of run.class) aligned.base base_low p x;
        non_secure = ns_field (end run.range - 64) (attribute_of run.class) last_aligned last_low a;
      }

  pub matches_its_bytes : (at : ℕ) → is_match (entry_of run) at ≡ is_within run.range at
  matches_its_bytes at =
      let first : first_byte (entry_of run) ≡ run.range.base =
      base_field run.range.base (permission_of run.class) (execute_never_of run.class) aligned.base base_low (permission_low run.class) (execute_never_low run.class) in
      let limit = limit_field (end run.range - 64) (attribute_of run.class) last_aligned last_low (attribute_low run.class) in
      let last : last_byte (entry_of run) ≡ end run.range - 64 + 63 = ap (λ n. n + 63) limit in
      let on : is_enabled (entry_of run) ≡ true = eq-eqb _ 1 (enable_field (end run.range - 64) (attribute_of run.class) last_aligned last_low (attribute_low run.class)) in
      ap (λ b. b && (nat_le (first_byte (entry_of run)) at && nat_le at (last_byte (entry_of run)))) on
      ∙ ap (λ n. nat_le n at && nat_le at (last_byte (entry_of run))) first ∙ ap (λ n. nat_le run.range.base at && nat_le at n) last
      ∙ ap (λ b. nat_le run.range.base at && b) (to_end at)
    where
      to_end : (at : ℕ) → nat_le at (end run.range - 64 + 63) ≡ nat_lt at (end run.range)
      to_end at = let l = aligned.least in let e : end run.range - 64 + 63 + 1 ≡ end run.range = omega (arith, l) in grind (arith, nat_tests)

-- the runs that contain a byte
abbrev pub holding : List Run → ℕ → List Run
holding runs at = filter (λ run. is_within run.range at) runs

pub matching_runs : (runs : List Run) (at : ℕ) → All IsAligned runs → All (λ run. IsInSpace run.range) runs
    → matching_regions (map entry_of runs) at ≡ map entry_of (holding runs at)
matching_runs [] at aligned in_space = refl
matching_runs (run ∷ runs) at aligned in_space =
    ap (λ b. cond b (entry_of run ∷ matching_regions (map entry_of runs) at) (matching_regions (map entry_of runs) at))
    (matches_its_bytes run (All-head IsAligned run runs aligned) (All-head (λ run. IsInSpace run.range) run runs in_space) at)
    ∙ by_test (is_within run.range at)
    (matching_runs runs at (All-tail IsAligned run runs aligned) (All-tail (λ run. IsInSpace run.range) run runs in_space))
  where
    by_test : (b : Bool) → matching_regions (map entry_of runs) at ≡ map entry_of (holding runs at)
        → cond b (entry_of run ∷ matching_regions (map entry_of runs) at) (matching_regions (map entry_of runs) at)
        ≡ map entry_of (cond b (run ∷ holding runs at) (holding runs at))
    by_test true e = ap (λ entries. entry_of run ∷ entries) e
    by_test false e = e

module _ (class_of : ℕ → Class) where
  -- runs from a byte on contain none before it
  none_held : (runs : List Run) (low at : ℕ) → AreRunsFrom class_of low runs → at < low → holding runs at ≡ []
  none_held [] low at all before = refl
  none_held (run ∷ runs) low at (maximal, from, between, rest) before =
      let outside : is_within run.range at ≡ false = grind (arith, nat_tests) in
      rw outside (none_held runs (end run.range) at rest (omega arith))

  -- a byte of class Nothing is in no run, and every other in one, whose class it has
  pub data IsHeld (at : ℕ) (held : List Run) : Type 0 where
    In : (run : Run) → held ≡ run ∷ [] → run.class ≡ class_of at → run.class ≢ Nothing → IsHeld at held
    Out : held ≡ [] → class_of at ≡ Nothing → IsHeld at held

  pub one_held : (runs : List Run) (low at : ℕ) → AreRunsFrom class_of low runs → low ≤ at → IsHeld at (holding runs at)
  one_held [] low at none from = Out refl (none at from)
  one_held (run ∷ runs) low at (maximal, from, between, rest) above =
      by_order (cases_lt at run.range.base) (cases_lt at (end run.range)) (λ behind. one_held runs (end run.range) at rest behind)
    where
      by_order : (at < run.range.base) ⊎ (run.range.base ≤ at) → (at < end run.range) ⊎ (end run.range ≤ at)
          → (end run.range ≤ at → IsHeld at (holding runs at)) → IsHeld at (holding (run ∷ runs) at)
      by_order (inl before) _ _ =
          let outside : is_within run.range at ≡ false = grind (arith, nat_tests) in
          Out (rw outside (none_held runs (end run.range) at rest (omega arith))) (between at above before)
      by_order (inr begun) (inl inside) _ =
          let within : is_within run.range at ≡ true = is_within-between run.range at begun inside in
          In run (rw within (ap (λ runs. run ∷ runs) (none_held runs (end run.range) at rest inside))) (sym (maximal.equal at within)) maximal.not_nothing
      by_order (inr begun) (inr behind) among =
          let outside : is_within run.range at ≡ false = grind (arith, nat_tests) in rw outside (among behind)

pub realised : (class : Class) (matching : List Region) (entry : Region) → class ≢ Nothing → matching ≡ entry ∷ [] → HasBits entry class → IsRealised class matching
realised Nothing matching entry something one bits = absurd (something refl)
realised Hyp matching entry something one bits = (entry, one, bits)
realised (Guest write exec port) matching entry something one bits = (entry, one, bits)

-- what holds of all runs holds of the one that contains a byte
pub held_all : (runs : List Run) (at : ℕ) (run : Run) (P : Run → Type 0) → All P runs → holding runs at ≡ run ∷ [] → P run
held_all runs at run P all one =
    All-head P run [] (subst (All P) one (All-filter (λ run. is_within run.range at) P runs all))
