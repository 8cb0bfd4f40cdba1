-- The registers of an aligned run's entry have no bit outside their fields.
use Rattle.std.proofs.Common.{◌≡◌, ℕ, ◌+◌, ◌-◌, ◌*◌, ◌%◌, ◌/◌, ◌^◌, ◌<◌, bit_and, ap, ◌∙◌, arith}
use Rattle.std.proofs.lemmas.Nat.{and_block, and_mask}
use Rattle.std.proofs.lemmas.Nat.Bits.{and_high}
use Rattle.bao_types.specs.ByteRange.{end}
use Rattle.bao_types.specs.Region.{IsWithinMasks, kept_base, kept_limit}
use Rattle.region_list.specs.declared.run.Run.{Run}
use Rattle.region_list.specs.Layers.{IsInSpace}
use Rattle.mpu_packer.specs.Packing.{attribute_of, entry_of, execute_never_of, permission_of}
use Rattle.mpu_packer.proofs.Fields.{has_bits}
use Rattle.mpu_packer.proofs.Granules.{IsAligned}

base_kept : (base permission never : ℕ) → base % 64 ≡ 0 → base < 2 ^ 48 → permission < 4 → never < 2
    → kept_base (base + 4 * permission + 2 * never) ≡ base + 4 * permission + 2 * never
base_kept base permission never aligned low p x =
    let n = base + 4 * permission + 2 * never in
    let part : n / 2 ^ 1 % 2 ^ 47 * 2 ^ 1 ≡ n = omega arith in
    and_high n 47 1 ∙ part

limit_kept : (last attribute : ℕ) → last % 64 ≡ 0 → last < 2 ^ 48 → attribute < 8
    → kept_limit (last + 2 * attribute + 1) ≡ last + 2 * attribute + 1
limit_kept last attribute aligned low a =
    let n = last + 2 * attribute + 1 in
    let whole : n ≡ last / 64 * 2 ^ 6 + (2 * attribute + 1) = omega arith in
    let parts : last / 64 % 2 ^ 42 * 2 ^ 6 + (2 * attribute + 1) % 2 ^ 5 ≡ n = omega arith in
    ap kept_limit whole
    ∙ and_block 6 (last / 64) (2 ^ 42 - 1) (2 * attribute + 1) (2 ^ 5 - 1) (omega arith) (omega arith)
    ∙ ap (λ high. high * 2 ^ 6 + bit_and (2 * attribute + 1) (2 ^ 5 - 1)) (and_mask (last / 64) 42)
    ∙ ap (λ rest. last / 64 % 2 ^ 42 * 2 ^ 6 + rest) (and_mask (2 * attribute + 1) 5)
    ∙ parts

-- the fields hold the class's numbers, so these are as low as the fields are wide
pub within_masks : (run : Run) → IsAligned run → IsInSpace run.range → IsWithinMasks (entry_of run)
within_masks run aligned in_space =
    let b = aligned.base in let s = aligned.size in let l = aligned.least in let i = in_space in
    let bits = has_bits run aligned in_space in
    let p : permission_of run.class < 4 = omega (arith, bits.permission) in
    let x : execute_never_of run.class < 2 = omega (arith, bits.execute_never) in
    let a : attribute_of run.class < 8 = omega (arith, bits.attribute) in (
      base_kept run.range.base (permission_of run.class) (execute_never_of run.class) b (omega (arith, i, l)) p x,
      limit_kept (end run.range - 64) (attribute_of run.class) (omega (arith, b, s, l)) (omega (arith, i)) a,
    )
