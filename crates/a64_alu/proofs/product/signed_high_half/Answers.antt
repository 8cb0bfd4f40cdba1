use Rattle.std.proofs.Common.{◌≡◌, ◌*ℤ◌, rules, arith}
use Rattle.std.specs.Int.{w64, w128, cast_unsigned}
use Rattle.std.specs.Int.RustNames.{FitsSigned}
use Rattle.std.proofs.lemmas.Int.{to_z-of_z}
use Rattle.a64_alu.proofs.Signs.{as_signed_is, high_half}
use Rattle.a64_alu.proofs.product.signed_high_half.Goals as goal

pub returns : goal.returns
returns c =
    let fits_n : FitsSigned w64 c.cast_signed.result = search rules in
    let fits_m : FitsSigned w64 c.cast_signed-2.result = search rules in
    let wide_n : FitsSigned w128 c.cast_signed.result = record { sfits = omega (arith, fits_n.sfits) } in
    let wide_m : FitsSigned w128 c.cast_signed-2.result = record { sfits = omega (arith, fits_m.sfits) } in
    let fits : FitsSigned w128 (c.cast_signed.result *ℤ c.cast_signed-2.result) = search rules in
    let plain : c.cast_unsigned.result ≡ cast_unsigned w128 (c.cast_signed.result *ℤ c.cast_signed-2.result) =
    rw (
      to_z-of_z w64 c.cast_signed.result fits_n,
      to_z-of_z w64 c.cast_signed-2.result fits_m,
      to_z-of_z w128 c.cast_signed.result wide_n,
      to_z-of_z w128 c.cast_signed-2.result wide_m,
      to_z-of_z w128 (c.cast_signed.result *ℤ c.cast_signed-2.result) fits,
    ) at c.cast_unsigned.ensures
    in
    rw (as_signed_is c.args.n (omega arith), as_signed_is c.args.m (omega arith), ← c.cast_signed.ensures, ← c.cast_signed-2.ensures, plain)
    (high_half (c.cast_signed.result *ℤ c.cast_signed-2.result) fits)
