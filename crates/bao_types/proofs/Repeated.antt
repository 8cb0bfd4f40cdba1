-- Copies of an element: their product form, and the room that they need.
use Rattle.std.proofs.Common.{◌≡◌, ◌<◌, ◌≤◌, ℕ, zero, suc, ◌+◌, ◌*◌, ◌/◌, ◌^◌, Bool, true, false, sym, ap, arith, mul-add, mul-one, if◌then◌else◌}
use Rattle.std.proofs.Math.Nat.{mul-le-mul_left, suc-mul, mul-zero, mul_left_comm, mul_comm, zero-mul, div-mul-le_self}
use Rattle.std.proofs.Math.Pow.{pow_mono}
use Rattle.std.proofs.lemmas.Nat.{pow-add}
use Rattle.bao_types.specs.Bitmask.{repeated, filled}

-- copies of an element are this many times copies of 1
pub repeated-mul : (count size element : ℕ) → repeated count size element ≡ element * repeated count size 1
unfolding repeated
repeated-mul zero size element = sym (mul-zero element)
repeated-mul (suc count) size element =
    rw (repeated-mul count size element, mul-add, mul-one) (ap (λ n. element + n) (mul_left_comm _ _ _))

-- copies of an element that fits its bits fit all of them
pub repeated_below : (count size element : ℕ) → element < 2 ^ size → repeated count size element < 2 ^ (count * size)
unfolding repeated
repeated_below zero size element below = rw (zero-mul size) (omega arith)
repeated_below (suc count) size element below =
    let rest : repeated count size element < 2 ^ (count * size) = repeated_below count size element below in
    let room : 2 ^ size * (repeated count size element + 1) ≤ 2 ^ size * 2 ^ (count * size) =
    mul-le-mul_left (2 ^ size) (omega arith) in
    let whole : 2 ^ (suc count * size) ≡ 2 ^ size * 2 ^ (count * size) =
    rw (suc-mul count size, pow-add 2 (count * size) size) (mul_comm _ _) in
    rw whole (omega arith)

-- and so a form of 64 bits has room for its copies
pub filled_below : (log : ℕ) (wide : Bool) (element : ℕ) → element < 2 ^ (2 ^ log) → filled log wide element < 2 ^ 64
filled_below log wide element below =
    let width : ℕ = if wide then 64 else 32 in
    let inside : width / 2 ^ log * 2 ^ log ≤ width = div-mul-le_self width (2 ^ log) in
    let narrow : width ≤ 64 = elim wide as (λ w. (if w then 64 else 32) ≤ 64) [ true ↦ omega arith | false ↦ omega arith ] in
    let fits : width / 2 ^ log * 2 ^ log ≤ 64 = omega (arith, inside, narrow) in
    let room : 2 ^ (width / 2 ^ log * 2 ^ log) ≤ 2 ^ 64 = pow_mono fits in
    let all : filled log wide element < 2 ^ (width / 2 ^ log * 2 ^ log) = repeated_below (width / 2 ^ log) (2 ^ log) element below in
    omega (arith, all, room)
