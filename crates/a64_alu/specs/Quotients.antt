-- Divisions, and shifts by a register.
use Rattle.std.specs.Prelude.{ℕ, ◌/◌, ◌%◌, ◌==◌, if◌then◌else◌, int_div}
use Rattle.a64_decode.specs.declared.operand.TwoSourceKind.{TwoSourceKind}
use Rattle.a64_decode.specs.declared.operand.TwoSourceKind.TheVariants.{Udiv, Sdiv, Lslv, Lsrv, Asrv, Rorv}
use Rattle.a64_decode.specs.declared.operand.Shift.TheVariants.{Lsl, Lsr, Asr, Ror}
use Rattle.a64_alu.specs.Numbers.{modulo, as_signed}
use Rattle.a64_alu.specs.Shifts.{shifted}

-- a quotient, rounded towards zero and 0 for the divisor 0; or a shift by an amount modulo the width
unfoldable pub two_sources : ℕ → TwoSourceKind → ℕ → ℕ → ℕ
two_sources width Udiv n m = if m == 0 then 0 else n / m
two_sources width Sdiv n m = if m == 0 then 0 else modulo width (int_div (as_signed width n) (as_signed width m))
two_sources width Lslv n m = shifted width Lsl n (m % width)
two_sources width Lsrv n m = shifted width Lsr n (m % width)
two_sources width Asrv n m = shifted width Asr n (m % width)
two_sources width Rorv n m = shifted width Ror n (m % width)
