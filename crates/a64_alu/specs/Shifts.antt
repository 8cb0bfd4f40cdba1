-- Shifts (ARM DDI 0487, "ShiftReg").
use Rattle.std.specs.Prelude.{ℕ, ◌*◌, ◌/◌, ◌%◌, ◌^◌}
use Rattle.std.specs.Int.{int_shr}
use Rattle.bao_types.specs.Bitmask.{rotated}
use Rattle.a64_decode.specs.declared.operand.Shift.{Shift}
use Rattle.a64_decode.specs.declared.operand.Shift.TheVariants.{Lsl, Lsr, Asr, Ror}
use Rattle.a64_alu.specs.Numbers.{modulo, as_signed}

-- a number of `width` bits that is shifted; ASR divides the signed number, rounding down
unfoldable pub shifted : ℕ → Shift → ℕ → ℕ → ℕ
shifted width Lsl value amount = value * 2 ^ amount % 2 ^ width
shifted width Lsr value amount = value / 2 ^ amount
shifted width Asr value amount = modulo width (int_shr (as_signed width value) amount)
shifted width Ror value amount = rotated width value amount
