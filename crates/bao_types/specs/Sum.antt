-- Addition with carry (ARM DDI 0487, "AddWithCarry").
use Rattle.std.specs.Prelude.{ℕ, ◌+◌, ◌*◌, ◌%◌, ◌^◌, ℤ, pos, ◌+ℤ◌, ◌-ℤ◌, Bool, not, ◌==◌, nat_le, if◌then◌else◌}
use Rattle.std.specs.Ordering.{int_eq}
use Rattle.bao_types.specs.declared.sum.Sum.{Sum}

-- a number as a signed one, in two's complement; `half` is the weight of its sign bit
abbrev pub signed : ℕ → ℕ → ℤ
signed half number = if nat_le half number then pos number -ℤ pos (2 * half) else pos number

-- the sum of two numbers, whose sign bits have the weight `half`, and of a carry: C says that the result isn't the
-- sum of the numbers, V that it isn't the sum of the signed ones
abbrev pub sum_of : ℕ → ℕ → ℕ → ℕ → Sum
sum_of half x y carry =
    let value : ℕ = (x + y + carry) % (2 * half) in
    record {
      value = value;
      n = nat_le half value;
      z = value == 0;
      c = not (value == x + y + carry);
      v = not (int_eq (signed half value) (signed half x +ℤ signed half y +ℤ pos carry));
    }

-- the weight of the sign bit of a form
abbrev pub sign_of : Bool → ℕ
sign_of wide = if wide then 2 ^ 63 else 2 ^ 31

-- the sum of the lowest 64 or 32 bits
abbrev pub add_carry_of : ℕ → ℕ → Bool → Bool → Sum
add_carry_of x y carry wide =
    sum_of (sign_of wide) (x % (2 * sign_of wide)) (y % (2 * sign_of wide)) (if carry then 1 else 0)
