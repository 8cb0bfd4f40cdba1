-- The address of a load or store by its base and offset (ARM DDI 0487, "Load/Store addressing modes"). All are numbers of
-- 64 bits.
use Rattle.std.specs.Prelude.{ℕ, ◌+◌, ◌*◌, ◌%◌, ◌^◌, Option, Some, None}
use Rattle.a64_decode.specs.declared.operand.IndexMode.{IndexMode}
use Rattle.a64_decode.specs.declared.operand.IndexMode.TheVariants.{Post, Offset, Pre}

-- a sum of 64 bits, which wraps
abbrev pub plus : ℕ → ℕ → ℕ
plus x y = (x + y) % 2 ^ 64

-- a number of 64 bits shifted left
abbrev pub shifted_left : ℕ → ℕ → ℕ
shifted_left value amount = value * 2 ^ amount % 2 ^ 64

-- the address: post-indexed it is the base alone
abbrev pub address_of : IndexMode → ℕ → ℕ → ℕ
address_of Post base offset = base
address_of Offset base offset = plus base offset
address_of Pre base offset = plus base offset

-- what is written back to the base
abbrev pub back_of : IndexMode → ℕ → ℕ → Option ℕ
back_of Post base offset = Some (plus base offset)
back_of Offset base offset = None
back_of Pre base offset = Some (plus base offset)
