-- Addition and subtraction (ARM DDI 0487, "AddWithCarry" and "ExtendReg").
use Rattle.std.specs.Prelude.{ℕ, ◌*◌, ◌%◌, ◌^◌, Bool, true, if◌then◌else◌}
use Rattle.bao_types.specs.Sum.{add_carry_of}
use Rattle.bao_types.specs.declared.sum.Sum.{Sum}
use Rattle.a64_state.specs.Core.{CoreData}
use Rattle.a64_state.specs.Pstate.{nzcv}
use Rattle.a64_state.specs.Registers.{with_x_or_sp}
use Rattle.a64_decode.specs.Operands.{extended}
use Rattle.a64_decode.specs.declared.operand.Reg.{Reg}
use Rattle.a64_decode.specs.declared.operand.Extend.{Extend}
use Rattle.a64_alu.specs.Numbers.{inverted}
use Rattle.a64_alu.specs.Results.{with_x_and_flags}

-- x + y + carry, or x - y - 1 + carry: a subtraction adds the inverted number
unfoldable pub total : Bool → Bool → ℕ → ℕ → Bool → Sum
total wide subtract x y carry = add_carry_of x (if subtract then inverted 64 y else y) carry wide

-- the flags of an addition
abbrev pub flags_of : Sum → ℕ
flags_of sum = nzcv sum.n sum.z sum.c sum.v

-- a sum written to a register, and its flags where they are set
unfoldable pub with_sum : CoreData → Reg → Bool → Sum → CoreData
with_sum core rd set sum = with_x_and_flags core rd sum.value set (flags_of sum)

-- the same, but without flags register 31 is SP
unfoldable pub with_sum_or_sp : CoreData → Reg → Bool → Sum → CoreData
with_sum_or_sp core rd set sum = if set then with_sum core rd true sum else with_x_or_sp core rd.0 sum.value

-- a number of 12 bits, or 4096 times as much
abbrev pub number_of : Bool → ℕ → ℕ
number_of shifted imm12 = if shifted then imm12 * 2 ^ 12 else imm12

-- an extended number, shifted left
unfoldable pub extended_left : Extend → ℕ → ℕ → ℕ
extended_left extend value amount = extended extend value * 2 ^ amount % 2 ^ 64
