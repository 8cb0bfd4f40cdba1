-- The logical operations.
use Rattle.std.specs.Prelude.{ℕ, ◌-◌, ◌^◌, Bool, true, false, ◌==◌, nat_le, if◌then◌else◌, bit_and, bit_or, bit_xor, unwrap_or}
use Rattle.bao_types.specs.Bitmask.{bitmask_of}
use Rattle.a64_state.specs.Core.{CoreData}
use Rattle.a64_decode.specs.declared.operand.Reg.{Reg}
use Rattle.a64_decode.specs.declared.operand.LogicalKind.{LogicalKind}
use Rattle.a64_decode.specs.declared.operand.LogicalKind.TheVariants.{And, Orr, Eor, Ands}
use Rattle.a64_alu.specs.Numbers.{inverted}
use Rattle.a64_state.specs.Pstate.{nzcv}
use Rattle.a64_state.specs.Registers.{with_x_or_sp}
use Rattle.a64_alu.specs.Results.{with_x_and_flags}

-- bit by bit
unfoldable pub combined : LogicalKind → ℕ → ℕ → ℕ
combined And x y = bit_and x y
combined Orr x y = bit_or x y
combined Eor x y = bit_xor x y
combined Ands x y = bit_and x y

-- the one operation that sets the flags
abbrev pub sets_flags : LogicalKind → Bool
sets_flags And = false
sets_flags Orr = false
sets_flags Eor = false
sets_flags Ands = true

-- N is the highest bit of the result; C and V are clear
abbrev pub logical_flags : ℕ → ℕ → ℕ
logical_flags width value = nzcv (nat_le (2 ^ (width - 1)) value) (value == 0) false false

-- a result written to a register, and its flags where the operation sets them
unfoldable pub with_logical : CoreData → ℕ → LogicalKind → Reg → ℕ → CoreData
with_logical core width kind rd value = with_x_and_flags core rd value (sets_flags kind) (logical_flags width value)

-- the same, but without flags register 31 is SP
unfoldable pub with_logical_or_sp : CoreData → ℕ → LogicalKind → Reg → ℕ → CoreData
with_logical_or_sp core width kind rd value =
    if sets_flags kind then with_logical core width kind rd value else with_x_or_sp core rd.0 value

-- a mask that isn't reserved
unfoldable pub mask_of : ℕ → ℕ → ℕ → Bool → ℕ
mask_of n immr imms wide = unwrap_or (bitmask_of n immr imms wide) 0

-- a second operand, with each bit inverted where the instruction asks for it
abbrev pub inverted_if : Bool → ℕ → ℕ → ℕ
inverted_if invert width value = if invert then inverted width value else value
