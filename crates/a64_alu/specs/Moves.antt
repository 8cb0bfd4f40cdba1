-- Addresses, wide moves, and the moves of fields.
use Rattle.std.specs.Prelude.{ℕ, ◌+◌, ◌-◌, ◌*◌, ◌/◌, ◌%◌, ◌^◌, Bool, nat_le, if◌then◌else◌}
use Rattle.bao_types.specs.Bits.{field}
use Rattle.a64_state.specs.Bits.{with_bits}
use Rattle.a64_decode.specs.Operands.{sign_extend}
use Rattle.a64_decode.specs.declared.operand.MoveKind.{MoveKind}
use Rattle.a64_decode.specs.declared.operand.MoveKind.TheVariants.{Movn, Movz, Movk}
use Rattle.a64_decode.specs.declared.operand.BitfieldKind.{BitfieldKind}
use Rattle.a64_decode.specs.declared.operand.BitfieldKind.TheVariants.{Sbfm, Bfm, Ubfm}
use Rattle.a64_alu.specs.declared.moves.Field.{Field}
use Rattle.a64_alu.specs.Numbers.{inverted}

-- PC plus bytes, or the start of PC's page of 4096 bytes plus pages
unfoldable pub address_of : Bool → ℕ → ℕ → ℕ
address_of page pc offset = (if page then pc / 4096 * 4096 + offset * 4096 else pc + offset) % 2 ^ 64

-- 16 bits at their place with zeros around them, all that inverted, or in the old value
unfoldable pub moved : ℕ → MoveKind → ℕ → ℕ → ℕ → ℕ
moved width Movn old place imm16 = inverted width (imm16 * 2 ^ place)
moved width Movz old place imm16 = imm16 * 2 ^ place
moved width Movk old place imm16 = with_bits old place 16 imm16

-- the lowest bit of the field that is moved
abbrev pub field_low : ℕ → ℕ → ℕ
field_low immr imms = if nat_le immr imms then immr else 0

-- and the place where this bit goes
abbrev pub field_place : ℕ → ℕ → ℕ → ℕ
field_place width immr imms = if nat_le immr imms then 0 else width - immr

-- bits `imms` down to the field's lowest, which go to its place
unfoldable pub field_of : ℕ → ℕ → ℕ → ℕ → Field
field_of width immr imms value =
    let low : ℕ = field_low immr imms in
    record { place = field_place width immr imms; count = imms + 1 - low; part = field value imms low }

-- a field at its place: with copies of its highest bit above it and zeros below, in the old value, or with zeros around it
unfoldable pub placed : ℕ → BitfieldKind → ℕ → Field → ℕ
placed width Sbfm old moving = sign_extend moving.count moving.part * 2 ^ moving.place % 2 ^ width
placed width Bfm old moving = with_bits old moving.place moving.count moving.part
placed width Ubfm old moving = moving.part * 2 ^ moving.place

-- the lowest bits of two numbers, one above the other, shifted right
unfoldable pub extracted : ℕ → ℕ → ℕ → ℕ → ℕ
extracted width high low amount = (high * 2 ^ width + low) / 2 ^ amount % 2 ^ width
