-- The names of registers.
use Rattle.std.specs.Prelude.{ℕ, ◌==◌, nat_lt, Bool, true, false, if◌then◌else◌, List, [], ◌∷◌, Option, None, Some, codes}
use Rattle.std.specs.Fmt.{decimal}
use Rattle.std.specs.Str.{bytes_eq}
use Rattle.a64_decode.specs.declared.operand.Reg.{Reg}
use Rattle.numerals.specs.Numeral.{number_of}
use Rattle.a64_asm.specs.declared.register.Register.{Register}

-- register 31 by its name: the zero register, or, where `stack` says so, SP
abbrev pub last_name : Bool → Bool → List ℕ
last_name false false = codes "wzr"
last_name false true = codes "xzr"
last_name true false = codes "wsp"
last_name true true = codes "sp"

-- `x`, 120, of 64 bits, and `w`, 119, of 32 bits
abbrev pub letter_of : Bool → ℕ
letter_of wide = if wide then 120 else 119

-- a register's name
unfoldable pub register_text : Bool → Bool → Reg → List ℕ
register_text stack wide register =
    if register.0 == 31 then last_name stack wide else letter_of wide ∷ decimal register.0

abbrev pub named : Bool → ℕ → Register
named wide number = record { wide = wide; reg = record { 0 = number } }

-- a register from 0 to 30
abbrev pub numbered : Bool → Option ℕ → Option Register
numbered wide None = None
numbered wide (Some number) = if nat_lt number 31 then Some (named wide number) else None

abbrev pub lettered : List ℕ → Option Register
lettered [] = None
lettered (letter ∷ digits) =
    if letter == letter_of true then numbered true (number_of digits)
    else if letter == letter_of false then numbered false (number_of digits)
    else None

-- the register that a text names, where 31 is the zero register or, with `stack`, SP
unfoldable pub register_of : Bool → List ℕ → Option Register
register_of stack text =
    if bytes_eq text (last_name stack true) then Some (named true 31)
    else if bytes_eq text (last_name stack false) then Some (named false 31)
    else lettered text
