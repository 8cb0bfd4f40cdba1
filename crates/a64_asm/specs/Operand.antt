-- The operands of a line, each by its text.
use Rattle.std.specs.Prelude.{ℕ, ◌+◌, ◌-◌, ◌*◌, ◌/◌, ◌%◌, ◌^◌, ◌==◌, ◌&&◌, ◌||◌, nat_lt, nat_le, Bool, true, false, if◌then◌else◌, List, [], ◌∷◌, length, Option, None, Some, Result, Ok, Err}
use Rattle.std.specs.List.{list_all}
use Rattle.std.specs.Char.{is_ascii_digit}
use Rattle.text_lines.specs.Ascii.{minus_sign, capital_a, capital_z, opening_bracket, closing_bracket, low_line, letter_a, letter_c, letter_s, letter_z}
use Rattle.a64_asm.specs.Text.{Cut, Whole, Parts, cut_of, operand_of}
use Rattle.numerals.specs.Numeral.{number_of}
use Rattle.a64_asm.specs.Register.{register_of}
use Rattle.a64_asm.specs.declared.register.Register.{Register}
use Rattle.a64_asm.specs.declared.operand.Trio.{Trio}
use Rattle.a64_asm.specs.declared.operand.Numbers.{Numbers}
use Rattle.a64_asm.specs.declared.operand.Distance.{Distance}
use Rattle.a64_asm.specs.declared.label.Definition.{Definition}

-- three operands
pub data Triple : Type 0 where
  Fewer : Triple
  Three : (first second third : List ℕ) → Triple

abbrev pub triple_with : List ℕ → Cut → Triple
triple_with first Whole = Fewer
triple_with first (Parts second third) = Three first second third

abbrev pub triple_in : Cut → Triple
triple_in Whole = Fewer
triple_in (Parts first others) = triple_with first (operand_of others)

unfoldable pub triple_of : List ℕ → Triple
triple_of text = triple_in (operand_of text)

-- two widths are one
abbrev pub is_same : Bool → Bool → Bool
is_same false false = true
is_same false true = false
is_same true false = false
is_same true true = true

-- three registers of one width
abbrev pub trio_of : Option Register → Option Register → Option Register → Option Trio
trio_of None second third = None
trio_of (Some first) None third = None
trio_of (Some first) (Some second) None = None
trio_of (Some first) (Some second) (Some third) =
    if is_same first.wide second.wide && is_same first.wide third.wide
    then Some (record { wide = first.wide; rd = first.reg; rn = second.reg; rm = third.reg })
    else None

-- `[N` is a base, where 31 is SP
abbrev pub base_of : List ℕ → Option Register
base_of [] = None
base_of (first ∷ name) = if first == opening_bracket then register_of true name else None

-- `I]` is an offset
abbrev pub offset_in : Cut → Option ℕ
offset_in Whole = None
offset_in (Parts digits []) = number_of digits
offset_in (Parts digits (first ∷ others)) = None

unfoldable pub offset_of : List ℕ → Option ℕ
offset_of text = offset_in (cut_of closing_bracket text)

-- a letter and a number
abbrev pub number_after : ℕ → List ℕ → Option ℕ
number_after letter [] = None
number_after letter (first ∷ digits) = if first == letter then number_of digits else None

-- a system register's name, `sA_B_cC_cD_E`, cut at its low lines
abbrev pub numbers_of : Option ℕ → Option ℕ → Option ℕ → Option ℕ → Option ℕ → Option Numbers
numbers_of (Some a) (Some b) (Some c) (Some d) (Some e) = Some (record { op0 = a; op1 = b; crn = c; crm = d; op2 = e })
numbers_of _ _ _ _ _ = None

-- the last two parts, after three
abbrev pub last_numbers : Option ℕ → Option ℕ → List ℕ → Cut → Option Numbers
last_numbers a b c Whole = None
last_numbers a b c (Parts d e) = numbers_of a b (number_after letter_c c) (number_after letter_c d) (number_of e)

-- the last three parts, after two
abbrev pub three_numbers : Option ℕ → Option ℕ → Cut → Option Numbers
three_numbers a b Whole = None
three_numbers a b (Parts c others) = last_numbers a b c (cut_of low_line others)

-- the last four parts, after the first
abbrev pub four_numbers : Option ℕ → Cut → Option Numbers
four_numbers a Whole = None
four_numbers a (Parts b others) = three_numbers a (number_of b) (cut_of low_line others)

abbrev pub five_numbers : Cut → Option Numbers
five_numbers Whole = None
five_numbers (Parts a others) = four_numbers (number_after letter_s a) (cut_of low_line others)

unfoldable pub system_numbers : List ℕ → Option Numbers
system_numbers text = five_numbers (cut_of low_line text)

abbrev pub is_letter : ℕ → Bool
is_letter byte = (nat_le letter_a byte && nat_le byte letter_z) || (nat_le capital_a byte && nat_le byte capital_z)

-- letters, digits and `_`
abbrev pub is_name_byte : ℕ → Bool
is_name_byte byte = is_letter byte || is_ascii_digit byte || byte == low_line

-- a label's name: up to 32 of these, the first a letter
abbrev pub begins_with_letter : List ℕ → Bool
begins_with_letter [] = false
begins_with_letter (first ∷ rest) = is_letter first

unfoldable pub is_name : List ℕ → Bool
is_name text = begins_with_letter text && nat_le (length text) 32 && list_all is_name_byte text

-- how far a branch goes, in bytes, forward or back
abbrev pub distance_of : Bool → Option ℕ → Result Distance ℕ
distance_of back None = Err 1
distance_of back (Some bytes) = Ok (record { back = back; bytes = bytes })

-- an offset, where it goes back with its sign
abbrev pub signed_of : List ℕ → Result Distance ℕ
signed_of [] = Err 1
signed_of (first ∷ rest) = if first == minus_sign then distance_of true (number_of rest) else distance_of false (number_of (first ∷ rest))

-- from this word to that one
abbrev pub distance_between : ℕ → ℕ → Distance
distance_between here there =
    if nat_lt there here then record { back = true; bytes = 4 * (here - there) } else record { back = false; bytes = 4 * (there - here) }

-- a label that no line defines breaks rule 3
abbrev pub distance_to : ℕ → Option Definition → Result Distance ℕ
distance_to here None = Err 3
distance_to here (Some there) = Ok (distance_between here there.place)

-- what a branch names: a label, or else an offset
unfoldable pub target_of : (List ℕ → Option Definition) → ℕ → List ℕ → Result Distance ℕ
target_of labels here text = if is_name text then distance_to here (labels text) else signed_of text

-- the words of a distance, in two's complement
abbrev pub words_in : Distance → ℕ
words_in distance =
    if distance.back && nat_lt 0 (distance.bytes / 4) then 2 ^ 64 - distance.bytes / 4 else distance.bytes / 4

-- whole words, and a number of them that fits a signed field of this many bits
abbrev pub fits_field : ℕ → Distance → Bool
fits_field width distance =
    (distance.bytes % 4 == 0)
    && (if distance.back then nat_le distance.bytes (2 ^ (width + 1)) else nat_lt distance.bytes (2 ^ (width + 1)))

-- the offset of a branch with such a field, else the rule that it breaks
unfoldable pub words_to : ℕ → Result Distance ℕ → Result ℕ ℕ
words_to width (Err rule) = Err rule
words_to width (Ok distance) = if fits_field width distance then Ok (words_in distance) else Err 2
