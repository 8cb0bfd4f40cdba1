-- Numbers, registers and first words are read as they are written.
use Rattle.std.proofs.Common.{◌≡◌, ℕ, zero, suc, ◌+◌, ◌-◌, ◌*◌, ◌/◌, ◌%◌, ◌^◌, ◌<◌, Bool, true, false, not, min, List, [], ◌∷◌, ◌++◌, length, get_or, refl, sym, ap, ◌∙◌, arith, rules, eqb}
use Rattle.std.specs.Prelude.{Option, None, Some, ◌==◌, ◌&&◌, ◌||◌, nat_le, if◌then◌else◌, fold}
use Rattle.std.specs.List.{list_all}
use Rattle.std.specs.Char.{is_ascii_digit}
use Rattle.std.specs.Fmt.{decimal, digits, digit_glyph}
use Rattle.std.proofs.lemmas.Bool.{and_parts, and_from, eqb-true}
use Rattle.std.proofs.lemmas.Bool.Decides.{nat_tests}
use Rattle.std.proofs.lemmas.Nat.{div_below, pow-add}
use Rattle.std.proofs.lemmas.List.Sums.{fold-append}
use Rattle.std.proofs.lemmas.List.Folds.{list_all-append}
use Rattle.std.proofs.lemmas.Str.Parse.{IsNumeralModel, numerals_by_fold}
use Rattle.std.proofs.lemmas.Fmt.{decimal_digit, decimal_nonempty, first_decimal, digits_decimal, digits_value-decimal}
use Rattle.a64_decode.specs.declared.operand.Reg.{Reg}
use Rattle.a64_asm.specs.Text.{Whole, Parts, put_before, cut_of, without_blank, operand_of, comma}
use Rattle.numerals.specs.Numeral.{value_of, has_no_leading_zero, number_of}
use Rattle.numerals.specs.Hex.{hex}
use Rattle.numerals.proofs.Hex.{length_hex}
use Rattle.a64_asm.specs.Number.{is_hex_digit, hex_digit_value, hex_word_of}
use Rattle.a64_asm.specs.Register.{register_of, register_text, named}
use Rattle.a64_asm.specs.declared.register.Register.{Register}
use Rattle.a64_asm.specs.Operand.{is_same}
use Rattle.a64_asm.proofs.Hex.{hex_value}
use Rattle.a64_asm.proofs.LawfulWords.{all_below, at_below}

-- the byte isn't in the text
abbrev pub has_no : ℕ → List ℕ → Bool
has_no byte text = list_all (λ one. not (one == byte)) text

cut_first : (byte first : ℕ) (front behind : List ℕ) (b : Bool) → not b ≡ true → cut_of byte (front ++ byte ∷ behind) ≡ Parts front behind
    → (if b then Parts [] (front ++ byte ∷ behind) else put_before first (cut_of byte (front ++ byte ∷ behind))) ≡ Parts (first ∷ front) behind
cut_first byte first front behind true h known = cc
cut_first byte first front behind false h known = ap (put_before first) known

same_byte : (byte : ℕ) → (byte == byte) ≡ true
same_byte byte = grind (arith, nat_tests)

-- a text is cut at a byte that isn't in its front
pub cut_at : (byte : ℕ) (front behind : List ℕ) → has_no byte front ≡ true → cut_of byte (front ++ byte ∷ behind) ≡ Parts front behind
unfolding cut_of
cut_at byte [] behind none = ap (λ b. if b then Parts [] behind else put_before byte (cut_of byte behind)) (same_byte byte)
cut_at byte (first ∷ front) behind none =
    let facts = and_parts (not (first == byte)) (has_no byte front) none in
    cut_first byte first front behind (first == byte) facts.0 (cut_at byte front behind facts.1)

whole_first : (byte first : ℕ) (rest : List ℕ) (b : Bool) → not b ≡ true → cut_of byte rest ≡ Whole
    → (if b then Parts [] rest else put_before first (cut_of byte rest)) ≡ Whole
whole_first byte first rest true h known = cc
whole_first byte first rest false h known = ap (put_before first) known

pub not_cut : (byte : ℕ) (text : List ℕ) → has_no byte text ≡ true → cut_of byte text ≡ Whole
unfolding cut_of
not_cut byte [] none = refl
not_cut byte (first ∷ rest) none =
    let facts = and_parts (not (first == byte)) (has_no byte rest) none in
    whole_first byte first rest (first == byte) facts.0 (not_cut byte rest facts.1)

-- the first of more operands
pub operand_cut : (front behind : List ℕ) → has_no 44 front ≡ true → operand_of (front ++ (comma ++ behind)) ≡ Parts front behind
unfolding operand_of
operand_cut front behind none = ap without_blank (cut_at 44 front (32 ∷ behind) none)

-- small letters and digits
abbrev pub is_plain : ℕ → Bool
is_plain byte = (nat_le 97 byte && nat_le byte 122) || is_ascii_digit byte

abbrev pub plain : List ℕ → Bool
plain text = list_all is_plain text

-- a test that a plain byte passes
pub weaker : (p q : ℕ → Bool) → ((byte : ℕ) → p byte ≡ true → q byte ≡ true) → (text : List ℕ) → list_all p text ≡ true → list_all q text ≡ true
weaker p q known [] all = refl
weaker p q known (first ∷ rest) all =
    let facts = and_parts (p first) (list_all p rest) all in
    and_from _ _ (known first facts.0) (weaker p q known rest facts.1)

plain_no_comma : (byte : ℕ) → is_plain byte ≡ true → not (byte == 44) ≡ true
plain_no_comma byte h = grind (arith, nat_tests)

plain_no_bracket : (byte : ℕ) → is_plain byte ≡ true → not (byte == 93) ≡ true
plain_no_bracket byte h = grind (arith, nat_tests)

plain_no_line : (byte : ℕ) → is_plain byte ≡ true → not (byte == 95) ≡ true
plain_no_line byte h = grind (arith, nat_tests)

pub no_comma : (text : List ℕ) → plain text ≡ true → has_no 44 text ≡ true
no_comma text all = weaker is_plain (λ one. not (one == 44)) plain_no_comma text all

pub no_bracket : (text : List ℕ) → plain text ≡ true → has_no 93 text ≡ true
no_bracket text all = weaker is_plain (λ one. not (one == 93)) plain_no_bracket text all

pub no_line : (text : List ℕ) → plain text ≡ true → has_no 95 text ≡ true
no_line text all = weaker is_plain (λ one. not (one == 95)) plain_no_line text all

digit_plain : (byte : ℕ) → is_ascii_digit byte ≡ true → is_plain byte ≡ true
digit_plain byte h = grind (arith, nat_tests)

-- decimal numbers
own : IsNumeralModel (λ ds. list_all is_ascii_digit ds ≡ true) value_of
own = numerals_by_fold _ (search rules) (λ n ds. fold (λ value digit. value * 10 + (digit - 48)) n ds) (search rules)

pub all_digits : (n : ℕ) → n < 2 ^ 64 → list_all is_ascii_digit (decimal n) ≡ true
all_digits n low = digits_decimal own n low

pub plain_decimal : (n : ℕ) → n < 2 ^ 64 → plain (decimal n) ≡ true
plain_decimal n low = weaker is_ascii_digit is_plain digit_plain (decimal n) (all_digits n low)

not_zero : (first : ℕ) → 48 < first → not (first == 48) ≡ true
not_zero first high = grind (arith, nat_tests)

leads : (n : ℕ) (text : List ℕ) → n < 2 ^ 64 → decimal n ≡ text → has_no_leading_zero text ≡ true
leads n [] low e = absurd (omega (arith, decimal_nonempty n low, ap length e))
leads n (digit ∷ []) low e = refl
leads zero (first ∷ second ∷ others) low e =
    absurd (omega (arith, ap length (sym e ∙ decimal_digit 0 (omega arith))))
leads (suc n) (first ∷ second ∷ others) low e =
    not_zero first (omega (arith, first_decimal (suc n) (omega arith) low, ap (λ t. get_or t 0 0) e))

pub number_read : (n : ℕ) → n < 2 ^ 64 → number_of (decimal n) ≡ Some n
unfolding number_of
number_read n low =
    let value : value_of (decimal n) ≡ n = digits_value-decimal own n low in
    let least : min (value_of (decimal n)) 0xffffffffffffffff ≡ n = omega (arith, value, low) in
    ap (λ b. if b then Some (min (value_of (decimal n)) 0xffffffffffffffff) else None)
    (and_from _ _ (leads n (decimal n) low refl) (all_digits n low))
    ∙ ap Some least

-- registers, by trying all
abbrev is_read : Bool → Bool → ℕ → Option Register → Bool
is_read stack wide number None = false
is_read stack wide number (Some register) = is_same register.wide wide && (register.reg.0 == number)

abbrev reg_of : ℕ → Reg
reg_of number = record { 0 = number }

same_width : (a b : Bool) → is_same a b ≡ true → a ≡ b
same_width true true h = refl
same_width true false h = cc
same_width false true h = cc
same_width false false h = refl

is_named : (stack wide : Bool) (number : ℕ) (read : Option Register) → is_read stack wide number read ≡ true → read ≡ Some (named wide number)
is_named stack wide number None h = cc
is_named stack wide number (Some register) h =
    let facts = and_parts (is_same register.wide wide) (register.reg.0 == number) h in
    let one : register.wide ≡ wide = same_width register.wide wide facts.0 in
    let other : register.reg.0 ≡ number = eqb-true register.reg.0 number facts.1 in
    λ i. Some (record { wide = one i; reg = record { 0 = other i } })

abbrev reads : Bool → Bool → ℕ → Bool
reads stack wide number =
    is_read stack wide number (register_of stack (register_text stack wide (reg_of number)))
    && plain (register_text stack wide (reg_of number))

stack_wide_read : all_below 32 (reads true true) ≡ true
unfolding register_of register_text number_of digits
stack_wide_read = refl

stack_read : all_below 32 (reads true false) ≡ true
unfolding register_of register_text number_of digits
stack_read = refl

wide_read : all_below 32 (reads false true) ≡ true
unfolding register_of register_text number_of digits
wide_read = refl

narrow_read : all_below 32 (reads false false) ≡ true
unfolding register_of register_text number_of digits
narrow_read = refl

all_read : (stack wide : Bool) → all_below 32 (reads stack wide) ≡ true
all_read true true = stack_wide_read
all_read true false = stack_read
all_read false true = wide_read
all_read false false = narrow_read

pub register_read : (stack wide : Bool) (register : Reg) → register.0 < 32
    → register_of stack (register_text stack wide register) ≡ Some (named wide register.0)
register_read stack wide register low =
    let h = at_below 32 (reads stack wide) (all_read stack wide) register.0 low in
    is_named stack wide register.0 (register_of stack (register_text stack wide register))
    (and_parts (is_read stack wide register.0 (register_of stack (register_text stack wide register))) (plain (register_text stack wide register)) h).0

pub plain_register : (stack wide : Bool) (register : Reg) → register.0 < 32 → plain (register_text stack wide register) ≡ true
plain_register stack wide register low =
    let h = at_below 32 (reads stack wide) (all_read stack wide) register.0 low in
    (and_parts (is_read stack wide register.0 (register_of stack (register_text stack wide register))) (plain (register_text stack wide register)) h).1

-- words in hexadecimal digits
abbrev is_glyph : ℕ → Bool
is_glyph n = is_hex_digit (digit_glyph false n) && (hex_digit_value (digit_glyph false n) == n) && is_plain (digit_glyph false n)

glyph : (n : ℕ) → n < 16 → is_glyph n ≡ true
glyph n low = at_below 16 is_glyph refl n low

below_16 : (n : ℕ) → n % 16 < 16
below_16 n = omega arith

pub digits_hex : (k n : ℕ) → list_all is_hex_digit (hex k n) ≡ true
unfolding hex
digits_hex zero n = refl
digits_hex (suc k) n =
    let facts = and_parts (is_hex_digit (digit_glyph false (n % 16)) && (hex_digit_value (digit_glyph false (n % 16)) == n % 16)) (is_plain (digit_glyph false (n % 16))) (glyph (n % 16) (below_16 n)) in
    let one = (and_parts (is_hex_digit (digit_glyph false (n % 16))) (hex_digit_value (digit_glyph false (n % 16)) == n % 16) facts.0).0 in
    list_all-append is_hex_digit (hex k (n / 16)) (digit_glyph false (n % 16) ∷ []) ∙ rw (digits_hex k (n / 16), one) refl

pub plain_hex : (k n : ℕ) → plain (hex k n) ≡ true
unfolding hex
plain_hex zero n = refl
plain_hex (suc k) n =
    let one = (and_parts (is_hex_digit (digit_glyph false (n % 16)) && (hex_digit_value (digit_glyph false (n % 16)) == n % 16)) (is_plain (digit_glyph false (n % 16))) (glyph (n % 16) (below_16 n))).1 in
    list_all-append is_plain (hex k (n / 16)) (digit_glyph false (n % 16) ∷ []) ∙ rw (plain_hex k (n / 16), one) refl

value_hex : (k n : ℕ) → n < 16 ^ k → hex_value (hex k n) ≡ n
unfolding hex
value_hex zero n low = omega arith
value_hex (suc k) n low =
    let facts = and_parts (is_hex_digit (digit_glyph false (n % 16)) && (hex_digit_value (digit_glyph false (n % 16)) == n % 16)) (is_plain (digit_glyph false (n % 16))) (glyph (n % 16) (below_16 n)) in
    let last : hex_digit_value (digit_glyph false (n % 16)) ≡ n % 16 =
    eqb-true _ _ (and_parts (is_hex_digit (digit_glyph false (n % 16))) (hex_digit_value (digit_glyph false (n % 16)) == n % 16) facts.0).1 in
    let fewer : n / 16 < 16 ^ k = div_below n 16 (16 ^ k) (omega arith) (omega (arith, low, pow-add 16 k 1)) in
    fold-append (λ value digit. value * 16 + hex_digit_value digit) 0 (hex k (n / 16)) (digit_glyph false (n % 16) ∷ [])
    ∙ ap (λ v. v * 16 + hex_digit_value (digit_glyph false (n % 16))) (value_hex k (n / 16) fewer)
    ∙ ap (λ v. n / 16 * 16 + v) last ∙ omega arith

pub hex_read : (word : ℕ) → word < 2 ^ 32 → hex_word_of (hex 8 word) ≡ Some word
unfolding hex_word_of
hex_read word low =
    ap (λ b. if b then Some (hex_value (hex 8 word)) else None)
    (and_from (eqb (length (hex 8 word)) 8) (list_all is_hex_digit (hex 8 word)) (ap (λ n. eqb n 8) (length_hex 8 word)) (digits_hex 8 word))
    ∙ ap Some (value_hex 8 word low)
