-- A line, cut at its blanks.
use Rattle.std.proofs.Common.{◌≡◌, ℕ, ◌<◌, ◌==◌, true, false, List, [], ◌∷◌, length, sym, refl, ap, subst, ◌∙◌, arith}
use Rattle.std.specs.Prelude.{Option, Some, None}
use Rattle.std.specs.List.{All, list_all, join_with_byte}
use Rattle.std.specs.Char.{is_ascii_digit}
use Rattle.std.proofs.lemmas.Bool.{and_parts}
use Rattle.std.proofs.lemmas.Bool.Decides.{nat_tests}
use Rattle.std.proofs.lemmas.List.Elements.{All-nil, All-cons}
use Rattle.std.proofs.lemmas.List.Splits.{slice_split_none, join_with_byte-slice_split}
use Rattle.std.proofs.lemmas.Fmt.{digits_decimal}
use Rattle.text_lines.specs.Cut.{IsWhole, IsCut}
use Rattle.schedule.specs.Parts.{parts}
use Rattle.schedule.specs.Number.{number_of}
use Rattle.schedule.specs.Line.{entry_of, entry_in, parts_of}
use Rattle.schedule.specs.declared.line.Line.TheVariants.{BadForm}
use Rattle.schedule.proofs.Cuts.{in_parts, one, some_part}
use Rattle.schedule.proofs.Numbers.{own, number_is}

-- no digit is a byte below all digits
not_below : (byte digit : ℕ) → byte < 48 → is_ascii_digit digit ≡ true → (digit == byte) ≡ false
not_below byte digit low h = grind (arith, nat_tests)

pub none_below_digits : (byte : ℕ) (text : List ℕ) → byte < 48 → list_all is_ascii_digit text ≡ true
    → All (λ other. (other == byte) ≡ false) text
none_below_digits byte [] low h = All-nil (λ other. (other == byte) ≡ false)
none_below_digits byte (digit ∷ text) low h =
    let both = and_parts (is_ascii_digit digit) (list_all is_ascii_digit text) h in
    All-cons (λ other. (other == byte) ≡ false) digit text (not_below byte digit low both.0)
    (none_below_digits byte text low both.1)

pub no_blanks : (text : List ℕ) → list_all is_ascii_digit text ≡ true → All (λ other. (other == 32) ≡ false) text
no_blanks text h = none_below_digits 32 text (omega arith) h

-- a number has no blank in it
number_whole : (text : List ℕ) (n : ℕ) → number_of text ≡ Some n → parts 32 text ≡ text ∷ []
number_whole text n h =
    let facts = number_is text n h in
    slice_split_none (λ other. other == 32) text
    (no_blanks text (subst (λ t. list_all is_ascii_digit t ≡ true) (sym facts.1) (digits_decimal own n facts.0)))

-- the number after the second blank is of the whole rest
no_second : (kind : List ℕ) (first : Option ℕ) → BadForm ≡ entry_of kind first None
no_second kind None = refl
no_second kind (Some n) = refl

one_whole : (text part : List ℕ) → parts 32 text ≡ part ∷ [] → part ≡ text
one_whole text part e = sym (ap (join_with_byte 32) e) ∙ join_with_byte-slice_split 32 text

number_in_one : (text x y : List ℕ) (others : List (List ℕ)) (n : Option ℕ) → number_of text ≡ n
    → parts 32 text ≡ x ∷ y ∷ others → n ≡ None
number_in_one text x y others None h e = refl
number_in_one text x y others (Some n) h e =
    let two : text ∷ [] ≡ x ∷ y ∷ others = sym (number_whole text n h) ∙ e in cc

behind_second : (kind first second : List ℕ) (ps : List (List ℕ)) → parts 32 second ≡ ps
    → entry_in (kind ∷ first ∷ ps) ≡ entry_of kind (number_of first) (number_of second)
behind_second kind first second [] e = absurd (omega (arith, some_part 32 second, ap length e))
behind_second kind first second (part ∷ []) e =
    ap (λ t. entry_of kind (number_of first) (number_of t)) (one_whole second part e)
behind_second kind first second (x ∷ y ∷ others) e =
    no_second kind (number_of first)
    ∙ sym (ap (λ n. entry_of kind (number_of first) n) (number_in_one second x y others (number_of second) refl e))

pub one_part : (text : List ℕ) → IsWhole 32 text → BadForm ≡ parts_of text
unfolding parts_of
one_part text whole = sym (ap entry_in (one 32 text whole))

pub more_parts : (text kind behind : List ℕ) → IsCut 32 text kind behind → entry_in (kind ∷ parts 32 behind) ≡ parts_of text
unfolding parts_of
more_parts text kind behind cut = sym (ap entry_in (in_parts 32 text kind behind cut))

pub two_parts : (kind behind : List ℕ) → IsWhole 32 behind → BadForm ≡ entry_in (kind ∷ parts 32 behind)
two_parts kind behind whole = sym (ap (λ ps. entry_in (kind ∷ ps)) (one 32 behind whole))

pub three_parts : (kind behind first second : List ℕ) → IsCut 32 behind first second
    → entry_of kind (number_of first) (number_of second) ≡ entry_in (kind ∷ parts 32 behind)
three_parts kind behind first second cut =
    sym (ap (λ ps. entry_in (kind ∷ ps)) (in_parts 32 behind first second cut) ∙ behind_second kind first second (parts 32 second) refl)
