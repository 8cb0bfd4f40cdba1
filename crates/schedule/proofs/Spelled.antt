-- A line is written as what it says.
use Rattle.std.proofs.Common.{◌≡◌, ℕ, ◌^◌, ◌<◌, ◌==◌, Bool, true, false, ◌&&◌, List, [], ◌∷◌, ◌++◌, sym, refl, ap, ◌∙◌, arith}
use Rattle.std.specs.Prelude.{Option, Some, None, nat_le, if◌then◌else◌, codes, ◌↔◌}
use Rattle.std.specs.List.{All, join_with_byte}
use Rattle.std.specs.Fmt.{decimal}
use Rattle.std.specs.Str.{bytes_eq}
use Rattle.std.specs.Str.Parse.{digits_value}
use Rattle.std.proofs.lemmas.Bool.Decides.{nat_tests}
use Rattle.std.proofs.lemmas.Slice.Eq.{bytes_eq-Decides}
use Rattle.std.proofs.lemmas.List.Elements.{All-nil, All-cons}
use Rattle.std.proofs.lemmas.List.Splits.{slice_split_none, slice_split_at, join_with_byte-slice_split}
use Rattle.std.proofs.lemmas.Fmt.{digits_decimal, digits_value-decimal}
use Rattle.schedule.specs.Parts.{parts}
use Rattle.schedule.specs.Number.{number_of}
use Rattle.schedule.specs.Line.{entry_of, entry_in, parts_of, line_of}
use Rattle.schedule.specs.Spelled.{SpellsStep, SpellsInput}
use Rattle.schedule.specs.declared.line.Line.{Line}
use Rattle.schedule.specs.declared.line.Line.TheVariants.{NoEvent, Step, Input, BadForm}
use Rattle.schedule.proofs.Numbers.{own, is_number, number_is}
use Rattle.schedule.proofs.Lines.{no_blanks}

-- a number that is written is read
number_of-decimal : (n : ℕ) → n < 2 ^ 64 → number_of (decimal n) ≡ Some n
number_of-decimal n low =
    let v : digits_value 10 (decimal n) ≡ n = digits_value-decimal own n low in
    sym (is_number (decimal n) (omega (arith, v, low)) (ap decimal (sym v))) ∙ ap Some v

unblank : (n : ℕ) → n < 2 ^ 64 → All (λ other. (other == 32) ≡ false) (decimal n)
unblank n low = no_blanks (decimal n) (digits_decimal own n low)

-- a letter, a blank, and two numbers with a blank between them, in parts
in_parts : (letter a b : ℕ) → (letter == 32) ≡ false → a < 2 ^ 64 → b < 2 ^ 64
    → parts 32 (letter ∷ 32 ∷ (decimal a ++ 32 ∷ decimal b)) ≡ (letter ∷ []) ∷ decimal a ∷ decimal b ∷ []
in_parts letter a b other low high =
    let p : ℕ → Bool = λ other. other == 32 in
    slice_split_at p (letter ∷ []) 32 (decimal a ++ 32 ∷ decimal b) (one other) refl
    ∙ ap (λ ps. (letter ∷ []) ∷ ps)
    (slice_split_at p (decimal a) 32 (decimal b) (unblank a low) refl
    ∙ ap (λ ps. decimal a ∷ ps) (slice_split_none p (decimal b) (unblank b high)))
  where
    one : (letter == 32) ≡ false → All (λ other. (other == 32) ≡ false) (letter ∷ [])
    one h = All-cons (λ other. (other == 32) ≡ false) letter [] h (All-nil (λ other. (other == 32) ≡ false))

entry_read : (kind : List ℕ) (a b : ℕ) → a < 2 ^ 64 → b < 2 ^ 64
    → entry_in (kind ∷ decimal a ∷ decimal b ∷ []) ≡ entry_of kind (Some a) (Some b)
entry_read kind a b low high = rw (number_of-decimal a low, number_of-decimal b high) refl

small_byte : (byte : ℕ) → byte < 256 → nat_le byte 255 ≡ true
small_byte byte low = grind (arith, nat_tests)

step_read : (core count : ℕ) (text : List ℕ) → SpellsStep core count text → line_of text ≡ Step core count
unfolding line_of parts_of
step_read core count text spells =
    ap line_of spells.spelled ∙ ap entry_in (in_parts 115 core count refl spells.core_fits spells.count_fits)
    ∙ entry_read (115 ∷ []) core count spells.core_fits spells.count_fits

input_read : (port byte : ℕ) (text : List ℕ) → SpellsInput port byte text → line_of text ≡ Input port byte
unfolding line_of parts_of
input_read port byte text spells =
    let fits : byte < 2 ^ 64 = omega (arith, spells.byte_fits) in
    ap line_of spells.spelled ∙ ap entry_in (in_parts 105 port byte refl spells.port_fits fits)
    ∙ entry_read (105 ∷ []) port byte spells.port_fits fits
    ∙ ap (λ b. if b then Input port byte else BadForm) (small_byte byte spells.byte_fits)

-- what an entry is made of
pub record IsEntry (text : List ℕ) (kind : ℕ) (a b : ℕ) : Type 0 where
  pub low : a < 2 ^ 64
  pub high : b < 2 ^ 64
  pub spelled : text ≡ kind ∷ 32 ∷ (decimal a ++ 32 ∷ decimal b)

-- the entry of two numbers that are there
entry_made : (kind first second : List ℕ) (letter a b : ℕ) → kind ≡ letter ∷ [] → number_of first ≡ Some a → number_of second ≡ Some b
    → (text : List ℕ) → parts 32 text ≡ kind ∷ first ∷ second ∷ [] → IsEntry text letter a b
entry_made kind first second letter a b k f s text e =
    let one = number_is first a f in
    let two = number_is second b s in
    record {
      low = one.0;
      high = two.0;
      spelled =
          sym (join_with_byte-slice_split 32 text) ∙ ap (join_with_byte 32) e
          ∙ ap (λ t. t ++ (32 ∷ (first ++ (32 ∷ second)))) k
          ∙ ap (λ t. letter ∷ 32 ∷ (t ++ (32 ∷ second))) one.1
          ∙ ap (λ t. letter ∷ 32 ∷ (decimal a ++ (32 ∷ t))) two.1;
    }

-- which line an entry is: of a step, and of an input
step_by : (kind : List ℕ) (a b core count : ℕ) (s i : Bool) → bytes_eq kind (codes "s") ≡ s
    → (if s then Step a b else if i then Input a b else BadForm) ≡ Step core count
    → (kind ≡ codes "s") × (a ≡ core) × (b ≡ count)
step_by kind a b core count true i e h = ((bytes_eq-Decides kind (codes "s")).0 e, cc, cc)
step_by kind a b core count false true e h = cc
step_by kind a b core count false false e h = cc

is_byte : (b : ℕ) → nat_le b 255 ≡ true → b < 256
is_byte b h = grind (arith, nat_tests)

input_by : (kind : List ℕ) (a b port byte : ℕ) (s i small : Bool) → bytes_eq kind (codes "i") ≡ i → nat_le b 255 ≡ small
    → (if s then Step a b else if i && small then Input a b else BadForm) ≡ Input port byte
    → (kind ≡ codes "i") × (a ≡ port) × (b ≡ byte) × (b < 256)
input_by kind a b port byte true i small e l h = cc
input_by kind a b port byte false true true e l h = ((bytes_eq-Decides kind (codes "i")).0 e, cc, cc, is_byte b l)
input_by kind a b port byte false true false e l h = cc
input_by kind a b port byte false false small e l h = cc

module _ (text kind first second : List ℕ) (e : parts 32 text ≡ kind ∷ first ∷ second ∷ []) where
  step_numbers : (core count : ℕ) (m n : Option ℕ) → number_of first ≡ m → number_of second ≡ n
      → entry_of kind m n ≡ Step core count → IsEntry text 115 core count
  step_numbers core count None n f s h = cc
  step_numbers core count (Some a) None f s h = cc
  step_numbers core count (Some a) (Some b) f s h =
      let facts = step_by kind a b core count _ (bytes_eq kind (codes "i") && nat_le b 255) refl h in
      entry_made kind first second 115 core count facts.0 (f ∙ ap Some facts.1) (s ∙ ap Some facts.2) text e

  input_numbers : (port byte : ℕ) (m n : Option ℕ) → number_of first ≡ m → number_of second ≡ n
      → entry_of kind m n ≡ Input port byte → IsEntry text 105 port byte × (byte < 256)
  input_numbers port byte None n f s h = cc
  input_numbers port byte (Some a) None f s h = cc
  input_numbers port byte (Some a) (Some b) f s h =
      let facts = input_by kind a b port byte (bytes_eq kind (codes "s")) _ _ refl refl h in (
        entry_made kind first second 105 port byte facts.0 (f ∙ ap Some facts.1) (s ∙ ap Some facts.2) text e,
        omega (arith, facts.3, facts.2),
      )

step_parts : (text : List ℕ) (core count : ℕ) (ps : List (List ℕ)) → parts 32 text ≡ ps → entry_in ps ≡ Step core count
    → IsEntry text 115 core count
step_parts text core count [] e h = cc
step_parts text core count (kind ∷ []) e h = cc
step_parts text core count (kind ∷ first ∷ []) e h = cc
step_parts text core count (kind ∷ first ∷ second ∷ []) e h = step_numbers text kind first second e core count _ _ refl refl h
step_parts text core count (kind ∷ first ∷ second ∷ other ∷ others) e h = cc

input_parts : (text : List ℕ) (port byte : ℕ) (ps : List (List ℕ)) → parts 32 text ≡ ps → entry_in ps ≡ Input port byte
    → IsEntry text 105 port byte × (byte < 256)
input_parts text port byte [] e h = cc
input_parts text port byte (kind ∷ []) e h = cc
input_parts text port byte (kind ∷ first ∷ []) e h = cc
input_parts text port byte (kind ∷ first ∷ second ∷ []) e h = input_numbers text kind first second e port byte _ _ refl refl h
input_parts text port byte (kind ∷ first ∷ second ∷ other ∷ others) e h = cc

-- a line that says something is an entry
said_in_parts : (text : List ℕ) (said : Line) → line_of text ≡ said → (NoEvent ≡ said → ⊥) → parts_of text ≡ said
unfolding line_of
said_in_parts [] said h never = absurd (never h)
said_in_parts (first ∷ rest) said h never = by_comment (first == 35) h
  where
    by_comment : (comment : Bool) → (if comment then NoEvent else parts_of (first ∷ rest)) ≡ said → parts_of (first ∷ rest) ≡ said
    by_comment true e = absurd (never e)
    by_comment false e = e

step_said : (core count : ℕ) (text : List ℕ) → line_of text ≡ Step core count → SpellsStep core count text
unfolding parts_of
step_said core count text h =
    let entry = step_parts text core count _ refl (said_in_parts text (Step core count) h (λ none. cc)) in
    record { core_fits = entry.low; count_fits = entry.high; spelled = entry.spelled }

input_said : (port byte : ℕ) (text : List ℕ) → line_of text ≡ Input port byte → SpellsInput port byte text
unfolding parts_of
input_said port byte text h =
    let entry = input_parts text port byte _ refl (said_in_parts text (Input port byte) h (λ none. cc)) in
    record { port_fits = entry.0.low; byte_fits = entry.1; spelled = entry.0.spelled }

pub steps : (text : List ℕ) (core count : ℕ) → (line_of text ≡ Step core count) ↔ SpellsStep core count text
steps text core count = (step_said core count text, step_read core count text)

pub inputs : (text : List ℕ) (port byte : ℕ) → (line_of text ≡ Input port byte) ↔ SpellsInput port byte text
inputs text port byte = (input_said port byte text, input_read port byte text)
