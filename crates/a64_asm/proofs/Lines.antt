-- The lines of a source.
use Rattle.std.proofs.Common.{◌≡◌, ℕ, ◌<◌, ◌==◌, Bool, true, false, cond, List, [], ◌∷◌, length, refl, ap, ◌∙◌, arith}
use Rattle.std.specs.Prelude.{if◌then◌else◌}
use Rattle.std.specs.List.{onto_first}
use Rattle.std.proofs.lemmas.List.Splits.{length-slice_split}
use Rattle.a64_asm.specs.Text.{Cut, Whole, Parts, put_before, cut_of}
use Rattle.a64_asm.specs.Source.{lines_of}

-- the first line, and those after it
pub record IsLine (text line others : List ℕ) : Type 0 where
  pub split : lines_of text ≡ line ∷ lines_of others
  pub fewer : length others < length text

module _ (first : ℕ) (rest line others : List ℕ) where
  behind : (c : Cut) → ((front back : List ℕ) → c ≡ Parts front back → IsLine rest front back)
      → put_before first c ≡ Parts line others → (onto_first first (lines_of rest) ≡ line ∷ lines_of others) × (length others < length (first ∷ rest))
  behind Whole known e = absurd (cc)
  behind (Parts front back) known e =
      let one = known front back refl in
      let same : back ≡ others = cc in
      let whole : first ∷ front ≡ line = cc in (
        ap (onto_first first) one.split ∙ ap (λ l. l ∷ lines_of back) whole ∙ ap (λ b. line ∷ lines_of b) same,
        omega (arith, one.fewer, ap length same),
      )

  by_first : (b : Bool) → ((front back : List ℕ) → cut_of 10 rest ≡ Parts front back → IsLine rest front back)
      → (if b then Parts [] rest else put_before first (cut_of 10 rest)) ≡ Parts line others
      → (cond b ([] ∷ lines_of rest) (onto_first first (lines_of rest)) ≡ line ∷ lines_of others) × (length others < length (first ∷ rest))
  by_first true known e =
      let same : rest ≡ others = cc in
      let none : [] ≡ line = cc in (
        ap (λ l. l ∷ lines_of rest) none ∙ ap (λ b. line ∷ lines_of b) same,
        omega (arith, ap length same),
      )
  by_first false known e = behind (cut_of 10 rest) known e

pub first_line : (text line others : List ℕ) → cut_of 10 text ≡ Parts line others → IsLine text line others
unfolding cut_of
first_line [] line others e = absurd (cc)
first_line (first ∷ rest) line others e =
    let facts = by_first first rest line others (first == 10) (first_line rest) e in
    record { split = facts.0; fewer = facts.1 }

none_behind : (first : ℕ) (rest : List ℕ) (c : Cut) → (c ≡ Whole → lines_of rest ≡ rest ∷ []) → put_before first c ≡ Whole
    → onto_first first (lines_of rest) ≡ (first ∷ rest) ∷ []
none_behind first rest Whole known e = ap (onto_first first) (known refl)
none_behind first rest (Parts front back) known e = absurd (cc)

none_first : (first : ℕ) (rest : List ℕ) (b : Bool) → (cut_of 10 rest ≡ Whole → lines_of rest ≡ rest ∷ [])
    → (if b then Parts [] rest else put_before first (cut_of 10 rest)) ≡ Whole
    → cond b ([] ∷ lines_of rest) (onto_first first (lines_of rest)) ≡ (first ∷ rest) ∷ []
none_first first rest true known e = absurd (cc)
none_first first rest false known e = none_behind first rest (cut_of 10 rest) known e

-- no line ends here
pub no_line : (text : List ℕ) → cut_of 10 text ≡ Whole → lines_of text ≡ text ∷ []
unfolding cut_of
no_line [] e = refl
no_line (first ∷ rest) e = none_first first rest (first == 10) (no_line rest) e

-- there is at least one part
pub some_part : (text : List ℕ) → 0 < length (lines_of text)
some_part text = omega (arith, length-slice_split (λ byte. byte == 10) text)
