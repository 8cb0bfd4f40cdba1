-- A source, line by line.
use Rattle.std.proofs.Common.{◌≡◌, ℕ, ◌+◌, ◌<◌, ◌≤◌, Bool, true, false, List, [], ◌∷◌, ◌++◌, length, refl, sym, ap, subst, ◌∙◌, arith}
use Rattle.std.specs.Prelude.{Option, Some, None, if◌then◌else◌}
use Rattle.text_lines.specs.Rules.{unless_broken}
use Rattle.a64_asm.specs.Text.{Whole, Parts, cut_of}
use Rattle.a64_asm.specs.Source.{judged, broken_by, bytes_in, at_end, Image, Broken, next_of, assembled_from, assembled, beginning, lines_of, definitions, is_word, TellsBroken}
use Rattle.a64_asm.specs.Progress.{TakesLine, IsRefused}
use Rattle.a64_asm.specs.declared.label.Definition.{Definition}
use Rattle.a64_asm.specs.declared.source.Progress.{Progress}
use Rattle.a64_asm.specs.declared.error.AsmError.{AsmError}
use Rattle.a64_asm.specs.declared.error.AsmError.TheVariants.{BadLine, OutOfMemory}
use Rattle.a64_asm.proofs.Lines.{first_line, no_line, some_part}

-- so far the lines before the rest were read; what is left decides
pub record IsReading (text bytes : List ℕ) (here : Definition) (rest : List ℕ) : Type 0 where
  pub left : assembled text ≡ assembled_from (definitions text) bytes here (lines_of rest)
  pub lines : here.line + length rest ≤ length text
  pub place : here.place ≤ here.line

pub begins : (text bytes : List ℕ) → bytes ≡ [] → IsReading text bytes beginning text
unfolding assembled
begins text bytes none =
    record { left = ap (λ b. assembled_from (definitions text) b beginning (lines_of text)) (sym none); lines = omega arith; place = omega arith }

-- the first line decides, where something stands after it
pub next_line : (labels : List ℕ → Option Definition) (bytes : List ℕ) (here : Definition) (line : List ℕ) (more : List (List ℕ)) → 0 < length more
    → assembled_from labels bytes here (line ∷ more)
    ≡ unless_broken (Broken (here.line + 1)) (broken_by (judged labels here line))
    (assembled_from labels (bytes ++ bytes_in (judged labels here line)) (next_of here line) more)
unfolding assembled_from
next_line labels bytes here line [] some = absurd (omega arith)
next_line labels bytes here line (next ∷ others) some = refl

place_below : (here : Definition) (line : List ℕ) → (next_of here line).place ≤ here.place + 1
place_below here line = by_word (is_word line)
  where
    by_word : (b : Bool) → (if b then here.place + 1 else here.place) ≤ here.place + 1
    by_word true = omega arith
    by_word false = omega arith

module _ (text : List ℕ) (before : Progress) (rest line others : List ℕ) (reading : IsReading text before.image.items before.here rest)
    (cut : cut_of 10 rest ≡ Parts line others) where
  by_rule : (rule : Option ℕ) → broken_by (judged (definitions text) before.here line) ≡ rule
      → assembled text
      ≡ unless_broken (Broken (before.here.line + 1)) rule
      (assembled_from (definitions text) (before.image.items ++ bytes_in (judged (definitions text) before.here line)) (next_of before.here line) (lines_of others))
  by_rule rule is =
      reading.left ∙ ap (assembled_from (definitions text) before.image.items before.here) (first_line rest line others cut).split
      ∙ next_line (definitions text) before.image.items before.here line (lines_of others) (some_part others)
      ∙ ap (λ r. unless_broken (Broken (before.here.line + 1)) r (assembled_from (definitions text) (before.image.items ++ bytes_in (judged (definitions text) before.here line)) (next_of before.here line) (lines_of others))) is

  with_line : (after : Progress) → TakesLine (definitions text) before line after → IsReading text after.image.items after.here others
  with_line after takes =
      record {
        left =
            by_rule None takes.kept
            ∙ ap (λ b. assembled_from (definitions text) b (next_of before.here line) (lines_of others)) (sym takes.bytes)
            ∙ ap (λ h. assembled_from (definitions text) after.image.items h (lines_of others)) (sym takes.place);
        lines = omega (arith, reading.lines, (first_line rest line others cut).fewer, ap (λ h. h.line) takes.place);
        place = omega (arith, reading.place, place_below before.here line, ap (λ h. h.line) takes.place, ap (λ h. h.place) takes.place);
      }

  -- the line was taken, with labels that are those of the text
  pub goes_on : (labels : List ℕ → Option Definition) (after : Progress) → TakesLine labels before line after
      → ((name : List ℕ) → labels name ≡ definitions text name) → IsReading text after.image.items after.here others
  goes_on labels after takes same =
      let one : labels ≡ definitions text = λ i name. same name i in
      with_line after (subst (λ f. TakesLine f before line after) one takes)

  broken_here : (error : AsmError) → IsRefused (definitions text) before line error → TellsBroken (assembled text) error
  broken_here (BadLine number rule) refused = by_rule (Some rule) refused.1 ∙ ap (λ n. Broken n rule) (sym refused.0)
  broken_here OutOfMemory refused = tt

  -- the line was refused
  pub stops : (labels : List ℕ → Option Definition) (error : AsmError) → IsRefused labels before line error
      → ((name : List ℕ) → labels name ≡ definitions text name) → TellsBroken (assembled text) error
  stops labels error refused same =
      let one : labels ≡ definitions text = λ i name. same name i in
      broken_here error (subst (λ f. IsRefused f before line error) one refused)

none_left : (rest : List ℕ) → length rest ≡ 0 → rest ≡ []
none_left [] none = refl
none_left (first ∷ rest) none = absurd (omega arith)

some_left : (bytes : List ℕ) (here : Definition) (rest : List ℕ) → 0 < length rest → at_end bytes here rest ≡ Broken (here.line + 1) 1
some_left bytes here [] some = absurd (omega arith)
some_left bytes here (first ∷ rest) some = refl

module _ (text bytes : List ℕ) (here : Definition) (rest : List ℕ) (reading : IsReading text bytes here rest) (whole : cut_of 10 rest ≡ Whole) where
  at_rest : assembled text ≡ at_end bytes here rest
  unfolding assembled_from
  at_rest = reading.left ∙ ap (assembled_from (definitions text) bytes here) (no_line rest whole)

  pub ended : length rest ≡ 0 → assembled text ≡ Image bytes
  ended none = at_rest ∙ ap (at_end bytes here) (none_left rest none)

  pub not_ended : 0 < length rest → assembled text ≡ Broken (here.line + 1) 1
  not_ended some = at_rest ∙ some_left bytes here rest some
