-- A text, cut at a byte.
use Rattle.std.specs.Prelude.{ℕ, ◌==◌, if◌then◌else◌, List, [], ◌∷◌, codes}
use Rattle.text_lines.specs.Ascii.{blank, comma_sign}

-- the byte isn't in the text, or these stand before and after the first such byte
pub data Cut : Type 0 where
  Whole : Cut
  Parts : (front behind : List ℕ) → Cut

abbrev pub put_before : ℕ → Cut → Cut
put_before first Whole = Whole
put_before first (Parts front behind) = Parts (first ∷ front) behind

unfoldable pub cut_of : ℕ → List ℕ → Cut
cut_of byte [] = Whole
cut_of byte (first ∷ rest) = if first == byte then Parts [] rest else put_before first (cut_of byte rest)

-- a blank stands after the byte, and goes
abbrev pub without_blank : Cut → Cut
without_blank Whole = Whole
without_blank (Parts front []) = Whole
without_blank (Parts front (first ∷ rest)) = if first == blank then Parts front rest else Whole

-- an operand, before the first comma and its blank, and what stands after them
unfoldable pub operand_of : List ℕ → Cut
operand_of text = without_blank (cut_of comma_sign text)

-- what stands between two operands
abbrev pub comma : List ℕ
comma = codes ", "
