-- A text that is cut at a byte, in parts.
use Rattle.std.proofs.Common.{◌≡◌, ℕ, ◌+◌, ◌<◌, ◌==◌, true, List, [], ◌∷◌, length, ap, ◌∙◌, arith}
use Rattle.std.proofs.lemmas.Bool.Decides.{nat_tests}
use Rattle.std.proofs.lemmas.List.Splits.{slice_split_none, slice_split_at, length-slice_split}
use Rattle.text_lines.specs.Cut.{IsWhole, IsCut}
use Rattle.schedule.specs.Parts.{parts}

same_byte : (byte : ℕ) → (byte == byte) ≡ true
same_byte byte = grind (arith, nat_tests)

-- the part before the byte, and those after it
pub in_parts : (byte : ℕ) (text front behind : List ℕ) → IsCut byte text front behind → parts byte text ≡ front ∷ parts byte behind
in_parts byte text front behind cut =
    ap (parts byte) cut.joined ∙ slice_split_at (λ other. other == byte) front byte behind cut.first (same_byte byte)

-- one part alone, where the byte isn't there
pub one : (byte : ℕ) (text : List ℕ) → IsWhole byte text → parts byte text ≡ text ∷ []
one byte text none = slice_split_none (λ other. other == byte) text none

-- there is at least one part
pub some_part : (byte : ℕ) (text : List ℕ) → 0 < length (parts byte text)
some_part byte text = omega (arith, length-slice_split (λ other. other == byte) text)
