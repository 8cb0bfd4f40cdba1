-- A text is cut as the first such byte in it says.
use Rattle.std.proofs.Common.{◌≡◌, ℕ, ◌==◌, true, false, not, List, [], ◌∷◌, refl, ap, ◌∙◌}
use Rattle.std.proofs.lemmas.Bool.{and_from}
use Rattle.std.proofs.lemmas.List.Elements.{All-head, All-tail}
use Rattle.text_lines.specs.Cut.{IsWhole, IsCut}
use Rattle.a64_asm.specs.Text.{Whole, Parts, cut_of}
use Rattle.a64_asm.proofs.Spelled.{has_no, cut_at, not_cut}

no_byte : (byte : ℕ) (text : List ℕ) → IsWhole byte text → has_no byte text ≡ true
no_byte byte [] none = refl
no_byte byte (first ∷ rest) none =
    let other : ℕ → _ = λ one. (one == byte) ≡ false in
    and_from (not (first == byte)) (has_no byte rest) (ap not (All-head other first rest none))
    (no_byte byte rest (All-tail other first rest none))

pub in_parts : (byte : ℕ) (text front after : List ℕ) → IsCut byte text front after → cut_of byte text ≡ Parts front after
in_parts byte text front after cut = ap (cut_of byte) cut.joined ∙ cut_at byte front after (no_byte byte front cut.first)

pub whole : (byte : ℕ) (text : List ℕ) → IsWhole byte text → cut_of byte text ≡ Whole
whole byte text none = not_cut byte text (no_byte byte text none)
