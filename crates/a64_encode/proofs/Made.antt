-- An instruction's word is the one that is made of it.
use Rattle.std.proofs.Common.{◌≡◌, ℕ, sym, ◌∙◌, ap}
use Rattle.a64_decode.specs.declared.instr.Instr.{Instr}
use Rattle.a64_decode.specs.Word.{word_of}
use Rattle.a64_decode.proofs.Distinct.{word_of-decoded}
use Rattle.a64_encode.specs.Encode.{IsWordOf, HasOneWord, encoded}

pub word_of-made : (instr : Instr) (word : ℕ) → IsWordOf instr word → word_of instr ≡ word
word_of-made instr word is = ap word_of (sym is.1) ∙ word_of-decoded word is.0 (λ undefined. is.2 (sym is.1 ∙ undefined))

pub encoded-made : (instr : Instr) → HasOneWord instr
unfolding encoded
encoded-made instr word is = word_of-made instr word is
