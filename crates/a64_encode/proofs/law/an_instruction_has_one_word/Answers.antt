use Rattle.a64_encode.proofs.Made.{encoded-made}
use Rattle.a64_encode.proofs.law.an_instruction_has_one_word.Goals as goal

pub returns : goal.returns
returns c = encoded-made
