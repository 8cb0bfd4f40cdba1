use Rattle.a64_asm.specs.declared.said.Said.TheVariants.{Instruction}
use Rattle.a64_asm.proofs.HasWord.{encodes}
use Rattle.a64_asm.proofs.Sayable.{sayable}
use Rattle.a64_asm.proofs.law.a_line_gives_the_word_of_its_instruction.Goals as goal

pub returns : goal.returns
returns c labels place line instr said =
    let facts = sayable labels place line (Instruction instr) said in encodes instr facts.0 facts.1
