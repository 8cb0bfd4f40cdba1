use Rattle.std.proofs.Common.{◌≡◌, sym, ap, ◌∙◌, subst}
use Rattle.a64_encode.specs.Encode.{encoded}
use Rattle.a64_asm.specs.Source.{word_said, IsSayable}
use Rattle.a64_asm.specs.declared.said.Said.TheVariants.{Instruction}
use Rattle.a64_asm.proofs.HasWord.{encodes}
use Rattle.a64_asm.proofs.source.word_of.Goals as goal

pub unreachable-requires : goal.unreachable-requires
unreachable-requires c =
    let sayable : IsSayable (Instruction c.in-Instruction.instr) = subst IsSayable c.in-Instruction.is c.requires in
    c.in-None.ensures.word (encoded c.in-Instruction.instr) (encodes c.in-Instruction.instr sayable.0 sayable.1)

pub returns-in-Some : goal.returns-in-Some
returns-in-Some c =
    let sayable : IsSayable (Instruction c.in-Instruction.instr) = subst IsSayable c.in-Instruction.is c.requires in
    let found = c.in-Some.ensures.only (encoded c.in-Instruction.instr) (encodes c.in-Instruction.instr sayable.0 sayable.1) in
    let same : c.in-Some.word ≡ encoded c.in-Instruction.instr = cc in
    same ∙ sym (ap word_said c.in-Instruction.is)
