use Rattle.std.proofs.Common.{arith, sym, ◌∙◌, ap, Some}
use Rattle.a64_decode.specs.Table.{decoded}
use Rattle.a64_decode.specs.declared.instr.Instr.TheVariants.{Undefined}
use Rattle.a64_encode.proofs.Equal.{same, differ}
use Rattle.a64_encode.proofs.Made.{word_of-made}
use Rattle.a64_encode.proofs.encoding.encode.Goals as goal

-- what is made has too many bits, and so would the word of the instruction
pub returns-then-word-from-clause-word : goal.returns-then-word-from-clause-word
returns-then-word-from-clause-word c word is =
    absurd
    (omega (arith, is.0, word_of-made c.args.instr.now word is, c.word_of-word.ensures is.2, c.from.ensures, c.if-word-from.true))

pub returns-then-word-from-clause-only : goal.returns-then-word-from-clause-only
returns-then-word-from-clause-only c word is =
    absurd
    (omega (arith, is.0, word_of-made c.args.instr.now word is, c.word_of-word.ensures is.2, c.from.ensures, c.if-word-from.true))

pub returns-then-eq-2-clause-word : goal.returns-then-eq-2-clause-word
returns-then-eq-2-clause-word c =
    let found = same c.decode.result c.args.instr.now (sym c.eq-2.ensures ∙ c.if-eq-2.true) in (
      omega (arith, c.from.ensures, c.if-word-from.false),
      sym c.decode.ensures.table ∙ found,
      differ c.args.instr.now Undefined (sym c.eq.ensures ∙ c.if-eq.false),
    )

pub returns-then-eq-2-clause-only : goal.returns-then-eq-2-clause-only
returns-then-eq-2-clause-only c word is = ap Some (c.word_of-word.ensures is.2 ∙ word_of-made c.args.instr.now word is)

-- the word of the instruction is what is made, which decodes to something else
pub returns-else-eq-2-clause-word : goal.returns-else-eq-2-clause-word
returns-else-eq-2-clause-word c word is =
    let made = c.word_of-word.ensures is.2 ∙ word_of-made c.args.instr.now word is in
    differ
    c.decode.result
    c.args.instr.now
    (sym c.eq-2.ensures ∙ c.if-eq-2.false)
    (c.decode.ensures.table ∙ ap decoded made ∙ is.1)

pub returns-else-eq-2-clause-only : goal.returns-else-eq-2-clause-only
returns-else-eq-2-clause-only c word is = absurd (returns-else-eq-2-clause-word c word is)
