use Rattle.std.proofs.Common.{arith}
use Rattle.a64_alu.proofs.Bits.{replaced_below}
use Rattle.a64_alu.proofs.number.with_bits.Goals as goal

pub overflow_add-result : goal.overflow_add-result
overflow_add-result c =
    omega (
      arith,
      replaced_below c.args.value c.args.place c.args.count c.args.part (omega arith) c.requires.room c.requires.part,
    )

pub overflow_add-result-2 : goal.overflow_add-result-2
overflow_add-result-2 c =
    omega (
      arith,
      replaced_below c.args.value c.args.place c.args.count c.args.part (omega arith) c.requires.room c.requires.part,
    )
