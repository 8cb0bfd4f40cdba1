use Rattle.std.proofs.Common.{arith, sym}
use Rattle.bao_types.proofs.Repeated.{repeated-mul, filled_below}
use Rattle.bao_types.proofs.mask.filled.Goals as goal

pub returns : goal.returns
returns c = rw c.filled_with_ones.ensures (sym (repeated-mul _ _ _))

pub overflow_mul-result : goal.overflow_mul-result
overflow_mul-result c =
    rw (c.filled_with_ones.ensures, ← repeated-mul)
    (omega (arith, filled_below c.args.log c.args.wide c.args.element c.requires.element))
