use Rattle.std.proofs.Common.{arith}
use Rattle.bao_types.proofs.Powers.{rotated_below, weight_fits}
use Rattle.bao_types.proofs.mask.rotated.Goals as goal

pub returns-clause-bound : goal.returns-clause-bound
returns-clause-bound c =
    rotated_below c.args.size c.args.places c.args.element _ _ (omega arith) c.weight-below.ensures c.weight-above.ensures c.requires.element

pub overflow_mul-result : goal.overflow_mul-result
overflow_mul-result c =
    omega (
      arith,
      weight_fits c.args.size c.requires.size,
      rotated_below c.args.size c.args.places c.args.element _ _ (omega arith) c.weight-below.ensures c.weight-above.ensures c.requires.element,
    )

pub overflow_add-result : goal.overflow_add-result
overflow_add-result c =
    omega (
      arith,
      weight_fits c.args.size c.requires.size,
      rotated_below c.args.size c.args.places c.args.element _ _ (omega arith) c.weight-below.ensures c.weight-above.ensures c.requires.element,
    )
