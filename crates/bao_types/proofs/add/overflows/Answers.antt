use Rattle.std.proofs.Common.{refl}
use Rattle.bao_types.proofs.Sums.{overflow_of-remainder}
use Rattle.bao_types.proofs.add.overflows.Goals as goal

pub returns-then-x-half : goal.returns-then-x-half
returns-then-x-half c =
    rw
    (overflow_of-remainder _ _ _ _ _ c.requires.half c.requires.x c.requires.y c.requires.carry c.requires.value, c.if-x-half.true)
    refl

pub returns-else-x-half : goal.returns-else-x-half
returns-else-x-half c =
    rw
    (overflow_of-remainder _ _ _ _ _ c.requires.half c.requires.x c.requires.y c.requires.carry c.requires.value, c.if-x-half.false)
    refl
