use Rattle.a64_alu.specs.Moves.{placed}
use Rattle.a64_alu.proofs.Bits.{shorter}
use Rattle.a64_alu.proofs.moves.placed.Goals as goal

pub returns-in-Sbfm : goal.returns-in-Sbfm
unfolding placed
returns-in-Sbfm c =
    rw (c.in-Sbfm.is, c.low.ensures.value, c.sign_extend.ensures.value) (shorter _ _ c.requires.width)
