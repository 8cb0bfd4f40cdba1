use Rattle.std.proofs.Common.{◌≡◌, length, replicate, ap, ◌∙◌, arith}
use Rattle.bao_types.specs.ListReg.{free_registers}
use Rattle.sim_board.proofs.Fresh.{free_all}
use Rattle.sim_board.proofs.machine.free_lists.Goals as goal

pub returns : goal.returns
returns c =
    let all : c.loop-i.i ≡ length c.args.places.now = omega (arith, c.loop-i-test.false, c.loop-i.auto.i-end) in
    c.loop-i.invariant ∙ ap (λ n. replicate n free_registers) all ∙ free_all c.args.places.now
