use Rattle.std.proofs.Common.{◌≡◌, replicate}
use Rattle.bao_types.specs.Region.{no_region}
use Rattle.sim_board.proofs.machine.zeros.Given as goal

abbrev pub invariant-loop-i : goal.invariant-loop-i
invariant-loop-i l = l.entries.items ≡ replicate l.i no_region
