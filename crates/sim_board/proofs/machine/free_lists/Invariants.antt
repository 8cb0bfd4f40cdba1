use Rattle.std.proofs.Common.{◌≡◌, replicate}
use Rattle.bao_types.specs.ListReg.{free_registers}
use Rattle.sim_board.proofs.machine.free_lists.Given as goal

abbrev pub invariant-loop-i : goal.invariant-loop-i
invariant-loop-i l = l.lists.items ≡ replicate l.i free_registers
