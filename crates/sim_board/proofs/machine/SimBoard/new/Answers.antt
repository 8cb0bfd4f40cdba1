use Rattle.std.proofs.Common.{◌∙◌}
use Rattle.sim_board.proofs.Standard.{are_standard}
use Rattle.sim_board.proofs.machine.SimBoard.new.Goals as goal

pub returns-clause-ports : goal.returns-clause-ports
returns-clause-ports g c = c.new-4.ensures.states ∙ are_standard _ c.args.ports.items c.requires.count c.requires.new
