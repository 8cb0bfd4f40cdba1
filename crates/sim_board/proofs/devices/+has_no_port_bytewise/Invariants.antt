use Rattle.sim_board.proofs.devices.+has_no_port_bytewise.Given as goal

abbrev pub decreases-has_no_port_bytewise : goal.decreases-has_no_port_bytewise
decreases-has_no_port_bytewise l = l.count
