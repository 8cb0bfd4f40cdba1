use Rattle.std.proofs.Common.{◌≡◌, map, length, ◌+◌}
use Rattle.sim_board.proofs.Listed.{AreStandard}
use Rattle.sim_board.specs.contracts.machine.SimBoard.new.{dyn-1-ghosts}
use Rattle.bao_command.proofs.machine.play.OwnLists.{own-1, lawful-own-1}
use Rattle.bao_command.proofs.machine.play.Given as goal

abbrev pub invariant-loop : goal.invariant-loop
invariant-loop g l = record {
  count : length l.ports.items ≡ l.counter;
  standard : AreStandard (map (λ port. ((dyn-1-ghosts (own-1, lawful-own-1)).0.entry port.vtable).1.state port.value) l.ports.items);
}

abbrev pub invariant-loop-2 : goal.invariant-loop-2
invariant-loop-2 g l = record {
  count : length l.ports.items ≡ 8 + l.counter;
  standard : AreStandard (map (λ port. ((dyn-1-ghosts (own-1, lawful-own-1)).0.entry port.vtable).1.state port.value) l.ports.items);
}

abbrev pub invariant-loop-3 : goal.invariant-loop-3
invariant-loop-3 g l = record {
  count : length l.ports.items ≡ 12 + l.counter;
  standard : AreStandard (map (λ port. ((dyn-1-ghosts (own-1, lawful-own-1)).0.entry port.vtable).1.state port.value) l.ports.items);
}
