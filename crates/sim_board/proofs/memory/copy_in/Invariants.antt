use Rattle.std.proofs.Common.{◌≡◌, take}
use Rattle.board.specs.Machine.{over}
use Rattle.phys_bank.specs.Banks.{byte_at, is_kept}
use Rattle.sim_board.proofs.memory.copy_in.Given as goal

abbrev pub invariant-loop-k : goal.invariant-loop-k
invariant-loop-k l = record {
  kept : is_kept l.memory ≡ is_kept l.initial.memory;
  bytes : byte_at l.memory ≡ over l.at (take l.k l.bytes) (byte_at l.initial.memory);
}
