use Rattle.std.proofs.Common.{◌≡◌, length, take, slice_set}
use Rattle.board.specs.Machine.{entries_at}
use Rattle.hypervisor.specs.Packed.{filled}
use Rattle.vm_create.proofs.booting.set_core_entries.Given as goal

abbrev pub invariant-loop-index : goal.invariant-loop-index
invariant-loop-index g l =
    let old = g.B.Board.state l.initial.board in
    g.B.Board.state l.board
    ≡ record old { entries = slice_set old.entries l.core (filled (length (entries_at old.entries l.core)) (take l.index l.plan.entries.items)) }
