use Rattle.std.proofs.Common.{◌≡◌, []}
use Rattle.bao_wellformed.specs.Checked.{checked_data}
use Rattle.hypervisor.specs.Packed.{all_filled}
use Rattle.vm_create.specs.Boot.{packings_of}
use Rattle.vm_create.proofs.Mixed.{mixed}
use Rattle.vm_create.proofs.booting.set_entries.Given as goal

abbrev pub invariant-loop-core : goal.invariant-loop-core
invariant-loop-core g l =
    let counts = (checked_data l.checked).platform.cores in
    g.B.Board.state l.board
    ≡ record (g.B.Board.state l.initial.board) { entries = mixed l.core (all_filled counts (packings_of l.plans)) (all_filled counts []) }
