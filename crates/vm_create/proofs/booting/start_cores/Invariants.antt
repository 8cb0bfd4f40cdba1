use Rattle.std.proofs.Common.{◌≡◌}
use Rattle.bao_wellformed.specs.Checked.{checked_data}
use Rattle.vm_model.specs.Boot.{boot_cores}
use Rattle.vm_create.proofs.Mixed.{mixed}
use Rattle.vm_create.proofs.booting.start_cores.Given as goal

abbrev pub invariant-loop-core : goal.invariant-loop-core
invariant-loop-core g l =
    let old = g.B.Board.state l.initial.board in
    g.B.Board.state l.board ≡ record old { cores = mixed l.core (boot_cores (checked_data l.checked)) old.cores }
