use Rattle.std.proofs.Common.{◌≡◌, drop, map}
use Rattle.bao_wellformed.specs.Checked.{checked_data}
use Rattle.vm_model.specs.Boot.{boot_bytes}
use Rattle.vm_create.proofs.booting.load_images.Given as goal

abbrev pub invariant-loop-v : goal.invariant-loop-v
invariant-loop-v g l =
    let old = g.B.Board.state l.initial.board in
    g.B.Board.state l.board
    ≡ record old { bytes = boot_bytes (drop l.v (checked_data l.checked).vms) (drop l.v (map (λ image. image.items) l.images)) }
