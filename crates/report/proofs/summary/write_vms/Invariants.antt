use Rattle.std.proofs.Common.{◌≡◌, drop, map}
use Rattle.std.specs.List.{flat_map}
use Rattle.bao_config.specs.Data.{vm_data}
use Rattle.bao_wellformed.specs.Checked.{checked_data}
use Rattle.board.specs.Ports.{outputs}
use Rattle.outside.proofs.Puts.{Reached}
use Rattle.report.specs.Summary.{vm_summary}
use Rattle.report.proofs.summary.write_vms.Given as goal

abbrev pub invariant-loop-vm : goal.invariant-loop-vm
invariant-loop-vm g l =
    let m = g.B.Board.state l.board in let line = vm_summary m.cores (outputs m.ports) in
    record {
      text : Reached (g.K.Sink.taken l.initial.sink) (g.K.Sink.taken l.sink) (flat_map line (checked_data l.checked).vms)
          (flat_map line (map vm_data (drop l.vm-index l.vm-items)));
      faults : g.K.Sink.faults l.sink ≡ g.K.Sink.faults l.initial.sink;
    }
