use Rattle.std.proofs.Common.{◌≡◌, drop, map}
use Rattle.bao_config.specs.Data.{vm_data}
use Rattle.bao_wellformed.specs.Checked.{checked_data}
use Rattle.outside.proofs.Puts.{Reached}
use Rattle.hypervisor.specs.Hyp.{stands_for}
use Rattle.report.specs.Section.{sections}
use Rattle.report.proofs.whole.write_sections.Given as goal

abbrev pub invariant-loop-vm : goal.invariant-loop-vm
invariant-loop-vm g l =
    let cfg = checked_data l.checked in let f = stands_for cfg l.hyp (g.B.Board.state l.board) in
    record {
      text : Reached (g.K.Sink.taken l.initial.sink) (g.K.Sink.taken l.sink) (sections cfg f cfg.vms)
          (sections cfg f (map vm_data (drop l.vm-index l.vm-items)));
      faults : g.K.Sink.faults l.sink ≡ g.K.Sink.faults l.initial.sink;
    }
