use Rattle.std.proofs.Common.{◌<◌, All, sym, subst, rules, arith}
use Rattle.std.specs.Prelude.{IsErr}
use Rattle.std.proofs.lemmas.Result.{MatchResult-from_err}
use Rattle.bao_config.specs.Data.{vm_data}
use Rattle.bao_wellformed.specs.Checked.{checked_data}
use Rattle.bao_wellformed.proofs.Fits.{vm_fits}
use Rattle.bao_wellformed.proofs.Places.{cores_of_platform}
use Rattle.board.specs.Ports.{outputs}
use Rattle.mpu_packer.proofs.Owners.{vm_at}
use Rattle.report.specs.Summary.{vm_summary}
use Rattle.report.proofs.Lists.{goes_past, stops_within, ends_whole, summaries_next, summaries_none}
use Rattle.report.proofs.Vms.{short_name}
use Rattle.report.proofs.summary.write_vms.Goals as goal

pub write_vm-requires-clause-name : goal.write_vm-requires-clause-name
write_vm-requires-clause-name g c =
    let checked = c.args.checked.now in let v = c.loop-vm.vm-index in let vm = c.vm-item.result in
    let is =
    vm_at (checked_data checked) c.config.result.now c.as_slice-vm-items.result.now v vm c.config.ensures c.as_slice-vm-items.ensures.value
    c.loop-vm-test.true c.vm-item.is in
    short_name vm.name (vm_fits (checked_data checked) v (vm_data vm) checked.config.fits is).name

pub write_vm-requires-clause-cores : goal.write_vm-requires-clause-cores
write_vm-requires-clause-cores g c =
    let checked = c.args.checked.now in let v = c.loop-vm.vm-index in let vm = c.vm-item.result in
    let is =
    vm_at (checked_data checked) c.config.result.now c.as_slice-vm-items.result.now v vm c.config.ensures c.as_slice-vm-items.ensures.value
    c.loop-vm-test.true c.vm-item.is in
    subst (λ n. All (λ core. core < n) vm.cores.items) (sym c.requires.cores)
    (cores_of_platform (checked_data checked) v (vm_data vm) checked.well_formed is)

pub returns-in_err-write_vm-clause-taken : goal.returns-in_err-write_vm-clause-taken
returns-in_err-write_vm-clause-taken g c =
    let m = g.B.Board.state c.args.board.now in let vms = c.as_slice-vm-items.result.now in
    let failed : IsErr c.from_residual.result = search rules in
    MatchResult-from_err c.from_residual.result _ _ failed
    (λ _. stops_within _ _ _ _ c.loop-vm.invariant.text (g.K.Sink.taken c.write_vm.new.sink) _ _
    (summaries_next (vm_summary m.cores (outputs m.ports)) vms c.loop-vm.vm-index c.vm-item.result c.loop-vm-test.true c.vm-item.is)
    c.in_err-write_vm.ensures.taken)

pub loop-vm-preserved : goal.loop-vm-preserved
loop-vm-preserved g c =
    let m = g.B.Board.state c.args.board.now in let vms = c.as_slice-vm-items.result.now in
    record {
      text =
          goes_past _ _ _ _ c.loop-vm.invariant.text (g.K.Sink.taken c.write_vm.new.sink) _ _
          (summaries_next (vm_summary m.cores (outputs m.ports)) vms c.loop-vm.vm-index c.vm-item.result c.loop-vm-test.true c.vm-item.is)
          c.in_ok-write_vm.ensures.taken;
      faults = search rules;
    }

pub returns-clause-taken : goal.returns-clause-taken
returns-clause-taken g c =
    let m = g.B.Board.state c.args.board.now in
    ends_whole _ _ _ _ c.loop-vm.invariant.text
    (summaries_none (vm_summary m.cores (outputs m.ports)) c.as_slice-vm-items.result.now c.loop-vm.vm-index (omega (arith, c.loop-vm-test.false)))
