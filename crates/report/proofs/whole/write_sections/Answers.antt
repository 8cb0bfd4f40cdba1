use Rattle.std.proofs.Common.{◌≤◌, ◌<◌, ◌+◌, ◌∙◌, ◌++◌, map, drop, All, sym, ap, subst, rules, arith}
use Rattle.std.specs.Prelude.{IsErr}
use Rattle.std.proofs.lemmas.Result.{MatchResult-from_err}
use Rattle.bao_types.specs.ByteRange.{address_space_end, end}
use Rattle.bao_config.specs.Data.{ConfigData, vm_data}
use Rattle.bao_wellformed.specs.Checked.{checked_data}
use Rattle.bao_wellformed.specs.Map.{map_of}
use Rattle.bao_wellformed.proofs.Fits.{vm_fits}
use Rattle.bao_wellformed.proofs.Places.{cores_of_platform, maps_in_space}
use Rattle.mpu_packer.proofs.Owners.{vm_at}
use Rattle.hypervisor.specs.Hyp.{stands_for}
use Rattle.report.specs.Section.{vm_text, sections}
use Rattle.report.proofs.Lists.{goes_past, stops_within, ends_whole, sections_next, sections_none}
use Rattle.report.proofs.Vms.{short_name}
use Rattle.report.proofs.whole.write_sections.Goals as goal

pub write_section-requires-clause-name : goal.write_section-requires-clause-name
write_section-requires-clause-name g c =
    let checked = c.args.checked.now in let v = c.loop-vm.vm-index in let vm = c.vm-item.result in
    let is =
    vm_at (checked_data checked) c.config.result.now c.as_slice-vm-items.result.now v vm c.config.ensures c.as_slice-vm-items.ensures.value
    c.loop-vm-test.true c.vm-item.is in
    short_name vm.name (vm_fits (checked_data checked) v (vm_data vm) checked.config.fits is).name

pub write_section-requires-clause-cores : goal.write_section-requires-clause-cores
write_section-requires-clause-cores g c =
    let checked = c.args.checked.now in let v = c.loop-vm.vm-index in let vm = c.vm-item.result in
    let is =
    vm_at (checked_data checked) c.config.result.now c.as_slice-vm-items.result.now v vm c.config.ensures c.as_slice-vm-items.ensures.value
    c.loop-vm-test.true c.vm-item.is in
    subst (λ n. All (λ core. core < n) vm.cores.items) (sym c.requires.cores)
    (cores_of_platform (checked_data checked) v (vm_data vm) checked.well_formed is)

pub write_section-requires-clause-space : goal.write_section-requires-clause-space
write_section-requires-clause-space g c =
    let checked = c.args.checked.now in let v = c.loop-vm.vm-index in let vm = c.vm-item.result in
    let is =
    vm_at (checked_data checked) c.config.result.now c.as_slice-vm-items.result.now v vm c.config.ensures c.as_slice-vm-items.ensures.value
    c.loop-vm-test.true c.vm-item.is in
    subst (λ (cfg : ConfigData). All (λ entry. end entry.range ≤ address_space_end) (map_of cfg (vm_data vm)))
    (sym c.config-in-loop-vm.ensures)
    (maps_in_space (checked_data checked) v (vm_data vm) checked.well_formed is)

pub returns-in_err-write_section-clause-taken : goal.returns-in_err-write_section-clause-taken
returns-in_err-write_section-clause-taken g c =
    let cfg = checked_data c.args.checked.now in let m = g.B.Board.state c.args.board.now in let f = stands_for cfg c.args.hyp.now m in
    let vms = c.as_slice-vm-items.result.now in let i = c.loop-vm.vm-index in let vm = c.vm-item.result in
    let failed : IsErr c.from_residual.result = search rules in
    MatchResult-from_err c.from_residual.result _ _ failed
    (λ _. stops_within _ _ _ _ c.loop-vm.invariant.text (g.K.Sink.taken c.write_section.new.sink) _ _
    (sections_next cfg f vms i vm c.loop-vm-test.true c.vm-item.is
    ∙ ap (λ (cfg' : ConfigData). vm_text cfg' (stands_for cfg' c.args.hyp.now m) (vm_data vm) ++ sections cfg f (map vm_data (drop (i + 1) vms)))
    (sym c.config-in-loop-vm.ensures))
    c.in_err-write_section.ensures.taken)

pub loop-vm-preserved : goal.loop-vm-preserved
loop-vm-preserved g c =
    let cfg = checked_data c.args.checked.now in let m = g.B.Board.state c.args.board.now in let f = stands_for cfg c.args.hyp.now m in
    let vms = c.as_slice-vm-items.result.now in let i = c.loop-vm.vm-index in let vm = c.vm-item.result in
    record {
      text =
          goes_past _ _ _ _ c.loop-vm.invariant.text (g.K.Sink.taken c.write_section.new.sink) _ _
          (sections_next cfg f vms i vm c.loop-vm-test.true c.vm-item.is
          ∙ ap (λ (cfg' : ConfigData). vm_text cfg' (stands_for cfg' c.args.hyp.now m) (vm_data vm) ++ sections cfg f (map vm_data (drop (i + 1) vms)))
          (sym c.config-in-loop-vm.ensures))
          c.in_ok-write_section.ensures.taken;
      faults = search rules;
    }

pub returns-clause-taken : goal.returns-clause-taken
returns-clause-taken g c =
    let cfg = checked_data c.args.checked.now in
    ends_whole _ _ _ _ c.loop-vm.invariant.text
    (sections_none cfg (stands_for cfg c.args.hyp.now (g.B.Board.state c.args.board.now))
    c.as_slice-vm-items.result.now c.loop-vm.vm-index (omega (arith, c.loop-vm-test.false)))
