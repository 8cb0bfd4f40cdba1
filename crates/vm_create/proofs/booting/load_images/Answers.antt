use Rattle.std.proofs.Common.{◌≡◌, ◌-◌, ◌<◌, suc, drop, get_or, length, map, sym, ap, ◌∙◌, arith}
use Rattle.std.proofs.lemmas.List.{length-map}
use Rattle.bao_config.specs.declared.config.Vm.{Vm}
use Rattle.bao_wellformed.specs.Checked.{checked_data}
use Rattle.board.specs.Machine.{Machine, over}
use Rattle.vm_model.specs.Boot.{boot_bytes}
use Rattle.hypervisor.specs.Shape.{shape_of}
use Rattle.vm_create.proofs.Loaded.{are_used, boot_bytes_none, turn_bytes, turn_used, with_bytes}
use Rattle.vm_create.proofs.booting.load_images.Goals as goal

pub loop-v-init : goal.loop-v-init
loop-v-init g c =
    let old = g.B.Board.state c.args.board.now in let vms = (checked_data c.args.checked.now).vms in
    let images = map (λ image. image.items) c.args.images.now in
    ap (with_bytes old)
    (ap (λ (m : Machine). m.bytes) c.requires.fresh
    ∙ sym (boot_bytes_none vms (length c.args.images.now) images (sym (length-map c.args.images.now (λ image. image.items)))))

pub load-requires-clause-fitted : goal.load-requires-clause-fitted
load-requires-clause-fitted g c = ap (λ (m : Machine). m.fitted) c.loop-v.invariant ∙ ap (λ (m : Machine). m.fitted) c.requires.fresh

pub load-requires-clause-at_rest : goal.load-requires-clause-at_rest
load-requires-clause-at_rest g c = ap (λ (m : Machine). m.entered) c.loop-v.invariant ∙ ap (λ (m : Machine). m.entered) c.requires.fresh

pub load-requires-clause-used : goal.load-requires-clause-used
load-requires-clause-used g c =
    let old = g.B.Board.state c.args.board.now in let cfg = checked_data c.args.checked.now in
    let low : c.loop-v.v - 1 < length c.args.images.now = omega (arith, c.loop-v-test.true, c.loop-v.auto.v) in
    let shape = ap (λ (m : Machine). m.shape) c.loop-v.invariant ∙ ap (λ (m : Machine). m.shape) c.requires.fresh in
    let used = turn_used (λ image. image.items) cfg c.config.result.now c.as_slice-vms.result.now c.args.images.now c.config.ensures
    c.as_slice-vms.ensures.value c.requires.images old.shape.events (c.loop-v.v - 1) c.index-vms-v.result c.index-images-v.result
    c.args.checked.now.well_formed low c.index-vms-v.is c.index-images-v.is in
    let vm = get_or c.as_slice-vms.result.now (c.loop-v.v - 1) c.index-vms-v.result in
    are_used (g.B.Board.state c.loop-v.board).shape (shape_of cfg old.shape.events) vm.place.base c.index-vms-v.result.place.base
    (length c.as_slice.result.now) (length c.index-images-v.result.items) shape (ap (λ (vm : Vm). vm.place.base) (sym c.index-vms-v.is))
    (ap length c.as_slice.ensures.value) used

pub loop-v-preserved : goal.loop-v-preserved
loop-v-preserved g c =
    let old = g.B.Board.state c.args.board.now in let cfg = checked_data c.args.checked.now in
    let images = map (λ image. image.items) c.args.images.now in
    let low : c.loop-v.v - 1 < length c.args.images.now = omega (arith, c.loop-v-test.true, c.loop-v.auto.v) in
    let next : c.loop-v.v ≡ suc (c.loop-v.v - 1) = omega (arith, c.loop-v-test.true) in
    let later = boot_bytes (drop c.loop-v.v cfg.vms) (drop c.loop-v.v images) in
    let vm = get_or c.as_slice-vms.result.now (c.loop-v.v - 1) c.index-vms-v.result in
    c.load.ensures
    ∙ ap (λ (m : Machine). with_bytes m (over vm.place.base c.as_slice.result.now m.bytes)) c.loop-v.invariant
    ∙ ap (λ (vm : Vm). with_bytes old (over vm.place.base c.as_slice.result.now later)) (sym c.index-vms-v.is)
    ∙ ap (λ image. with_bytes old (over c.index-vms-v.result.place.base image later)) c.as_slice.ensures.value
    ∙ ap (with_bytes old)
    (turn_bytes (λ image. image.items) cfg c.config.result.now c.as_slice-vms.result.now c.args.images.now c.config.ensures
    c.as_slice-vms.ensures.value c.requires.images (c.loop-v.v - 1) c.loop-v.v c.index-vms-v.result c.index-images-v.result next low
    c.index-vms-v.is c.index-images-v.is)

pub returns : goal.returns
returns g c =
    let old = g.B.Board.state c.args.board.now in let cfg = checked_data c.args.checked.now in
    let images = map (λ image. image.items) c.args.images.now in
    c.loop-v.invariant
    ∙ ap (λ v. with_bytes old (boot_bytes (drop v cfg.vms) (drop v images))) (let v : c.loop-v.v ≡ 0 = omega (arith, c.loop-v-test.false) in v)
