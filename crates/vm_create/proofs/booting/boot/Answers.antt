use Rattle.std.proofs.Common.{◌≡◌, map, sym, subst, ap, ◌∙◌}
use Rattle.bao_wellformed.specs.Checked.{checked_data}
use Rattle.board.specs.Machine.{Machine}
use Rattle.vm_model.specs.Boot.{boot_cores}
use Rattle.hypervisor.specs.Hyp.{HypData, stands_for}
use Rattle.hypervisor.specs.Packed.{all_filled}
use Rattle.hypervisor.specs.Tidy.{Tidy}
use Rattle.vm_create.specs.Boot.{booted, packings_of}
use Rattle.vm_create.proofs.Tidied.{stands_booted, tidy_booted}
use Rattle.vm_create.proofs.booting.boot.Goals as goal

pub returns-clause-state : goal.returns-clause-state
returns-clause-state g c =
    let cfg = checked_data c.args.checked.now in let plans = c.args.plans.now in
    let images = map (λ image. image.items) c.args.images.now in let old = g.B.Board.state c.args.board.now in
    let entries = all_filled cfg.platform.cores (packings_of plans) in
    let board : g.B.Board.state c.start_cores.new.board ≡ booted cfg (packings_of plans) images old =
    c.start_cores.ensures
    ∙ ap (λ (m : Machine). record m { cores = boot_cores cfg })
    (c.set_entries.ensures ∙ ap (λ (m : Machine). record m { entries = entries }) c.load_images.ensures) in
    ap (stands_for cfg c.new.result) board ∙ ap (λ (hyp : HypData). stands_for cfg hyp (booted cfg (packings_of plans) images old)) c.new.ensures
    ∙ stands_booted cfg images plans old c.requires.fresh

pub returns-clause-tidy : goal.returns-clause-tidy
returns-clause-tidy g c =
    let cfg = checked_data c.args.checked.now in let plans = c.args.plans.now in
    let images = map (λ image. image.items) c.args.images.now in let old = g.B.Board.state c.args.board.now in
    let entries = all_filled cfg.platform.cores (packings_of plans) in
    let board : g.B.Board.state c.start_cores.new.board ≡ booted cfg (packings_of plans) images old =
    c.start_cores.ensures
    ∙ ap (λ (m : Machine). record m { cores = boot_cores cfg })
    (c.set_entries.ensures ∙ ap (λ (m : Machine). record m { entries = entries }) c.load_images.ensures) in
    subst (λ (m : Machine). Tidy cfg c.new.result m) (sym board)
    (subst (λ (hyp : HypData). Tidy cfg hyp (booted cfg (packings_of plans) images old)) (sym c.new.ensures)
    (tidy_booted cfg images plans old c.requires.fresh c.args.checked.now.well_formed c.requires.plans))
