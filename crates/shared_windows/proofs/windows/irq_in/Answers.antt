use Rattle.std.proofs.Common.{◌∙◌, sym, ap, slice_get, option_and_then}
use Rattle.std.proofs.lemmas.Bool.{eq-eqb}
use Rattle.shared_windows.specs.Windows.{is_on}
use Rattle.shared_windows.proofs.Views.{found_here}
use Rattle.shared_windows.proofs.windows.irq_in.Goals as goal

pub returns-then-window-shmem : goal.returns-then-window-shmem
returns-then-window-shmem c =
    let window = c.window-item.result in
    let here = found_here (is_on c.args.shmem) _ c.loop-window.window-index window c.loop-window-test.true c.window-item.is
    (eq-eqb window.shmem c.args.shmem c.if-window-shmem.true) in
    c.number_in.ensures ∙ ap (option_and_then (λ window. slice_get window.irqs c.args.event)) (sym here ∙ c.loop-window.invariant)
