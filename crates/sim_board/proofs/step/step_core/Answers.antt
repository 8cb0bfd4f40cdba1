use Rattle.std.proofs.Common.{rules, ◌≡◌, true, ap, ◌∙◌}
use Rattle.std.specs.Prelude.{if◌then◌else◌}
use Rattle.exceptions.specs.declared.entry.Cause.TheVariants.{Irq}
use Rattle.exceptions.specs.Entry.{entered}
use Rattle.board.specs.Attempt.{ran, takes_irq}
use Rattle.sim_board.specs.Step.{attempt_in, carried_out, moment_of, step_state}
use Rattle.sim_board.proofs.step.step_core.Goals as goal

pub returns-then-takes_irq-clause-end : goal.returns-then-takes_irq-clause-end
returns-then-takes_irq-clause-end g c =
    let core = c.args.core.now in let moment = moment_of c.args.core.now c.args.lists.now c.args.now in
    let before = step_state c.args.core.now c.args.lists.now c.args.memory.now (g.D.Devices.view c.args.devices.now) in
    let takes : true ≡ takes_irq c.args.core.now (moment_of c.args.core.now c.args.lists.now c.args.now) = search rules in
    c.take_irq.ensures before
    ∙ ap (λ irq. carried_out (if irq then ran (entered core Irq) else attempt_in c.args.table.now moment before) before) takes
