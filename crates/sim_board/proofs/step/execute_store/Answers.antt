use Rattle.std.proofs.Common.{rules, ◌≡◌, false, ap, ◌∙◌}
use Rattle.sim_board.specs.Step.{carried_out, is_stopped, step_state, store_in}
use Rattle.sim_board.proofs.Stopped.{not_stopped}
use Rattle.sim_board.proofs.step.execute_store.Goals as goal

pub returns-then-is_stopped-clause-end : goal.returns-then-is_stopped-clause-end
returns-then-is_stopped-clause-end g c =
    let core = c.args.core.now in let request = c.args.request.now in let devices = g.D.Devices.view c.args.devices.now in
    λ lists.
    let before = step_state core lists c.args.memory.now devices in
    c.stop.ensures (store_in c.args.table.now request before) before

pub returns-clause-end : goal.returns-clause-end
returns-clause-end g c =
    let core = c.args.core.now in let request = c.args.request.now in let devices = g.D.Devices.view c.args.devices.now in
    let is : is_stopped c.args.core.now c.args.request.now.shape.now ≡ false = search rules in
    λ lists. c.take_store.ensures.end lists
    ∙ ap (λ effect. carried_out effect (step_state core lists c.args.memory.now devices))
    (not_stopped core request.fetched.now.instr request.shape.now _ is)
