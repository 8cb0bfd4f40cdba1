use Rattle.std.proofs.Common.{rules, ◌≡◌, true, ap, ◌∙◌}
use Rattle.board.specs.Attempt.{is_misaligned}
use Rattle.sim_board.specs.Step.{carried_out, step_state}
use Rattle.sim_board.proofs.Stopped.{misaligned_port}
use Rattle.sim_board.proofs.step.load_port.Goals as goal

pub returns-then-is_misaligned-clause-end : goal.returns-then-is_misaligned-clause-end
returns-then-is_misaligned-clause-end g c =
    let core = c.args.core.now in let request = c.args.request.now in let devices = g.D.Devices.view c.args.devices.now in
    let is : is_misaligned c.args.request.now.shape.now ≡ true = search rules in
    λ lists. c.misalign.ensures (step_state core lists c.args.memory.now devices)
    ∙ ap (λ effect. carried_out effect (step_state core lists c.args.memory.now devices))
    (misaligned_port core request.fetched.now.instr request.shape.now _ is)
