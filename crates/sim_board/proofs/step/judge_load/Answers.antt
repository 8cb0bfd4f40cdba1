use Rattle.std.proofs.Common.{ap, ◌∙◌}
use Rattle.board.specs.Attempt.{load_effect}
use Rattle.sim_board.specs.Devices.{places_in}
use Rattle.sim_board.specs.Step.{asked_of, carried_out, step_state}
use Rattle.sim_board.proofs.Ways.{not_at_all}
use Rattle.sim_board.proofs.step.judge_load.Goals as goal

pub returns-in-Refused-clause-end : goal.returns-in-Refused-clause-end
returns-in-Refused-clause-end g c =
    let core = c.args.core.now in let request = c.args.request.now in let devices = g.D.Devices.view c.args.devices.now in
    λ lists. c.refuse_data.ensures (step_state core lists c.args.memory.now devices)
    ∙ ap (λ judged. carried_out (load_effect (places_in devices) core (asked_of request) judged)
    (step_state core lists c.args.memory.now devices))
    (not_at_all _ _ _ _ c.in-Refused.fault c.in-Refused.ensures.way)
