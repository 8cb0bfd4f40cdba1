use Rattle.std.proofs.Common.{rules, ◌≡◌, ap, ◌∙◌}
use Rattle.a64_execute.specs.declared.need.Need.TheVariants as need
use Rattle.a64_execute.specs.Want.{wanted}
use Rattle.board.specs.Attempt.{effect_of}
use Rattle.sim_board.specs.Step.{carried_out, reach_in, step_state}
use Rattle.sim_board.proofs.step.execute.Goals as goal

pub returns-in-Acknowledge-clause-end : goal.returns-in-Acknowledge-clause-end
returns-in-Acknowledge-clause-end g c =
    let core = c.args.core.now in let fetched = c.args.fetched.now in let devices = g.D.Devices.view c.args.devices.now in
    let before = step_state c.args.core.now c.args.lists.now c.args.memory.now (g.D.Devices.view c.args.devices.now) in
    let reach = reach_in c.args.table.now before in
    let is : need.Acknowledge ≡ wanted c.args.core.now c.args.fetched.now.instr = search rules in
    c.finish_acknowledge.ensures c.args.memory.now devices
    ∙ ap (λ asked. carried_out (effect_of reach core fetched.moment fetched.instr asked) before) is

pub returns-in-End-clause-end : goal.returns-in-End-clause-end
returns-in-End-clause-end g c =
    let core = c.args.core.now in let fetched = c.args.fetched.now in let devices = g.D.Devices.view c.args.devices.now in
    let before = step_state c.args.core.now c.args.lists.now c.args.memory.now (g.D.Devices.view c.args.devices.now) in
    let reach = reach_in c.args.table.now before in
    let is : need.End c.in-End.id ≡ wanted c.args.core.now c.args.fetched.now.instr = search rules in
    c.finish_end.ensures c.args.memory.now devices
    ∙ ap (λ asked. carried_out (effect_of reach core fetched.moment fetched.instr asked) before) is
