use Rattle.std.proofs.Common.{rules, ◌≡◌, sym, ap, ◌∙◌}
use Rattle.a64_decode.specs.Table.{decoded}
use Rattle.phys_bank.specs.Banks.{byte_at}
use Rattle.board.specs.Ports.{number_at}
use Rattle.sim_board.specs.Step.{attempt_in, carried_out, reach_in, step_state, worded}
use Rattle.sim_board.proofs.Begun.{begun, ended, word_said}
use Rattle.sim_board.proofs.step.attempt.Goals as goal

pub returns-in-Some-clause-end : goal.returns-in-Some-clause-end
returns-in-Some-clause-end g c =
    let core = c.args.core.now in let moment = c.args.moment.now in let entries = c.args.table.now in
    let bytes = byte_at c.args.memory.now in let devices = g.D.Devices.view c.args.devices.now in
    let before = step_state c.args.core.now c.args.lists.now c.args.memory.now (g.D.Devices.view c.args.devices.now) in
    ended (attempt_in entries moment before) (worded (reach_in entries before) core moment bytes) core c.begin.new.core
    c.begin.result c.in-Some.exit c.in-Some.is (c.begin.ensures.begun moment bytes devices) before

pub returns-in-None-clause-end : goal.returns-in-None-clause-end
returns-in-None-clause-end g c =
    let core = c.args.core.now in let moment = c.args.moment.now in let entries = c.args.table.now in
    let bytes = byte_at c.args.memory.now in let devices = g.D.Devices.view c.args.devices.now in
    let before = step_state c.args.core.now c.args.lists.now c.args.memory.now (g.D.Devices.view c.args.devices.now) in
    let both =
    begun (attempt_in entries moment before) (worded (reach_in entries before) core moment bytes) core c.begin.new.core
    c.begin.result c.in-None.is (c.begin.ensures.begun moment bytes devices) in
    let is : c.decode.result ≡ decoded (number_at (byte_at c.args.memory.now) c.begin.new.core.pc 4) = search rules in
    c.execute.ensures.end
    ∙ ap (λ effect. carried_out effect before)
    (word_said core c.begin.new.core entries c.begin.new.table bytes devices moment c.decode.result both.0
    c.begin.ensures.entries is ∙ sym both.1)
