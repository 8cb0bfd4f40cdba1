use Rattle.std.proofs.Common.{ap, subst, sym, ◌∙◌}
use Rattle.std.specs.Prelude.{IsTrue}
use Rattle.a64_execute.specs.Want.{bytes_of}
use Rattle.phys_bank.specs.Banks.{is_kept}
use Rattle.board.specs.Attempt.{store_effect}
use Rattle.bao_types.specs.declared.access.Access.TheVariants.{Write}
use Rattle.board.specs.Judge.{all_from, first_fault, has_no_port}
use Rattle.board.specs.declared.judged.Judged.TheVariants.{Memory, Port}
use Rattle.board.specs.Stage.{by_entries, by_regions}
use Rattle.sim_board.specs.Devices.{places_in}
use Rattle.sim_board.specs.Step.{asked_of, carried_out, step_state}
use Rattle.sim_board.proofs.Confined.{backed_all}
use Rattle.sim_board.proofs.Ways.{in_ports, kept_in_memory, no_fault_ports, not_at_all}
use Rattle.sim_board.proofs.step.judge_store.Goals as goal

pub store-requires-clause-used : goal.store-requires-clause-used
store-requires-clause-used g c =
    let shape = c.args.request.now.shape.now in let kept = is_kept c.args.memory.now in
    subst (λ n. IsTrue (all_from kept shape.at n)) (sym c.byte_count.ensures.value)
    (kept_in_memory (by_regions c.args.core.now) (by_entries c.args.table.now) (g.D.Devices.view c.args.devices.now).spots kept
    c.requires.contained shape.at (bytes_of shape) c.in-Memory.ensures.way)

pub store_port-requires-clause-backed : goal.store_port-requires-clause-backed
store_port-requires-clause-backed g c =
    let shape = c.args.request.now.shape.now in
    backed_all (by_regions c.args.core.now) (by_entries c.args.table.now) (g.D.Devices.view c.args.devices.now).spots
    (is_kept c.args.memory.now) c.requires.contained shape.at (bytes_of shape) (no_fault_ports _ _ c.in-Port.ensures.way)

pub returns-in-Refused-clause-end : goal.returns-in-Refused-clause-end
returns-in-Refused-clause-end g c =
    let core = c.args.core.now in let request = c.args.request.now in let devices = g.D.Devices.view c.args.devices.now in
    λ lists. c.refuse_data.ensures (step_state core lists c.args.memory.now devices)
    ∙ ap (λ judged. carried_out (store_effect (places_in devices) core (asked_of request) request.value judged)
    (step_state core lists c.args.memory.now devices))
    (not_at_all _ _ _ _ c.in-Refused.fault c.in-Refused.ensures.way)

pub returns-in-Port-clause-end : goal.returns-in-Port-clause-end
returns-in-Port-clause-end g c =
    let core = c.args.core.now in let request = c.args.request.now in let shape = c.args.request.now.shape.now in
    let devices = g.D.Devices.view c.args.devices.now in let places = places_in (g.D.Devices.view c.args.devices.now) in
    λ lists. c.store_port.ensures.end lists
    ∙ ap (λ judged. carried_out (store_effect places core (asked_of request) request.value judged)
    (step_state core lists c.args.memory.now devices))
    (in_ports (first_fault (by_regions core) (by_entries c.args.table.now) Write shape.at (bytes_of shape))
    (has_no_port places shape.at (bytes_of shape)) (Memory 0) (Port 0) c.in-Port.ensures.way)
