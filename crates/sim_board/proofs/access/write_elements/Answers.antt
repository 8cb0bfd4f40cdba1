use Rattle.std.proofs.Common.{◌^◌, ◌<◌, arith}
use Rattle.phys_bank.specs.Banks.{is_kept}
use Rattle.sim_board.specs.Devices.{is_backed}
use Rattle.sim_board.proofs.Halves.{first_element, second_element}
use Rattle.sim_board.proofs.access.write_elements.Goals as goal

pub write_element-requires-clause-backed : goal.write_element-requires-clause-backed
write_element-requires-clause-backed g c =
    first_element (is_backed (g.D.Devices.view c.args.devices.now).spots (is_kept c.args.memory.now)) c.args.shape.now.width
    c.args.shape.now.count c.args.shape.now.at c.requires.access.count c.requires.backed

pub write_element-requires-then-shape-eq2-clause-backed : goal.write_element-requires-then-shape-eq2-clause-backed
write_element-requires-then-shape-eq2-clause-backed g c =
    let low : c.args.shape.now.at < 2 ^ 64 = omega arith in
    let there =
    second_element (is_backed (g.D.Devices.view c.args.devices.now).spots (is_kept c.args.memory.now)) c.args.shape.now.width
    c.args.shape.now.count c.args.shape.now.at c.if-shape-eq2.true low c.requires.backed in
    rw (c.write_element.ensures.accessed.spots, c.write_element.ensures.kept, c.from.ensures) there
