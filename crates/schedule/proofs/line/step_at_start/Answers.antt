use Rattle.std.proofs.Common.{◌≡◌, get_or, arith}
use Rattle.schedule.proofs.Begins.{step_by_pieces}
use Rattle.schedule.proofs.line.step_at_start.Goals as goal

pub returns : goal.returns
returns c =
    let kind : get_or c.args.text.now 0 0 ≡ 115 = grind arith in
    let blank : get_or c.args.text.now 1 0 ≡ 32 = grind arith in
    let gap : get_or c.in_ok-core.rest.now 0 0 ≡ 32 = grind arith in
    let end : get_or c.in_ok-count.rest.now 0 0 ≡ 10 = grind arith in
    step_by_pieces c.args.text.now c.in_ok-core.rest.now c.in_ok-count.rest.now c.in_ok-core.core c.in_ok-count.count
    c.in-115.len_at_least kind blank c.in_ok-core.ensures (omega (arith, c.in-32.len_at_least)) gap c.in_ok-count.ensures
    (omega (arith, c.in-10.len_at_least)) end
