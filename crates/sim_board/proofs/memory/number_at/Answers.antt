use Rattle.std.proofs.Common.{◌≡◌, ◌+◌, arith}
use Rattle.phys_bank.specs.Banks.{byte_at}
use Rattle.sim_board.proofs.Halves.{number_split}
use Rattle.sim_board.proofs.memory.number_at.Goals as goal

pub returns-then-count-eq16-clause-value : goal.returns-then-count-eq16-clause-value
returns-then-count-eq16-clause-value c =
    let sixteen : c.args.count ≡ 8 + 8 = omega (arith, c.if-count-eq16.true) in
    let parts = number_split (byte_at c.args.memory.now) 8 8 c.args.count c.args.at sixteen (omega arith) in
    let low = c.word_at-low.ensures.value in let high = c.word_at-high.ensures.value in
    omega (arith, parts, low, high, c.from.ensures, c.from-then-count-eq16.ensures)
