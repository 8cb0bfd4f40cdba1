use Rattle.std.proofs.Common.{arith}
use Rattle.std.proofs.lemmas.Nat.{shl_whole, shl_below}
use Rattle.std.proofs.Math.Nat.{add_comm}
use Rattle.a64_alu.proofs.number.at.Goals as goal

pub returns-clause-value : goal.returns-clause-value
returns-clause-value c = shl_whole c.args.part c.args.count c.args.place 64 c.requires.part (omega arith)

pub returns-clause-bound : goal.returns-clause-bound
returns-clause-bound c =
    rw
    (shl_whole c.args.part c.args.count c.args.place 64 c.requires.part (omega arith), add_comm c.args.place c.args.count)
    (shl_below c.args.part c.args.count c.args.place c.requires.part)
