use Rattle.std.proofs.Common.{◌+◌, ◌-◌, arith}
use Rattle.phys_bank.proofs.Kept.{kept-below}
use Rattle.phys_bank.proofs.banks.Banks.write_le.Goals as goal

pub write_across-requires-clause-end : goal.write_across-requires-clause-end
write_across-requires-clause-end c =
    let w = c.requires.width in let last = c.args.width - 1 in omega (arith, kept-below c.args.self.now (c.args.at + last) (c.requires.kept last (omega arith)))
