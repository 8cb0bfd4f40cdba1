use Rattle.std.proofs.lemmas.Nat.{or_lt}
use Rattle.a64_execute.proofs.system.with_set.Goals as goal

pub returns-clause-bound : goal.returns-clause-bound
returns-clause-bound c = or_lt 4 c.args.bits c.args.more c.requires.bits c.requires.more
