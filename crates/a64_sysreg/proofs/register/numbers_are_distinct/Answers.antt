use Rattle.a64_sysreg.proofs.Numbers.{found}
use Rattle.a64_sysreg.proofs.register.numbers_are_distinct.Goals as goal

pub returns : goal.returns
returns c = found
