use Rattle.a64_sysreg.proofs.Regions.{IsCore-with_base, IsCore-with_limit}
use Rattle.a64_sysreg.proofs.writing.write.Goals as goal

pub invariant_of-core-in-Prbar : goal.invariant_of-core-in-Prbar
invariant_of-core-in-Prbar c =
    IsCore-with_base _ c.write_base.new.regs c.args.value c.write_base.ensures c.core-in-Prbar.invariant

pub invariant_of-core-in-Prlar : goal.invariant_of-core-in-Prlar
invariant_of-core-in-Prlar c =
    IsCore-with_limit _ c.write_limit.new.regs c.args.value c.write_limit.ensures c.core-in-Prlar.invariant
