-- The groups of registers that their numbers are told in. No public clause cites this module.
use Rattle.a64_sysreg.specs.declared.register.Register.{Register}
use Rattle.a64_sysreg.specs.declared.register.Register.TheVariants.{Midr, Mpuir, Mpidr, Identification, Sctlr, Cpacr, Spsr, Elr, SpEl0, SpSel, CurrentEl, IccPmr, Esr, Far, Prselr, Prbar, Prlar, Mair, Vbar, IccRpr, IccSgi1r, IccIar1, IccEoir1, IccHppir1, IccBpr1, IccCtlr, IccSre, IccIgrpen1, Contextidr, Tpidr, Cntkctl, Ctr, Nzcv, Daif, TpidrEl0, TpidrroEl0, Cntfrq, Cntvct, CntvTval, CntvCtl, CntvCval}

pub data Group : Type 0 where
  -- what identifies the core, and what controls it and its exceptions
  Control : Group
  -- memory protection
  Protection : Group
  -- the interrupt interface
  Interrupts : Group
  -- the timer
  Timer : Group

-- the group of a register, in the table's order
unfoldable pub group_of : Register → Group
group_of Midr = Control
group_of Mpuir = Control
group_of Mpidr = Control
group_of Identification = Control
group_of Sctlr = Control
group_of Cpacr = Control
group_of Spsr = Control
group_of Elr = Control
group_of SpEl0 = Control
group_of SpSel = Control
group_of CurrentEl = Control
group_of IccPmr = Interrupts
group_of Esr = Control
group_of Far = Control
group_of Prselr = Protection
group_of Prbar = Protection
group_of Prlar = Protection
group_of Mair = Protection
group_of Vbar = Control
group_of IccRpr = Interrupts
group_of IccSgi1r = Interrupts
group_of IccIar1 = Interrupts
group_of IccEoir1 = Interrupts
group_of IccHppir1 = Interrupts
group_of IccBpr1 = Interrupts
group_of IccCtlr = Interrupts
group_of IccSre = Interrupts
group_of IccIgrpen1 = Interrupts
group_of Contextidr = Control
group_of Tpidr = Control
group_of Cntkctl = Timer
group_of Ctr = Control
group_of Nzcv = Control
group_of Daif = Control
group_of TpidrEl0 = Control
group_of TpidrroEl0 = Control
group_of Cntfrq = Timer
group_of Cntvct = Timer
group_of CntvTval = Timer
group_of CntvCtl = Timer
group_of CntvCval = Timer
