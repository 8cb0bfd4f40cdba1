-- The table of system registers (ARM DDI 0487, "AArch64 System register descriptions"; DDI 0600 for the protection regions;
-- the GICv3 architecture for ICC registers): an equation a register, in the order of their numbers. Each says the number;
-- who has access; what a read gives; and what a write leaves. That the identification registers read as zero, which registers there
-- are, and that ICC_HPPIR1_EL1 gives what ICC_IAR1_EL1 would, is our own choice. What a read of ICC_IAR1_EL1 and a write of
-- ICC_EOIR1_EL1 change is the interrupt interface's.
use Rattle.std.specs.Prelude.{◌≡◌, IsTrue, if◌then◌else◌, ◌+◌, ◌*◌, ◌^◌, nat_lt, Bool, List, [], ◌∷◌, Option, Some}
use Rattle.std.specs.List.{find}
use Rattle.bao_types.specs.Bits.{field}
use Rattle.bao_types.specs.declared.sys_id.SysId.{SysId}
use Rattle.bao_types.specs.Controller.{id_end}
use Rattle.a64_state.specs.Registers.{level}
use Rattle.a64_state.specs.Pstate.{flags, daif, sp_sel, with_flags, with_daif}
use Rattle.vgic_iface.specs.Active.{running}
use Rattle.pmsa_regs.specs.RegionRegs.{selected, with_select, with_base, with_limit}
use Rattle.a64_sysreg.specs.declared.register.Register.{Register}
use Rattle.a64_sysreg.specs.declared.register.Register.TheVariants.{Midr, Mpuir, Mpidr, Identification, Sctlr, Cpacr, Spsr, Elr, SpEl0, SpSel, CurrentEl, IccPmr, Esr, Far, Prselr, Prbar, Prlar, Mair, Vbar, IccRpr, IccSgi1r, IccIar1, IccEoir1, IccHppir1, IccBpr1, IccCtlr, IccSre, IccIgrpen1, Contextidr, Tpidr, Cntkctl, Ctr, Nzcv, Daif, TpidrEl0, TpidrroEl0, Cntfrq, Cntvct, CntvTval, CntvCtl, CntvCval}
use Rattle.a64_sysreg.specs.declared.access.SysWrite.TheVariants.{Done, End, TrapEl2}
use Rattle.a64_sysreg.specs.Row.{Row, sys_id, numbered, is_identification, at_el1, with_own_sp, read_at_el0, everywhere, read_only, read_write, kept, write_only}
use Rattle.a64_sysreg.specs.Value.{bits, is_set, with_pstate, with_sp_sel, shown, timer_value, compare_value, timer_control}

-- the table
unfoldable pub row : Register → Row
row Midr = read_only (numbered (sys_id 3 0 0 0 0)) at_el1 (λ core moment. 0)
row Mpuir = read_only (numbered (sys_id 3 0 0 0 4)) at_el1 (λ core moment. 16)
row Mpidr = read_only (numbered (sys_id 3 0 0 0 5)) at_el1 (λ core moment. 0x80000000 + core.affinity)
row Identification = read_only is_identification at_el1 (λ core moment. 0)
row Sctlr = kept (numbered (sys_id 3 0 1 0 0)) at_el1 (λ sys. sys.sctlr) (λ sys value. record sys { sctlr = value })
row Cpacr = kept (numbered (sys_id 3 0 1 0 2)) at_el1 (λ sys. sys.cpacr) (λ sys value. record sys { cpacr = value })
row Spsr = kept (numbered (sys_id 3 0 4 0 0)) at_el1 (λ sys. sys.spsr) (λ sys value. record sys { spsr = bits value 31 0 })
row Elr = kept (numbered (sys_id 3 0 4 0 1)) at_el1 (λ sys. sys.elr) (λ sys value. record sys { elr = value })
row SpEl0 =
    read_write (numbered (sys_id 3 0 4 1 0)) with_own_sp (λ core moment. core.sp0) (λ core moment value. record core { sp0 = value })
row SpSel =
    read_write (numbered (sys_id 3 0 4 2 0)) at_el1 (λ core moment. sp_sel core.pstate)
    (λ core moment value. with_sp_sel core value)
row CurrentEl = read_only (numbered (sys_id 3 0 4 2 2)) at_el1 (λ core moment. level core * 4)
row IccPmr =
    read_write (numbered (sys_id 3 0 4 6 0)) at_el1 (λ core moment. core.iface.pmr)
    (λ core moment value. record core { iface = record core.iface { pmr = bits value 7 3 } })
row Esr = kept (numbered (sys_id 3 0 5 2 0)) at_el1 (λ sys. sys.esr) (λ sys value. record sys { esr = value })
row Far = kept (numbered (sys_id 3 0 6 0 0)) at_el1 (λ sys. sys.far) (λ sys value. record sys { far = value })
row Prselr =
    read_write (numbered (sys_id 3 0 6 2 1)) at_el1 (λ core moment. core.regions.select)
    (λ core moment value. record core { regions = with_select core.regions value })
row Prbar =
    read_write (numbered (sys_id 3 0 6 8 0)) at_el1 (λ core moment. (selected core.regions).base)
    (λ core moment value. record core { regions = with_base core.regions value })
row Prlar =
    read_write (numbered (sys_id 3 0 6 8 1)) at_el1 (λ core moment. (selected core.regions).limit)
    (λ core moment value. record core { regions = with_limit core.regions value })
row Mair = kept (numbered (sys_id 3 0 10 2 0)) at_el1 (λ sys. sys.mair) (λ sys value. record sys { mair = value })
row Vbar = kept (numbered (sys_id 3 0 12 0 0)) at_el1 (λ sys. sys.vbar) (λ sys value. record sys { vbar = bits value 63 11 })
row IccRpr = read_only (numbered (sys_id 3 0 12 11 3)) at_el1 (λ core moment. running core.iface.active)
row IccSgi1r = write_only (numbered (sys_id 3 0 12 11 5)) at_el1 (λ value. TrapEl2)
row IccIar1 = read_only (numbered (sys_id 3 0 12 12 0)) at_el1 (λ core moment. shown moment)
row IccEoir1 = write_only (numbered (sys_id 3 0 12 12 1)) at_el1 (λ value. if nat_lt value id_end then End value else Done)
row IccHppir1 = read_only (numbered (sys_id 3 0 12 12 2)) at_el1 (λ core moment. shown moment)
row IccBpr1 = read_write (numbered (sys_id 3 0 12 12 3)) at_el1 (λ core moment. 0) (λ core moment value. core)
row IccCtlr = read_write (numbered (sys_id 3 0 12 12 4)) at_el1 (λ core moment. 0) (λ core moment value. core)
row IccSre = read_write (numbered (sys_id 3 0 12 12 5)) at_el1 (λ core moment. 7) (λ core moment value. core)
row IccIgrpen1 =
    read_write (numbered (sys_id 3 0 12 12 7)) at_el1 (λ core moment. if core.iface.group then 1 else 0)
    (λ core moment value. record core { iface = record core.iface { group = is_set value 0 } })
row Contextidr = kept (numbered (sys_id 3 0 13 0 1)) at_el1 (λ sys. sys.contextidr) (λ sys value. record sys { contextidr = value })
row Tpidr = kept (numbered (sys_id 3 0 13 0 4)) at_el1 (λ sys. sys.tpidr) (λ sys value. record sys { tpidr = value })
row Cntkctl = kept (numbered (sys_id 3 0 14 1 0)) at_el1 (λ sys. sys.cntkctl) (λ sys value. record sys { cntkctl = value })
row Ctr = read_only (numbered (sys_id 3 3 0 0 1)) everywhere (λ core moment. 0)
row Nzcv =
    read_write (numbered (sys_id 3 3 4 2 0)) everywhere (λ core moment. flags core.pstate * 2 ^ 28)
    (λ core moment value. with_pstate core (with_flags core.pstate (field value 31 28)))
row Daif =
    read_write (numbered (sys_id 3 3 4 2 1)) at_el1 (λ core moment. daif core.pstate * 2 ^ 6)
    (λ core moment value. with_pstate core (with_daif core.pstate (field value 9 6)))
row TpidrEl0 = kept (numbered (sys_id 3 3 13 0 2)) everywhere (λ sys. sys.tpidr_el0) (λ sys value. record sys { tpidr_el0 = value })
row TpidrroEl0 = kept (numbered (sys_id 3 3 13 0 3)) read_at_el0 (λ sys. sys.tpidrro_el0) (λ sys value. record sys { tpidrro_el0 = value })
row Cntfrq = read_only (numbered (sys_id 3 3 14 0 0)) everywhere (λ core moment. 100000000)
row Cntvct = read_only (numbered (sys_id 3 3 14 0 2)) everywhere (λ core moment. moment.count)
row CntvTval =
    read_write (numbered (sys_id 3 3 14 3 0)) at_el1 (λ core moment. timer_value core.timer moment.count)
    (λ core moment value. record core { timer = record core.timer { cval = compare_value moment.count value } })
row CntvCtl =
    read_write (numbered (sys_id 3 3 14 3 1)) at_el1 (λ core moment. timer_control core.timer moment.count)
    (λ core moment value. record core { timer = record core.timer { ctl = bits value 1 0 } })
row CntvCval =
    read_write (numbered (sys_id 3 3 14 3 2)) at_el1 (λ core moment. core.timer.cval)
    (λ core moment value. record core { timer = record core.timer { cval = value } })

-- all registers, in the table's order
abbrev pub registers : List Register
registers =
    Midr ∷ Mpuir ∷ Mpidr ∷ Identification ∷ Sctlr ∷ Cpacr ∷ Spsr ∷ Elr ∷ SpEl0 ∷ SpSel ∷ CurrentEl ∷ IccPmr ∷ Esr ∷
    Far ∷ Prselr ∷ Prbar ∷ Prlar ∷ Mair ∷ Vbar ∷ IccRpr ∷ IccSgi1r ∷ IccIar1 ∷ IccEoir1 ∷ IccHppir1 ∷ IccBpr1 ∷
    IccCtlr ∷ IccSre ∷ IccIgrpen1 ∷ Contextidr ∷ Tpidr ∷ Cntkctl ∷ Ctr ∷ Nzcv ∷ Daif ∷ TpidrEl0 ∷ TpidrroEl0 ∷
    Cntfrq ∷ Cntvct ∷ CntvTval ∷ CntvCtl ∷ CntvCval ∷ []

-- the register with this number
unfoldable pub register_of : SysId → Option Register
register_of id = find (λ register. (row register).number id) registers

-- a number names one register at most, and each register is named by its numbers
abbrev pub NumbersAreDistinct : Type 0
NumbersAreDistinct =
    (register : Register) (id : SysId) → IsTrue ((row register).number id) → register_of id ≡ Some register

-- the register is ICC_IAR1_EL1, whose read takes the interrupt that it gives
abbrev pub acknowledges : SysId → Bool
acknowledges id = (row IccIar1).number id
