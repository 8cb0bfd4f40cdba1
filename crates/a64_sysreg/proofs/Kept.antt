-- A write that isn't done leaves the core.
use Rattle.std.proofs.Common.{◌≡◌, ◌≢◌, ℕ, Bool, true, false, refl}
use Rattle.std.specs.Prelude.{if◌then◌else◌, Option, Some, None}
use Rattle.bao_types.specs.declared.sys_id.SysId.{SysId}
use Rattle.a64_state.specs.Core.{CoreData}
use Rattle.a64_sysreg.specs.declared.moment.Moment.{Moment}
use Rattle.a64_sysreg.specs.declared.register.Register.{Register}
use Rattle.a64_sysreg.specs.declared.register.Register.TheVariants.{Midr, Mpuir, Mpidr, Identification, CurrentEl, IccRpr, IccSgi1r, IccIar1, IccEoir1, IccHppir1, Ctr, Cntfrq, Cntvct}
use Rattle.a64_sysreg.specs.declared.access.SysWrite.{SysWrite}
use Rattle.a64_sysreg.specs.declared.access.SysWrite.TheVariants as write
use Rattle.a64_sysreg.specs.Table.{row, register_of}
use Rattle.a64_sysreg.specs.Access.{is_writable, answer_of, written_of, write_answer, written}

-- a row whose write isn't done leaves the core
kept-by-row :
    (register : Register) (core : CoreData) (moment : Moment) (value : ℕ) → (row register).answer value ≢ write.Done →
    (row register).after core moment value ≡ core
unfolding row
kept-by-row Midr core moment value other = refl
kept-by-row Mpuir core moment value other = refl
kept-by-row Mpidr core moment value other = refl
kept-by-row Identification core moment value other = refl
kept-by-row CurrentEl core moment value other = refl
kept-by-row IccRpr core moment value other = refl
kept-by-row IccSgi1r core moment value other = refl
kept-by-row IccIar1 core moment value other = refl
kept-by-row IccEoir1 core moment value other = refl
kept-by-row IccHppir1 core moment value other = refl
kept-by-row Ctr core moment value other = refl
kept-by-row Cntfrq core moment value other = refl
kept-by-row Cntvct core moment value other = refl
kept-by-row _ core moment value other = absurd (other refl)

kept-by-right :
    (allowed : Bool) (answer : SysWrite) (core after : CoreData) → (answer ≢ write.Done → after ≡ core) →
    (if allowed then answer else write.Undefined) ≢ write.Done → (if allowed then after else core) ≡ core
kept-by-right true answer core after keeps other = keeps other
kept-by-right false answer core after keeps other = refl

kept-by-register :
    (core : CoreData) (moment : Moment) (register : Option Register) (value : ℕ) → answer_of core register value ≢ write.Done →
    written_of core moment register value ≡ core
kept-by-register core moment None value other = refl
kept-by-register core moment (Some register) value other =
    kept-by-right (is_writable core (Some register)) ((row register).answer value) core ((row register).after core moment value)
    (kept-by-row register core moment value) other

pub kept_write :
    (core : CoreData) (moment : Moment) (id : SysId) (value : ℕ) → write_answer core id value ≢ write.Done → written core moment id value ≡ core
unfolding write_answer written
kept_write core moment id value other = kept-by-register core moment (register_of id) value other
