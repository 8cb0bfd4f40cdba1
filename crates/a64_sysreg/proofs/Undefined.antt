-- A read or a write is undefined exactly where the table gives no right to it.
use Rattle.std.proofs.Common.{◌≡◌, ◌≢◌, ◌↔◌, ℕ, Bool, true, false, IsTrue, IsFalse, refl}
use Rattle.std.specs.Prelude.{◌==◌, nat_lt, if◌then◌else◌, Option, Some, None}
use Rattle.bao_types.specs.declared.sys_id.SysId.{SysId}
use Rattle.bao_types.specs.Controller.{id_end}
use Rattle.a64_state.specs.Core.{CoreData}
use Rattle.a64_state.specs.Pstate.{mode}
use Rattle.a64_sysreg.specs.declared.moment.Moment.{Moment}
use Rattle.a64_sysreg.specs.declared.register.Register.{Register}
use Rattle.a64_sysreg.specs.declared.register.Register.TheVariants.{Midr, Mpuir, Mpidr, Identification, CurrentEl, IccRpr, IccSgi1r, IccIar1, IccEoir1, IccHppir1, Ctr, Cntfrq, Cntvct}
use Rattle.a64_sysreg.specs.declared.rights.Rights.TheVariants.{Nothing, Read, Write}
use Rattle.a64_sysreg.specs.declared.access.SysRead.{SysRead}
use Rattle.a64_sysreg.specs.declared.access.SysRead.TheVariants as read
use Rattle.a64_sysreg.specs.declared.access.SysWrite.{SysWrite}
use Rattle.a64_sysreg.specs.declared.access.SysWrite.TheVariants as write
use Rattle.a64_sysreg.specs.Row.{allows_read, allows_write}
use Rattle.a64_sysreg.specs.Table.{row, register_of}
use Rattle.a64_sysreg.specs.Access.{is_readable, is_writable, read_of, answer_of, read_answer, write_answer, may_read, may_write}

-- what is only written is never read
pub never-read : (at_el0 : Bool) → IsTrue (allows_read (if at_el0 then Nothing else Write)) → ⊥
never-read true allowed = cc
never-read false allowed = cc

-- what may be read gives something
readable-gives :
    (register : Register) (core : CoreData) (moment : Moment) → IsTrue (is_readable core (Some register)) →
    (row register).read core moment ≢ read.Undefined
unfolding row
readable-gives IccSgi1r core moment allowed = absurd (never-read (mode core.pstate == 0) allowed)
readable-gives IccEoir1 core moment allowed = absurd (never-read (mode core.pstate == 0) allowed)
readable-gives _ core moment allowed = λ same. cc

-- a right decides
by-right :
    (allowed : Bool) (given : SysRead) → (IsTrue allowed → given ≢ read.Undefined) →
    ((if allowed then given else read.Undefined) ≡ read.Undefined) ↔ IsFalse allowed
by-right true given gives = (λ same. absurd (gives refl same), λ refused. cc)
by-right false given gives = (λ _. refl, λ _. refl)

read-by-register :
    (core : CoreData) (moment : Moment) (register : Option Register) →
    (read_of core moment register ≡ read.Undefined) ↔ IsFalse (is_readable core register)
read-by-register core moment None = (λ _. refl, λ _. refl)
read-by-register core moment (Some register) =
    by-right (is_readable core (Some register)) ((row register).read core moment) (readable-gives register core moment)

pub undefined_read :
    (core : CoreData) (moment : Moment) (id : SysId) → (read_answer core moment id ≡ read.Undefined) ↔ IsFalse (may_read core id)
unfolding read_answer may_read
undefined_read core moment id = read-by-register core moment (register_of id)

-- what is only read is never written
pub never-written : (at_el0 : Bool) → IsTrue (allows_write (if at_el0 then Nothing else Read)) → ⊥
never-written true allowed = cc
never-written false allowed = cc

-- a write that is allowed is answered
end-answers : (value : ℕ) (ends : Bool) → (if ends then write.End value else write.Done) ≢ write.Undefined
end-answers value true = λ same. cc
end-answers value false = λ same. cc

writable-answers :
    (register : Register) (core : CoreData) (value : ℕ) → IsTrue (is_writable core (Some register)) →
    (row register).answer value ≢ write.Undefined
unfolding row
writable-answers Midr core value allowed = absurd (never-written (mode core.pstate == 0) allowed)
writable-answers Mpuir core value allowed = absurd (never-written (mode core.pstate == 0) allowed)
writable-answers Mpidr core value allowed = absurd (never-written (mode core.pstate == 0) allowed)
writable-answers Identification core value allowed = absurd (never-written (mode core.pstate == 0) allowed)
writable-answers CurrentEl core value allowed = absurd (never-written (mode core.pstate == 0) allowed)
writable-answers IccRpr core value allowed = absurd (never-written (mode core.pstate == 0) allowed)
writable-answers IccIar1 core value allowed = absurd (never-written (mode core.pstate == 0) allowed)
writable-answers IccHppir1 core value allowed = absurd (never-written (mode core.pstate == 0) allowed)
writable-answers IccEoir1 core value allowed = end-answers value (nat_lt value id_end)
writable-answers Ctr core value allowed = λ same. cc
writable-answers Cntfrq core value allowed = λ same. cc
writable-answers Cntvct core value allowed = λ same. cc
writable-answers _ core value allowed = λ same. cc

write-by-right :
    (allowed : Bool) (answer : SysWrite) → (IsTrue allowed → answer ≢ write.Undefined) →
    ((if allowed then answer else write.Undefined) ≡ write.Undefined) ↔ IsFalse allowed
write-by-right true answer answers = (λ same. absurd (answers refl same), λ refused. cc)
write-by-right false answer answers = (λ _. refl, λ _. refl)

write-by-register :
    (core : CoreData) (register : Option Register) (value : ℕ) →
    (answer_of core register value ≡ write.Undefined) ↔ IsFalse (is_writable core register)
write-by-register core None value = (λ _. refl, λ _. refl)
write-by-register core (Some register) value =
    write-by-right (is_writable core (Some register)) ((row register).answer value) (writable-answers register core value)

pub undefined_write :
    (core : CoreData) (id : SysId) (value : ℕ) → (write_answer core id value ≡ write.Undefined) ↔ IsFalse (may_write core id)
unfolding write_answer may_write
undefined_write core id value = write-by-register core (register_of id) value
