-- What MRS and MSR do with the register that they name.
use Rattle.std.specs.Prelude.{ℕ, ◌<◌, Bool, true, false, if◌then◌else◌, Option, Some, None}
use Rattle.bao_types.specs.declared.sys_id.SysId.{SysId}
use Rattle.bao_types.specs.Controller.{id_end}
use Rattle.a64_state.specs.Core.{CoreData}
use Rattle.a64_state.specs.Pstate.{mode}
use Rattle.a64_sysreg.specs.declared.moment.Moment.{Moment}
use Rattle.a64_sysreg.specs.declared.register.Register.{Register}
use Rattle.a64_sysreg.specs.declared.access.SysRead.{SysRead}
use Rattle.a64_sysreg.specs.declared.access.SysRead.TheVariants as read
use Rattle.a64_sysreg.specs.declared.access.SysWrite.{SysWrite}
use Rattle.a64_sysreg.specs.declared.access.SysWrite.TheVariants as write
use Rattle.a64_sysreg.specs.Row.{allows_read, allows_write}
use Rattle.a64_sysreg.specs.Table.{row, register_of}

-- the table lets the core read the register: there is one, and the core's mode has the right
abbrev pub is_readable : CoreData → Option Register → Bool
is_readable core None = false
is_readable core (Some register) = allows_read ((row register).rights (mode core.pstate))

-- and write it
abbrev pub is_writable : CoreData → Option Register → Bool
is_writable core None = false
is_writable core (Some register) = allows_write ((row register).rights (mode core.pstate))

-- what a read of the register answers
abbrev pub read_of : CoreData → Moment → Option Register → SysRead
read_of core moment None = read.Undefined
read_of core moment (Some register) =
    if is_readable core (Some register) then (row register).read core moment else read.Undefined

-- what a write of a value answers
abbrev pub answer_of : CoreData → Option Register → ℕ → SysWrite
answer_of core None value = write.Undefined
answer_of core (Some register) value =
    if is_writable core (Some register) then (row register).answer value else write.Undefined

-- the core after a write; a write that isn't allowed leaves it
abbrev pub written_of : CoreData → Moment → Option Register → ℕ → CoreData
written_of core moment None value = core
written_of core moment (Some register) value =
    if is_writable core (Some register) then (row register).after core moment value else core

-- the level may read the register with this number
unfoldable pub may_read : CoreData → SysId → Bool
may_read core id = is_readable core (register_of id)

unfoldable pub may_write : CoreData → SysId → Bool
may_write core id = is_writable core (register_of id)

-- MRS
unfoldable pub read_answer : CoreData → Moment → SysId → SysRead
read_answer core moment id = read_of core moment (register_of id)

-- MSR
unfoldable pub write_answer : CoreData → SysId → ℕ → SysWrite
write_answer core id value = answer_of core (register_of id) value

unfoldable pub written : CoreData → Moment → SysId → ℕ → CoreData
written core moment id value = written_of core moment (register_of id) value

-- an interrupt that is ended is one of a core's
abbrev pub EndsAnId : SysWrite → Type 0
EndsAnId write.Done = Unit {0}
EndsAnId (write.End id) = id < id_end
EndsAnId write.Undefined = Unit {0}
EndsAnId write.TrapEl2 = Unit {0}
