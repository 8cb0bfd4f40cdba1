-- An interrupt that a write ends is one of a core's.
use Rattle.std.proofs.Common.{arith, ◌≡◌, ℕ, Bool, true, false, refl, subst, sym}
use Rattle.std.specs.Prelude.{nat_lt, ◌<◌, if◌then◌else◌, Option, Some, None}
use Rattle.std.proofs.lemmas.Bool.Decides.{nat_tests}
use Rattle.bao_types.specs.declared.sys_id.SysId.{SysId}
use Rattle.bao_types.specs.Controller.{id_end}
use Rattle.a64_state.specs.Core.{CoreData}
use Rattle.a64_sysreg.specs.declared.register.Register.{Register}
use Rattle.a64_sysreg.specs.declared.register.Register.TheVariants.{IccEoir1}
use Rattle.a64_sysreg.specs.declared.access.SysWrite.{SysWrite}
use Rattle.a64_sysreg.specs.declared.access.SysWrite.TheVariants as write
use Rattle.a64_sysreg.specs.Table.{row, register_of}
use Rattle.a64_sysreg.specs.Access.{EndsAnId, is_writable, answer_of, write_answer}

end-ends : (value : ℕ) (ends : Bool) → nat_lt value id_end ≡ ends → EndsAnId (if ends then write.End value else write.Done)
end-ends value true below = grind (arith, nat_tests, below)
end-ends value false below = tt

ends-by-row : (register : Register) (value : ℕ) → EndsAnId ((row register).answer value)
unfolding row
ends-by-row IccEoir1 value = end-ends value (nat_lt value id_end) refl
ends-by-row _ value = tt

ends-by-right : (allowed : Bool) (answer : SysWrite) → EndsAnId answer → EndsAnId (if allowed then answer else write.Undefined)
ends-by-right true answer ends = ends
ends-by-right false answer ends = tt

ends-by-register : (core : CoreData) (register : Option Register) (value : ℕ) → EndsAnId (answer_of core register value)
ends-by-register core None value = tt
ends-by-register core (Some register) value =
    ends-by-right (is_writable core (Some register)) ((row register).answer value) (ends-by-row register value)

pub ends_an_id : (core : CoreData) (id : SysId) (value : ℕ) (answer : SysWrite) → answer ≡ write_answer core id value
    → EndsAnId answer
unfolding write_answer
ends_an_id core id value answer is = subst EndsAnId (sym is) (ends-by-register core (register_of id) value)
