-- What is known of an instruction by what it asks.
use Rattle.std.specs.Prelude.{◌≡◌, ◌↔◌, ◌*◌, ◌^◌, ◌==◌, ℕ, Bool, true, false, IsTrue, IsFalse, Option, Some, None, if◌then◌else◌}
use Rattle.std.proofs.Common.{refl, sym, ap, subst, ◌∙◌, rules}
use Rattle.bao_types.specs.Bytes.{IsWidth}
use Rattle.bao_types.specs.declared.sys_id.SysId.{SysId}
use Rattle.a64_state.specs.Core.{CoreData}
use Rattle.a64_state.specs.Registers.{level}
use Rattle.a64_decode.specs.Access.{scale_of, access_of}
use Rattle.a64_decode.specs.declared.access.MemAccess.{MemAccess}
use Rattle.a64_decode.specs.declared.instr.Instr.{Instr}
use Rattle.a64_decode.specs.declared.instr.Instr.TheVariants.{Branch, BranchConditional, CompareBranch, TestBranch, BranchRegister, ExceptionReturn, Exception, Hint, Barrier, MsrImmediate, System, SystemRegister, LoadLiteral, Pair, LoadStoreUnsigned, LoadStoreIndexed, LoadStoreRegister, Undefined}
use Rattle.a64_decode.specs.declared.operand.ExceptionKind.{ExceptionKind}
use Rattle.a64_decode.specs.declared.operand.ExceptionKind.TheVariants.{Svc, Hvc, Smc, Brk}
use Rattle.a64_decode.specs.declared.operand.Size.{Size}
use Rattle.a64_decode.specs.declared.operand.Size.TheVariants.{Byte, Half, Word, Double}
use Rattle.a64_alu.specs.Computed.{is_data_processing, computed}
use Rattle.a64_address.specs.declared.shape.MemShape.{MemShape}
use Rattle.a64_address.specs.Shape.{Agree, memory_shape}
use Rattle.a64_address.proofs.Agreement.{agree}
use Rattle.a64_state.specs.Registers.{x_of}
use Rattle.a64_decode.specs.declared.operand.Reg.{Reg}
use Rattle.a64_sysreg.specs.Table.{acknowledges}
use Rattle.a64_sysreg.specs.Access.{may_read, write_answer}
use Rattle.a64_sysreg.specs.declared.moment.Moment.{Moment}
use Rattle.a64_sysreg.specs.declared.access.SysWrite.{SysWrite}
use Rattle.a64_sysreg.specs.declared.access.SysWrite.TheVariants as write
use Rattle.a64_execute.specs.declared.need.Need.{Need}
use Rattle.a64_execute.specs.declared.need.Need.TheVariants as need
use Rattle.a64_execute.specs.Want.{asked, undefined_at, exception_need, read_need, write_need, register_need, need_of, wanted, access_asked, is_of_core_alone, stored_value}
use Rattle.a64_execute.specs.Branch.{advanced}
use Rattle.a64_execute.specs.Execute.{executed}
use Rattle.a64_execute.specs.Finish.{finished, finished_with}
use Rattle.a64_execute.specs.Transfer.{transferred}

size_is_width : (size : Size) → IsWidth (2 ^ scale_of size)
size_is_width Byte = search rules
size_is_width Half = search rules
size_is_width Word = search rules
size_is_width Double = search rules

agreed_width : (access : Option MemAccess) (shape : MemShape) → Agree access (Some shape) → IsWidth shape.width
agreed_width None shape same = absurd same
agreed_width (Some access) shape same = subst IsWidth (sym same.width) (size_is_width access.size)

-- what asks for no access, at EL1 alone or anywhere
only_at_el1 : (core : CoreData) (asks : Need) (here : Bool) → access_asked asks ≡ None
    → access_asked (if here then asks else undefined_at core) ≡ None
only_at_el1 core asks true none = none
only_at_el1 core asks false none = refl

exception_without : (core : CoreData) (kind : ExceptionKind) (imm16 : ℕ) → access_asked (exception_need core kind imm16) ≡ None
exception_without core Svc imm16 = refl
exception_without core Hvc imm16 = only_at_el1 core _ (level core == 1) refl
exception_without core Smc imm16 = only_at_el1 core _ (level core == 1) refl
exception_without core Brk imm16 = refl

read_without : (core : CoreData) (may acknowledging : Bool)
    → access_asked (if may then if acknowledging then need.Acknowledge else need.Done else undefined_at core) ≡ None
read_without core true true = refl
read_without core true false = refl
read_without core false acknowledging = refl

write_without : (core : CoreData) (id : SysId) (rt : Reg) (answer : SysWrite) → access_asked (write_need core id rt answer) ≡ None
write_without core id rt write.Done = refl
write_without core id rt (write.End ended) = refl
write_without core id rt write.Undefined = refl
write_without core id rt write.TrapEl2 = refl

register_without : (core : CoreData) (read : Bool) (id : SysId) (rt : Reg) → access_asked (register_need core read id rt) ≡ None
register_without core true id rt = read_without core (may_read core id) (acknowledges id)
register_without core false id rt = write_without core id rt (write_answer core id (x_of core rt.0))

-- a row that has no access asks for none
asked_without : (core : CoreData) (instr : Instr) → access_asked (asked core instr) ≡ None
unfolding asked
asked_without core ExceptionReturn = only_at_el1 core need.Done (level core == 1) refl
asked_without core (Exception kind imm16) = exception_without core kind imm16
asked_without core (MsrImmediate part crm) = only_at_el1 core need.Done (level core == 1) refl
asked_without core (System op1 crn crm op2 rt) = only_at_el1 core need.Done (level core == 1) refl
asked_without core (SystemRegister read id rt) = register_without core read id rt
asked_without core _ = refl

-- what holds of a store and of a load holds of what asks for an access
asks_access : (core : CoreData) (instr : Instr) (shape : MemShape) (Holds : Need → Type 0)
    → Holds (need.Store shape (stored_value core instr (8 * shape.width))) → Holds (need.Load shape)
    → Holds (need_of core instr (Some shape))
asks_access core instr shape Holds store load =
    let value : ℕ = stored_value core instr (8 * shape.width) in
    elim shape.store as (λ b. Holds (if b then need.Store shape value else need.Load shape)) [
      | true ↦ store
      | false ↦ load
    ]

asked_of : (core : CoreData) (instr : Instr) (shape : Option MemShape) → access_asked (need_of core instr shape) ≡ shape
asked_of core instr None = asked_without core instr
asked_of core instr (Some shape) = asks_access core instr shape (λ asks. access_asked asks ≡ Some shape) refl refl

-- the access that is asked for has elements of 1, 2, 4 or 8 bytes
pub asked_width : (core : CoreData) (instr : Instr) (shape : MemShape) → access_asked (wanted core instr) ≡ Some shape
    → IsWidth shape.width
unfolding wanted
asked_width core instr shape asks =
    let is : memory_shape core instr ≡ Some shape = sym (asked_of core instr (memory_shape core instr)) ∙ asks in
    agreed_width (access_of instr) shape (subst (Agree (access_of instr)) is (agree core instr))

-- one whose need is the core's alone has no access, and its row asks for the same
alone_of : (core : CoreData) (instr : Instr) (shape : Option MemShape) → IsTrue (is_of_core_alone (need_of core instr shape))
    → need_of core instr shape ≡ asked core instr
alone_of core instr None alone = refl
alone_of core instr (Some shape) alone =
    absurd (asks_access core instr shape (λ n. IsTrue (is_of_core_alone n) → ⊥) (λ is. cc) (λ is. cc) alone)

pub alone_row : (core : CoreData) (instr : Instr) → IsTrue (is_of_core_alone (wanted core instr))
    → IsTrue (is_of_core_alone (asked core instr))
unfolding wanted
alone_row core instr alone =
    subst (λ n. IsTrue (is_of_core_alone n)) (alone_of core instr (memory_shape core instr) alone) alone

-- what one leaves whose need is the core's alone is what its row does
finished_of : (core : CoreData) (moment : Moment) (instr : Instr) (got : ℕ) (shape : Option MemShape)
    → IsTrue (is_of_core_alone (need_of core instr shape))
    → finished_with core moment instr shape got ≡ executed instr moment core
finished_of core moment instr got None alone = refl
finished_of core moment instr got (Some shape) alone =
    absurd (asks_access core instr shape (λ n. IsTrue (is_of_core_alone n) → ⊥) (λ is. cc) (λ is. cc) alone)

pub alone_finished : (core : CoreData) (moment : Moment) (instr : Instr) (got : ℕ) → IsTrue (is_of_core_alone (wanted core instr))
    → executed instr moment core ≡ finished core moment instr got
unfolding wanted finished
alone_finished core moment instr got alone = sym (finished_of core moment instr got (memory_shape core instr) alone)

-- data processing computes
pub computes : (instr : Instr) (moment : Moment) (core : CoreData) → IsTrue (is_data_processing instr)
    → advanced (computed instr core) ≡ executed instr moment core
unfolding executed
computes (Branch link offset) moment core is = cc
computes (BranchConditional offset condition) moment core is = cc
computes (CompareBranch wide nonzero offset rt) moment core is = cc
computes (TestBranch bit nonzero offset rt) moment core is = cc
computes (BranchRegister kind rn) moment core is = cc
computes ExceptionReturn moment core is = cc
computes (Exception kind imm16) moment core is = cc
computes (Hint crm op2) moment core is = cc
computes (Barrier crm kind) moment core is = cc
computes (MsrImmediate part crm) moment core is = cc
computes (System op1 crn crm op2 rt) moment core is = cc
computes (SystemRegister read id rt) moment core is = cc
computes (LoadLiteral kind offset rt) moment core is = cc
computes (Pair kind mode load offset rt2 rn rt) moment core is = cc
computes (LoadStoreUnsigned size transfer imm12 rn rt) moment core is = cc
computes (LoadStoreIndexed size transfer offset mode rn rt) moment core is = cc
computes (LoadStoreRegister size transfer rm extend scaled rn rt) moment core is = cc
computes Undefined moment core is = cc
computes _ moment core is = refl

-- what one leaves that asks for an access
pub access_finished : (core : CoreData) (moment : Moment) (instr : Instr) (got : ℕ) (shape : MemShape)
    → access_asked (wanted core instr) ≡ Some shape
    → advanced (transferred instr shape got core) ≡ finished core moment instr got
unfolding wanted finished
access_finished core moment instr got shape asks =
    let is : memory_shape core instr ≡ Some shape = sym (asked_of core instr (memory_shape core instr)) ∙ asks in
    sym (ap (λ s. finished_with core moment instr s got) is)

-- a register that is read by an instruction whose need is the core's alone may be read
read_may : (core : CoreData) (may acknowledging : Bool)
    → IsTrue (is_of_core_alone (if may then if acknowledging then need.Acknowledge else need.Done else undefined_at core))
    → IsTrue may
read_may core true acknowledging alone = refl
read_may core false acknowledging alone = cc

pub may_be_read : (core : CoreData) (id : SysId) → IsTrue (is_of_core_alone (read_need core id)) → IsTrue (may_read core id)
may_be_read core id alone = read_may core (may_read core id) (acknowledges id) alone
