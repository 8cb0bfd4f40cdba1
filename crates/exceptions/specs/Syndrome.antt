-- The syndromes of exceptions (ARM DDI 0487, "ESR_EL1, Exception Syndrome Register" and the ISS encodings there).
use Rattle.std.specs.Prelude.{◌≡◌, ◌⊎◌, ℕ, ◌+◌, ◌*◌, ◌^◌, Bool, ◌&&◌, ◌||◌, ◌==◌, if◌then◌else◌, Option, Some, None}
use Rattle.bao_types.specs.declared.sys_id.SysId.{SysId}
use Rattle.a64_decode.specs.Access.{scale_of, access_of}
use Rattle.a64_decode.specs.declared.access.MemAccess.{MemAccess}
use Rattle.a64_decode.specs.declared.instr.Instr.{Instr}
use Rattle.a64_decode.specs.declared.operand.Reg.{Reg}
use Rattle.a64_decode.specs.declared.operand.ExceptionKind.{ExceptionKind}
use Rattle.a64_decode.specs.declared.operand.ExceptionKind.TheVariants as kind
use Rattle.exceptions.specs.declared.class.Class.{Class}
use Rattle.exceptions.specs.declared.class.Class.TheVariants.{Unknown, IllegalState, Svc, Hvc, Smc, SystemRegister, InstructionAbortLower, InstructionAbortSame, PcAlignment, DataAbortLower, DataAbortSame, SpAlignment, Brk}

-- EC
abbrev pub class_number : Class → ℕ
class_number Unknown = 0x00
class_number IllegalState = 0x0E
class_number Svc = 0x15
class_number Hvc = 0x16
class_number Smc = 0x17
class_number SystemRegister = 0x18
class_number InstructionAbortLower = 0x20
class_number InstructionAbortSame = 0x21
class_number PcAlignment = 0x22
class_number DataAbortLower = 0x24
class_number DataAbortSame = 0x25
class_number SpAlignment = 0x26
class_number Brk = 0x3C

-- the class of an instruction that makes an exception
abbrev pub class_of : ExceptionKind → Class
class_of kind.Svc = Svc
class_of kind.Hvc = Hvc
class_of kind.Smc = Smc
class_of kind.Brk = Brk

-- the class in bits 31 to 26, bit 25 (IL) for an instruction of 32 bits, and below it what the class says more (ISS)
abbrev pub syndrome_of : ℕ → ℕ → ℕ
syndrome_of class iss = class * 2 ^ 26 + 2 ^ 25 + iss

-- what class 0x18 says of a write of a system register: its number and the register that is written to it
abbrev pub register_write : SysId → Reg → ℕ
register_write id rt =
    id.op0 * 2 ^ 20 + id.op2 * 2 ^ 17 + id.op1 * 2 ^ 14 + id.crn * 2 ^ 10 + rt.0 * 2 ^ 5 + id.crm * 2 ^ 1

-- a bit at this place
abbrev pub bit : ℕ → Bool → ℕ
bit place set = if set then 2 ^ place else 0

-- ISV, SAS, SSE, SRT and SF: that the access is described, its size, its sign, its register and the register's width
abbrev pub description_of : MemAccess → ℕ
description_of access =
    2 ^ 24 + scale_of access.size * 2 ^ 22 + bit 21 access.signed + access.rt.0 * 2 ^ 16 + bit 15 access.wide

-- What a data abort says of an access: WnR, that it stores, and its description, where it can be described and stage 2
-- refused it. There is none of it where there is no access.
abbrev pub access_part : Bool → Option MemAccess → ℕ
access_part stage2 None = 0
access_part stage2 (Some access) =
    (if stage2 && access.described then description_of access else 0) + bit 6 access.store

abbrev pub is_data_abort : ℕ → Bool
is_data_abort class = class == class_number DataAbortLower || class == class_number DataAbortSame

-- the classes of aborts
abbrev pub IsAbort : ℕ → Type 0
IsAbort class =
    (class ≡ class_number InstructionAbortLower)
    ⊎ (class ≡ class_number InstructionAbortSame)
    ⊎ (class ≡ class_number DataAbortLower)
    ⊎ (class ≡ class_number DataAbortSame)

-- the syndrome of an abort: the fault's code in bits 5 to 0, and for a data abort what it says of the access
abbrev pub abort_syndrome_of : ℕ → Bool → Instr → ℕ → ℕ
abort_syndrome_of class stage2 instr code =
    syndrome_of class ((if is_data_abort class then access_part stage2 (access_of instr) else 0) + code)
