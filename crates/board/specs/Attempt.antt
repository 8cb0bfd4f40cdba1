-- One step of one core: it takes an interrupt; or else PC is aligned, the fetch is judged, the state is legal, the word is
-- decoded, and what the instruction asks of memory is checked, judged byte by byte, and carried out in address order
-- (ARM DDI 0487, "Synchronous exception prioritization for exceptions taken to AArch64 state").
use Rattle.std.specs.Prelude.{ℕ, ◌%◌, ◌==◌, ◌&&◌, ◌||◌, not, Bool, true, false, if◌then◌else◌, List, [], ◌∷◌, Option, None, Some, is_some}
use Rattle.bao_types.specs.Bits.{field}
use Rattle.bao_types.specs.declared.access.Verdict.{Verdict}
use Rattle.bao_types.specs.declared.access.Verdict.TheVariants.{Allow, Translation, Permission}
use Rattle.a64_state.specs.Core.{CoreData}
use Rattle.a64_state.specs.Registers.{level, sp_of}
use Rattle.a64_state.specs.Pstate.{illegal_state, masks_irq}
use Rattle.a64_decode.specs.Table.{decoded}
use Rattle.a64_decode.specs.declared.instr.Instr.{Instr}
use Rattle.a64_address.specs.declared.shape.MemShape.{MemShape}
use Rattle.exceptions.specs.declared.class.Class.{Class}
use Rattle.exceptions.specs.declared.class.Class.TheVariants.{IllegalState, InstructionAbortLower, InstructionAbortSame, PcAlignment, DataAbortLower, DataAbortSame, SpAlignment}
use Rattle.exceptions.specs.declared.entry.Cause.TheVariants.{Irq, Sync}
use Rattle.exceptions.specs.Syndrome.{syndrome_of, class_number, abort_syndrome_of}
use Rattle.exceptions.specs.Entry.{entered}
use Rattle.a64_sysreg.specs.declared.moment.Moment.{Moment}
use Rattle.a64_execute.specs.declared.need.Need.{Need}
use Rattle.a64_execute.specs.declared.need.Need.TheVariants as need
use Rattle.a64_execute.specs.Want.{wanted, bytes_of}
use Rattle.a64_execute.specs.Branch.{advanced}
use Rattle.a64_execute.specs.Finish.{finished}
use Rattle.board.specs.declared.judged.Fault.{Fault}
use Rattle.board.specs.declared.judged.Judged.{Judged}
use Rattle.board.specs.declared.judged.Judged.TheVariants.{Memory, Port, Refused}
use Rattle.board.specs.Ports.{Places, PortAccess, stores_from, elements_read, elements_stored, elements_written}
use Rattle.board.specs.Judge.{Reach}

-- What a step comes to. The core goes on, at EL1 where it takes an exception there; and with that it takes the interrupt that
-- its interface shows, if there is one, or ends the one with a number; or an exception of this syndrome goes to EL2, with the
-- fault address of an abort, and else 0.
pub data Outcome : Type 0 where
  Ran : Outcome
  Acknowledged : Outcome
  Ended : (id : ℕ) → Outcome
  Leave : (esr far : ℕ) → Outcome

-- What a step does: the core after it, each byte of memory that it stores, with its address, in order, what it does to ports,
-- in order, and what it comes to.
pub record Effect : Type 0 where
  pub core : CoreData
  pub stored : List (ℕ × ℕ)
  pub touched : List PortAccess
  pub outcome : Outcome

-- the core goes on, nothing is stored, and no port is touched
abbrev pub ran : CoreData → Effect
ran core = record { core = core; stored = []; touched = []; outcome = Ran }

-- the core goes on at EL1, with an exception
abbrev pub raised : CoreData → ℕ → Option ℕ → ℕ → Effect
raised core esr far back = ran (entered core (Sync esr far back))

-- an exception goes to EL2
abbrev pub left : CoreData → ℕ → ℕ → Effect
left core esr far = record { core = core; stored = []; touched = []; outcome = Leave esr far }

-- the syndrome of a class that says nothing more
abbrev pub bare_syndrome : Class → ℕ
bare_syndrome class = syndrome_of (class_number class) 0

-- the fault status code of a verdict; what is allowed has none
abbrev pub code_of : Verdict → ℕ
code_of Allow = 0
code_of Translation = 0x04
code_of Permission = 0x0C

-- and that of a misaligned access
abbrev pub alignment_code : ℕ
alignment_code = 0x21

-- the class of an abort, of those from below and at the same level: EL2 and EL1 are above EL0, and EL2 is above EL1
abbrev pub abort_class : Class → Class → CoreData → Bool → Class
abort_class lower same core stage2 = if stage2 || level core == 0 then lower else same

-- EL2 takes an abort that the second stage makes, and EL1 all others. The core stays at the instruction, or returns to it.
abbrev pub aborted : CoreData → Bool → ℕ → ℕ → Effect
aborted core stage2 esr at = if stage2 then left core esr at else raised core esr (Some at) core.pc

-- of a fetch
abbrev pub fetch_aborted : CoreData → Fault → Effect
fetch_aborted core fault =
    aborted core fault.stage2
    (syndrome_of (class_number (abort_class InstructionAbortLower InstructionAbortSame core fault.stage2)) (code_of fault.verdict))
    fault.at

-- of a load or a store
abbrev pub data_aborted : CoreData → Instr → Bool → ℕ → ℕ → Effect
data_aborted core instr stage2 code at =
    aborted core stage2
    (abort_syndrome_of (class_number (abort_class DataAbortLower DataAbortSame core stage2)) stage2 instr code) at

-- SCTLR_EL1.A: the start of an access is checked
abbrev pub checks_alignment : CoreData → Bool
checks_alignment core = field core.sys.sctlr 1 1 == 1

-- SCTLR_EL1.SA at EL1, and SA0 at EL0: SP is checked where it is the base
abbrev pub checks_sp : CoreData → Bool
checks_sp core = if level core == 1 then field core.sys.sctlr 3 3 == 1 else field core.sys.sctlr 4 4 == 1

-- the check of SP fails: it isn't a multiple of 16
abbrev pub is_sp_misaligned : CoreData → MemShape → Bool
is_sp_misaligned core shape = shape.base_sp && checks_sp core && not (sp_of core % 16 == 0)

-- the start isn't a multiple of an element's width
abbrev pub is_misaligned : MemShape → Bool
is_misaligned shape = not (shape.at % shape.width == 0)

-- EL1 takes the alignment fault of an access
abbrev pub misaligned : CoreData → Instr → MemShape → Effect
misaligned core instr shape = data_aborted core instr false alignment_code shape.at

-- an access is checked for SP and for its start, before it is judged
abbrev pub checked : CoreData → Instr → MemShape → Effect → Effect
checked core instr shape judged =
    if is_sp_misaligned core shape then raised core (bare_syndrome SpAlignment) None core.pc
    else if checks_alignment core && is_misaligned shape then misaligned core instr shape
    else judged

-- An access to a port is always aligned.
abbrev pub at_port : CoreData → Instr → MemShape → Effect → Effect
at_port core instr shape aligned = if is_misaligned shape then misaligned core instr shape else aligned

-- an access, and the instruction that asks for it at a moment
pub record Asked : Type 0 where
  pub moment : Moment
  pub instr : Instr
  pub shape : MemShape

-- a load, as it is judged
abbrev pub load_effect : Places → CoreData → Asked → Judged → Effect
load_effect places core asked (Memory got) = ran (finished core asked.moment asked.instr got)
load_effect places core asked (Port got) =
    let shape : MemShape = asked.shape in
    at_port core asked.instr shape
    (record (ran (finished core asked.moment asked.instr got)) {
      touched = elements_read places shape.at shape.width shape.count;
    })
load_effect places core asked (Refused fault) =
    data_aborted core asked.instr fault.stage2 (code_of fault.verdict) fault.at

-- a store of a value, as it is judged
abbrev pub store_effect : Places → CoreData → Asked → ℕ → Judged → Effect
store_effect places core asked value (Memory got) =
    record (ran (finished core asked.moment asked.instr 0)) {
      stored = stores_from asked.shape.at (bytes_of asked.shape) value;
    }
store_effect places core asked value (Port got) =
    let shape : MemShape = asked.shape in
    at_port core asked.instr shape
    (record (ran (finished core asked.moment asked.instr 0)) {
      stored = elements_stored places shape.at shape.width shape.count value;
      touched = elements_written places shape.at shape.width shape.count value;
    })
store_effect places core asked value (Refused fault) =
    data_aborted core asked.instr fault.stage2 (code_of fault.verdict) fault.at

-- What an instruction does that asks for this. An exception that goes to EL2 and is no abort changes PC at most.
abbrev pub effect_of : Reach → CoreData → Moment → Instr → Need → Effect
effect_of reach core moment instr need.Done = ran (finished core moment instr 0)
effect_of reach core moment instr need.Acknowledge = record (ran (finished core moment instr 0)) { outcome = Acknowledged }
effect_of reach core moment instr (need.End id) = record (ran (finished core moment instr 0)) { outcome = Ended id }
effect_of reach core moment instr (need.Load shape) =
    checked core instr shape
    (load_effect reach.places core (record { moment = moment; instr = instr; shape = shape })
    (reach.loaded shape.at shape.width shape.count))
effect_of reach core moment instr (need.Store shape value) =
    checked core instr shape
    (store_effect reach.places core (record { moment = moment; instr = instr; shape = shape }) value
    (reach.storable shape.at shape.width shape.count))
effect_of reach core moment instr (need.Raise esr back) = raised core esr None back
effect_of reach core moment instr (need.Leave esr past) = left (if past then advanced core else core) esr 0

-- a word that was fetched; it isn't looked at in an illegal state
abbrev pub word_effect : Reach → CoreData → Moment → ℕ → Effect
word_effect reach core moment word =
    if illegal_state core.pstate then raised core (bare_syndrome IllegalState) None core.pc
    else effect_of reach core moment (decoded word) (wanted core (decoded word))

-- what the fetch gives: a word, whatever it is read from, or a fault
abbrev pub fetch_effect : Reach → CoreData → Moment → Judged → Effect
fetch_effect reach core moment (Memory word) = word_effect reach core moment word
fetch_effect reach core moment (Port word) = word_effect reach core moment word
fetch_effect reach core moment (Refused fault) = fetch_aborted core fault

-- What an instruction does at a moment. A PC that isn't a multiple of 4 makes no fetch.
unfoldable pub attempt : Reach → CoreData → Moment → Effect
attempt reach core moment =
    if core.pc % 4 == 0 then fetch_effect reach core moment (reach.fetched core.pc)
    else raised core (bare_syndrome PcAlignment) (Some core.pc) core.pc

-- the core takes the interrupt that its interface shows: there is one, and PSTATE.I is clear
abbrev pub takes_irq : CoreData → Moment → Bool
takes_irq core moment = is_some moment.signal && not (masks_irq core.pstate)

-- What a step does at a moment: an interrupt comes before all else that could happen.
abbrev pub step_effect : Reach → CoreData → Moment → Effect
step_effect reach core moment = if takes_irq core moment then ran (entered core Irq) else attempt reach core moment
