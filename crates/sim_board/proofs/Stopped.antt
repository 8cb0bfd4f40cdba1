-- An access that no check stops is judged, and one that is stopped but not for SP is misaligned.
use Rattle.std.proofs.Common.{◌≡◌, Bool, true, false, refl, sym, ap}
use Rattle.std.specs.Prelude.{◌||◌, ◌&&◌, if◌then◌else◌, None}
use Rattle.a64_state.specs.Core.{CoreData}
use Rattle.a64_decode.specs.declared.instr.Instr.{Instr}
use Rattle.a64_address.specs.declared.shape.MemShape.{MemShape}
use Rattle.exceptions.specs.declared.class.Class.TheVariants.{SpAlignment}
use Rattle.board.specs.Attempt.{Effect, raised, at_port, bare_syndrome, checked, checks_alignment, is_misaligned, is_sp_misaligned, misaligned}
use Rattle.sim_board.specs.Step.{is_stopped}

neither : (sp start : Bool) (one two judged : Effect) → sp || start ≡ false
    → judged ≡ (if sp then one else if start then two else judged)
neither true start one two judged is = cc
neither false true one two judged is = cc
neither false false one two judged is = refl

pub not_stopped : (core : CoreData) (instr : Instr) (shape : MemShape) (judged : Effect) → is_stopped core shape ≡ false
    → judged ≡ checked core instr shape judged
not_stopped core instr shape judged is =
    neither (is_sp_misaligned core shape) (checks_alignment core && is_misaligned shape)
    (raised core (bare_syndrome SpAlignment) None core.pc) (misaligned core instr shape) judged is

pub stopped_start : (sp start : Bool) (one two judged : Effect) → sp || start ≡ true → sp ≡ false
    → two ≡ (if sp then one else if start then two else judged)
stopped_start true start one two judged stopped is = cc
stopped_start false true one two judged stopped is = refl
stopped_start false false one two judged stopped is = cc

-- one that is misaligned at a port
pub misaligned_port : (core : CoreData) (instr : Instr) (shape : MemShape) (aligned : Effect) → is_misaligned shape ≡ true
    → misaligned core instr shape ≡ at_port core instr shape aligned
misaligned_port core instr shape aligned is = sym (ap (λ b. if b then misaligned core instr shape else aligned) is)
