use Rattle.std.proofs.Common.{rules, ◌≡◌, false, ap, ◌∙◌}
use Rattle.std.specs.Prelude.{◌&&◌, None}
use Rattle.exceptions.specs.declared.class.Class.TheVariants.{SpAlignment}
use Rattle.board.specs.Attempt.{bare_syndrome, checks_alignment, is_misaligned, is_sp_misaligned, misaligned, raised}
use Rattle.sim_board.specs.Step.{carried_out}
use Rattle.sim_board.proofs.Stopped.{stopped_start}
use Rattle.sim_board.proofs.fault.stop.Goals as goal

pub returns : goal.returns
returns c =
    let core = c.args.core.now in let instr = c.args.instr.now in let shape = c.args.shape.now in
    let sp : is_sp_misaligned core shape ≡ false = search rules in
    λ judged before. c.misalign.ensures before
    ∙ ap (λ effect. carried_out effect before)
    (stopped_start (is_sp_misaligned core shape) (checks_alignment core && is_misaligned shape)
    (raised core (bare_syndrome SpAlignment) None core.pc) (misaligned core instr shape) judged c.requires.stopped sp)
