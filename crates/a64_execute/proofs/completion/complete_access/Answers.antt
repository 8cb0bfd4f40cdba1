use Rattle.std.proofs.Common.{ap, ◌∙◌}
use Rattle.a64_execute.specs.Branch.{advanced}
use Rattle.a64_execute.proofs.Shapes.{asked_width, access_finished}
use Rattle.a64_execute.proofs.completion.complete_access.Goals as goal

pub transfer-requires-clause-width : goal.transfer-requires-clause-width
transfer-requires-clause-width c = asked_width c.args.core.now c.args.instr.now c.args.shape.now c.requires.need

pub returns : goal.returns
returns c moment =
    c.advance.ensures ∙ ap (λ core. advanced core) c.transfer.ensures
    ∙ access_finished c.args.core.now moment c.args.instr.now c.args.got c.args.shape.now c.requires.need
