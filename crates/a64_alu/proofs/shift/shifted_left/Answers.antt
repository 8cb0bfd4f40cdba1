use Rattle.std.proofs.Common.{◌∙◌, ◌*◌, ◌^◌}
use Rattle.a64_alu.proofs.Bits.{shorter}
use Rattle.a64_alu.proofs.shift.shifted_left.Goals as goal

pub returns-clause-value : goal.returns-clause-value
returns-clause-value c =
    c.low.ensures.value ∙ shorter (c.args.value * 2 ^ c.args.amount) c.args.width c.requires.width
