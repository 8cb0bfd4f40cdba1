use Rattle.std.proofs.Common.{rules, ◌≡◌, subst, Some}
use Rattle.gic_core.specs.Least.{IsLeast}
use Rattle.gic_core.specs.Lines.{least_raised, raised_intids}
use Rattle.gic_core.proofs.LeastLemmas.{least_is_least}
use Rattle.gic_core.proofs.lines.Lines.ack.Goals as goal

pub returns-in_err-intid-clause-least : goal.returns-in_err-intid-clause-least
returns-in_err-intid-clause-least c =
    let raised = raised_intids c.args.self.now c.args.core in
    let value : least_raised c.args.self.now c.args.core ≡ c.from_residual.result = search rules in
    subst (λ answer. IsLeast answer raised) value (least_is_least raised)

pub returns-clause-least : goal.returns-clause-least
returns-clause-least c =
    let raised = raised_intids c.args.self.now c.args.core in
    let value : least_raised c.args.self.now c.args.core ≡ Some c.in_ok-intid.intid = search rules in
    subst (λ answer. IsLeast answer raised) value (least_is_least raised)
