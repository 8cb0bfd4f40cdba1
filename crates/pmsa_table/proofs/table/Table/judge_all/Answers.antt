use Rattle.std.proofs.Common.{arith, ◌∙◌}
use Rattle.pmsa_stage2.specs.Stage2.{stage2}
use Rattle.pmsa_table.proofs.Refusals.{same_refusals}
use Rattle.pmsa_table.proofs.table.Table.judge_all.Goals as goal

pub returns-then-from-span-clause-refusal : goal.returns-then-from-span-clause-refusal
returns-then-from-span-clause-refusal c =
    c.refusal_at.ensures
    ∙ same_refusals (λ byte. c.verdict.result) (stage2 c.args.self.now c.args.access) c.args.at c.args.count c.span-span.result.last
    (omega arith) (omega arith)
    (λ byte from to. c.verdict.ensures ∙ c.span-span.ensures.right byte c.args.access (omega arith) to)
