use Rattle.std.proofs.Common.{◌≡◌, ◌≤◌, ◌∙◌, true, None, sym, arith, rules}
use Rattle.std.specs.Prelude.{not}
use Rattle.std.proofs.lemmas.Bool.{OnTrue_from}
use Rattle.std.proofs.lemmas.Bool.Decides.{nat_tests}
use Rattle.pmsa_stage2.specs.Stage2.{stage2}
use Rattle.pmsa_table.specs.Span.{has}
use Rattle.pmsa_table.specs.Whole.{first_refusal}
use Rattle.pmsa_table.proofs.Refusals.{run_allowed}
use Rattle.pmsa_table.proofs.table.Table.allows.Goals as goal

pub returns : goal.returns
returns c =
    let hit = c.hit-hit.result in let at = c.args.at in
    OnTrue_from (not c.is_refused.result) (first_refusal (stage2 c.args.self.now c.args.access) at c.args.count ≡ None)
    (λ is.
    let met : c.has.result ≡ true = search rules in
    let inside : has hit at ≡ true = sym c.has.ensures ∙ met in
    let from : hit.first ≤ at = grind (arith, nat_tests, inside) in
    let to : at ≤ hit.last = grind (arith, nat_tests, inside) in
    run_allowed (stage2 c.args.self.now c.args.access) c.verdict.result at c.args.count hit.last
    (search rules) (omega arith) (omega arith)
    (λ byte low high. c.verdict.ensures ∙ c.hit-hit.ensures byte c.args.access (omega (arith, from)) high))
