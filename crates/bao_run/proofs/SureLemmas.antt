-- Over a shelf whose faults are always none.
use Rattle.std.proofs.Common.{◌≡◌, ◌<◌, sym, ◌∙◌, inl, arith}
use Rattle.outside.specs.Use.{last_count}
use Rattle.report.specs.declared.status.Status.{Status}
use Rattle.bao_run.specs.Call.{Call}
use Rattle.bao_run.specs.Answers.{Answers, IsReadWell}
use Rattle.bao_run.specs.SureAnswers.{IsSurelyComplete}

pub surely : (call : Call) (answer : Status) → call.shelf.before.faults ≡ 0 → call.shelf.after.faults ≡ 0 → Answers call answer
    → IsSurelyComplete call answer
surely call answer before after answers files held low same =
    let few : call.shelf.before.faults < last_count = omega arith in
    let well : IsReadWell call files = inl (after ∙ sym before) in
    answers.complete files held few well low same
