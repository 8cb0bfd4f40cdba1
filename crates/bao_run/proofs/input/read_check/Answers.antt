use Rattle.std.proofs.Common.{◌≡◌, rules}
use Rattle.std.specs.Prelude.{Err}
use Rattle.bao_wellformed.specs.Checked.{checked_data}
use Rattle.bao_run.proofs.Inputs.{check_config_refused, check_answer}
use Rattle.bao_run.proofs.input.read_check.Goals as goal

pub returns-in_err-checked-clause-answer : goal.returns-in_err-checked-clause-answer
returns-in_err-checked-clause-answer g c =
    let same : c.from_residual.result ≡ Err c.in_err-checked.field-0.0 = search rules in
    rw same (check_config_refused _ c.args.config.now c.in_err-checked.field-0.0 c.in_err-checked.ensures.answer)

pub returns-clause-answer : goal.returns-clause-answer
returns-clause-answer g c =
    check_answer _ c.args.config.now (checked_data c.in_ok-checked.checked) c.in_ok-checked.ensures.answer.0 c.in_ok-checked.ensures.answer.1
    c.pack_checked.result c.pack_checked.ensures
