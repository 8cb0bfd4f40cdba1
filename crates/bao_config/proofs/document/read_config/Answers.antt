use Rattle.bao_config.proofs.Spelling.{spelled-not_utf8, spelled-read_ok, spelled-read_err}
use Rattle.bao_config.proofs.document.read_config.Goals as goal

pub returns-in_default-clause-err : goal.returns-in_default-clause-err
returns-in_default-clause-err c = λ _. spelled-not_utf8 _ c.in_default.ensures.cases.0

pub returns-clause-ok : goal.returns-clause-ok
returns-clause-ok c =
    spelled-read_ok c.args.bytes.now _ c.read_document.result c.in-Ok.ensures.cases.1 (rw (← c.in-Ok.ensures.cases.0) c.in-Ok-table_from_str.ensures.ok) c.read_document.ensures

pub returns-clause-err : goal.returns-clause-err
returns-clause-err c =
    spelled-read_err c.args.bytes.now _ c.read_document.result c.in-Ok.ensures.cases.1 (rw (← c.in-Ok.ensures.cases.0) c.in-Ok-table_from_str.ensures.ok) c.read_document.ensures
