use Rattle.report.proofs.Shown.{shows_as_if_alone}
use Rattle.report.proofs.alone.a_vm_shows_as_if_alone.Goals as goal

pub returns : goal.returns
returns c = shows_as_if_alone
