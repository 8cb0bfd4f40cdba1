use Rattle.report.proofs.Shown.{shows_nothing_else}
use Rattle.report.proofs.alone.a_vm_shows_nothing_else.Goals as goal

pub returns : goal.returns
returns c = shows_nothing_else
