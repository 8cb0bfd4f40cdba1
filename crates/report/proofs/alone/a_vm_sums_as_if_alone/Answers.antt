use Rattle.report.proofs.Summarised.{sums_as_if_alone}
use Rattle.report.proofs.alone.a_vm_sums_as_if_alone.Goals as goal

pub returns : goal.returns
returns c = sums_as_if_alone
