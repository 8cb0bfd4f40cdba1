use Rattle.std.proofs.Common.{sym}
use Rattle.pmsa_table.proofs.Refusals.{all_allowed}
use Rattle.pmsa_table.proofs.table.refusal_at.Goals as goal

pub returns-in-Allow : goal.returns-in-Allow
returns-in-Allow c = rw c.in-Allow.is (sym (all_allowed c.args.at c.args.count))
