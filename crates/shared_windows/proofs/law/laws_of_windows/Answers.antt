use Rattle.shared_windows.proofs.Heard.{heard_by_one_number, heard_where_listed}
use Rattle.shared_windows.proofs.law.laws_of_windows.Goals as goal

pub returns : goal.returns
returns c = record { listed = heard_where_listed; one = heard_by_one_number }
