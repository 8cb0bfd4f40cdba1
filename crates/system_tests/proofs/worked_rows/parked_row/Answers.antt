use Rattle.std.proofs.Common.{refl}
use Rattle.numerals.specs.Hex.{hex}
use Rattle.report.specs.Lines.{core_parked_line}
use Rattle.system_tests.proofs.worked_rows.parked_row.Goals as goal

pub returns : goal.returns
unfolding core_parked_line hex
returns c j = refl
