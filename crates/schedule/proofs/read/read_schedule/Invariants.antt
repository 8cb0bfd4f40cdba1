use Rattle.std.proofs.Common.{length}
use Rattle.bao_wellformed.specs.Checked.{checked_data}
use Rattle.schedule.specs.Answer.{reached_by}
use Rattle.schedule.proofs.Reading.{IsReading}
use Rattle.schedule.proofs.read.read_schedule.Given as goal

abbrev pub invariant-loop-line : goal.invariant-loop-line
invariant-loop-line l = IsReading (checked_data l.checked) l.bytes (reached_by l.progress) l.rest

abbrev pub decreases-loop-line : goal.decreases-loop-line
decreases-loop-line l = length l.rest
