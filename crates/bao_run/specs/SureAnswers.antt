-- What the top call must answer over a shelf that never fails.
use Rattle.std.specs.Prelude.{◌≡◌, ◌<◌, ◌⊎◌, Some}
use Rattle.outside.specs.Shelf.{Files}
use Rattle.outside.specs.Use.{last_count}
use Rattle.report.specs.declared.status.Status.{Status}
use Rattle.report.specs.declared.status.Status.TheVariants as status
use Rattle.bao_run.specs.Call.{Call}
use Rattle.bao_run.specs.Ruling.{ruling}
use Rattle.bao_run.specs.Answers.{status_by}

-- where the contents are told and the sink doesn't fail, the answer is what they rule, want of memory aside
abbrev pub IsSurelyComplete : Call → Status → Type 0
IsSurelyComplete call answer =
    (files : Files) → call.shelf.held ≡ Some files
    → call.sink.faults_before < last_count → call.sink.faults_after ≡ call.sink.faults_before
    → (answer ≡ status_by (ruling call.words files)) ⊎ (answer ≡ status.OutOfMemory)
