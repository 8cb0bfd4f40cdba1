-- The contract of the top call: what its answer means, and what the answer must be.
use Rattle.std.specs.Prelude.{◌≡◌, ◌<◌, ◌⊎◌, Some}
use Rattle.outside.specs.Shelf.{Files}
use Rattle.outside.specs.Use.{IsFaultless, last_count}
use Rattle.asm_run.specs.Call.{Call}
use Rattle.asm_run.specs.Ruling.{Ruling, Made, Refused, Missing, ruling}
use Rattle.asm_run.specs.Outcome.{Outcome}
use Rattle.asm_run.specs.declared.status.AsmStatus.{AsmStatus}
use Rattle.asm_run.specs.declared.status.AsmStatus.TheVariants as status

-- what the contents rule decides the answer
abbrev pub status_by : Ruling → AsmStatus
status_by (Made bytes) = status.Done
status_by (Refused status) = status
status_by Missing = status.ReadFault

-- where the contents are told and nothing outside fails, the answer is what they rule, want of memory aside
abbrev pub IsComplete : Call → AsmStatus → Type 0
IsComplete call answer =
    (files : Files) → call.shelf.held ≡ Some files
    → call.shelf.before.faults < last_count → IsFaultless call.shelf
    → call.sink.faults_before < last_count → call.sink.faults_after ≡ call.sink.faults_before
    → (answer ≡ status_by (ruling call.words files)) ⊎ (answer ≡ status.OutOfMemory)

pub record Answers (call : Call) (answer : AsmStatus) : Type 0 where
  pub outcome : Outcome call answer
  pub complete : IsComplete call answer
