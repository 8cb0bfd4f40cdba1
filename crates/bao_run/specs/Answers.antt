-- The contract of the top call: what its answer means, that the VMs are isolated, and what the answer must be.
use Rattle.std.specs.Prelude.{◌≡◌, ◌<◌, ◌⊎◌, Some}
use Rattle.outside.specs.Shelf.{Files}
use Rattle.outside.specs.Use.{IsFaultless, last_count}
use Rattle.report.specs.declared.status.Status.{Status}
use Rattle.report.specs.declared.status.Status.TheVariants as status
use Rattle.bao_run.specs.Words.{Plays, command_of}
use Rattle.bao_run.specs.Call.{Call}
use Rattle.bao_run.specs.Ruling.{Ruling, Refused, Missing, Shown, Accept, ruling}
use Rattle.bao_run.specs.Input.{lacking}
use Rattle.bao_run.specs.Outcome.{Outcome, IsIsolated, ForSomeInput}

-- the shelf's faults didn't rise, or the last one was at a name that doesn't matter: the contents would rule the same without it
abbrev pub IsReadWell : Call → Files → Type 0
IsReadWell call files =
    IsFaultless call.shelf ⊎ (ruling call.words (lacking call.shelf.after.culprit files) ≡ ruling call.words files)

-- what the contents rule decides the answer
abbrev pub status_by : Ruling → Status
status_by (Refused status) = status
status_by (Missing file) = status.ReadFault file
status_by (Shown cfg) = status.Done
status_by (Accept input) = status.Done

-- where the contents are told and nothing outside fails, the answer is what they rule, want of memory aside
abbrev pub IsComplete : Call → Status → Type 0
IsComplete call answer =
    (files : Files) → call.shelf.held ≡ Some files
    → call.shelf.before.faults < last_count → IsReadWell call files
    → call.sink.faults_before < last_count → call.sink.faults_after ≡ call.sink.faults_before
    → (answer ≡ status_by (ruling call.words files)) ⊎ (answer ≡ status.OutOfMemory)

pub record Answers (call : Call) (answer : Status) : Type 0 where
  pub outcome : Outcome call answer
  pub isolated : answer ≡ status.Done → Plays (command_of call.words) → ForSomeInput (IsIsolated call)
  pub complete : IsComplete call answer
