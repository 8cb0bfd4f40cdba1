-- The contract of the top call follows from what its answer means.
use Rattle.std.proofs.Common.{◌≡◌, ◌<◌, refl, sym, ap, ◌∙◌, inl, inr}
use Rattle.std.specs.Prelude.{Some, ◌⊎◌}
use Rattle.outside.specs.Shelf.{Files, IfHeld}
use Rattle.outside.specs.Sink.{grown}
use Rattle.outside.specs.Use.{last_count}
use Rattle.outside.proofs.Told.{risen-other, held_fact}
use Rattle.report.specs.declared.status.Status.{Status}
use Rattle.report.specs.declared.status.Status.TheVariants as status
use Rattle.bao_run.specs.Words.{Command, Run, Check, Generate, Unknown, Plays, IsCheck, command_of}
use Rattle.bao_run.specs.Call.{Call}
use Rattle.bao_run.specs.Ruling.{Ruling, Refused, Missing, Shown, Accept, ruling}
use Rattle.bao_run.specs.Input.{lacking}
use Rattle.bao_run.specs.Outcome.{Outcome, IsIsolated, IsRuled, ForSomeInput}
use Rattle.bao_run.specs.Answers.{Answers, IsReadWell, status_by}
use Rattle.bao_run.proofs.Alone.{ending-alone}

-- what runs a board is no check
not_both : (command : Command) → Plays command → IsCheck command → ⊥
not_both (Run config schedule) plays check = check
not_both (Check config) plays check = plays
not_both (Generate number) plays check = check
not_both Unknown plays check = plays

isolated : (call : Call) → Outcome call status.Done → Plays (command_of call.words) → ForSomeInput (IsIsolated call)
isolated call (inl (input, done)) plays = (
  input,
  record {
    done = done;
    text = done.played.text.0 ∙ ap (grown call.sink.taken_before) (ending-alone input done.accepted.runnable (command_of call.words));
  },
)
isolated call (inr checked) plays = absurd (not_both (command_of call.words) plays checked.check)

module _ (call : Call) (files : Files) (held : call.shelf.held ≡ Some files) where
  -- the answer that the contents rule
  ruled : (decided : Ruling) (answer : Status) → IfHeld call.shelf.held (λ files. ruling call.words files ≡ decided) → answer ≡ status_by decided
      → (answer ≡ status_by (ruling call.words files)) ⊎ (answer ≡ status.OutOfMemory)
  ruled decided answer told is =
      inl (is ∙ ap status_by (sym (held_fact call.shelf.held files (λ files. ruling call.words files ≡ decided) held told)))

  refused : (decided : Status) → IsRuled call decided
      → (decided ≡ status_by (ruling call.words files)) ⊎ (decided ≡ status.OutOfMemory)
  refused decided h = ruled (Refused decided) decided h.told refl

  complete : (answer : Status) → Outcome call answer → call.shelf.before.faults < last_count → IsReadWell call files
      → call.sink.faults_before < last_count → call.sink.faults_after ≡ call.sink.faults_before
      → (answer ≡ status_by (ruling call.words files)) ⊎ (answer ≡ status.OutOfMemory)
  complete status.Done (inl (input, done)) low well wlow wsame = ruled (Accept input) status.Done done.accepted.told refl
  complete status.Done (inr checked) low well wlow wsame = ruled (Shown checked.cfg) status.Done checked.told refl
  complete status.Usage (command, h) low well wlow wsame = refused status.Usage h
  complete (status.ReadFault file) h low (inl same) wlow wsame =
      absurd (risen-other call.shelf.before.faults low (sym h.fault.failed.0 ∙ same))
  complete (status.ReadFault file) h low (inr same) wlow wsame =
      let missed : ruling call.words (lacking h.fault.name files) ≡ Missing file =
      held_fact call.shelf.held files (λ files. ruling call.words (lacking h.fault.name files) ≡ Missing file) held h.fault.told in
      let here : ruling call.words (lacking call.shelf.after.culprit files) ≡ Missing file =
      ap (λ name. ruling call.words (lacking name files)) h.fault.failed.1 ∙ missed in
      inl (ap status_by (sym here ∙ same))
  complete (status.TooLong file limit) (reads, h) low well wlow wsame = refused (status.TooLong file limit) h
  complete status.BadToml (reads, h) low well wlow wsame = refused status.BadToml h
  complete (status.IllConfig why) (reads, h) low well wlow wsame = refused (status.IllConfig why) h
  complete (status.TooMany core runs entries) (reads, h) low well wlow wsame = refused (status.TooMany core runs entries) h
  complete (status.BadSchedule line rule) (run, h) low well wlow wsame = refused (status.BadSchedule line rule) h
  complete status.WriteFault (inl (input, fault)) low well wlow wsame =
      absurd (risen-other call.sink.faults_before wlow (sym fault.played.text.1 ∙ wsame))
  complete status.WriteFault (inr fault) low well wlow wsame =
      absurd (risen-other call.sink.faults_before wlow (sym fault.text.1 ∙ wsame))
  complete status.OutOfMemory h low well wlow wsame = inr refl

-- all that the top call promises
pub answers_from : (call : Call) (answer : Status) → Outcome call answer → Answers call answer
answers_from call answer h = record {
  outcome = h;
  isolated = λ done. isolated call (rw done at h);
  complete = λ files held low well wlow wsame. complete call files held answer h low well wlow wsame;
}
