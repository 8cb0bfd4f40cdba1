-- Where the contents are told and nothing fails, the answer is what they rule.
use Rattle.std.proofs.Common.{◌≡◌, refl, sym, ap, ◌∙◌, inl, inr}
use Rattle.std.specs.Prelude.{Some, ◌⊎◌}
use Rattle.outside.specs.Shelf.{Files, IfHeld}
use Rattle.outside.proofs.Told.{risen-other, held_fact}
use Rattle.asm_run.specs.Words.{command_of}
use Rattle.asm_run.specs.Call.{Call}
use Rattle.asm_run.specs.Ruling.{Ruling, Made, Refused, rule_command, ruling}
use Rattle.asm_run.specs.Outcome.{Outcome}
use Rattle.asm_run.specs.Answers.{status_by, IsComplete, Answers}
use Rattle.asm_run.specs.declared.status.AsmStatus.{AsmStatus}
use Rattle.asm_run.specs.declared.status.AsmStatus.TheVariants as status

module _ (call : Call) (files : Files) (held : call.shelf.held ≡ Some files) where
  decided : (answer : AsmStatus) (r : Ruling) → status_by r ≡ answer → IfHeld call.shelf.held (λ fs. rule_command (command_of call.words) fs ≡ r)
      → (answer ≡ status_by (ruling call.words files)) ⊎ (answer ≡ status.OutOfMemory)
  decided answer r is told =
      inl (sym (ap status_by (held_fact call.shelf.held files (λ fs. rule_command (command_of call.words) fs ≡ r) held told) ∙ is))

pub complete : (call : Call) (answer : AsmStatus) → Outcome call answer → IsComplete call answer
complete call status.Done outcome files held low read sink_low same =
    decided call files held status.Done (Made outcome.bytes) refl outcome.made.told
complete call status.Usage outcome files held low read sink_low same =
    decided call files held status.Usage (Refused status.Usage) refl outcome.1.told
complete call status.ReadFault outcome files held low read sink_low same =
    absurd (risen-other call.shelf.before.faults low (sym outcome.0.failed.0 ∙ read))
complete call (status.TooLong limit) outcome files held low read sink_low same =
    decided call files held (status.TooLong limit) (Refused (status.TooLong limit)) refl outcome.0.told
complete call status.WriteFault outcome files held low read sink_low same =
    absurd (risen-other call.sink.faults_before sink_low (sym outcome.text.1 ∙ same))
complete call status.OutOfMemory outcome files held low read sink_low same = inr refl
complete call (status.BadLine line rule) outcome files held low read sink_low same =
    decided call files held (status.BadLine line rule) (Refused (status.BadLine line rule)) refl outcome.0.told
complete call (status.BadLength len) outcome files held low read sink_low same =
    decided call files held (status.BadLength len) (Refused (status.BadLength len)) refl outcome.0.told

pub answers_from : (call : Call) (answer : AsmStatus) → Outcome call answer → Answers call answer
answers_from call answer outcome = record { outcome = outcome; complete = complete call answer outcome }
