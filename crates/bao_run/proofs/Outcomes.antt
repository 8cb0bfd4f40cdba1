-- From what the parts of a call answer to what its status means.
use Rattle.std.proofs.Common.{◌≡◌, ℕ, List, refl, sym, subst, ap, ◌∙◌, inl, inr, false}
use Rattle.bao_wellformed.specs.Checked.{checked_data}
use Rattle.outside.specs.Shelf.{Files, IfHeld}
use Rattle.outside.specs.Use.{IsFaultless, IsPut}
use Rattle.outside.proofs.Told.{every}
use Rattle.report.specs.declared.status.Status.{Status}
use Rattle.report.specs.declared.status.Status.TheVariants as status
use Rattle.report.specs.Section.{report}
use Rattle.report.specs.Summary.{summary}
use Rattle.report.specs.Status.{refusal_text}
use Rattle.bao_run.specs.Words.{Command, Run, Check, Generate, Unknown, IsCommand, Reads, IsCheck, command_of}
use Rattle.bao_run.specs.Call.{Call, InputData}
use Rattle.bao_run.specs.Ruling.{Refused, Accept, rule_command, ruling}
use Rattle.bao_run.specs.Input.{CanPlay, IsRefused, IsRuledBy, IsInput, IsShown, IsWorkload, input_data}
use Rattle.bao_run.specs.Play.{IsPlayed, IsShowing}
use Rattle.bao_run.specs.Outcome.{Outcome, IsAccepted, IsOf, IsRunnable, IsRuled, ending}
use Rattle.bao_run.specs.declared.config.Packed.{Packed}
use Rattle.bao_run.specs.declared.input.Input.{Input}

reads_command : (command : Command) → Reads command → IsCommand command
reads_command (Run config schedule) reads = tt
reads_command (Check config) reads = tt
reads_command (Generate number) reads = tt
reads_command Unknown reads = absurd reads

module _ (call : Call) (board : call.board.after ≡ call.board.before) where
  -- what the contents rule, with its line
  ruled : (decided : Status) → IsRuledBy call.shelf (command_of call.words) (Refused decided) → IsPut call.sink (refusal_text decided)
      → IsRuled call decided
  ruled decided h line = record { told = h.0; read = h.1; refused = record { board = board; line = line } }

  by_words : (command : Command) (decided : Status) → command_of call.words ≡ command
      → ((files : Files) → rule_command files command ≡ Refused decided) → IsFaultless call.shelf → IsPut call.sink (refusal_text decided)
      → IsRuled call decided
  by_words command decided is rules read line =
      ruled decided (
        every call.shelf.held (λ files. rule_command files (command_of call.words) ≡ Refused decided)
            (λ files. ap (rule_command files) is ∙ rules files),
        read,
      ) line

  -- words that ask for nothing
  pub unknown_words : command_of call.words ≡ Unknown → IsFaultless call.shelf
      → IsPut call.sink (refusal_text status.Usage) → Outcome call status.Usage
  unknown_words command read line = (command, by_words Unknown status.Usage command (λ files. refl) read line)

  -- a refusal while the files were read
  pub refused_input : (decided : Status) → Reads (command_of call.words) → call.board.before.fitted ≡ false
      → IsRefused call.shelf (command_of call.words) decided → IsPut call.sink (refusal_text decided) → Outcome call decided
  refused_input status.Done reads unfitted h line = absurd h
  refused_input status.Usage reads unfitted h line = absurd h
  refused_input (status.ReadFault file) reads unfitted h line = record { fault = h; refused = record { board = board; line = line } }
  refused_input (status.TooLong file limit) reads unfitted h line = (reads, ruled (status.TooLong file limit) h line)
  refused_input status.BadToml reads unfitted h line = (reads, ruled status.BadToml h line)
  refused_input (status.IllConfig why) reads unfitted h line = (reads, ruled (status.IllConfig why) h line)
  refused_input (status.TooMany core runs entries) reads unfitted h line = (reads, ruled (status.TooMany core runs entries) h line)
  refused_input (status.BadSchedule number rule) reads unfitted h line = (h.0, ruled (status.BadSchedule number rule) h.1 line)
  refused_input status.WriteFault reads unfitted h line = absurd h
  refused_input status.OutOfMemory reads unfitted h line = record {
    command = reads_command (command_of call.words) reads;
    read = h;
    unfitted = (ap (λ m. m.fitted) board ∙ unfitted, ap (λ m. m.ports) board);
    line = line;
  }

  -- a packing, as far as it was put out
  pub shown : (packed : Packed) → IsCheck (command_of call.words) → IsShown call.shelf (command_of call.words) packed
      → (decided : Status) → IsShowing (checked_data packed.checked) call.sink decided → Outcome call decided
  shown packed check h status.Done text = inr (record {
    check = check;
    cfg = checked_data packed.checked;
    well_formed = packed.checked.well_formed;
    told = h.told.0;
    read = h.told.1;
    board = board;
    text = text;
  })
  shown packed check h status.Usage text = absurd text
  shown packed check h (status.ReadFault file) text = absurd text
  shown packed check h (status.TooLong file limit) text = absurd text
  shown packed check h status.BadToml text = absurd text
  shown packed check h (status.IllConfig why) text = absurd text
  shown packed check h (status.TooMany core runs entries) text = absurd text
  shown packed check h (status.BadSchedule line rule) text = absurd text
  shown packed check h status.WriteFault text = inr (record {
    check = check;
    cfg = checked_data packed.checked;
    well_formed = packed.checked.well_formed;
    told = h.told.0;
    read = h.told.1;
    board = board;
    text = text;
  })
  shown packed check h status.OutOfMemory text = absurd text

-- an accepted input was run, as far as it came
module _ (call : Call) (command : IsCommand (command_of call.words)) (input : InputData) (accepted : IsAccepted call input) where
  played : (decided : Status) → IsPlayed (ending (command_of call.words)) input call.board call.sink decided → Outcome call decided
  played status.Done p = inl (input, record { accepted = accepted; played = p })
  played status.Usage p = absurd p
  played (status.ReadFault file) p = absurd p
  played (status.TooLong file limit) p = absurd p
  played status.BadToml p = absurd p
  played (status.IllConfig why) p = absurd p
  played (status.TooMany core runs entries) p = absurd p
  played (status.BadSchedule line rule) p = absurd p
  played status.WriteFault p = inl (input, record { accepted = accepted; played = p })
  played status.OutOfMemory p = record { command = command; read = accepted.read; unfitted = p.unfitted; line = p.line }

runnable : (input : Input) → CanPlay input → IsRunnable (input_data input)
runnable input playable = record {
  well_formed = input.packed.checked.well_formed;
  fits = input.packed.checked.config.fits;
  rooms = playable.rooms;
  said = input.events.items;
  taken = refl;
}

-- a run of a schedule, and of a workload
pub played_run : (call : Call) (config schedule : List ℕ) (input : Input) → command_of call.words ≡ Run config schedule
    → IsInput call.shelf (Run config schedule) input → (decided : Status)
    → IsPlayed report (input_data input) call.board call.sink decided → Outcome call decided
played_run call config schedule input is h decided p =
    played call (subst IsCommand (sym is) tt) (input_data input)
    (record {
      made = subst (λ c. IsOf c (input_data input)) (sym is)
          (record { schedule = h.spelled.0; said = input.events.items; spelled = h.spelled.1; taken = refl });
      runnable = runnable input h.playable;
      told = subst (λ c. IfHeld call.shelf.held (λ files. rule_command files c ≡ Accept (input_data input))) (sym is) h.told.0;
      read = h.told.1;
    }) decided (subst (λ c. IsPlayed (ending c) (input_data input) call.board call.sink decided) (sym is) p)

pub played_workload : (call : Call) (number : ℕ) (input : Input) → command_of call.words ≡ Generate number
    → IsFaultless call.shelf → IsWorkload number input → (decided : Status)
    → IsPlayed summary (input_data input) call.board call.sink decided → Outcome call decided
played_workload call number input is read h decided p =
    played call (subst IsCommand (sym is) tt) (input_data input)
    (record {
      made = subst (λ c. IsOf c (input_data input)) (sym is) h.made;
      runnable = runnable input h.playable;
      told = every call.shelf.held (λ files. ruling call.words files ≡ Accept (input_data input))
          (λ files. ap (rule_command files) is ∙ ap Accept (sym h.made));
      read = read;
    }) decided (subst (λ c. IsPlayed (ending c) (input_data input) call.board call.sink decided) (sym is) p)

-- memory ran out while a workload was made
pub no_workload : (call : Call) (number : ℕ) → command_of call.words ≡ Generate number → IsFaultless call.shelf
    → call.board.after ≡ call.board.before → call.board.before.fitted ≡ false → IsPut call.sink (refusal_text status.OutOfMemory)
    → Outcome call status.OutOfMemory
no_workload call number is read board unfitted line = record {
  command = subst IsCommand (sym is) tt;
  read = read;
  unfitted = (ap (λ m. m.fitted) board ∙ unfitted, ap (λ m. m.ports) board);
  line = line;
}
