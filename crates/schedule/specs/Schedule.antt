-- The events that the bytes of a schedule say, or the first line that breaks a rule.
use Rattle.std.specs.Prelude.{ℕ, ◌+◌, List, [], ◌∷◌, ◌++◌, length, Option, None, Some, option_to_list}
use Rattle.bao_config.specs.Data.{ConfigData}
use Rattle.text_lines.specs.Ascii.{line_feed}
use Rattle.text_lines.specs.Rules.{unless_broken}
use Rattle.schedule.specs.Parts.{parts}
use Rattle.schedule.specs.Line.{line_of}
use Rattle.schedule.specs.Rules.{event_of, broken_rule}
use Rattle.schedule.specs.declared.line.Line.{Line}
use Rattle.hypervisor.specs.declared.event.Event.{Event}
use Rattle.hypervisor.specs.declared.event.Event.TheVariants.{Step, Input}

-- the events, or the number of the first line that breaks a rule, with the first rule that it breaks
pub data ScheduleAnswer : Type 0 where
  Events : (events : List Event) → ScheduleAnswer
  Broken : (line rule : ℕ) → ScheduleAnswer

-- how far a schedule has been read: its events, the count of the last step (0 before the first), and how many lines
pub record Reached : Type 0 where
  pub events : List Event
  pub count : ℕ
  pub lines : ℕ

abbrev pub nothing_yet : Reached
nothing_yet = record { events = []; count = 0; lines = 0 }

-- the count of the last step, after this event
abbrev pub count_after_event : ℕ → Event → ℕ
count_after_event last (Step core count) = count
count_after_event last (Input port byte) = last

abbrev pub count_after : ℕ → Option Event → ℕ
count_after last None = last
count_after last (Some event) = count_after_event last event

-- one line further
abbrev pub with_line : Line → Reached → Reached
with_line line reached =
    record {
      events = reached.events ++ option_to_list (event_of line);
      count = count_after reached.count (event_of line);
      lines = reached.lines + 1;
    }

-- what is after the last end of a line must be nothing, else it is a line of no form
abbrev pub at_end : Reached → List ℕ → ScheduleAnswer
at_end reached [] = Events reached.events
at_end reached (first ∷ rest) = Broken (reached.lines + 1) 1

-- what the lines from here on give; the last part is what stands after the last LF
unfoldable pub answer_from : ConfigData → Reached → List (List ℕ) → ScheduleAnswer
answer_from cfg reached [] = Events reached.events
answer_from cfg reached (behind ∷ []) = at_end reached behind
answer_from cfg reached (line ∷ next ∷ others) =
    unless_broken (Broken (reached.lines + 1)) (broken_rule cfg reached.count (length reached.events) (line_of line))
    (answer_from cfg (with_line (line_of line) reached) (next ∷ others))

-- the lines are the parts between the bytes LF
unfoldable pub schedule_of : ConfigData → List ℕ → ScheduleAnswer
schedule_of cfg bytes = answer_from cfg nothing_yet (parts line_feed bytes)
