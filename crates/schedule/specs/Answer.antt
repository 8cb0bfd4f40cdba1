-- What a contract sees of a schedule that is being read, and of a refusal.
use Rattle.std.specs.Prelude.{◌≡◌, ◌+◌, length, None, Some, ⊤}
use Rattle.bao_config.specs.Data.{ConfigData}
use Rattle.schedule.specs.Rules.{broken_rule}
use Rattle.schedule.specs.Schedule.{Reached, with_line, ScheduleAnswer, Broken}
use Rattle.schedule.specs.declared.line.Line.{Line}
use Rattle.schedule.specs.declared.progress.Progress.{Progress}
use Rattle.schedule.specs.declared.error.ScheduleError.{ScheduleError}
use Rattle.schedule.specs.declared.error.ScheduleError.TheVariants.{Bad, OutOfMemory}

abbrev pub reached_by : Progress → Reached
reached_by progress = record { events = progress.events.items; count = progress.count; lines = progress.lines }

-- the refusal is that of the schedule, unless memory ran out
abbrev pub TellsBroken : ScheduleAnswer → ScheduleError → Type 0
TellsBroken answer (Bad line rule) = answer ≡ Broken line rule
TellsBroken answer OutOfMemory = ⊤

-- the line breaks no rule, and was taken
pub record TakesLine (cfg : ConfigData) (before : Reached) (line : Line) (after : Reached) : Type 0 where
  pub kept : broken_rule cfg before.count (length before.events) line ≡ None
  pub taken : after ≡ with_line line before

-- the line breaks this rule first, unless memory ran out
abbrev pub IsRefused : ConfigData → Reached → Line → ScheduleError → Type 0
IsRefused cfg before line (Bad number rule) =
    (number ≡ before.lines + 1) × (broken_rule cfg before.count (length before.events) line ≡ Some rule)
IsRefused cfg before line OutOfMemory = ⊤
