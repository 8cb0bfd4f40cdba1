-- The rules that a line is judged by, one test each.
use Rattle.std.specs.Prelude.{ℕ, nat_le, nat_lt, not, Bool, true, false, if◌then◌else◌, Option, None, Some, Result, Ok, Err}
use Rattle.bao_types.specs.Shape.{event_limit}
use Rattle.bao_config.specs.Data.{ConfigData}
use Rattle.hypervisor.specs.Event.{is_core, is_assigned}
use Rattle.hypervisor.specs.declared.event.Event.{Event}
use Rattle.hypervisor.specs.declared.event.Event.TheVariants as event
use Rattle.schedule.specs.declared.line.Line.{Line}
use Rattle.schedule.specs.declared.line.Line.TheVariants.{NoEvent, Step, Input, BadForm}

-- 1: it is of no form
abbrev pub has_bad_form : Line → Bool
has_bad_form NoEvent = false
has_bad_form (Step core count) = false
has_bad_form (Input port byte) = false
has_bad_form BadForm = true

-- 2: the platform has no such core
abbrev pub has_no_core : ConfigData → Line → Bool
has_no_core cfg NoEvent = false
has_no_core cfg (Step core count) = not (is_core cfg core)
has_no_core cfg (Input port byte) = false
has_no_core cfg BadForm = false

-- 3: no VM is given the port
abbrev pub has_no_port : ConfigData → Line → Bool
has_no_port cfg NoEvent = false
has_no_port cfg (Step core count) = false
has_no_port cfg (Input port byte) = not (is_assigned cfg port)
has_no_port cfg BadForm = false

-- 4: the count is below that of an earlier step, of which the last one's is the greatest
abbrev pub falls_below : ℕ → Line → Bool
falls_below last NoEvent = false
falls_below last (Step core count) = nat_lt count last
falls_below last (Input port byte) = false
falls_below last BadForm = false

-- the event that a line says
abbrev pub event_of : Line → Option Event
event_of NoEvent = None
event_of (Step core count) = Some (event.Step core count)
event_of (Input port byte) = Some (event.Input port byte)
event_of BadForm = None

-- 5: it says an event, and a board takes no more than there were
abbrev pub is_past_limit : ℕ → Option Event → Bool
is_past_limit number None = false
is_past_limit number (Some said) = nat_le event_limit number

-- the first rule that a line breaks, after this many events and a last step at this count
abbrev pub broken_rule : ConfigData → ℕ → ℕ → Line → Option ℕ
broken_rule cfg last number line =
    if has_bad_form line then Some 1
    else if has_no_core cfg line then Some 2
    else if has_no_port cfg line then Some 3
    else if falls_below last line then Some 4
    else if is_past_limit number (event_of line) then Some 5
    else None

-- the event of a line that breaks no rule
abbrev pub unless_broken : Option ℕ → Option Event → Result (Option Event) ℕ
unless_broken None said = Ok said
unless_broken (Some rule) said = Err rule

-- a number, where it passes
abbrev pub if_so : Bool → ℕ → Option ℕ
if_so passes number = if passes then Some number else None
