-- A schedule, line by line.
use Rattle.std.proofs.Common.{◌≡◌, ℕ, ◌+◌, ◌<◌, ◌≤◌, Bool, true, false, List, [], ◌∷◌, ◌++◌, length, sym, refl, ap, subst, ◌∙◌, arith, length-append, append-nil}
use Rattle.std.specs.Prelude.{Option, Some, None, nat_le, nat_lt, not, if◌then◌else◌, option_to_list, ⊤}
use Rattle.std.proofs.lemmas.Bool.{ltb-false}
use Rattle.std.proofs.lemmas.Bool.Decides.{nat_tests}
use Rattle.std.proofs.lemmas.List.Elements.{All-nil, All-push}
use Rattle.bao_types.specs.Shape.{event_limit}
use Rattle.bao_config.specs.Data.{ConfigData}
use Rattle.text_lines.specs.Cut.{IsWhole}
use Rattle.text_lines.specs.Rules.{unless_broken}
use Rattle.text_lines.proofs.Cuts.{fewer}
use Rattle.schedule.specs.Parts.{parts}
use Rattle.schedule.specs.Line.{line_of, BeginsWithLine}
use Rattle.hypervisor.specs.Event.{IsPlaced, is_core, is_assigned}
use Rattle.hypervisor.specs.declared.event.Event.{Event}
use Rattle.hypervisor.specs.declared.event.Event.TheVariants as event
use Rattle.schedule.specs.Rules.{event_of, broken_rule}
use Rattle.schedule.specs.Schedule.{Events, Broken, Reached, nothing_yet, count_after_event, count_after, with_line, at_end, answer_from, schedule_of}
use Rattle.schedule.specs.Lawful.{NeverFall, IsLawful}
use Rattle.schedule.specs.Answer.{TellsBroken, TakesLine, IsRefused}
use Rattle.schedule.specs.declared.line.Line.{Line}
use Rattle.schedule.specs.declared.line.Line.TheVariants.{NoEvent, Step, Input, BadForm}
use Rattle.schedule.specs.declared.error.ScheduleError.{ScheduleError}
use Rattle.schedule.specs.declared.error.ScheduleError.TheVariants.{Bad, OutOfMemory}
use Rattle.schedule.proofs.Cuts.{in_parts, one, some_part}

-- the count of the last step of these events
abbrev pub last_of : ℕ → List Event → ℕ
last_of last [] = last
last_of last (first ∷ events) = last_of (count_after_event last first) events

last_of-push : (last : ℕ) (events : List Event) (said : Event)
    → last_of last (events ++ said ∷ []) ≡ count_after_event (last_of last events) said
last_of-push last [] said = refl
last_of-push last (first ∷ events) said = last_of-push (count_after_event last first) events said

-- the count of a step isn't below this one
abbrev pub IsNotBelow : ℕ → Event → Type 0
IsNotBelow last (event.Step core count) = last ≤ count
IsNotBelow last (event.Input port byte) = ⊤

never_fall-push : (last : ℕ) (events : List Event) (said : Event) → NeverFall last events → IsNotBelow (last_of last events) said
    → NeverFall last (events ++ said ∷ [])
never_fall-push last [] (event.Step core count) so above = (above, tt)
never_fall-push last [] (event.Input port byte) so above = tt
never_fall-push last (event.Step core count ∷ events) said so above = (so.0, never_fall-push count events said so.1 above)
never_fall-push last (event.Input port byte ∷ events) said so above = never_fall-push last events said so above

-- the events so far are lawful, and this is the count of the last step
pub record IsSoFar (cfg : ConfigData) (events : List Event) (count : ℕ) : Type 0 where
  pub lawful : IsLawful cfg events
  pub last : last_of 0 events ≡ count

with_event : (cfg : ConfigData) (events : List Event) (count : ℕ) (said : Event) → IsSoFar cfg events count → IsPlaced cfg said
    → IsNotBelow count said → length events < event_limit → IsSoFar cfg (events ++ said ∷ []) (count_after_event count said)
with_event cfg events count said so placed above few =
    record {
      lawful =
          record {
            placed = All-push (IsPlaced cfg) events said so.lawful.placed placed;
            counts = never_fall-push 0 events said so.lawful.counts (subst (λ n. IsNotBelow n said) (sym so.last) above);
            few = omega (arith, few, length-append events (said ∷ []));
          };
      last = last_of-push 0 events said ∙ ap (λ n. count_after_event n said) so.last;
    }

-- a step, and an input, that break no rule
step_passes : (two four five : ℕ) (a b c : Bool)
    → (if not a then Some two else if b then Some four else if c then Some five else None) ≡ None
    → (a ≡ true) × (b ≡ false) × (c ≡ false)
step_passes two four five true false false h = (refl, refl, refl)
step_passes two four five true false true h = cc
step_passes two four five true true c h = cc
step_passes two four five false b c h = cc

input_passes : (three five : ℕ) (a c : Bool) → (if not a then Some three else if c then Some five else None) ≡ None
    → (a ≡ true) × (c ≡ false)
input_passes three five true false h = (refl, refl)
input_passes three five true true h = cc
input_passes three five false c h = cc

below_limit : (n : ℕ) → nat_le event_limit n ≡ false → n < event_limit
below_limit n h = grind (arith, nat_tests)

lawful_after : (cfg : ConfigData) (reached : Reached) (line : Line)
    → broken_rule cfg reached.count (length reached.events) line ≡ None → IsSoFar cfg reached.events reached.count
    → IsSoFar cfg (reached.events ++ option_to_list (event_of line)) (count_after reached.count (event_of line))
lawful_after cfg reached NoEvent kept so =
    subst (λ events. IsSoFar cfg events reached.count) (sym (append-nil reached.events)) so
lawful_after cfg reached (Step core count) kept so =
    let tests = step_passes 2 4 5 (is_core cfg core) (nat_lt count reached.count) (nat_le event_limit (length reached.events)) kept in
    with_event cfg reached.events reached.count (event.Step core count) so tests.0 (ltb-false count reached.count tests.1)
    (below_limit (length reached.events) tests.2)
lawful_after cfg reached (Input port byte) kept so =
    let tests = input_passes 3 5 (is_assigned cfg port) (nat_le event_limit (length reached.events)) kept in
    with_event cfg reached.events reached.count (event.Input port byte) so tests.0 tt (below_limit (length reached.events) tests.1)
lawful_after cfg reached BadForm kept so = cc

-- so far the lines before the rest were read; what is left decides
pub record IsReading (cfg : ConfigData) (bytes : List ℕ) (reached : Reached) (rest : List ℕ) : Type 0 where
  pub left : schedule_of cfg bytes ≡ answer_from cfg reached (parts 10 rest)
  pub lines : reached.lines + length rest ≤ length bytes
  pub so_far : IsSoFar cfg reached.events reached.count

pub begins : (cfg : ConfigData) (bytes : List ℕ) → IsReading cfg bytes nothing_yet bytes
unfolding schedule_of
begins cfg bytes =
    record {
      left = refl;
      lines = omega arith;
      so_far =
          record {
            lawful = record { placed = All-nil (IsPlaced cfg); counts = tt; few = omega arith };
            last = refl;
          };
    }

-- the first line decides, where something stands after it
next_line : (cfg : ConfigData) (reached : Reached) (line : List ℕ) (said : Line) (more : List (List ℕ)) → said ≡ line_of line
    → 0 < length more → answer_from cfg reached (line ∷ more)
    ≡ unless_broken (Broken (reached.lines + 1)) (broken_rule cfg reached.count (length reached.events) said)
    (answer_from cfg (with_line said reached) more)
unfolding answer_from
next_line cfg reached line said [] says some = absurd (omega arith)
next_line cfg reached line said (next ∷ others) says some =
    ap (λ l. unless_broken (Broken (reached.lines + 1)) (broken_rule cfg reached.count (length reached.events) l)
    (answer_from cfg (with_line l reached) (next ∷ others))) (sym says)

module _ (cfg : ConfigData) (bytes : List ℕ) (reached : Reached) (rest : List ℕ) (said : Line) (others : List ℕ)
    (reading : IsReading cfg bytes reached rest) (first : BeginsWithLine rest said others) where
  at_line : schedule_of cfg bytes
      ≡ unless_broken (Broken (reached.lines + 1)) (broken_rule cfg reached.count (length reached.events) said)
      (answer_from cfg (with_line said reached) (parts 10 others))
  at_line =
      reading.left ∙ ap (answer_from cfg reached) (in_parts 10 rest first.line others first.cut)
      ∙ next_line cfg reached first.line said (parts 10 others) first.says (some_part 10 others)

  by_rule : (rule : Option ℕ) → broken_rule cfg reached.count (length reached.events) said ≡ rule
      → schedule_of cfg bytes ≡ unless_broken (Broken (reached.lines + 1)) rule (answer_from cfg (with_line said reached) (parts 10 others))
  by_rule rule is =
      at_line ∙ ap (λ r. unless_broken (Broken (reached.lines + 1)) r (answer_from cfg (with_line said reached) (parts 10 others))) is

  with_one : broken_rule cfg reached.count (length reached.events) said ≡ None
      → IsReading cfg bytes (with_line said reached) others
  with_one kept =
      record {
        left = by_rule None kept;
        lines = omega (arith, reading.lines, fewer 10 rest first.line others first.cut);
        so_far = lawful_after cfg reached said kept reading.so_far;
      }

  -- the line was taken, of a configuration that is this
  pub goes_on : (own : ConfigData) (after : Reached) → TakesLine own reached said after → own ≡ cfg → IsReading cfg bytes after others
  goes_on own after takes same =
      let these : TakesLine cfg reached said after = subst (λ g. TakesLine g reached said after) same takes in
      subst (λ r. IsReading cfg bytes r others) (sym these.taken) (with_one these.kept)

  broken_here : (error : ScheduleError) → IsRefused cfg reached said error → TellsBroken (schedule_of cfg bytes) error
  broken_here (Bad number rule) refused = by_rule (Some rule) refused.1 ∙ ap (λ n. Broken n rule) (sym refused.0)
  broken_here OutOfMemory refused = tt

  -- the line was refused
  pub stops : (own : ConfigData) (error : ScheduleError) → IsRefused own reached said error → own ≡ cfg
      → TellsBroken (schedule_of cfg bytes) error
  stops own error refused same = broken_here error (subst (λ g. IsRefused g reached said error) same refused)

none_left : (rest : List ℕ) → length rest ≡ 0 → rest ≡ []
none_left [] none = refl
none_left (first ∷ rest) none = absurd (omega arith)

some_left : (reached : Reached) (rest : List ℕ) → 0 < length rest → at_end reached rest ≡ Broken (reached.lines + 1) 1
some_left reached [] some = absurd (omega arith)
some_left reached (first ∷ rest) some = refl

module _ (cfg : ConfigData) (bytes : List ℕ) (reached : Reached) (rest : List ℕ) (reading : IsReading cfg bytes reached rest)
    (whole : IsWhole 10 rest) where
  at_rest : schedule_of cfg bytes ≡ at_end reached rest
  unfolding answer_from
  at_rest = reading.left ∙ ap (answer_from cfg reached) (one 10 rest whole)

  pub ended : length rest ≡ 0 → schedule_of cfg bytes ≡ Events reached.events
  ended none = at_rest ∙ ap (at_end reached) (none_left rest none)

  pub not_ended : 0 < length rest → schedule_of cfg bytes ≡ Broken (reached.lines + 1) 1
  not_ended some = at_rest ∙ some_left reached rest some
