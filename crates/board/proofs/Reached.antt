-- What a step can disturb and observe.
use Rattle.std.proofs.Common.{◌≡◌, ℕ, zero, suc, ◌+◌, ◌*◌, ◌/◌, ◌%◌, ◌^◌, ◌≤◌, Bool, true, false, List, [], ◌∷◌, ◌++◌, refl, sym, ap, subst, ◌∙◌, inl, inr, arith}
use Rattle.std.specs.Prelude.{IsTrue, IsFalse, ◌&&◌, ◌||◌, ◌==◌, if◌then◌else◌, Option, None, Some}
use Rattle.std.proofs.lemmas.Bool.Decides.{nat_tests}
use Rattle.std.proofs.Math.Nat.{mul-suc}
use Rattle.bao_types.specs.Bytes.{IsWidth, bytes_from, little_endian, next_address}
use Rattle.bao_types.specs.declared.access.Access.{Access}
use Rattle.bao_types.specs.declared.access.Access.TheVariants.{Read, Write, Exec}
use Rattle.bao_types.specs.declared.access.Verdict.{Verdict}
use Rattle.bao_types.specs.declared.access.Verdict.TheVariants.{Allow, Translation, Permission}
use Rattle.a64_state.specs.Core.{CoreData}
use Rattle.a64_state.specs.Pstate.{illegal_state}
use Rattle.a64_decode.specs.Table.{decoded}
use Rattle.a64_decode.specs.declared.instr.Instr.{Instr}
use Rattle.a64_address.specs.declared.shape.MemShape.{MemShape}
use Rattle.exceptions.specs.declared.entry.Cause.TheVariants.{Irq}
use Rattle.exceptions.specs.Entry.{entered}
use Rattle.a64_sysreg.specs.declared.moment.Moment.{Moment}
use Rattle.exceptions.specs.declared.class.Class.TheVariants.{IllegalState, PcAlignment, SpAlignment}
use Rattle.a64_execute.specs.declared.need.Need.{Need}
use Rattle.a64_execute.specs.declared.need.Need.TheVariants as need
use Rattle.a64_execute.specs.Want.{wanted, access_asked, bytes_of}
use Rattle.a64_execute.proofs.Shapes.{asked_width}
use Rattle.ports.specs.PortState.{PortState}
use Rattle.ports.specs.Registers.{after_read, after_write, line_of_write, value_read}
use Rattle.board.specs.declared.judged.Fault.{Fault}
use Rattle.board.specs.declared.judged.Judged.{Judged}
use Rattle.board.specs.declared.judged.Judged.TheVariants.{Memory, Port, Refused}
use Rattle.board.specs.Ports.{Places, PortStates, PortByte, PortAccess, ReadPort, WritePort, Source, accessed, all_accessed, address_from, element_read, element_stored, element_value, element_written, elements_read, elements_stored, elements_value, elements_written, number_at, raises_line, stores_from, with_port}
use Rattle.board.specs.Stage.{Stage, is_allowed, both}
use Rattle.board.specs.Judge.{all_from, fault_or, first_fault, fault_else, has_no_port, reach_of}
use Rattle.board.specs.Attempt.{Effect, ran, raised, fetch_aborted, data_aborted, bare_syndrome, alignment_code, code_of, checks_alignment, is_misaligned, is_sp_misaligned, misaligned, at_port, checked, load_effect, store_effect, effect_of, word_effect, fetch_effect, attempt, takes_irq, step_effect}
use Rattle.board.specs.Machine.{with_byte, written}
use Rattle.board.specs.Reached.{DisturbsNothingElse, AreAlike, ArePortsAlike, ObservesNothingElse, ReachesPort}

-- what elements are read from, by its parts
abbrev pub source : Places → PortStates → (ℕ → ℕ) → Source
source places states bytes = record { places = places; states = states; bytes = bytes }

-- each stored byte passes a test
unfoldable pub AllStored : (ℕ → Bool) → List (ℕ × ℕ) → Type 0
AllStored test [] = Unit {0}
AllStored test (store ∷ stores) = IsTrue (test store.0) × AllStored test stores

-- each port that is touched is of these
unfoldable pub AllTouched : (ℕ → Type 0) → List PortAccess → Type 0
AllTouched Holds [] = Unit {0}
AllTouched Holds (ReadPort port offset width ∷ accesses) = Holds port × AllTouched Holds accesses
AllTouched Holds (WritePort port offset width value ∷ accesses) = Holds port × AllTouched Holds accesses

both_stored : (test : ℕ → Bool) (xs ys : List (ℕ × ℕ)) → AllStored test xs → AllStored test ys → AllStored test (xs ++ ys)
unfolding AllStored
both_stored test [] ys first second = second
both_stored test (x ∷ xs) ys first second = (first.0, both_stored test xs ys first.1 second)

both_touched : (Holds : ℕ → Type 0) (xs ys : List PortAccess) → AllTouched Holds xs → AllTouched Holds ys → AllTouched Holds (xs ++ ys)
unfolding AllTouched
both_touched Holds [] ys first second = second
both_touched Holds (ReadPort port offset width ∷ xs) ys first second = (first.0, both_touched Holds xs ys first.1 second)
both_touched Holds (WritePort port offset width value ∷ xs) ys first second = (first.0, both_touched Holds xs ys first.1 second)

split : (b rest : Bool) → IsTrue (b && rest) → IsTrue b × IsTrue rest
split true rest both = (refl, both)
split false rest both = cc

join : (b rest : Bool) → IsTrue b → IsTrue rest → IsTrue (b && rest)
join true rest first second = second
join false rest first second = cc

or_first : (a b : Bool) → IsTrue a → IsTrue (a || b)
or_first true b h = refl
or_first false b h = cc

or_second : (a b : Bool) → IsTrue b → IsTrue (a || b)
or_second true b h = refl
or_second false b h = h

-- a weaker test, and weaker facts
pub weaker_stored : (p q : ℕ → Bool) → ((at : ℕ) → IsTrue (p at) → IsTrue (q at)) → (stores : List (ℕ × ℕ)) → AllStored p stores
    → AllStored q stores
unfolding AllStored
weaker_stored p q weaker [] all = tt
weaker_stored p q weaker (store ∷ stores) all = (weaker store.0 all.0, weaker_stored p q weaker stores all.1)

pub weaker_touched : (P Q : ℕ → Type 0) → ((port : ℕ) → P port → Q port) → (accesses : List PortAccess) → AllTouched P accesses
    → AllTouched Q accesses
unfolding AllTouched
weaker_touched P Q weaker [] all = tt
weaker_touched P Q weaker (ReadPort port offset width ∷ accesses) all =
    (weaker port all.0, weaker_touched P Q weaker accesses all.1)
weaker_touched P Q weaker (WritePort port offset width value ∷ accesses) all =
    (weaker port all.0, weaker_touched P Q weaker accesses all.1)

from_place : (test : ℕ → Bool) (place n value : ℕ) → IsTrue (all_from test place n) → AllStored test (stores_from place n value)
unfolding AllStored
from_place test place zero value all = tt
from_place test place (suc n) value all =
    let first = split (test place) (all_from test (next_address place) n) all in
    (first.0, from_place test (next_address place) n (value / 256) first.1)

-- what all of some bytes pass, the first of them do, and those after these
pub first_bytes : (test : ℕ → Bool) (m n total at : ℕ) → total ≡ m + n → IsTrue (all_from test at total) → IsTrue (all_from test at m)
first_bytes test zero n total at is all = refl
first_bytes test (suc m) n total at is all =
    let more : total ≡ suc (m + n) = omega (arith, is) in
    let here = split (test at) (all_from test (next_address at) (m + n)) (subst (λ t. IsTrue (all_from test at t)) more all) in
    join (test at) (all_from test (next_address at) m) here.0 (first_bytes test m n (m + n) (next_address at) refl here.1)

pub later_bytes : (test : ℕ → Bool) (m n total at : ℕ) → total ≡ m + n → IsTrue (all_from test at total)
    → IsTrue (all_from test (address_from at m) n)
later_bytes test zero n total at is all =
    let same : total ≡ n = omega (arith, is) in subst (λ t. IsTrue (all_from test at t)) same all
later_bytes test (suc m) n total at is all =
    let more : total ≡ suc (m + n) = omega (arith, is) in
    later_bytes test m n (m + n) (next_address at) refl
    (split (test at) (all_from test (next_address at) (m + n)) (subst (λ t. IsTrue (all_from test at t)) more all)).1

-- one more element
pub one_more : (width n total : ℕ) → total ≡ width * suc n → total ≡ width + width * n
one_more width n total is = omega (arith, is, mul-suc width n)

-- the first byte of an element, which has one
pub first_byte : (test : ℕ → Bool) (at width : ℕ) → 1 ≤ width → IsTrue (all_from test at width) → IsTrue (test at)
first_byte test at zero some all = absurd (omega (arith, some))
first_byte test at (suc width) some all = (split (test at) (all_from test (next_address at) width) all).0

some_bytes : (width : ℕ) → IsWidth width → 1 ≤ width
some_bytes width (inl one) = omega (arith, one)
some_bytes width (inr (inl two)) = omega (arith, two)
some_bytes width (inr (inr (inl four))) = omega (arith, four)
some_bytes width (inr (inr (inr eight))) = omega (arith, eight)

-- where no fault comes of a byte, it is allowed, and none comes later
no_fault : (stage2 : Bool) (verdict : Verdict) (at : ℕ) (later : Option Fault) → fault_or stage2 verdict at later ≡ None
    → IsTrue (is_allowed verdict) × (later ≡ None)
no_fault stage2 Allow at later none = (refl, none)
no_fault stage2 Translation at later none = cc
no_fault stage2 Permission at later none = cc

both_allow : (one two : Verdict) → IsTrue (is_allowed one) → IsTrue (is_allowed two)
    → IsTrue (is_allowed (if is_allowed one then two else one))
both_allow Allow two first second = second
both_allow Translation two first second = cc
both_allow Permission two first second = cc

-- what the second stage lets an access reach after the first, it lets it reach
second_of : (one two : Verdict) → IsTrue (is_allowed (if is_allowed one then two else one)) → IsTrue (is_allowed two)
second_of Allow two h = h
second_of Translation two h = cc
second_of Permission two h = cc

pub allowed_by_second : (one two : Stage) (access : Access) (at : ℕ)
    → IsTrue (is_allowed (both one two access at)) → IsTrue (is_allowed (two access at))
allowed_by_second one two access at h = second_of (one access at) (two access at) h

or_by : (a b c d : Bool) → (IsTrue a → IsTrue c) → (IsTrue b → IsTrue d) → IsTrue (a || b) → IsTrue (c || d)
or_by true b c d first second h = or_first c d (first refl)
or_by false b c d first second h = or_second c d (second h)

pub port_by_second : (one two : Stage) (places : Places) (port : ℕ) → ReachesPort (both one two) places port → ReachesPort two places port
port_by_second one two places port reached = record {
  at = reached.at;
  offset = reached.offset;
  allowed = or_by _ _ _ _ (allowed_by_second one two Read reached.at) (allowed_by_second one two Write reached.at) reached.allowed;
  place = reached.place;
}

-- an access of which no byte is refused
module _ (one two : Stage) where
  pub allowed_all : (access : Access) (at n : ℕ) → first_fault one two access at n ≡ None
      → IsTrue (all_from (λ byte. is_allowed (both one two access byte)) at n)
  allowed_all access at zero none = refl
  allowed_all access at (suc n) none =
      let later = first_fault one two access (next_address at) n in
      let first = no_fault false (one access at) at (fault_or true (two access at) at later) none in
      let second = no_fault true (two access at) at later first.1 in
      join (is_allowed (both one two access at)) (all_from (λ byte. is_allowed (both one two access byte)) (next_address at) n)
      (both_allow (one access at) (two access at) first.0 second.0) (allowed_all access (next_address at) n second.1)

-- the elements of an access that a stage allows
module _ (stage : Stage) (places : Places) where
  abbrev pub may : Access → ℕ → Bool
  may access at = is_allowed (stage access at)

  stored_of : (byte : Option PortByte) (at width value : ℕ) → IsTrue (all_from (may Write) at width)
      → AllStored (may Write) (element_stored byte at width value)
  unfolding AllStored
  stored_of None at width value all = from_place (may Write) at width value all
  stored_of (Some byte) at width value all = tt

  pub all_stored : (width n total at value : ℕ) → total ≡ width * n → IsTrue (all_from (may Write) at total)
      → AllStored (may Write) (elements_stored places at width n value)
  unfolding AllStored
  all_stored width zero total at value is all = tt
  all_stored width (suc n) total at value is all =
      let more = one_more width n total is in
      both_stored (may Write) (element_stored (places at) at width value)
      (elements_stored places (address_from at width) width n (value / 256 ^ width))
      (stored_of (places at) at width value (first_bytes (may Write) width (width * n) total at more all))
      (all_stored width n (width * n) (address_from at width) (value / 256 ^ width) refl
      (later_bytes (may Write) width (width * n) total at more all))

  read_of : (byte : Option PortByte) (at width : ℕ) → places at ≡ byte → IsTrue (may Read at)
      → AllTouched (ReachesPort stage places) (element_read byte width)
  unfolding AllTouched
  read_of None at width is allowed = tt
  read_of (Some byte) at width is allowed =
      (record { at = at; offset = byte.offset; allowed = or_first (may Read at) (may Write at) allowed; place = is }, tt)

  written_of : (byte : Option PortByte) (at width value : ℕ) → places at ≡ byte → IsTrue (may Write at)
      → AllTouched (ReachesPort stage places) (element_written byte width value)
  unfolding AllTouched
  written_of None at width value is allowed = tt
  written_of (Some byte) at width value is allowed =
      (record { at = at; offset = byte.offset; allowed = or_second (may Read at) (may Write at) allowed; place = is }, tt)

  pub all_read : (width n total at : ℕ) → 1 ≤ width → total ≡ width * n → IsTrue (all_from (may Read) at total)
      → AllTouched (ReachesPort stage places) (elements_read places at width n)
  unfolding AllTouched
  all_read width zero total at some is all = tt
  all_read width (suc n) total at some is all =
      let more = one_more width n total is in
      both_touched (ReachesPort stage places) (element_read (places at) width) (elements_read places (address_from at width) width n)
      (read_of (places at) at width refl
      (first_byte (may Read) at width some (first_bytes (may Read) width (width * n) total at more all)))
      (all_read width n (width * n) (address_from at width) some refl (later_bytes (may Read) width (width * n) total at more all))

  pub all_written : (width n total at value : ℕ) → 1 ≤ width → total ≡ width * n → IsTrue (all_from (may Write) at total)
      → AllTouched (ReachesPort stage places) (elements_written places at width n value)
  unfolding AllTouched
  all_written width zero total at value some is all = tt
  all_written width (suc n) total at value some is all =
      let more = one_more width n total is in
      both_touched (ReachesPort stage places) (element_written (places at) width value)
      (elements_written places (address_from at width) width n (value / 256 ^ width))
      (written_of (places at) at width value refl
      (first_byte (may Write) at width some (first_bytes (may Write) width (width * n) total at more all)))
      (all_written width n (width * n) (address_from at width) (value / 256 ^ width) some refl
      (later_bytes (may Write) width (width * n) total at more all))

module _ (one two : Stage) (places : Places) (states : PortStates) (bytes : ℕ → ℕ) (core : CoreData) (moment : Moment) where
  -- an effect stores where its core may write, and touches ports of which it may read or write a byte
  pub record KeepsToItself (effect : Effect) : Type 0 where
    pub stored : AllStored (λ at. is_allowed (both one two Write at)) effect.stored
    pub touched : AllTouched (ReachesPort (both one two) places) effect.touched

  either : (b : Bool) (first second : Effect) → KeepsToItself first → KeepsToItself second
      → KeepsToItself (if b then first else second)
  either true first second one two = one
  either false first second one two = two

  -- what neither stores nor touches a port
  nothing : (effect : Effect) → effect.stored ≡ [] → effect.touched ≡ [] → KeepsToItself effect
  unfolding AllStored AllTouched
  nothing effect no_store no_touch = record {
    stored = subst (AllStored (λ at. is_allowed (both one two Write at))) (sym no_store) tt;
    touched = subst (AllTouched (ReachesPort (both one two) places)) (sym no_touch) tt;
  }

  by_raised : (esr back : ℕ) (far : Option ℕ) → KeepsToItself (raised core esr far back)
  by_raised esr back far = nothing (raised core esr far back) refl refl

  by_data : (instr : Instr) (stage2 : Bool) (code at : ℕ) → KeepsToItself (data_aborted core instr stage2 code at)
  by_data instr true code at = nothing (data_aborted core instr true code at) refl refl
  by_data instr false code at = nothing (data_aborted core instr false code at) refl refl

  by_fetch : (stage2 : Bool) (verdict : Verdict) (at : ℕ)
      → KeepsToItself (fetch_aborted core (record { stage2 = stage2; verdict = verdict; at = at }))
  by_fetch true verdict at = nothing (fetch_aborted core (record { stage2 = true; verdict = verdict; at = at })) refl refl
  by_fetch false verdict at = nothing (fetch_aborted core (record { stage2 = false; verdict = verdict; at = at })) refl refl

  by_port : (instr : Instr) (shape : MemShape) (aligned : Effect) → KeepsToItself aligned
      → KeepsToItself (at_port core instr shape aligned)
  by_port instr shape aligned keeps =
      either (is_misaligned shape) (misaligned core instr shape) aligned (by_data instr false alignment_code shape.at) keeps

  by_checks : (instr : Instr) (shape : MemShape) (judged : Effect) → KeepsToItself judged
      → KeepsToItself (checked core instr shape judged)
  by_checks instr shape judged keeps =
      either (is_sp_misaligned core shape) (raised core (bare_syndrome SpAlignment) None core.pc)
      (if checks_alignment core && is_misaligned shape then misaligned core instr shape else judged)
      (by_raised (bare_syndrome SpAlignment) core.pc None)
      (either (checks_alignment core && is_misaligned shape) (misaligned core instr shape) judged
      (by_data instr false alignment_code shape.at) keeps)

  by_load : (instr : Instr) (shape : MemShape) → 1 ≤ shape.width → (fault : Option Fault) (free : Bool) (got other : ℕ)
      → first_fault one two Read shape.at (bytes_of shape) ≡ fault
      → KeepsToItself
      (load_effect places core (record { moment = moment; instr = instr; shape = shape })
      (fault_else fault (if free then Memory got else Port other)))
  unfolding AllStored
  by_load instr shape some None true got other none =
      nothing (load_effect places core (record { moment = moment; instr = instr; shape = shape }) (Memory got)) refl refl
  by_load instr shape some None false got other none =
      by_port instr shape _
      (record {
        stored = tt;
        touched = all_read (both one two) places shape.width shape.count (bytes_of shape) shape.at some refl
            (allowed_all one two Read shape.at (bytes_of shape) none);
      })
  by_load instr shape some (Some fault) free got other is = by_data instr fault.stage2 (code_of fault.verdict) fault.at

  by_store : (instr : Instr) (shape : MemShape) (value : ℕ) → 1 ≤ shape.width → (fault : Option Fault) (free : Bool)
      → first_fault one two Write shape.at (bytes_of shape) ≡ fault
      → KeepsToItself
      (store_effect places core (record { moment = moment; instr = instr; shape = shape }) value
      (fault_else fault (if free then Memory 0 else Port 0)))
  unfolding AllTouched
  by_store instr shape value some None true none = record {
    stored = from_place (λ at. is_allowed (both one two Write at)) shape.at (bytes_of shape) value
        (allowed_all one two Write shape.at (bytes_of shape) none);
    touched = tt;
  }
  by_store instr shape value some None false none =
      let allowed = allowed_all one two Write shape.at (bytes_of shape) none in
      by_port instr shape _
      (record {
        stored = all_stored (both one two) places shape.width shape.count (bytes_of shape) shape.at value refl allowed;
        touched = all_written (both one two) places shape.width shape.count (bytes_of shape) shape.at value some refl allowed;
      })
  by_store instr shape value some (Some fault) free is = by_data instr fault.stage2 (code_of fault.verdict) fault.at

  by_need : (instr : Instr) (asked : Need) → wanted core instr ≡ asked
      → KeepsToItself (effect_of (reach_of one two places states bytes) core moment instr asked)
  by_need instr need.Done is = nothing (effect_of (reach_of one two places states bytes) core moment instr need.Done) refl refl
  by_need instr need.Acknowledge is =
      nothing (effect_of (reach_of one two places states bytes) core moment instr need.Acknowledge) refl refl
  by_need instr (need.End id) is =
      nothing (effect_of (reach_of one two places states bytes) core moment instr (need.End id)) refl refl
  by_need instr (need.Load shape) is =
      by_checks instr shape _
      (by_load instr shape (some_bytes shape.width (asked_width core instr shape (ap access_asked is)))
      (first_fault one two Read shape.at (bytes_of shape)) (has_no_port places shape.at (bytes_of shape))
      (number_at bytes shape.at (bytes_of shape)) (elements_value (source places states bytes) shape.at shape.width shape.count) refl)
  by_need instr (need.Store shape value) is =
      by_checks instr shape _
      (by_store instr shape value (some_bytes shape.width (asked_width core instr shape (ap access_asked is)))
      (first_fault one two Write shape.at (bytes_of shape)) (has_no_port places shape.at (bytes_of shape)) refl)
  by_need instr (need.Raise esr back) is = by_raised esr back None
  by_need instr (need.Leave esr past) is =
      nothing (effect_of (reach_of one two places states bytes) core moment instr (need.Leave esr past)) refl refl

  by_word : (word : ℕ) → KeepsToItself (word_effect (reach_of one two places states bytes) core moment word)
  by_word word =
      either (illegal_state core.pstate) (raised core (bare_syndrome IllegalState) None core.pc) _
      (by_raised (bare_syndrome IllegalState) core.pc None) (by_need (decoded word) (wanted core (decoded word)) refl)

  by_fetched : (word : Judged) → KeepsToItself (fetch_effect (reach_of one two places states bytes) core moment word)
  by_fetched (Memory word) = by_word word
  by_fetched (Port word) = by_word word
  by_fetched (Refused fault) = by_fetch fault.stage2 fault.verdict fault.at

  by_attempt : KeepsToItself (attempt (reach_of one two places states bytes) core moment)
  unfolding attempt
  by_attempt =
      either (core.pc % 4 == 0) _ (raised core (bare_syndrome PcAlignment) (Some core.pc) core.pc)
      (by_fetched ((reach_of one two places states bytes).fetched core.pc)) (by_raised (bare_syndrome PcAlignment) core.pc (Some core.pc))

  -- so does a step
  pub keeps_to_itself : KeepsToItself (step_effect (reach_of one two places states bytes) core moment)
  keeps_to_itself =
      either (takes_irq core moment) (ran (entered core Irq)) (attempt (reach_of one two places states bytes) core moment)
      (nothing (ran (entered core Irq)) refl refl) by_attempt

  pub stored_by_second : AllStored (λ at. is_allowed (two Write at)) (step_effect (reach_of one two places states bytes) core moment).stored
  stored_by_second =
      weaker_stored (λ at. is_allowed (both one two Write at)) (λ at. is_allowed (two Write at))
      (allowed_by_second one two Write) (step_effect (reach_of one two places states bytes) core moment).stored keeps_to_itself.stored

  pub touched_by_second : AllTouched (ReachesPort two places) (step_effect (reach_of one two places states bytes) core moment).touched
  touched_by_second =
      weaker_touched (ReachesPort (both one two) places) (ReachesPort two places) (port_by_second one two places)
      (step_effect (reach_of one two places states bytes) core moment).touched keeps_to_itself.touched

-- a byte that fails a test which all stored ones pass
other_byte : (test : ℕ → Bool) (place value at : ℕ) (bytes : ℕ → ℕ) (here : Bool) → (at == place) ≡ here → IsTrue (test place)
    → IsFalse (test at) → with_byte place value bytes at ≡ bytes at
other_byte test place value at bytes true e passes fails =
    let same : at ≡ place = grind (arith, nat_tests) in
    let clash : true ≡ false = sym passes ∙ sym (ap test same) ∙ fails in cc
other_byte test place value at bytes false e passes fails = rw e refl

stores_leave : (test : ℕ → Bool) (at : ℕ) → IsFalse (test at) → (stores : List (ℕ × ℕ)) (bytes : ℕ → ℕ) → AllStored test stores
    → written stores bytes at ≡ bytes at
unfolding AllStored
stores_leave test at fails [] bytes all = refl
stores_leave test at fails (store ∷ stores) bytes all =
    stores_leave test at fails stores (with_byte store.0 store.1 bytes) all.1
    ∙ other_byte test store.0 store.1 at bytes (at == store.0) refl all.0 fails

-- a port that is none of those that are touched
other_port : (Holds : ℕ → Type 0) (touched port : ℕ) (state : PortState) (states : PortStates) (here : Bool)
    → (port == touched) ≡ here → Holds touched → (Holds port → ⊥) → with_port touched state states port ≡ states port
other_port Holds touched port state states true e holds not_it =
    let same : port ≡ touched = grind (arith, nat_tests) in absurd (not_it (subst Holds (sym same) holds))
other_port Holds touched port state states false e holds not_it = rw e refl

pub accesses_leave : (Holds : ℕ → Type 0) (port : ℕ) → (Holds port → ⊥) → (accesses : List PortAccess) (states : PortStates)
    → AllTouched Holds accesses → all_accessed accesses states port ≡ states port
unfolding AllTouched
accesses_leave Holds port not_it [] states all = refl
accesses_leave Holds port not_it (ReadPort touched offset width ∷ accesses) states all =
    accesses_leave Holds port not_it accesses (accessed (ReadPort touched offset width) states) all.1
    ∙ other_port Holds touched port (after_read (states touched) offset width) states (port == touched) refl all.0 not_it
accesses_leave Holds port not_it (WritePort touched offset width value ∷ accesses) states all =
    accesses_leave Holds port not_it accesses (accessed (WritePort touched offset width value) states) all.1
    ∙ other_port Holds touched port (after_write (states touched) offset width value) states (port == touched) refl all.0 not_it

-- one port is changed in two machines where it is the same
with_alike : (touched port : ℕ) (change : PortState → PortState) (states others : PortStates) → states touched ≡ others touched
    → states port ≡ others port
    → with_port touched (change (states touched)) states port ≡ with_port touched (change (others touched)) others port
with_alike touched port change states others here there = by_place (port == touched)
  where
    by_place : (is : Bool)
        → (if is then change (states touched) else states port) ≡ (if is then change (others touched) else others port)
    by_place true = ap change here
    by_place false = there

-- nor is its line raised
no_line : (Holds : ℕ → Type 0) (rises : Bool) (touched port : ℕ) (here : Bool) → (touched == port) ≡ here → Holds touched
    → (Holds port → ⊥) → (rest : Bool) → IsFalse rest → IsFalse (rises && here || rest)
no_line Holds rises touched port true e holds not_it rest quiet =
    let same : touched ≡ port = grind (arith, nat_tests) in absurd (not_it (subst Holds same holds))
no_line Holds true touched port false e holds not_it rest quiet = quiet
no_line Holds false touched port false e holds not_it rest quiet = quiet

pub lines_leave : (Holds : ℕ → Type 0) (port : ℕ) → (Holds port → ⊥) → (accesses : List PortAccess) (states : PortStates)
    → AllTouched Holds accesses → IsFalse (raises_line accesses states port)
unfolding AllTouched
lines_leave Holds port not_it [] states all = refl
lines_leave Holds port not_it (ReadPort touched offset width ∷ accesses) states all =
    lines_leave Holds port not_it accesses (accessed (ReadPort touched offset width) states) all.1
lines_leave Holds port not_it (WritePort touched offset width value ∷ accesses) states all =
    no_line Holds (line_of_write (states touched) offset width value) touched port (touched == port) refl all.0 not_it _
    (lines_leave Holds port not_it accesses (accessed (WritePort touched offset width value) states) all.1)

-- the lines that accesses raise are the same over ports that are equal where they are touched
pub lines_alike : (Holds : ℕ → Type 0) (accesses : List PortAccess) (states others : PortStates) → AllTouched Holds accesses
    → ((port : ℕ) → Holds port → states port ≡ others port) → (port : ℕ)
    → raises_line accesses states port ≡ raises_line accesses others port
unfolding AllTouched
lines_alike Holds [] states others all same port = refl
lines_alike Holds (ReadPort touched offset width ∷ accesses) states others all same port =
    lines_alike Holds accesses (accessed (ReadPort touched offset width) states) (accessed (ReadPort touched offset width) others) all.1
    (λ other holds. with_alike touched other (λ state. after_read state offset width) states others (same touched all.0) (same other holds))
    port
lines_alike Holds (WritePort touched offset width value ∷ accesses) states others all same port =
    ap (λ state. line_of_write state offset width value && touched == port || raises_line accesses (accessed (WritePort touched offset width value) states) port)
    (same touched all.0)
    ∙ ap (λ rest. line_of_write (others touched) offset width value && touched == port || rest)
    (lines_alike Holds accesses (accessed (WritePort touched offset width value) states)
    (accessed (WritePort touched offset width value) others) all.1
    (λ other holds. with_alike touched other (λ state. after_write state offset width value) states others (same touched all.0) (same other holds))
    port)

-- a step disturbs nothing else
pub disturbs_nothing_else : DisturbsNothingElse
disturbs_nothing_else one two places states bytes core moment = record {
  memory = λ at closed.
      stores_leave (λ byte. is_allowed (both one two Write byte)) at closed
      (step_effect (reach_of one two places states bytes) core moment).stored bytes
      (keeps_to_itself one two places states bytes core moment).stored;
  ports = λ port not_it.
      accesses_leave (ReachesPort (both one two) places) port not_it
      (step_effect (reach_of one two places states bytes) core moment).touched states
      (keeps_to_itself one two places states bytes core moment).touched;
  lines = λ port not_it.
      lines_leave (ReachesPort (both one two) places) port not_it
      (step_effect (reach_of one two places states bytes) core moment).touched states
      (keeps_to_itself one two places states bytes core moment).touched;
}

-- two memories that are equal where a stage lets its core look, and ports that are where it lets it reach them
module _ (stage : Stage) (places : Places) (left right : ℕ → ℕ) (alike : AreAlike stage left right) where
  bytes_alike : (access : Access) → ((at : ℕ) → IsTrue (is_allowed (stage access at)) → left at ≡ right at)
      → (at n : ℕ) → IsTrue (all_from (λ byte. is_allowed (stage access byte)) at n) → bytes_from left at n ≡ bytes_from right at n
  bytes_alike access same at zero all = refl
  bytes_alike access same at (suc n) all =
      let first =
      split (is_allowed (stage access at)) (all_from (λ byte. is_allowed (stage access byte)) (next_address at) n) all in
      ap (λ byte. byte ∷ bytes_from left (next_address at) n) (same at first.0)
      ∙ ap (λ bytes. right at ∷ bytes) (bytes_alike access same (next_address at) n first.1)

  pub executed_alike : (at n : ℕ) → IsTrue (all_from (λ byte. is_allowed (stage Exec byte)) at n)
      → number_at left at n ≡ number_at right at n
  executed_alike at n all = ap little_endian (bytes_alike Exec (λ a may. alike a (inr may)) at n all)

  pub read_alike : (at n : ℕ) → IsTrue (all_from (λ byte. is_allowed (stage Read byte)) at n)
      → number_at left at n ≡ number_at right at n
  read_alike at n all = ap little_endian (bytes_alike Read (λ a may. alike a (inl may)) at n all)

  -- a port is read
  port_alike : (states others : PortStates) → ArePortsAlike stage places states others → (byte : PortByte) (width : ℕ)
      → ReachesPort stage places byte.port → ArePortsAlike stage places (accessed (ReadPort byte.port byte.offset width) states)
      (accessed (ReadPort byte.port byte.offset width) others)
  port_alike states others same byte width reached port there = by_place (port == byte.port)
    where
      by_place : (here : Bool)
          → (if here then after_read (states byte.port) byte.offset width else states port)
          ≡ (if here then after_read (others byte.port) byte.offset width else others port)
      by_place true = ap (λ state. after_read state byte.offset width) (same byte.port reached)
      by_place false = same port there

  reached_by : (at : ℕ) (byte : PortByte) → places at ≡ Some byte → IsTrue (is_allowed (stage Read at))
      → ReachesPort stage places byte.port
  reached_by at byte is allowed =
      record { at = at; offset = byte.offset; allowed = or_first (is_allowed (stage Read at)) (is_allowed (stage Write at)) allowed; place = is }

  element_alike : (states others : PortStates) → ArePortsAlike stage places states others → (byte : Option PortByte) (at width : ℕ)
      → places at ≡ byte → 1 ≤ width → IsTrue (all_from (λ b. is_allowed (stage Read b)) at width)
      → element_value states left byte at width ≡ element_value others right byte at width
  element_alike states others same None at width is some all = read_alike at width all
  element_alike states others same (Some byte) at width is some all =
      ap (λ state. value_read state byte.offset width)
      (same byte.port (reached_by at byte is (first_byte (λ b. is_allowed (stage Read b)) at width some all)))

  after_alike : (states others : PortStates) → ArePortsAlike stage places states others → (byte : Option PortByte) (at width : ℕ)
      → places at ≡ byte → IsTrue (is_allowed (stage Read at))
      → ArePortsAlike stage places (all_accessed (element_read byte width) states) (all_accessed (element_read byte width) others)
  after_alike states others same None at width is allowed = same
  after_alike states others same (Some byte) at width is allowed =
      port_alike states others same byte width (reached_by at byte is allowed)

  pub elements_alike : (width : ℕ) → 1 ≤ width → (n total at : ℕ) → total ≡ width * n
      → IsTrue (all_from (λ b. is_allowed (stage Read b)) at total) → (states others : PortStates) → ArePortsAlike stage places states others
      → elements_value (source places states left) at width n ≡ elements_value (source places others right) at width n
  elements_alike width some zero total at is all states others same = refl
  elements_alike width some (suc n) total at is all states others same =
      let more = one_more width n total is in
      let here = first_bytes (λ b. is_allowed (stage Read b)) width (width * n) total at more all in
      let first = first_byte (λ b. is_allowed (stage Read b)) at width some here in
      ap (λ x. x
      + 256 ^ width * elements_value (source places (all_accessed (element_read (places at) width) states) left) (address_from at width) width n)
      (element_alike states others same (places at) at width refl some here)
      ∙ ap (λ x. element_value others right (places at) at width + 256 ^ width * x)
      (elements_alike width some n (width * n) (address_from at width) refl
      (later_bytes (λ b. is_allowed (stage Read b)) width (width * n) total at more all)
      (all_accessed (element_read (places at) width) states) (all_accessed (element_read (places at) width) others)
      (after_alike states others same (places at) at width refl first))

-- by two stages
module _ (one two : Stage) (places : Places) (states others : PortStates) (left right : ℕ → ℕ)
    (ports : ArePortsAlike (both one two) places states others) (alike : AreAlike (both one two) left right) where
  fetch_by : (at n : ℕ) (fault : Option Fault) → first_fault one two Exec at n ≡ fault
      → fault_else fault (Memory (number_at left at n)) ≡ fault_else fault (Memory (number_at right at n))
  fetch_by at n None none = ap Memory (executed_alike (both one two) places left right alike at n (allowed_all one two Exec at n none))
  fetch_by at n (Some fault) some = refl

  -- an access of elements of no bytes reaches no port
  some_width : (at width count : ℕ) → has_no_port places at (width * count) ≡ false → 1 ≤ width
  some_width at zero count is =
      let none : zero * count ≡ 0 = omega arith in
      let clash : true ≡ false = sym (ap (has_no_port places at) none) ∙ is in cc
  some_width at (suc width) count is = omega arith

  load_by : (at width count : ℕ) (fault : Option Fault) (free : Bool) → first_fault one two Read at (width * count) ≡ fault
      → has_no_port places at (width * count) ≡ free
      → fault_else fault (if free then Memory (number_at left at (width * count)) else Port (elements_value (source places states left) at width count))
      ≡ fault_else fault (if free then Memory (number_at right at (width * count)) else Port (elements_value (source places others right) at width count))
  load_by at width count None true none free =
      ap Memory (read_alike (both one two) places left right alike at (width * count) (allowed_all one two Read at (width * count) none))
  load_by at width count None false none port =
      ap Port
      (elements_alike (both one two) places left right alike width (some_width at width count port) count (width * count) at refl
      (allowed_all one two Read at (width * count) none) states others ports)
  load_by at width count (Some fault) free some any = refl

  fetched_alike : (at : ℕ) → (reach_of one two places states left).fetched at ≡ (reach_of one two places others right).fetched at
  fetched_alike at = fetch_by at 4 (first_fault one two Exec at 4) refl

  loaded_alike : (at width count : ℕ)
      → (reach_of one two places states left).loaded at width count ≡ (reach_of one two places others right).loaded at width count
  loaded_alike at width count =
      load_by at width count (first_fault one two Read at (width * count)) (has_no_port places at (width * count)) refl refl

  pub reach_alike : reach_of one two places states left ≡ reach_of one two places others right
  reach_alike =
      let same = reach_of one two places others right in
      ap (λ f. record {
        fetched = f;
        loaded = (reach_of one two places states left).loaded;
        storable = same.storable;
        places = places;
      }) (λ i at. fetched_alike at i)
      ∙ ap (λ l. record { fetched = same.fetched; loaded = l; storable = same.storable; places = places })
      (λ i at width count. loaded_alike at width count i)

-- a step observes nothing else
pub observes_nothing_else : ObservesNothingElse
observes_nothing_else one two places states others left right core moment ports alike =
    ap (λ reach. step_effect reach core moment) (reach_alike one two places states others left right ports alike)
