-- What follows how a step ended: a call is answered and carried out, a core is parked, or an interrupt ends.
use Rattle.std.proofs.Common.{◌≡◌, ℕ, Bool, true, false, List, refl, sym, ap, subst, ◌∙◌}
use Rattle.std.specs.Prelude.{◌&&◌, if◌then◌else◌, Option, None, Some, is_some, slice_get}
use Rattle.bao_types.specs.ListReg.{ListRegData, lists_at}
use Rattle.bao_config.specs.Data.{ConfigData, VmData}
use Rattle.bao_config.specs.Fits.{ConfigFits}
use Rattle.bao_wellformed.specs.Map.{owner}
use Rattle.bao_wellformed.specs.WellFormed.{IsWellFormed}
use Rattle.board.specs.Attempt.{Outcome, Ran, Acknowledged, Ended, Leave}
use Rattle.board.specs.Interrupts.{exit_of, is_raised}
use Rattle.board.specs.Machine.{Machine, carried_out, core_at, machine_effect, with_core}
use Rattle.board.specs.declared.board.Exit.{Exit}
use Rattle.board.specs.declared.board.Exit.TheVariants as exit
use Rattle.hypercalls.specs.Calls.{answer_of}
use Rattle.hypercalls.specs.declared.outcome.Outcome as calls
use Rattle.vgic_iface.specs.Interface.{is_unlisted}
use Rattle.vm_model.specs.Cores.{place_of}
use Rattle.vm_model.specs.Duty.{Duty, Park, Emulate, Send, abort_duty, answered, call_duty, call_outcome, caller_of, carried, done, duty_of, is_call, is_smc, send_duty}
use Rattle.vm_model.specs.Flat.{is_on, runs}
use Rattle.vm_model.specs.Guests.{Guests}
use Rattle.vm_model.specs.Frames.{FrameAccess, frame_access}
use Rattle.vm_model.specs.Interrupts.{virtual_number}
use Rattle.vm_model.specs.Sent.{is_send, sent_value}
use Rattle.hypervisor.specs.Change.{Change, IsListed}
use Rattle.hypervisor.specs.Hyp.{HypData, stands_for}
use Rattle.hypervisor.specs.Seat.{IsSeatOf}
use Rattle.hypervisor.specs.declared.seat.Seat.{Seat}
use Rattle.hypervisor.specs.Taken.{IsEndOfId, IsEntered, IsLeft, IsRun, IsSame, IsSettled, IsStepped, IsSteppedIf, ended_guests, guests_of}
use Rattle.hypervisor.specs.Tidy.{Tidy}
use Rattle.hypervisor.proofs.Carried.{carried_tidy, unlisted_low}
use Rattle.hypervisor.proofs.Seats.{owner_of_seat}

-- a call is carried out once its core has the answer
module _ (cfg : ConfigData) (old new : HypData) (before between after : Machine) (v core esr : ℕ) where
  abbrev guests : Guests
  guests = guests_of cfg old before

  pub left_call : (smc : Bool) (answer : Option ℕ) (outcome : calls.Outcome)
      → between ≡ with_core before core (answered smc answer (core_at before.cores core)) → smc ≡ is_smc esr → answer ≡ answer_of outcome
      → outcome ≡ call_outcome cfg v core esr guests
      → IsLeft cfg (record { old = old; new = new; before = between; after = after })
      (carried cfg (caller_of cfg v core) outcome (guests_of cfg old between))
      → IsLeft cfg (record { old = old; new = new; before = before; after = after })
      (done cfg core (call_duty cfg (Some v) core esr guests) guests)
  left_call smc answer outcome between_is smc_is answer_is outcome_is left = record {
    state = there.state;
    powers = there.powers;
    tables = there.tables;
    held = there.held;
  }
    where
      Given : Machine → calls.Outcome → Type 0
      Given m o =
          IsLeft cfg (record { old = old; new = new; before = m; after = after })
          (carried cfg (caller_of cfg v core) o (guests_of cfg old m))

      given : Machine
      given = with_core before core (answered (is_smc esr) (answer_of (call_outcome cfg v core esr guests)) (core_at before.cores core))

      state : between ≡ given
      state =
          between_is ∙ ap (λ b. with_core before core (answered b answer (core_at before.cores core))) smc_is
          ∙ ap (λ a. with_core before core (answered (is_smc esr) a (core_at before.cores core))) (answer_is ∙ ap answer_of outcome_is)

      there : Given given (call_outcome cfg v core esr guests)
      there = subst (λ o. Given given o) outcome_is (subst (λ m. Given m outcome) state left)

-- what an exception that goes to EL2 leaves to do
module _ (cfg : ConfigData) (core esr far : ℕ) (guests : Guests) where
  abbrev called : Duty
  called = call_duty cfg (place_of cfg core) core esr guests

  abbrev sends : Duty
  sends = send_duty cfg (place_of cfg core) core esr guests

  abbrev aborts : Duty
  aborts = abort_duty (place_of cfg core) (frame_access cfg (owner cfg core) esr far) esr far

  pub duty_call : (v : ℕ) → is_call esr ≡ true → place_of cfg core ≡ Some v
      → duty_of cfg core (Leave esr far) guests ≡ call_duty cfg (Some v) core esr guests
  duty_call v call place =
      ap (λ b. if b then called else if is_send esr then sends else aborts) call ∙ ap (λ p. call_duty cfg p core esr guests) place

  pub duty_send : (v own : ℕ) → is_call esr ≡ false → is_send esr ≡ true → place_of cfg core ≡ Some v → virtual_number cfg core ≡ own
      → duty_of cfg core (Leave esr far) guests ≡ Send v own (sent_value (core_at guests.cores core) esr)
  duty_send v own call send place number =
      ap (λ b. if b then called else if is_send esr then sends else aborts) call ∙ ap (λ b. if b then sends else aborts) send
      ∙ ap (λ p. send_duty cfg p core esr guests) place ∙ ap (λ n. Send v n (sent_value (core_at guests.cores core) esr)) number

  pub duty_abort : is_call esr ≡ false → is_send esr ≡ false → duty_of cfg core (Leave esr far) guests ≡ aborts
  duty_abort call send =
      ap (λ b. if b then called else if is_send esr then sends else aborts) call ∙ ap (λ b. if b then sends else aborts) send

-- what an abort leaves to do, of a core that has a seat
module _ (cfg : ConfigData) (seat : Seat) (is : IsSeatOf cfg seat.core seat) (vm : VmData) (place : slice_get cfg.vms seat.vm ≡ Some vm)
    (esr far : ℕ) where
  abbrev aborted : Duty
  aborted = abort_duty (place_of cfg seat.core) (frame_access cfg (owner cfg seat.core) esr far) esr far

  abort_of : (answered : Option FrameAccess) → answered ≡ frame_access cfg (Some vm) esr far
      → abort_duty (Some seat.vm) answered esr far ≡ aborted
  abort_of answered same =
      ap (λ a. abort_duty (Some seat.vm) a esr far) same
      ∙ ap (λ o. abort_duty (Some seat.vm) (frame_access cfg o esr far) esr far) (sym place ∙ is.is.place ∙ sym (owner_of_seat cfg seat is))
      ∙ ap (λ p. abort_duty p (frame_access cfg (owner cfg seat.core) esr far) esr far) (sym is.place)

  pub abort_answered : (access : FrameAccess) → Some access ≡ frame_access cfg (Some vm) esr far → Emulate seat.vm access ≡ aborted
  abort_answered access same = abort_of (Some access) same

  pub abort_parked : None ≡ frame_access cfg (Some vm) esr far → Park esr far ≡ aborted
  abort_parked same = abort_of None same

-- a core has one seat alone
pub settled_end : (cfg : ConfigData) (core id : ℕ) (change : Change) (seat : Seat) → IsSeatOf cfg core seat
    → IsLeft cfg change (ended_guests seat.vm seat.own id (guests_of cfg change.old change.before))
    → IsSettled cfg core (exit.End id) change
settled_end cfg core id change seat is left other at =
    subst (λ v. IsLeft cfg change (ended_guests v other.own id (guests_of cfg change.old change.before))) vm
    (subst (λ k. IsLeft cfg change (ended_guests seat.vm k id (guests_of cfg change.old change.before))) (sym is.number ∙ at.number) left)
  where
    vm : seat.vm ≡ other.vm
    vm = let e : Some seat.vm ≡ Some other.vm = sym is.place ∙ at.place in cc

-- a core that has no VM, or isn't on, waits
pub waits : (cfg : ConfigData) (hyp : HypData) (m : Machine) (core count : ℕ) → runs cfg (stands_for cfg hyp m) core ≡ false
    → IsStepped cfg (record { old = hyp; new = hyp; before = m; after = m }) core count
waits cfg hyp m core count off =
    subst (λ b. IsSteppedIf b cfg (record { old = hyp; new = hyp; before = m; after = m }) core count) (sym off) same
  where
    same : IsSame (record { old = hyp; new = hyp; before = m; after = m })
    same = record { hyp = refl; board = refl }

pub not_owned : (cfg : ConfigData) (hyp : HypData) (m : Machine) (core : ℕ) → is_some (owner cfg core) ≡ false
    → runs cfg (stands_for cfg hyp m) core ≡ false
not_owned cfg hyp m core none = ap (λ b. b && is_on (slice_get hyp.powers core)) none

pub not_on : (cfg : ConfigData) (hyp : HypData) (m : Machine) (core : ℕ) → is_on (slice_get hyp.powers core) ≡ false
    → runs cfg (stands_for cfg hyp m) core ≡ false
not_on cfg hyp m core off = ap (λ b. is_some (owner cfg core) && b) off ∙ and_false (is_some (owner cfg core))
  where
    and_false : (b : Bool) → (b && false) ≡ false
    and_false true = refl
    and_false false = refl

pub owned_on : (cfg : ConfigData) (hyp : HypData) (m : Machine) (core : ℕ) → is_some (owner cfg core) ≡ true
    → is_on (slice_get hyp.powers core) ≡ true → runs cfg (stands_for cfg hyp m) core ≡ true
owned_on cfg hyp m core owned on = ap (λ b. b && is_on (slice_get hyp.powers core)) owned ∙ on

-- an id that ends is one of a core's
ends_id : (outcome : Outcome) (lists : List ListRegData) → IsEndOfId (exit_of outcome lists)
ends_id Ran lists = tt
ends_id Acknowledged lists = tt
ends_id (Leave esr far) lists = tt
ends_id (Ended id) lists = by_test (is_unlisted lists id) refl
  where
    by_test : (b : Bool) → is_unlisted lists id ≡ b → IsEndOfId (if b then exit.End id else exit.Ran)
    by_test true e = unlisted_low lists id e
    by_test false e = tt

-- a core that was entered
module _ (cfg : ConfigData) (change : Change) (core count : ℕ) (ended : Exit) (entered : IsEntered cfg change core count ended) where
  pub entered_id : IsEndOfId ended
  entered_id = subst IsEndOfId (sym entered.exit) (by_test (is_raised entered.board.lines core))
    where
      by_test : (b : Bool)
          → IsEndOfId (if b then exit.Irq else exit_of (machine_effect entered.board core count).outcome (lists_at entered.board.lists core))
      by_test true = tt
      by_test false = ends_id (machine_effect entered.board core count).outcome (lists_at entered.board.lists core)

  -- belongs to the configuration still
  pub entered_tidy : IsWellFormed cfg → ConfigFits cfg → (seat : Seat) → seat.core ≡ core → IsSeatOf cfg seat.core seat
      → Tidy cfg change.new change.after
  entered_tidy well_formed fits seat here at =
      subst (λ h. Tidy cfg h change.after) (sym entered.new)
      (subst (Tidy cfg entered.hyp) (sym entered.after)
      (subst (λ c. Tidy cfg entered.hyp (carried_out entered.board c (machine_effect entered.board c count))) here
      (carried_tidy cfg well_formed fits entered.hyp entered.board entered.tidy seat at count
      (subst (λ c. IsListed cfg entered.hyp entered.board c) (sym here) entered.listed))))

-- a core that runs takes a step, and what follows it
pub runs_on : (cfg : ConfigData) (old mid new : HypData) (before between after : Machine) (core count : ℕ) (ended : Exit)
    → runs cfg (stands_for cfg old before) core ≡ true
    → IsEntered cfg (record { old = old; new = mid; before = before; after = between }) core count ended
    → IsSettled cfg core ended (record { old = mid; new = new; before = between; after = after })
    → IsStepped cfg (record { old = old; new = new; before = before; after = after }) core count
runs_on cfg old mid new before between after core count ended on entered settled =
    subst (λ b. IsSteppedIf b cfg (record { old = old; new = new; before = before; after = after }) core count) (sym on) run
  where
    run : IsRun cfg (record { old = old; new = new; before = before; after = after }) core count
    run = record { hyp = mid; board = between; ended = ended; entered = entered; settled = settled }
