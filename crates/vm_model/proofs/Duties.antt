-- What the hypervisor does for a VM, it does for the VM alone; and what it does for another leaves it as it is, but for the events
-- of shared memories that it hears of.
use Rattle.std.proofs.Common.{◌≡◌, ◌≢◌, ℕ, zero, suc, ◌<◌, Bool, true, false, List, [], ◌∷◌, length, length-set, refl, sym, ap, subst, ◌∙◌, arith}
use Rattle.std.specs.Prelude.{IsTrue, IsFalse, ◌==◌, ◌||◌, ◌&&◌, ◌%◌, ◌^◌, not, if◌then◌else◌, Option, None, Some, slice_get, slice_index, slice_index_or, slice_set, option_and_then, unwrap_or}
use Rattle.std.specs.List.{list_any}
use Rattle.std.specs.Option.{option_map_or}
use Rattle.std.proofs.lemmas.Bool.{eq-eqb}
use Rattle.std.proofs.lemmas.Bool.Decides.{nat_tests}
use Rattle.std.proofs.lemmas.List.{get_or-set_other}
use Rattle.std.proofs.lemmas.Option.{unwrap_or-slice_get}
use Rattle.a64_state.specs.Registers.{reset_core}
use Rattle.a64_state.specs.Core.{CoreData}
use Rattle.a64_execute.specs.Branch.{advanced}
use Rattle.bao_config.specs.Data.{ConfigData, VmData, IpcData}
use Rattle.bao_wellformed.specs.Map.{has_core, owner}
use Rattle.board.specs.Attempt.{Outcome, Ran, Acknowledged, Ended, Leave}
use Rattle.board.specs.Machine.{begun, core_at}
use Rattle.shared_windows.specs.Windows.{irq_in, irq_of, is_member, is_on, lists}
use Rattle.hypercalls.specs.Calls.{answer_of, call_in, call_of, doorbell, outcome_of, service_of, not_supported, x_in}
use Rattle.hypercalls.specs.Laws.{IsLawful}
use Rattle.hypercalls.specs.declared.outcome.Outcome as calls
use Rattle.hypercalls.specs.declared.outcome.Outcome.TheVariants as call
use Rattle.hypercalls.specs.declared.power.Power.{Power}
use Rattle.hypercalls.specs.declared.power.Power.TheVariants.{On, Off, Parked}
use Rattle.hypercalls.specs.declared.service.Service.{Service}
use Rattle.hypercalls.specs.declared.service.Service.TheVariants as service
use Rattle.hypercalls.proofs.Lawful.{outcomes_lawful}
use Rattle.vm_model.specs.Cores.{affinity_of, is_place, place_of}
use Rattle.vm_model.specs.Guests.{Guests, Tables}
use Rattle.vgic_emul.specs.Registers.{answer}
use Rattle.vgic_table.specs.Interrupts.{Interrupts}
use Rattle.vm_model.specs.Frames.{FrameAccess, accessed, after_access, frame_access}
use Rattle.vm_model.specs.Interrupts.{virtual_number}
use Rattle.vm_model.specs.Sent.{is_send, sent, sent_value}
use Rattle.vm_model.specs.Duty.{Duty, Emulate, Send, Park, Call, abort_duty, all_off, answered, arguments, call_duty, call_outcome, carried, cores_of, done, duty_of, immediate, is_call, is_smc, pended, powers_of, ring_of, rung, send_duty, started, turned_on, with_answer, worked}
use Rattle.vm_model.proofs.Lists.{set_alike, set_get_alike, set_get_other}

-- the configuration with one VM
abbrev pub single : ConfigData → VmData → ConfigData
single cfg vm = record cfg { vms = vm ∷ [] }

-- two states of all guests are the same to a VM, which stands at place v in the one, and is the only one of the other
pub record SameGuests (v : ℕ) (vm : VmData) (one other : Guests) : Type 0 where
  pub cores : (core : ℕ) → IsTrue (has_core core vm) → core_at one.cores core ≡ core_at other.cores core
  pub powers : (core : ℕ) → IsTrue (has_core core vm) → slice_get one.powers core ≡ slice_get other.powers core
  pub core_count : length one.cores ≡ length other.cores
  pub table : one.tables v ≡ other.tables 0

or_left : (a b : Bool) → IsTrue a → IsTrue (a || b)
or_left true b h = refl
or_left false b h = cc

or_right : (a b : Bool) → IsTrue b → IsTrue (a || b)
or_right true b h = refl
or_right false b h = h

-- a core of the VM's list is one of its cores
pub listed : (cores : List ℕ) (own : ℕ) → own < length cores → IsTrue (list_any (λ c. c == slice_index cores own) cores)
listed [] own low = absurd (omega arith)
listed (core ∷ cores) zero low = ap (λ b. b || list_any (λ c. c == core) cores) (eq-eqb core core refl)
listed (core ∷ cores) (suc own) low =
    or_right (core == slice_index cores own) (list_any (λ c. c == slice_index cores own) cores) (listed cores own (omega arith))

-- powers that are equal at each core of a list
powers_alike : (cores : List ℕ) (ps qs : List Power)
    → ((core : ℕ) → IsTrue (list_any (λ c. c == core) cores) → slice_get ps core ≡ slice_get qs core)
    → powers_of cores ps ≡ powers_of cores qs
powers_alike [] ps qs same = refl
powers_alike (core ∷ cores) ps qs same =
    ap (λ p. p ∷ powers_of cores ps)
    (sym (unwrap_or-slice_get ps core Off)
    ∙ ap (λ o. unwrap_or o Off) (same core (or_left (core == core) (list_any (λ c. c == core) cores) (eq-eqb core core refl)))
    ∙ unwrap_or-slice_get qs core Off)
    ∙ ap (λ rest. slice_index_or qs core Off ∷ rest)
    (powers_alike cores ps qs (λ c has. same c (or_right (core == c) (list_any (λ own. own == c) cores) has)))

-- what comes of a call is the same without the other VMs
module _ (cfg : ConfigData) (vm : VmData) where
  doorbell_alike : (window : Option IpcData) (event : ℕ) → doorbell cfg window event ≡ doorbell (single cfg vm) window event
  doorbell_alike None event = refl
  doorbell_alike (Some window) event = refl

  service_alike : (asked : Option Service) (powers : List Power) (regs : List ℕ)
      → outcome_of cfg vm powers asked regs ≡ outcome_of (single cfg vm) vm powers asked regs
  service_alike None powers regs = refl
  service_alike (Some service.Ring) powers regs = doorbell_alike (slice_get vm.ipcs (x_in regs 1)) (x_in regs 2)
  service_alike (Some service.Version) powers regs = refl
  service_alike (Some service.CpuOff) powers regs = refl
  service_alike (Some service.CpuOn) powers regs = refl
  service_alike (Some service.AffinityInfo) powers regs = refl
  service_alike (Some service.SystemOff) powers regs = refl

  call_alike : (powers : List Power) (regs : List ℕ) → call_in cfg (Some vm) powers regs ≡ call_in (single cfg vm) (Some vm) powers regs
  call_alike powers regs = service_alike (service_of (x_in regs 0 % 2 ^ 32)) powers regs

-- which VM a core has
pub at_place : (v : ℕ) (o : Option ℕ) → IsTrue (is_place v o) → o ≡ Some v
at_place v None h = cc
at_place v (Some w) h = let same : w ≡ v = grind (arith, nat_tests) in ap Some same

-- what comes of a call asks for nothing that isn't the VM's
pub call_lawful : (cfg : ConfigData) (v core esr : ℕ) (g : Guests) (b : Bool)
    → IsLawful cfg v (powers_of (cores_of (slice_get cfg.vms v)) g.powers)
    (if b then call_of cfg v (powers_of (cores_of (slice_get cfg.vms v)) g.powers) (arguments (core_at g.cores core)) else call.Answer not_supported)
call_lawful cfg v core esr g true = outcomes_lawful cfg v _ _
call_lawful cfg v core esr g false = tt

module _ (cfg : ConfigData) (v : ℕ) (vm : VmData) (place : slice_get cfg.vms v ≡ Some vm)
    (own_places : (core : ℕ) → IsTrue (has_core core vm) → place_of cfg core ≡ Some v)
    (own_owners : (core : ℕ) → IsTrue (has_core core vm) → owner cfg core ≡ Some vm) where
  place_alone : (core : ℕ) → IsTrue (has_core core vm) → place_of (single cfg vm) core ≡ Some 0
  place_alone core has = rw has refl

  owner_alone : (core : ℕ) → IsTrue (has_core core vm) → owner (single cfg vm) core ≡ Some vm
  owner_alone core has = rw has refl

  module _ (core : ℕ) (own : IsTrue (has_core core vm)) where
    outcome_alike : (esr : ℕ) (g h : Guests) → SameGuests v vm g h
        → call_outcome cfg v core esr g ≡ call_outcome (single cfg vm) 0 core esr h
    outcome_alike esr g h same =
        ap (λ o. if immediate esr == 0 then call_in cfg o (powers_of (cores_of o) g.powers) (arguments (core_at g.cores core)) else call.Answer not_supported) place
        ∙ ap (λ c. if immediate esr == 0 then call_in cfg (Some vm) (powers_of vm.cores g.powers) (arguments c) else call.Answer not_supported) (same.cores core own)
        ∙ ap (λ ps. if immediate esr == 0 then call_in cfg (Some vm) ps (arguments (core_at h.cores core)) else call.Answer not_supported)
        (powers_alike vm.cores g.powers h.powers same.powers)
        ∙ ap (λ o. if immediate esr == 0 then o else call.Answer not_supported)
        (call_alike cfg vm (powers_of vm.cores h.powers) (arguments (core_at h.cores core)))

    -- all that the hypervisor may have to do for the core does the same in both
    answer_alike : (smc : Bool) (answer : Option ℕ) (g h : Guests) → SameGuests v vm g h
        → SameGuests v vm (with_answer core smc answer g) (with_answer core smc answer h)
    answer_alike smc answer g h same = record {
      cores = λ c has.
          set_alike g.cores h.cores core c (answered smc answer (core_at g.cores core)) (reset_core 0) same.core_count (same.cores c has)
          ∙ ap (λ x. core_at (slice_set h.cores core (answered smc answer x)) c) (same.cores core own);
      powers = same.powers;
      core_count =
          length-set g.cores core (answered smc answer (core_at g.cores core)) ∙ same.core_count
          ∙ sym (length-set h.cores core (answered smc answer (core_at h.cores core)));
      table = same.table;
    }

    power_alike : (power : Power) (g h : Guests) → SameGuests v vm g h
        → SameGuests v vm (record g { powers = slice_set g.powers core power }) (record h { powers = slice_set h.powers core power })
    power_alike power g h same = record {
      cores = same.cores;
      powers = λ c has. set_get_alike g.powers h.powers core c power (same.powers core own) (same.powers c has);
      core_count = same.core_count;
      table = same.table;
    }

    start_alike : (entry arg : ℕ) (g h : Guests) → SameGuests v vm g h
        → SameGuests v vm (turned_on cfg core entry arg g) (turned_on (single cfg vm) core entry arg h)
    start_alike entry arg g h same = record {
      cores = λ c has.
          set_alike g.cores h.cores core c (started cfg core entry arg) (reset_core 0) same.core_count (same.cores c has)
          ∙ ap (λ o. core_at (slice_set h.cores core (begun (reset_core (affinity_of o core)) entry arg)) c)
          (own_owners core own ∙ sym (owner_alone core own));
      powers = λ c has. set_get_alike g.powers h.powers core c On (same.powers core own) (same.powers c has);
      core_count =
          length-set g.cores core (started cfg core entry arg) ∙ same.core_count
          ∙ sym (length-set h.cores core (started (single cfg vm) core entry arg));
      table = same.table;
    }

  off_alike : (cores : List ℕ) → ((c : ℕ) → IsTrue (list_any (λ own. own == c) cores) → IsTrue (has_core c vm))
      → (ps qs : List Power) → ((c : ℕ) → IsTrue (has_core c vm) → slice_get ps c ≡ slice_get qs c)
      → (c : ℕ) → IsTrue (has_core c vm) → slice_get (all_off cores ps) c ≡ slice_get (all_off cores qs) c
  off_alike [] all ps qs same c has = same c has
  off_alike (core ∷ cores) all ps qs same c has =
      off_alike cores (λ d later. all d (or_right (core == d) (list_any (λ own. own == d) cores) later)) (slice_set ps core Off) (slice_set qs core Off)
      (λ d own. set_get_alike ps qs core d Off
      (same core (all core (or_left (core == core) (list_any (λ own. own == core) cores) (eq-eqb core core refl)))) (same d own)) c has

  carried_alike : (core : ℕ) → IsTrue (has_core core vm) → (powers : List Power) (outcome : calls.Outcome) → IsLawful cfg v powers outcome
      → (g h : Guests) → SameGuests v vm g h
      → SameGuests v vm (carried cfg (record { vm = v; cores = vm.cores; core = core }) outcome g)
      (carried (single cfg vm) (record { vm = 0; cores = vm.cores; core = core }) outcome h)
  carried_alike core own powers (call.Answer value) lawful g h same = same
  carried_alike core own powers (call.Ring shmem event) lawful g h same = record {
    cores = same.cores;
    powers = same.powers;
    core_count = same.core_count;
    table =
        ap (λ b. if not b && lists cfg v shmem then pended (irq_of cfg v shmem event) (g.tables v) else g.tables v) (eq-eqb v v refl) ∙ same.table;
  }
  carried_alike core own powers call.Off lawful g h same = power_alike core own Off g h same
  carried_alike core own powers (call.On number entry arg) lawful g h same =
      let same_vm : lawful.vm ≡ vm = (let e : Some lawful.vm ≡ Some vm = sym lawful.is_vm ∙ place in cc) in
      let low : number < length vm.cores = subst (λ (vm : VmData). number < length vm.cores) same_vm lawful.own in
      start_alike (slice_index vm.cores number) (listed vm.cores number low) entry arg g h same
  carried_alike core own powers call.SystemOff lawful g h same = record {
    cores = same.cores;
    powers = off_alike vm.cores (λ c has. has) g.powers h.powers same.powers;
    core_count = same.core_count;
    table = same.table;
  }

  -- a core of the VM has the same registers, and its interrupts are changed alike
  worked_alike : (core : ℕ) → IsTrue (has_core core vm) → (one other : CoreData) (change same_change : Interrupts → Interrupts) (g h : Guests)
      → one ≡ other → change (g.tables v) ≡ same_change (h.tables 0) → SameGuests v vm g h
      → SameGuests v vm (worked v core one change g) (worked 0 core other same_change h)
  worked_alike core own one other change same_change g h registers interrupts same = record {
    cores = λ c has.
        set_alike g.cores h.cores core c one (reset_core 0) same.core_count (same.cores c has)
        ∙ ap (λ x. core_at (slice_set h.cores core x) c) registers;
    powers = same.powers;
    core_count = length-set g.cores core one ∙ same.core_count ∙ sym (length-set h.cores core other);
    table = ap (λ b. if b then change (g.tables v) else g.tables v) (eq-eqb v v refl) ∙ interrupts;
  }

  accessed_alike : (core : ℕ) → IsTrue (has_core core vm) → (access : FrameAccess) (g h : Guests) → SameGuests v vm g h
      → SameGuests v vm (done cfg core (Emulate v access) g) (done (single cfg vm) core (Emulate 0 access) h)
  accessed_alike core own access g h same =
      worked_alike core own _ _ (accessed access (core_at g.cores core)) (accessed access (core_at h.cores core)) g h
      (ap (λ t. after_access access (answer t access.place access.width None) (core_at g.cores core)) same.table
      ∙ ap (after_access access (answer (h.tables 0) access.place access.width None)) (same.cores core own))
      (ap (accessed access (core_at g.cores core)) same.table ∙ ap (λ x. accessed access x (h.tables 0)) (same.cores core own)) same

  sent_alike : (core number value : ℕ) → IsTrue (has_core core vm) → (g h : Guests) → SameGuests v vm g h
      → SameGuests v vm (done cfg core (Send v number value) g) (done (single cfg vm) core (Send 0 number value) h)
  sent_alike core number value own g h same =
      worked_alike core own _ _ (sent number value) (sent number value) g h (ap advanced (same.cores core own))
      (ap (sent number value) same.table) same

  -- what is left to do is the same but for the VM's place, and so is what is left when it is done
  pub done_alike : (core : ℕ) → IsTrue (has_core core vm) → (outcome : Outcome) (g h : Guests) → SameGuests v vm g h
      → SameGuests v vm (done cfg core (duty_of cfg core outcome g) g) (done (single cfg vm) core (duty_of (single cfg vm) core outcome h) h)
  done_alike core own Ran g h same = same
  done_alike core own Acknowledged g h same = same
  done_alike core own (Ended id) g h same = same
  done_alike core own (Leave esr far) g h same = by_call (is_call esr) (is_send esr)
    where
      called : SameGuests v vm (done cfg core (Call v (is_smc esr) (call_outcome cfg v core esr g)) g)
          (done (single cfg vm) core (Call 0 (is_smc esr) (call_outcome (single cfg vm) 0 core esr h)) h)
      called =
          subst (λ o. SameGuests v vm (carried cfg (record { vm = v; cores = cores_of o; core = core }) (call_outcome cfg v core esr g)
          (with_answer core (is_smc esr) (answer_of (call_outcome cfg v core esr g)) g))
          (done (single cfg vm) core (Call 0 (is_smc esr) (call_outcome (single cfg vm) 0 core esr h)) h)) (sym place)
          (subst (λ out. SameGuests v vm (carried cfg (record { vm = v; cores = vm.cores; core = core }) (call_outcome cfg v core esr g)
          (with_answer core (is_smc esr) (answer_of (call_outcome cfg v core esr g)) g))
          (done (single cfg vm) core (Call 0 (is_smc esr) out) h)) (outcome_alike core own esr g h same)
          (carried_alike core own _ (call_outcome cfg v core esr g) (call_lawful cfg v core esr g (immediate esr == 0)) _ _
          (answer_alike core own (is_smc esr) (answer_of (call_outcome cfg v core esr g)) g h same)))

      -- what is left to do, by what the exception is
      left : ConfigData → Guests → Bool → Bool → Duty
      left cfg guests calls sends =
          if calls then call_duty cfg (place_of cfg core) core esr guests
          else if sends then send_duty cfg (place_of cfg core) core esr guests
          else abort_duty (place_of cfg core) (frame_access cfg (owner cfg core) esr far) esr far

      by_access : (access : Option FrameAccess)
          → SameGuests v vm (done cfg core (abort_duty (Some v) access esr far) g)
          (done (single cfg vm) core (abort_duty (Some 0) access esr far) h)
      by_access None = power_alike core own (Parked esr far) g h same
      by_access (Some access) = accessed_alike core own access g h same

      sends_alike : SameGuests v vm (done cfg core (send_duty cfg (Some v) core esr g) g)
          (done (single cfg vm) core (send_duty (single cfg vm) (Some 0) core esr h) h)
      sends_alike =
          subst
          (λ n. SameGuests v vm (done cfg core (send_duty cfg (Some v) core esr g) g)
          (done (single cfg vm) core (Send 0 n (sent_value (core_at h.cores core) esr)) h))
          (ap (λ o. affinity_of o core) (own_owners core own ∙ sym (owner_alone core own)))
          (subst
          (λ value. SameGuests v vm (done cfg core (send_duty cfg (Some v) core esr g) g)
          (done (single cfg vm) core (Send 0 (virtual_number cfg core) value) h)) (ap (λ c. sent_value c esr) (same.cores core own))
          (sent_alike core (virtual_number cfg core) (sent_value (core_at g.cores core) esr) own g h same))

      at_places : (duty other : Option ℕ → Duty) → SameGuests v vm (done cfg core (duty (Some v)) g) (done (single cfg vm) core (other (Some 0)) h)
          → SameGuests v vm (done cfg core (duty (place_of cfg core)) g) (done (single cfg vm) core (other (place_of (single cfg vm) core)) h)
      at_places duty other alike =
          subst (λ o. SameGuests v vm (done cfg core (duty o) g) (done (single cfg vm) core (other (place_of (single cfg vm) core)) h))
          (sym (own_places core own))
          (subst (λ o. SameGuests v vm (done cfg core (duty (Some v)) g) (done (single cfg vm) core (other o) h)) (sym (place_alone core own)) alike)

      aborts : SameGuests v vm (done cfg core (abort_duty (place_of cfg core) (frame_access cfg (owner cfg core) esr far) esr far) g)
          (done (single cfg vm) core
          (abort_duty (place_of (single cfg vm) core) (frame_access (single cfg vm) (owner (single cfg vm) core) esr far) esr far) h)
      aborts =
          at_places (λ o. abort_duty o (frame_access cfg (owner cfg core) esr far) esr far)
          (λ o. abort_duty o (frame_access (single cfg vm) (owner (single cfg vm) core) esr far) esr far)
          (subst
          (λ access. SameGuests v vm (done cfg core (abort_duty (Some v) (frame_access cfg (owner cfg core) esr far) esr far) g)
          (done (single cfg vm) core (abort_duty (Some 0) access esr far) h))
          (ap (λ o. frame_access cfg o esr far) (own_owners core own ∙ sym (owner_alone core own)))
          (by_access (frame_access cfg (owner cfg core) esr far)))

      by_call : (calls sends : Bool) → SameGuests v vm (done cfg core (left cfg g calls sends) g)
          (done (single cfg vm) core (left (single cfg vm) h calls sends) h)
      by_call true sends = at_places (λ o. call_duty cfg o core esr g) (λ o. call_duty (single cfg vm) o core esr h) called
      by_call false true = at_places (λ o. send_duty cfg o core esr g) (λ o. send_duty (single cfg vm) o core esr h) sends_alike
      by_call false false = aborts

-- the interrupts of the VM alone after another rings an event
module _ (cfg : ConfigData) (v : ℕ) (vm : VmData) where
  abbrev pub heard : Option (ℕ × ℕ) → Tables → Tables
  heard None tables = tables
  heard (Some (shmem, event)) tables =
      if lists cfg v shmem then rung (single cfg vm) (λ w. lists (single cfg vm) w shmem) shmem event tables else tables

  abbrev pub with_heard : Option (ℕ × ℕ) → Guests → Guests
  with_heard ring h = record h { tables = heard ring h.tables }

-- what a core of another VM leaves to do, where no other VM has a core of this one
module _ (cfg : ConfigData) (v : ℕ) (vm : VmData) (place : slice_get cfg.vms v ≡ Some vm) (core : ℕ)
    (foreign : IsFalse (has_core core vm)) (elsewhere : (w : ℕ) → place_of cfg core ≡ Some w → w ≢ v)
    (apart : (w : ℕ) (other : VmData) (c : ℕ) → w ≢ v → slice_get cfg.vms w ≡ Some other → IsTrue (has_core c other)
    → IsFalse (has_core c vm)) where
  other_than : (c d : ℕ) → IsTrue (has_core c vm) → IsFalse (has_core d vm) → c ≢ d
  other_than c d has lacks same = let clash : true ≡ false = sym has ∙ ap (λ n. has_core n vm) same ∙ lacks in cc

  answer_foreign : (smc : Bool) (answer : Option ℕ) (g h : Guests) → SameGuests v vm g h → SameGuests v vm (with_answer core smc answer g) h
  answer_foreign smc answer g h same = record {
    cores = λ c has.
        get_or-set_other g.cores core c (answered smc answer (core_at g.cores core)) (reset_core 0) (other_than c core has foreign)
        ∙ same.cores c has;
    powers = same.powers;
    core_count = length-set g.cores core (answered smc answer (core_at g.cores core)) ∙ same.core_count;
    table = same.table;
  }

  power_foreign : (power : Power) (g h : Guests) → SameGuests v vm g h
      → SameGuests v vm (record g { powers = slice_set g.powers core power }) h
  power_foreign power g h same = record {
    cores = same.cores;
    powers = λ c has. set_get_other g.powers core c power (other_than c core has foreign) ∙ same.powers c has;
    core_count = same.core_count;
    table = same.table;
  }

  start_foreign : (target entry arg : ℕ) → IsFalse (has_core target vm) → (g h : Guests) → SameGuests v vm g h
      → SameGuests v vm (turned_on cfg target entry arg g) h
  start_foreign target entry arg lacks g h same = record {
    cores = λ c has.
        get_or-set_other g.cores target c (started cfg target entry arg) (reset_core 0) (other_than c target has lacks)
        ∙ same.cores c has;
    powers = λ c has. set_get_other g.powers target c On (other_than c target has lacks) ∙ same.powers c has;
    core_count = length-set g.cores target (started cfg target entry arg) ∙ same.core_count;
    table = same.table;
  }

  off_foreign : (cores : List ℕ) → ((c : ℕ) → IsTrue (list_any (λ own. own == c) cores) → IsFalse (has_core c vm))
      → (powers : List Power) (c : ℕ) → IsTrue (has_core c vm) → slice_get (all_off cores powers) c ≡ slice_get powers c
  off_foreign [] none powers c has = refl
  off_foreign (own ∷ cores) none powers c has =
      off_foreign cores (λ d later. none d (or_right (own == d) (list_any (λ own. own == d) cores) later)) (slice_set powers own Off) c has
      ∙ set_get_other powers own c Off
      (other_than c own has (none own (or_left (own == own) (list_any (λ other. other == own) cores) (eq-eqb own own refl))))

  -- the VM is rung at its place where it is one of the others that list the memory
  ring_alike : (w shmem event : ℕ) → w ≢ v → (g h : Guests) → SameGuests v vm g h
      → rung cfg (is_member cfg shmem w) shmem event g.tables v ≡ heard cfg v vm (Some (shmem, event)) h.tables 0
  ring_alike w shmem event differ g h same =
      ap (λ b. if not b && lists cfg v shmem then pended (irq_of cfg v shmem event) (g.tables v) else g.tables v) (apart_places (v == w) refl)
      ∙ by_lists (lists cfg v shmem) refl
    where
      apart_places : (b : Bool) → (v == w) ≡ b → (v == w) ≡ false
      apart_places true e = let same : v ≡ w = grind (arith, nat_tests) in absurd (differ (sym same))
      apart_places false e = e

      listed_alone : lists cfg v shmem ≡ lists (single cfg vm) 0 shmem
      listed_alone = ap (λ o. option_map_or (λ vm. list_any (is_on shmem) vm.ipcs) o false) place

      number_alone : irq_of cfg v shmem event ≡ irq_of (single cfg vm) 0 shmem event
      number_alone = ap (λ o. option_and_then (irq_in shmem event) o) place

      by_lists : (b : Bool) → lists cfg v shmem ≡ b
          → (if b then pended (irq_of cfg v shmem event) (g.tables v) else g.tables v)
          ≡ (if b then rung (single cfg vm) (λ u. lists (single cfg vm) u shmem) shmem event h.tables else h.tables) 0
      by_lists true e =
          ap (λ t. pended (irq_of cfg v shmem event) t) same.table ∙ ap (λ n. pended n (h.tables 0)) number_alone
          ∙ sym (ap (λ b. if b then pended (irq_of (single cfg vm) 0 shmem event) (h.tables 0) else h.tables 0) (sym listed_alone ∙ e))
      by_lists false e = same.table

  module _ (w : ℕ) (other : VmData) (differ : w ≢ v) (there : slice_get cfg.vms w ≡ Some other) where
    carried_foreign : (smc : Bool) (powers : List Power) (outcome : calls.Outcome) → IsLawful cfg w powers outcome
        → (g h : Guests) → SameGuests v vm g h
        → SameGuests v vm (carried cfg (record { vm = w; cores = other.cores; core = core }) outcome g) (with_heard cfg v vm (ring_of (Call w smc outcome)) h)
    carried_foreign smc powers (call.Answer value) lawful g h same = same
    carried_foreign smc powers (call.Ring shmem event) lawful g h same = record {
      cores = same.cores;
      powers = same.powers;
      core_count = same.core_count;
      table = ring_alike w shmem event differ g h same;
    }
    carried_foreign smc powers call.Off lawful g h same = power_foreign Off g h same
    carried_foreign smc powers (call.On number entry arg) lawful g h same =
        let same_vm : lawful.vm ≡ other = (let e : Some lawful.vm ≡ Some other = sym lawful.is_vm ∙ there in cc) in
        let low : number < length other.cores = subst (λ (vm : VmData). number < length vm.cores) same_vm lawful.own in
        start_foreign (slice_index other.cores number) entry arg
        (apart w other (slice_index other.cores number) differ there (listed other.cores number low)) g h same
    carried_foreign smc powers call.SystemOff lawful g h same = record {
      cores = same.cores;
      powers = λ c has. off_foreign other.cores (λ d has. apart w other d differ there has) g.powers c has ∙ same.powers c has;
      core_count = same.core_count;
      table = same.table;
    }

    called_foreign : (esr : ℕ) (g h : Guests) → SameGuests v vm g h
        → SameGuests v vm (done cfg core (Call w (is_smc esr) (call_outcome cfg w core esr g)) g)
        (with_heard cfg v vm (ring_of (Call w (is_smc esr) (call_outcome cfg w core esr g))) h)
    called_foreign esr g h same =
        subst (λ o. SameGuests v vm (carried cfg (record { vm = w; cores = cores_of o; core = core }) (call_outcome cfg w core esr g)
        (with_answer core (is_smc esr) (answer_of (call_outcome cfg w core esr g)) g))
        (with_heard cfg v vm (ring_of (Call w (is_smc esr) (call_outcome cfg w core esr g))) h)) (sym there)
        (carried_foreign (is_smc esr) _ (call_outcome cfg w core esr g) (call_lawful cfg w core esr g (immediate esr == 0)) _ h
        (answer_foreign (is_smc esr) (answer_of (call_outcome cfg w core esr g)) g h same))

  pub done_foreign : (there : (w : ℕ) → place_of cfg core ≡ Some w → (other : VmData) × (slice_get cfg.vms w ≡ Some other))
      → (outcome : Outcome) (g h : Guests) → SameGuests v vm g h
      → SameGuests v vm (done cfg core (duty_of cfg core outcome g) g) (with_heard cfg v vm (ring_of (duty_of cfg core outcome g)) h)
  done_foreign there Ran g h same = same
  done_foreign there Acknowledged g h same = same
  done_foreign there (Ended id) g h same = same
  done_foreign there (Leave esr far) g h same = by_call (is_call esr) (is_send esr)
    where
      by_place : (o : Option ℕ) → place_of cfg core ≡ o
          → SameGuests v vm (done cfg core (call_duty cfg o core esr g) g) (with_heard cfg v vm (ring_of (call_duty cfg o core esr g)) h)
      by_place None e = same
      by_place (Some w) e = called_foreign w (there w e).0 (elsewhere w e) (there w e).1 esr g h same

      -- a core of the other VM has other registers, and its interrupts are changed
      worked_foreign : (w : ℕ) (registers : CoreData) (change : Interrupts → Interrupts) → place_of cfg core ≡ Some w
          → SameGuests v vm (worked w core registers change g) h
      worked_foreign w registers change e = record {
        cores = λ c has. get_or-set_other g.cores core c registers (reset_core 0) (other_than c core has foreign) ∙ same.cores c has;
        powers = same.powers;
        core_count = length-set g.cores core registers ∙ same.core_count;
        table = by_other (w == v) refl;
      }
        where
          by_other : (b : Bool) → (w == v) ≡ b → (if b then change (g.tables v) else g.tables v) ≡ h.tables 0
          by_other true here = absurd (elsewhere w e (let same : w ≡ v = grind (arith, nat_tests) in same))
          by_other false here = same.table

      by_sender : (o : Option ℕ) → place_of cfg core ≡ o
          → SameGuests v vm (done cfg core (send_duty cfg o core esr g) g) (with_heard cfg v vm (ring_of (send_duty cfg o core esr g)) h)
      by_sender None e = same
      by_sender (Some w) e = worked_foreign w (advanced (core_at g.cores core)) (sent (virtual_number cfg core) (sent_value (core_at g.cores core) esr)) e

      by_access : (o : Option ℕ) (access : Option FrameAccess) → place_of cfg core ≡ o
          → SameGuests v vm (done cfg core (abort_duty o access esr far) g) (with_heard cfg v vm (ring_of (abort_duty o access esr far)) h)
      by_access o None e = power_foreign (Parked esr far) g h same
      by_access None (Some access) e = same
      by_access (Some w) (Some access) e =
          worked_foreign w (after_access access (answer (g.tables w) access.place access.width None) (core_at g.cores core))
          (accessed access (core_at g.cores core)) e

      left : Bool → Bool → Duty
      left calls sends =
          if calls then call_duty cfg (place_of cfg core) core esr g
          else if sends then send_duty cfg (place_of cfg core) core esr g
          else abort_duty (place_of cfg core) (frame_access cfg (owner cfg core) esr far) esr far

      by_call : (calls sends : Bool) → SameGuests v vm (done cfg core (left calls sends) g) (with_heard cfg v vm (ring_of (left calls sends)) h)
      by_call true sends = by_place (place_of cfg core) refl
      by_call false true = by_sender (place_of cfg core) refl
      by_call false false = by_access (place_of cfg core) (frame_access cfg (owner cfg core) esr far) refl
