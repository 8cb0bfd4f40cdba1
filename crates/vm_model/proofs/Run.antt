-- A whole run, event by event.
use Rattle.std.proofs.Common.{◌≡◌, ℕ, suc, Bool, true, false, List, [], ◌∷◌, ◌++◌, All, refl, sym, ap, subst, ◌∙◌, arith}
use Rattle.std.specs.Prelude.{if◌then◌else◌, Some, slice_get, option_to_list}
use Rattle.bao_config.specs.Data.{ConfigData, VmData}
use Rattle.vm_model.specs.Flat.{Flat, FlatEvent, Step, Input, Wrote, Rang, has_dev, flat_step, flat_run}
use Rattle.vm_model.specs.Boot.{boot}
use Rattle.vm_model.specs.Lone.{only, is_core_of, is_dev_of, emitted, seen, view}
use Rattle.vm_model.specs.Agree.{Agree}
use Rattle.vm_model.specs.Apart.{IsApart}
use Rattle.vm_model.specs.Alone.{InputsAgree, OwnStepsAgree, OtherStepsAgree, IsOfSchedule, RunsAsIfAlone}
use Rattle.vm_model.proofs.Duties.{single}
use Rattle.vm_model.proofs.Own.{own_step}
use Rattle.vm_model.proofs.Strangers.{stranger_step}
use Rattle.vm_model.proofs.Ports.{given_to_both, given_to_another}
use Rattle.vm_model.proofs.Boot.{boots_alike}

-- the configuration of the VM alone, where it is at this place
alone : (cfg : ConfigData) (v : ℕ) (vm : VmData) → slice_get cfg.vms v ≡ Some vm → single cfg vm ≡ only cfg v
alone cfg v vm place = ap (λ o. record cfg { vms = option_to_list o }) (sym place)

pub own_steps_agree : OwnStepsAgree
own_steps_agree cfg images v vm core now f g apart own agree =
    subst (λ c. Agree cfg v vm (flat_step cfg f (Step core now)) (flat_step c g (Step core now))) (alone cfg v vm apart.place)
    (own_step cfg v vm apart.place core own apart.cores (λ port reached. apart.own_ports core port own reached) f g agree now)

-- a port is the VM's, or none of its own
by_dev : (cfg : ConfigData) (v : ℕ) (vm : VmData) (port byte : ℕ) (f g : Flat) → slice_get cfg.vms v ≡ Some vm → Agree cfg v vm f g
    → (own : Bool) → is_dev_of cfg v port ≡ own
    → Agree cfg v vm (flat_step cfg f (Input port byte))
    (flat_run (single cfg vm) g (if own then Input port byte ∷ [] else emitted cfg f v (Input port byte)))
by_dev cfg v vm port byte f g place agree true own = given_to_both cfg v vm port byte f g agree
by_dev cfg v vm port byte f g place agree false own =
    given_to_another cfg v vm port byte f g agree (sym (ap (has_dev port) place) ∙ own)

pub inputs_agree : InputsAgree
inputs_agree cfg v vm port byte f g place agree =
    subst (λ c. Agree cfg v vm (flat_step cfg f (Input port byte)) (flat_run c g (seen cfg f v (Input port byte)))) (alone cfg v vm place)
    (by_dev cfg v vm port byte f g place agree (is_dev_of cfg v port) refl)

pub other_steps_agree : OtherStepsAgree
other_steps_agree cfg images v vm core now f g apart stranger agree =
    subst (λ c. Agree cfg v vm (flat_step cfg f (Step core now)) (flat_run c g (emitted cfg f v (Step core now)))) (alone cfg v vm apart.place)
    (stranger_step cfg images v vm apart core now stranger f g agree)

flat_run-append : (cfg : ConfigData) (f : Flat) (xs ys : List FlatEvent) → flat_run cfg f (xs ++ ys) ≡ flat_run cfg (flat_run cfg f xs) ys
flat_run-append cfg f [] ys = refl
flat_run-append cfg f (x ∷ xs) ys = flat_run-append cfg (flat_step cfg f x) xs ys

module _ (cfg : ConfigData) (images : List (List ℕ)) (v : ℕ) (vm : VmData) (apart : IsApart cfg images v vm) where
  by_core : (core now : ℕ) (f g : Flat) → Agree cfg v vm f g → (own : Bool) → is_core_of cfg v core ≡ own
      → Agree cfg v vm (flat_step cfg f (Step core now))
      (flat_run (single cfg vm) g (if own then Step core now ∷ [] else emitted cfg f v (Step core now)))
  by_core core now f g agree true own =
      own_step cfg v vm apart.place core own apart.cores (λ port reached. apart.own_ports core port own reached) f g agree now
  by_core core now f g agree false own = stranger_step cfg images v vm apart core now own f g agree

  one_event : (event : FlatEvent) → IsOfSchedule event → (f g : Flat) → Agree cfg v vm f g
      → Agree cfg v vm (flat_step cfg f event) (flat_run (single cfg vm) g (seen cfg f v event))
  one_event (Step core now) step f g agree = by_core core now f g agree (is_core_of cfg v core) refl
  one_event (Input port byte) step f g agree = by_dev cfg v vm port byte f g apart.place agree (is_dev_of cfg v port) refl
  one_event (Wrote stores) step f g agree = absurd step
  one_event (Rang shmem event) step f g agree = absurd step

  whole_run : (events : List FlatEvent) → All IsOfSchedule events → (f g : Flat) → Agree cfg v vm f g
      → Agree cfg v vm (flat_run cfg f events) (flat_run (single cfg vm) g (view cfg f v events))
  whole_run [] steps f g agree = agree
  whole_run (event ∷ events) steps f g agree =
      subst (Agree cfg v vm (flat_run cfg (flat_step cfg f event) events))
      (sym (flat_run-append (single cfg vm) g (seen cfg f v event) (view cfg (flat_step cfg f event) v events)))
      (whole_run events (λ k d low. steps (suc k) d (omega arith)) (flat_step cfg f event)
      (flat_run (single cfg vm) g (seen cfg f v event)) (one_event event (steps 0 event (omega arith)) f g agree))

pub runs_as_if_alone : RunsAsIfAlone
runs_as_if_alone cfg images events v vm apart steps =
    subst
    (λ c. Agree cfg v vm (flat_run cfg (boot cfg images) events)
    (flat_run c (boot c (option_to_list (slice_get images v))) (view cfg (boot cfg images) v events)))
    (alone cfg v vm apart.place)
    (whole_run cfg images v vm apart events steps (boot cfg images)
    (boot (single cfg vm) (option_to_list (slice_get images v))) (boots_alike cfg images v vm apart))
