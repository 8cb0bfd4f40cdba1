-- A run while it goes on: what is left of the events gives from here what all give from the start.
use Rattle.std.proofs.Common.{◌≡◌, ℕ, ◌+◌, ◌<◌, ◌≤◌, List, [], ◌∷◌, drop, get_or, length, map, refl, subst, ap, ◌∙◌, arith}
use Rattle.std.specs.Prelude.{if◌then◌else◌}
use Rattle.bao_config.specs.Data.{ConfigData}
use Rattle.board.specs.Machine.{Machine}
use Rattle.vm_model.specs.Flat.{Flat, FlatEvent, flat_step, flat_run, entered_count, is_entered}
use Rattle.hypervisor.specs.Event.{flat_event}
use Rattle.hypervisor.specs.Hyp.{HypData, stands_for}
use Rattle.hypervisor.specs.Tidy.{Tidy}
use Rattle.hypervisor.specs.declared.event.Event.{Event}
use Rattle.core_interleave.proofs.OneMore.{next_of, none_left}

-- the state of a run: what the hypervisor keeps, and the board
pub record Place : Type 0 where
  pub hyp : HypData
  pub machine : Machine

abbrev pub flat_of : ConfigData → Place → Flat
flat_of cfg place = stands_for cfg place.hyp place.machine

-- this many of all events were taken from the start to here, and these are left
pub record IsRunning (cfg : ConfigData) (start now : Place) (done : ℕ) (left all : List FlatEvent) : Type 0 where
  pub tidy : Tidy cfg now.hyp now.machine
  pub state : flat_run cfg (flat_of cfg now) left ≡ flat_run cfg (flat_of cfg start) all
  pub entered : now.machine.entered + entered_count cfg (flat_of cfg now) left
      ≡ start.machine.entered + entered_count cfg (flat_of cfg start) all
  pub spent : now.machine.spent ≤ start.machine.spent + done
  pub shape : now.machine.shape ≡ start.machine.shape
  pub entries : now.machine.entries ≡ start.machine.entries

-- what one event makes of a place
pub record Takes (cfg : ConfigData) (now next : Place) (e : FlatEvent) : Type 0 where
  pub tidy : Tidy cfg next.hyp next.machine
  pub state : flat_of cfg next ≡ flat_step cfg (flat_of cfg now) e
  pub entered : next.machine.entered ≡ now.machine.entered + (if is_entered cfg (flat_of cfg now) e then 1 else 0)
  pub spent : next.machine.spent ≤ now.machine.spent + 1
  pub shape : next.machine.shape ≡ now.machine.shape
  pub entries : next.machine.entries ≡ now.machine.entries

pub starts : (cfg : ConfigData) (start : Place) (all : List FlatEvent)
    → Tidy cfg start.hyp start.machine → IsRunning cfg start start 0 all all
starts cfg start all tidy = record {
  tidy = tidy;
  state = refl;
  entered = refl;
  spent = omega arith;
  shape = refl;
  entries = refl;
}

one_further : (cfg : ConfigData) (start now next : Place) (done : ℕ) (e : FlatEvent) (left all : List FlatEvent)
    → Takes cfg now next e → IsRunning cfg start now done (e ∷ left) all → IsRunning cfg start next (done + 1) left all
one_further cfg start now next done e left all takes running = record {
  tidy = takes.tidy;
  state = ap (λ f. flat_run cfg f left) takes.state ∙ running.state;
  entered =
      let later = ap (λ f. entered_count cfg f left) takes.state in
      omega (arith, takes.entered, later, running.entered);
  spent = omega (arith, running.spent, takes.spent);
  shape = takes.shape ∙ running.shape;
  entries = takes.entries ∙ running.entries;
}

-- this many events of a schedule were taken
abbrev pub IsAt : ConfigData → Place → Place → List Event → ℕ → Type 0
IsAt cfg start now all n = IsRunning cfg start now n (map flat_event (drop n all)) (map flat_event all)

module _ (cfg : ConfigData) (start now : Place) (all : List Event) (n : ℕ) (at : IsAt cfg start now all n) where
  pub one_on : (next : Place) (d : Event) → n < length all → Takes cfg now next (flat_event (get_or all n d)) → IsAt cfg start next all (n + 1)
  one_on next d low takes =
      one_further cfg start now next n (flat_event (get_or all n d)) (map flat_event (drop (n + 1) all)) (map flat_event all) takes
      (subst (λ left. IsRunning cfg start now n left (map flat_event all)) (ap (map flat_event) (next_of all n d low)) at)

  pub ends : length all ≤ n → IsRunning cfg start now n [] (map flat_event all)
  ends end = subst (λ left. IsRunning cfg start now n (map flat_event left) (map flat_event all)) (none_left all n end) at
