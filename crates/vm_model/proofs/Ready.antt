-- What comes before a step of a core: its timer is looked at, and its lines are forwarded. A VM's own core does the same in both,
-- and a core of another does nothing to the VM.
use Rattle.std.proofs.Common.{◌≡◌, ◌≢◌, ℕ, Bool, true, false, List, [], ◌∷◌, length-set, refl, sym, ap, subst, ◌∙◌, arith}
use Rattle.std.specs.Prelude.{IsTrue, IsFalse, ◌==◌, ◌&&◌, ◌||◌, not, if◌then◌else◌, Option, None, Some, slice_get, slice_set}
use Rattle.std.specs.List.{find, list_any}
use Rattle.std.specs.Option.{option_map}
use Rattle.std.proofs.lemmas.Bool.{eq-eqb}
use Rattle.std.proofs.lemmas.Bool.Decides.{nat_tests}
use Rattle.std.proofs.lemmas.List.{get_or-set_other}
use Rattle.a64_state.specs.Core.{CoreData}
use Rattle.a64_state.specs.Registers.{reset_core}
use Rattle.generic_timer.specs.Timer.{rises}
use Rattle.bao_config.specs.declared.config.PortPlace.{PortPlace}
use Rattle.bao_config.specs.declared.config.Dev.{Dev}
use Rattle.bao_config.specs.Data.{ConfigData, VmData}
use Rattle.bao_wellformed.specs.Map.{has_core, has_port, owner}
use Rattle.board.specs.Interrupts.{timed}
use Rattle.board.specs.Machine.{core_at}
use Rattle.vgic_table.specs.Interrupts.{Interrupts}
use Rattle.vgic_table.specs.Changes.{pended_at}
use Rattle.vm_model.specs.Cores.{affinity_of, is_place, place_of}
use Rattle.vm_model.specs.Guests.{Tables}
use Rattle.vm_model.specs.Interrupts.{irq_of_port, is_line_at, stands_at, timer_irq, virtual_number, with_table}
use Rattle.vm_model.specs.Flat.{Flat, flat_forwarded, flat_ready, flat_ticked, has_dev, raised_for}
use Rattle.vm_model.specs.Agree.{Agree}
use Rattle.vm_model.specs.Apart.{IsApart}
use Rattle.vm_model.proofs.Duties.{single, at_place}
use Rattle.vm_model.proofs.Lists.{first_by_place, found_got, set_alike}

-- a port that the VM isn't given has no id there
no_id : (core port at : ℕ) (devs : List Dev) → list_any (λ dev. dev.port == port) devs ≡ false
    → stands_at core (option_map (λ dev. dev.irq) (find (λ dev. dev.port == port) devs)) at ≡ false
no_id core port at [] none = refl
no_id core port at (dev ∷ devs) none = by_dev (dev.port == port) none (no_id core port at devs)
  where
    by_dev : (here : Bool) → (here || list_any (λ dev. dev.port == port) devs) ≡ false
        → (list_any (λ dev. dev.port == port) devs ≡ false
        → stands_at core (option_map (λ dev. dev.irq) (find (λ dev. dev.port == port) devs)) at ≡ false)
        → stands_at core (option_map (λ dev. dev.irq) (if here then Some dev else find (λ dev. dev.port == port) devs)) at ≡ false
    by_dev true none rest = cc
    by_dev false none rest = rest none

-- the lines of a VM's ports alone count
module _ (vm : VmData) (core at : ℕ) (ports others : ℕ → Bool)
    (same : (port : ℕ) → IsTrue (has_port port vm) → ports port ≡ others port) where
  one_alike : (port : ℕ) (given : Bool) → has_port port vm ≡ given
      → (ports port && stands_at core (irq_of_port vm port) at) ≡ (others port && stands_at core (irq_of_port vm port) at)
  one_alike port true e = ap (λ raised. raised && stands_at core (irq_of_port vm port) at) (same port e)
  one_alike port false e =
      let none = no_id core port at vm.devs e in
      ap (λ b. ports port && b) none ∙ never (ports port) ∙ sym (never (others port)) ∙ sym (ap (λ b. others port && b) none)
    where
      never : (b : Bool) → (b && false) ≡ false
      never true = refl
      never false = refl

  pub lines_alike : (places : List PortPlace)
      → list_any (λ port. ports port.id && stands_at core (irq_of_port vm port.id) at) places
      ≡ list_any (λ port. others port.id && stands_at core (irq_of_port vm port.id) at) places
  lines_alike [] = refl
  lines_alike (place ∷ places) =
      ap (λ b. b || list_any (λ port. ports port.id && stands_at core (irq_of_port vm port.id) at) places)
      (one_alike place.id (has_port place.id vm) refl)
      ∙ ap (λ b. others place.id && stands_at core (irq_of_port vm place.id) at || b) (lines_alike places)

-- a change of the interrupts of one VM, at the place of a VM in both
pub table_alike : (v : ℕ) (one other : Option ℕ) → one ≡ Some v → other ≡ Some 0 → (change same : Interrupts → Interrupts)
    → change ≡ same → (tables others : Tables) → tables v ≡ others 0
    → with_table one change tables v ≡ with_table other same others 0
table_alike v one other here alone change same e tables others equal =
    ap (λ o. with_table o change tables v) here ∙ ap (λ b. if b then change (tables v) else tables v) (eq-eqb v v refl)
    ∙ ap change equal ∙ ap (λ c. c (others 0)) e ∙ sym (ap (λ o. with_table o same others 0) alone)

module _ (cfg : ConfigData) (v : ℕ) (vm : VmData) (place : slice_get cfg.vms v ≡ Some vm) (core : ℕ) (own : IsTrue (is_place v (place_of cfg core)))
    (f g : Flat) (agree : Agree cfg v vm f g) (count : ℕ) where
  has : IsTrue (has_core core vm)
  has = (first_by_place (has_core core) cfg.vms v vm place own).1

  owner_is : owner cfg core ≡ Some vm
  owner_is = (first_by_place (has_core core) cfg.vms v vm place own).0

  owner_alone : owner (single cfg vm) core ≡ Some vm
  owner_alone = let h = has in rw h refl

  place_alone : place_of (single cfg vm) core ≡ Some 0
  place_alone = let h = has in rw h refl

  before : core_at f.cores core ≡ core_at g.cores core
  before = agree.cores core has

  timer_alike : (other : ℕ) → IsTrue (has_core other vm)
      → (flat_ticked f core count).timer_lines other ≡ (flat_ticked g core count).timer_lines other
  timer_alike other others =
      ap (λ raised. raised || other == core && rises (core_at f.cores core).timer count) (agree.timer_lines other others)
      ∙ ap (λ (c : CoreData). g.timer_lines other || other == core && rises c.timer count) before

  change_alike : pended_at (is_line_at cfg (owner cfg core) (virtual_number cfg core) (raised_for (flat_ticked f core count) core))
      ≡ pended_at (is_line_at (single cfg vm) (owner (single cfg vm) core) (virtual_number (single cfg vm) core)
      (raised_for (flat_ticked g core count) core))
  change_alike =
      ap (λ o. pended_at (is_line_at cfg o (affinity_of o core) (raised_for (flat_ticked f core count) core))) owner_is
      ∙ ap pended_at (λ i at. at_alike at i)
      ∙ sym (ap (λ o. pended_at (is_line_at (single cfg vm) o (affinity_of o core) (raised_for (flat_ticked g core count) core)))
      owner_alone)
    where
      number : ℕ
      number = affinity_of (Some vm) core

      at_alike : (at : ℕ) → is_line_at cfg (Some vm) number (raised_for (flat_ticked f core count) core) at
          ≡ is_line_at (single cfg vm) (Some vm) number (raised_for (flat_ticked g core count) core) at
      at_alike at =
          ap (λ raised. raised && stands_at number (Some timer_irq) at
          || list_any (λ port. f.port_lines port.id && stands_at number (irq_of_port vm port.id) at) cfg.platform.ports) (timer_alike core has)
          ∙ ap (λ b. (flat_ticked g core count).timer_lines core && stands_at number (Some timer_irq) at || b)
          (lines_alike vm number at f.port_lines g.port_lines agree.port_lines cfg.platform.ports)

  pub own_ready : Agree cfg v vm (flat_ready cfg f core count) (flat_ready (single cfg vm) g core count)
  own_ready = record {
    bytes = agree.bytes;
    cores = λ c others.
        set_alike f.cores g.cores core c (timed (core_at f.cores core) count) (reset_core 0) agree.core_count (agree.cores c others)
        ∙ ap (λ x. core_at (slice_set g.cores core (timed x count)) c) before;
    powers = agree.powers;
    core_count =
        length-set f.cores core (timed (core_at f.cores core) count) ∙ agree.core_count
        ∙ sym (length-set g.cores core (timed (core_at g.cores core) count));
    table =
        table_alike v (place_of cfg core) (place_of (single cfg vm) core) (at_place v (place_of cfg core) own) place_alone _ _ change_alike
        f.tables g.tables agree.table;
    ports = agree.ports;
    timer_lines = λ other others. ap (λ raised. raised && not (other == core)) (timer_alike other others);
    port_lines = λ port given.
        ap (λ raised. raised && not (has_dev port (owner cfg core))) (agree.port_lines port given)
        ∙ ap (λ o. g.port_lines port && not (has_dev port o)) (owner_is ∙ sym owner_alone);
  }

-- a core of another VM
module _ (cfg : ConfigData) (images : List (List ℕ)) (v : ℕ) (vm : VmData) (apart : IsApart cfg images v vm) (core : ℕ)
    (stranger : IsFalse (is_place v (place_of cfg core))) (f g : Flat) (agree : Agree cfg v vm f g) (count : ℕ) where
  other_core : (c : ℕ) → IsTrue (has_core c vm) → c ≢ core
  other_core c has same =
      let clash : true ≡ false = sym (apart.cores c has) ∙ ap (λ n. is_place v (place_of cfg n)) same ∙ stranger in cc

  other_line : (c : ℕ) → IsTrue (has_core c vm) → (raised rose : Bool) → (here : Bool) → (c == core) ≡ here
      → ((raised || here && rose) && not here) ≡ raised
  other_line c has raised rose true e = let same : c ≡ core = grind (arith, nat_tests) in absurd (other_core c has same)
  other_line c has true rose false e = refl
  other_line c has false rose false e = refl

  -- its VM is given none of the VM's ports
  not_given : (port : ℕ) → IsTrue (has_port port vm) → (o : Option VmData) → owner cfg core ≡ o → (given : Bool) → has_dev port o ≡ given
      → IsFalse given
  not_given port has o e false is = refl
  not_given port has None e true is = cc
  not_given port has (Some other) e true is =
      let got = found_got (has_core core) cfg.vms other e in
      let clash : true ≡ false = sym has ∙ apart.other_devs got.0 other port (differ got.0 got.1 got.2) got.1 is in cc
    where
      differ : (w : ℕ) → slice_get cfg.vms w ≡ Some other → IsTrue (has_core core other) → w ≢ v
      differ w there lists same =
          let vm_is : vm ≡ other = (let e : Some vm ≡ Some other = sym apart.place ∙ ap (slice_get cfg.vms) (sym same) ∙ there in cc) in
          let clash : true ≡ false = sym (apart.cores core (subst (λ x. IsTrue (has_core core x)) (sym vm_is) lists)) ∙ stranger in cc

  pub stranger_ready : Agree cfg v vm (flat_ready cfg f core count) g
  stranger_ready = record {
    bytes = agree.bytes;
    cores = λ c has.
        get_or-set_other f.cores core c (timed (core_at f.cores core) count) (reset_core 0) (other_core c has) ∙ agree.cores c has;
    powers = agree.powers;
    core_count = length-set f.cores core (timed (core_at f.cores core) count) ∙ agree.core_count;
    table =
        ap (λ b. if b then pended_at (is_line_at cfg (owner cfg core) (virtual_number cfg core) (raised_for (flat_ticked f core count) core))
        (f.tables v) else f.tables v) stranger
        ∙ agree.table;
    ports = agree.ports;
    timer_lines = λ c has.
        other_line c has (f.timer_lines c) (rises (core_at f.cores core).timer count) (c == core) refl ∙ agree.timer_lines c has;
    port_lines = λ port has.
        ap (λ given. f.port_lines port && not given) (not_given port has (owner cfg core) refl (has_dev port (owner cfg core)) refl)
        ∙ kept (f.port_lines port) ∙ agree.port_lines port has;
  }
    where
      kept : (b : Bool) → (b && true) ≡ b
      kept true = refl
      kept false = refl
