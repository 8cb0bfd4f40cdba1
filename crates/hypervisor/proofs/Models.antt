-- What holds of a board that belongs to a configuration, and of what the hypervisor does.
use Rattle.std.proofs.Common.{◌≡◌, ℕ, ◌<◌, Bool, true, List, [], ◌∷◌, map, length, length-set, refl, sym, subst, ap, ◌∙◌, arith}
use Rattle.std.specs.Prelude.{IsTrue, ◌||◌, ◌==◌, not, Option, slice_index, slice_set}
use Rattle.std.specs.List.{enumerate_from, list_any}
use Rattle.std.proofs.lemmas.Bool.{eqb-true, not-false}
use Rattle.std.proofs.lemmas.Bool.Decides.{nat_tests}
use Rattle.std.proofs.lemmas.List.{length-map}
use Rattle.std.proofs.lemmas.List.FromFn.{length-enumerate_from}
use Rattle.bao_config.specs.Data.{ConfigData}
use Rattle.bao_config.specs.Fits.{ConfigFits}
use Rattle.bao_types.specs.Shape.{ShapeData}
use Rattle.bao_config.specs.declared.config.PortPlace.{PortPlace}
use Rattle.bao_wellformed.specs.Break.{indexed}
use Rattle.bao_wellformed.specs.Map.{has_port}
use Rattle.bao_wellformed.specs.Rules.{devs_without_port, names_a_port}
use Rattle.bao_wellformed.specs.WellFormed.{IsWellFormed}
use Rattle.bao_wellformed.proofs.Empty.{any_got, indexed_got, map_empty, none_in_each, none_passes}
use Rattle.bao_wellformed.proofs.Kept.{kept}
use Rattle.board.specs.Machine.{Machine}
use Rattle.hypercalls.specs.Calls.{answer_of}
use Rattle.hypercalls.specs.declared.outcome.Outcome as calls
use Rattle.hypercalls.specs.declared.outcome.Outcome.TheVariants as call
use Rattle.hypercalls.specs.declared.power.Power.{Power}
use Rattle.hypercalls.specs.declared.power.Power.TheVariants.{On, Off, Parked}
use Rattle.vm_model.specs.Duty.{Duty, Nothing, Park, Call, Emulate, Send, Caller, all_off, caller_of, carried, done, with_answer}
use Rattle.vm_model.specs.Guests.{Guests}
use Rattle.hypervisor.specs.Hyp.{HypData}
use Rattle.hypervisor.specs.Packed.{ArePacked}
use Rattle.hypervisor.specs.Shape.{core_place, port_spot, shape_of}
use Rattle.hypervisor.specs.Event.{is_assigned, IsOnBoard, IsPlaced}
use Rattle.hypervisor.specs.Tidy.{Tidy}
use Rattle.hypervisor.specs.declared.event.Event.{Event}
use Rattle.hypervisor.specs.declared.event.Event.TheVariants as event
use Rattle.hypervisor.proofs.Packs.{are_packed}

-- the board of a configuration has the cores of the platform
pub core_count : (cfg : ConfigData) (events : ℕ) → length (shape_of cfg events).cores ≡ length cfg.platform.cores
core_count cfg events =
    length-map (enumerate_from 0 cfg.platform.cores) (λ place. core_place cfg place.0 place.1)
    ∙ length-enumerate_from 0 cfg.platform.cores

-- so a core of the platform is one of the board's
pub core_on_board : (cfg : ConfigData) (m : Machine) (core : ℕ) → m.shape ≡ shape_of cfg m.shape.events → core < length cfg.platform.cores
    → core < length m.shape.cores
core_on_board cfg m core shaped low =
    let cores : length m.shape.cores ≡ length cfg.platform.cores = ap (λ (s : ShapeData). length s.cores) shaped ∙ core_count cfg m.shape.events in
    omega (arith, cores, low)

-- each core's entries realise its map
pub tidy_packed : (cfg : ConfigData) (hyp : HypData) (m : Machine) → Tidy cfg hyp m → IsWellFormed cfg → ConfigFits cfg → ArePacked cfg m.entries
tidy_packed cfg hyp m tidy well_formed fits = subst (ArePacked cfg) (sym tidy.entries) (are_packed cfg well_formed fits)

-- the numbers of the board's ports are those of the platform's
numbers_alike : (cfg : ConfigData) (ports : List PortPlace) (number : ℕ)
    → list_any (λ spot. spot.id == number) (map (port_spot cfg) ports) ≡ list_any (λ port. port.id == number) ports
numbers_alike cfg [] number = refl
numbers_alike cfg (port ∷ ports) number = ap (λ b. (port.id == number) || b) (numbers_alike cfg ports number)

-- a port that a VM is given is one of the platform's
pub given_is_there : (cfg : ConfigData) (port : ℕ) → IsWellFormed cfg → is_assigned cfg port ≡ true
    → IsTrue (list_any (λ place. place.id == port) cfg.platform.ports)
given_is_there cfg port well_formed assigned =
    let vm = any_got (has_port port) cfg.vms assigned in
    let dev = any_got (λ dev. dev.port == port) vm.1.devs vm.3 in
    let breaks =
    none_in_each (λ (v, vm). devs_without_port cfg v vm) (indexed cfg.vms) (kept cfg well_formed).r14 vm.0 (vm.0, vm.1)
    (indexed_got vm.0 cfg.vms vm.1 vm.2) in
    let named =
    none_passes (λ (j, dev). not (names_a_port cfg dev)) (indexed vm.1.devs) (map_empty _ _ breaks) dev.0 (dev.0, dev.1)
    (indexed_got dev.0 vm.1.devs dev.1 dev.2) in
    subst (λ n. IsTrue (list_any (λ place. place.id == n) cfg.platform.ports)) (eqb-true dev.1.port port dev.3)
    (not-false (names_a_port cfg dev.1) named)

-- an event of the platform is one of its board
pub placed_on_board : (cfg : ConfigData) (shape : ShapeData) (e : Event) → IsWellFormed cfg → shape ≡ shape_of cfg shape.events
    → IsPlaced cfg e → IsOnBoard shape e
placed_on_board cfg shape (event.Step core count) well_formed shaped placed =
    let cores : length shape.cores ≡ length cfg.platform.cores = ap (λ (s : ShapeData). length s.cores) shaped ∙ core_count cfg shape.events in
    let low : core < length cfg.platform.cores = grind (arith, nat_tests) in
    omega (arith, cores, low)
placed_on_board cfg shape (event.Input port byte) well_formed shaped placed =
    ap (λ (s : ShapeData). list_any (λ spot. spot.id == port) s.ports) shaped ∙ numbers_alike cfg cfg.platform.ports port
    ∙ given_is_there cfg port well_formed placed

-- this many powers are left by what the hypervisor does
off_length : (cores : List ℕ) (powers : List Power) → length (all_off cores powers) ≡ length powers
off_length [] powers = refl
off_length (core ∷ cores) powers = off_length cores (slice_set powers core Off) ∙ length-set powers core Off

module _ (cfg : ConfigData) (core : ℕ) (guests : Guests) where
  carried_length : (caller : Caller) (smc : Bool) (answer : Option ℕ) (outcome : calls.Outcome)
      → length (carried cfg caller outcome (with_answer core smc answer guests)).powers ≡ length guests.powers
  carried_length caller smc answer (call.Answer value) = refl
  carried_length caller smc answer (call.Ring shmem event) = refl
  carried_length caller smc answer call.Off = length-set guests.powers caller.core Off
  carried_length caller smc answer (call.On own entry arg) = length-set guests.powers (slice_index caller.cores own) On
  carried_length caller smc answer call.SystemOff = off_length caller.cores guests.powers

  pub done_length : (duty : Duty) → length (done cfg core duty guests).powers ≡ length guests.powers
  done_length Nothing = refl
  done_length (Park esr far) = length-set guests.powers core (Parked esr far)
  done_length (Call v smc outcome) = carried_length (caller_of cfg v core) smc (answer_of outcome) outcome
  done_length (Emulate v access) = refl
  done_length (Send v own value) = refl
