-- The standard list of ports, newly made.
use Rattle.std.proofs.Common.{◌≡◌, ℕ, ◌*◌, ◌<◌, ◌≤◌, Bool, true, false, List, [], ◌∷◌, All, length, map, refl, ap, ◌∙◌, arith}
use Rattle.std.specs.Prelude.{IsTrue, ◌==◌, ◌||◌, nat_lt, if◌then◌else◌}
use Rattle.std.specs.List.{list_any}
use Rattle.std.proofs.lemmas.Bool.Decides.{nat_tests}
use Rattle.std.proofs.lemmas.List.{get_or_past, length-map}
use Rattle.std.proofs.lemmas.List.Elements.{All-head, All-tail}
use Rattle.bao_types.specs.Shape.{event_limit}
use Rattle.bao_types.specs.declared.shape.PortSpot.{PortSpot}
use Rattle.ports.specs.PortState.{PortState, byte_count, new_port}
use Rattle.ports.specs.declared.port.PortKind.{PortKind}
use Rattle.ports.specs.declared.port.PortKind.TheVariants.{Console, Scratch, Ticker}
use Rattle.board.specs.Ports.{PortStates, console_count, port_count, ticker_base, standard_kind, standard_ports}
use Rattle.sim_board.specs.Devices.{states_of}

no_kind : (port : ℕ) (a b c : Bool) → nat_lt port console_count ≡ a → nat_lt port ticker_base ≡ b → nat_lt port port_count ≡ c
    → port_count ≤ port
    → new_port Console ≡ new_port (if a then Console else if b then Scratch else if c then Ticker else Console)
no_kind port true b c ea eb ec beyond = refl
no_kind port false true c ea eb ec beyond = absurd (grind (arith, nat_tests))
no_kind port false false true ea eb ec beyond = absurd (grind (arith, nat_tests))
no_kind port false false false ea eb ec beyond = refl

-- ports of which each keeps what it does in the standard list
pub are_standard : {B : Type 0} (state : B → PortState) (items : List B) → length items ≡ port_count
    → ((port : ℕ) → port < port_count → states_of (map state items) port ≡ standard_ports port)
    → states_of (map state items) ≡ standard_ports
are_standard state items count new = λ i port. by_number port (nat_lt port port_count) refl i
  where
    by_number : (port : ℕ) (low : Bool) → nat_lt port port_count ≡ low → states_of (map state items) port ≡ standard_ports port
    by_number port true e = let low : port < port_count = grind (arith, nat_tests) in new port low
    by_number port false e =
        let beyond : port_count ≤ port = grind (arith, nat_tests) in
        get_or_past (map state items) port (new_port Console) (omega (arith, beyond, count, length-map items state))
        ∙ no_kind port (nat_lt port console_count) (nat_lt port ticker_base) (nat_lt port port_count) refl refl refl beyond

no_bytes : (kind : PortKind) → byte_count (new_port kind) ≡ 0
no_bytes Console = refl
no_bytes Scratch = refl
no_bytes Ticker = refl

-- newly made ports keep few bytes
pub few_bytes : (states : PortStates) → states ≡ standard_ports → (port : ℕ) → byte_count (states port) ≤ 2 * event_limit
few_bytes states new port =
    let same : byte_count (states port) ≡ 0 = ap (λ all. byte_count (all port)) new ∙ no_bytes (standard_kind port) in omega (arith, same)

-- a port that stands somewhere is of the list
pub is_listed : (spots : List PortSpot) (port : ℕ) → All (λ spot. spot.id < port_count) spots
    → IsTrue (list_any (λ spot. spot.id == port) spots) → port < port_count
is_listed [] port numbers listed = cc
is_listed (spot ∷ spots) port numbers listed =
    by_test (spot.id == port) refl listed (is_listed spots port (All-tail (λ s. s.id < port_count) spot spots numbers))
  where
    by_test : (here : Bool) → (spot.id == port) ≡ here → IsTrue (here || list_any (λ other. other.id == port) spots)
        → (IsTrue (list_any (λ other. other.id == port) spots) → port < port_count) → port < port_count
    by_test true e h rest =
        let low = All-head (λ (s : PortSpot). s.id < port_count) spot spots numbers in
        let same : spot.id ≡ port = grind (arith, nat_tests) in omega (arith, low, same)
    by_test false e h rest = rest h
