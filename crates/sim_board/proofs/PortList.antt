-- Ports in a list, of which one changes.
use Rattle.std.proofs.Common.{◌≡◌, ℕ, zero, suc, ◌+◌, ◌*◌, ◌<◌, ◌≤◌, ◌%◌, ◌^◌, Bool, true, false, ◌≢◌, List, [], ◌∷◌, length, map, get_or, set, refl, sym, ap, ◌∙◌, arith}
use Rattle.std.specs.Prelude.{◌==◌, if◌then◌else◌, min, Option, None, Some}
use Rattle.std.proofs.lemmas.Bool.Decides.{nat_tests}
use Rattle.std.proofs.lemmas.Grind.{get_or-set_at}
use Rattle.std.proofs.lemmas.List.{map-set, length-map, get_or-map, get_or-set_other, set-get_or}
use Rattle.bao_types.specs.Shape.{event_limit}
use Rattle.ports.specs.PortState.{PortState, new_port}
use Rattle.ports.specs.declared.port.PortKind.TheVariants.{Console}
use Rattle.ports.specs.Registers.{after_read, after_write, line_of_input, line_of_write}
use Rattle.gic_core.specs.Lines.{LinesData}
use Rattle.board.specs.Interrupts.{lines_accessed, lines_given, with_port_if}
use Rattle.board.specs.Ports.{PortByte as PlaceInPort, PortStates, all_accessed, element_read, element_written, with_port}
use Rattle.sim_board.specs.declared.spots.PortByte.{PortByte}
use Rattle.sim_board.specs.Devices.{least_room, place_of, states_of}

-- one of the states is set
set_state : (states : List PortState) (i : ℕ) (state : PortState) → i < length states
    → (other : ℕ) → get_or (set states i state) other (new_port Console) ≡ with_port i state (states_of states) other
set_state states i state low other = by_number (other == i) refl
  where
    by_number : (here : Bool) → (other == i) ≡ here
        → get_or (set states i state) other (new_port Console) ≡ (if here then state else get_or states other (new_port Console))
    by_number true e =
        let same : other ≡ i = grind (arith, nat_tests) in get_or-set_at states i other state (new_port Console) same low
    by_number false e =
        let apart : other ≢ i = grind (arith, nat_tests) in get_or-set_other states i other state (new_port Console) apart

-- what the port of this number keeps
pub state_here : {B : Type 0} (state : B → PortState) (items : List B) (i j : ℕ) (old : B) → j ≡ i → i < length items
    → old ≡ get_or items j old → states_of (map state items) i ≡ state old
state_here state items i j old number low here =
    get_or-map state items i old (new_port Console) low ∙ sym (ap state (here ∙ ap (λ k. get_or items k old) number))

-- this port changed and all others not
pub port_after : {B : Type 0} (state : B → PortState) (items : List B) (i j : ℕ) (old new : B) (after : PortState → PortState)
    → j ≡ i → i < length items → old ≡ get_or items j old → state new ≡ after (state old)
    → states_of (map state (set items j new)) ≡ with_port i (after (states_of (map state items) i)) (states_of (map state items))
port_after state items i j old new after number low here is =
    ap (λ k. states_of (map state (set items k new))) number
    ∙ ap states_of (map-set state items i new)
    ∙ (λ k other. set_state (map state items) i (state new) (omega (arith, low, length-map items state)) other k)
    ∙ ap (λ s. with_port i s (states_of (map state items))) (is ∙ sym (ap after (state_here state items i j old number low here)))

-- it was read, or written
pub port_read : {B : Type 0} (state : B → PortState) (items : List B) (place : Option PlaceInPort) (byte : PortByte) (width j : ℕ) (old new : B)
    → Some (place_of byte) ≡ place → j ≡ byte.port → byte.port < length items → old ≡ get_or items j old
    → state new ≡ after_read (state old) byte.offset width
    → states_of (map state (set items j new)) ≡ all_accessed (element_read place width) (states_of (map state items))
port_read state items place byte width j old new stands number low here is =
    port_after state items byte.port j old new (λ s. after_read s byte.offset width) number low here is
    ∙ ap (λ p. all_accessed (element_read p width) (states_of (map state items))) stands

pub port_written : {B : Type 0} (state : B → PortState) (items : List B) (place : Option PlaceInPort) (byte : PortByte) (width j value part : ℕ) (old new : B)
    → Some (place_of byte) ≡ place → j ≡ byte.port → byte.port < length items → old ≡ get_or items j old
    → part ≡ value % 256 ^ width → state new ≡ after_write (state old) byte.offset width part
    → states_of (map state (set items j new)) ≡ all_accessed (element_written place width value) (states_of (map state items))
port_written state items place byte width j value part old new stands number low here least is =
    port_after state items byte.port j old new (λ s. after_write s byte.offset width (value % 256 ^ width)) number low here
    (is ∙ ap (λ v. after_write (state old) byte.offset width v) least)
    ∙ ap (λ p. all_accessed (element_written p width value) (states_of (map state items))) stands

-- what a read makes of the lines, a write, and an input
pub nothing_raised : (place : Option PlaceInPort) (width : ℕ) (states : PortStates) (lines : LinesData)
    → lines ≡ lines_accessed (element_read place width) states lines
nothing_raised None width states lines = refl
nothing_raised (Some byte) width states lines = refl

pub line_written : {B : Type 0} (state : B → PortState) (items : List B) (place : Option PlaceInPort) (byte : PortByte) (width j value part : ℕ) (old : B) (raised : Bool) (lines : LinesData)
    → Some (place_of byte) ≡ place → j ≡ byte.port → byte.port < length items → old ≡ get_or items j old
    → part ≡ value % 256 ^ width → raised ≡ line_of_write (state old) byte.offset width part
    → with_port_if raised byte.port lines ≡ lines_accessed (element_written place width value) (states_of (map state items)) lines
line_written state items place byte width j value part old raised lines stands number low here least is =
    ap (λ r. with_port_if r byte.port lines)
    (is ∙ ap (line_of_write (state old) byte.offset width) least
    ∙ ap (λ s. line_of_write s byte.offset width (value % 256 ^ width)) (sym (state_here state items byte.port j old number low here)))
    ∙ ap (λ p. lines_accessed (element_written p width value) (states_of (map state items)) lines) stands

pub line_given : {B : Type 0} (state : B → PortState) (items : List B) (i j : ℕ) (old : B) (raised : Bool) (lines : LinesData)
    → j ≡ i → i < length items → old ≡ get_or items j old → raised ≡ line_of_input (state old)
    → with_port_if raised i lines ≡ lines_given (states_of (map state items)) i lines
line_given state items i j old raised lines number low here is =
    ap (λ r. with_port_if r i lines) (is ∙ sym (ap line_of_input (state_here state items i j old number low here)))

least_within : {B : Type 0} (spare : B → ℕ) (items : List B) (i : ℕ) (d : B) → i < length items
    → least_room (map spare items) ≤ spare (get_or items i d)
least_within spare [] i d low = absurd (omega (arith, low))
least_within spare (first ∷ items) zero d low = omega arith
least_within spare (first ∷ items) (suc i) d low =
    let rest = least_within spare items i d (omega (arith, low)) in omega (arith, rest)

-- no port has less room than all have
pub room_here : {B : Type 0} (spare : B → ℕ) (items : List B) (n j : ℕ) (old : B) → j < length items → old ≡ get_or items j old
    → n ≤ least_room (map spare items) → n ≤ spare old
room_here spare items n j old low here enough =
    let some = least_within spare items j old low in let same = ap spare here in omega (arith, some, same, enough)

lowered : {B : Type 0} (spare : B → ℕ) (items : List B) (i : ℕ) (d new : B) → i < length items
    → spare (get_or items i d) ≤ spare new + 1
    → least_room (map spare items) ≤ least_room (map spare (set items i new)) + 1
lowered spare [] i d new low less = absurd (omega (arith, low))
lowered spare (first ∷ items) zero d new low less = omega (arith, less)
lowered spare (first ∷ items) (suc i) d new low less =
    let rest = lowered spare items i d new (omega (arith, low)) less in omega (arith, rest)

-- one of them has less room by one at most, or as much as before
pub room_lowered : {B : Type 0} (spare : B → ℕ) (items : List B) (j : ℕ) (old new : B) → j < length items
    → old ≡ get_or items j old → spare old ≤ spare new + 1
    → least_room (map spare items) ≤ least_room (map spare (set items j new)) + 1
room_lowered spare items j old new low here less =
    let same = ap spare here in lowered spare items j old new low (omega (arith, same, less))

left_alone : {B : Type 0} (spare : B → ℕ) (items : List B) (i : ℕ) (d new : B) → i < length items
    → spare new ≡ spare (get_or items i d)
    → least_room (map spare (set items i new)) ≡ least_room (map spare items)
left_alone spare [] i d new low same = absurd (omega (arith, low))
left_alone spare (first ∷ items) zero d new low same = ap (λ s. min s (least_room (map spare items))) same
left_alone spare (first ∷ items) (suc i) d new low same =
    ap (min (spare first)) (left_alone spare items i d new (omega (arith, low)) same)

pub room_left_alone : {B : Type 0} (spare : B → ℕ) (items : List B) (j : ℕ) (old new : B) → j < length items
    → old ≡ get_or items j old → spare new ≡ spare old
    → least_room (map spare (set items j new)) ≡ least_room (map spare items)
room_left_alone spare items j old new low here same =
    left_alone spare items j old new low (same ∙ ap spare here)

-- all of them have this much
all_have : (spares : List ℕ) (n : ℕ) → n ≤ 2 * event_limit
    → ((k : ℕ) → k < length spares → n ≤ get_or spares k 0) → n ≤ least_room spares
all_have [] n small all = small
all_have (first ∷ spares) n small all =
    let here = all 0 (omega arith) in
    let rest = all_have spares n small (λ k low. all (suc k) (omega (arith, low))) in
    omega (arith, here, rest)

pub room_of_all : {B : Type 0} (spare : B → ℕ) (items : List B) (n : ℕ) → n ≤ 2 * event_limit
    → ((k : ℕ) → k < length items → n ≤ get_or (map spare items) k 0) → n ≤ least_room (map spare items)
room_of_all spare items n small all =
    all_have (map spare items) n small (λ k low. all k (omega (arith, low, length-map items spare)))

-- one of them keeps what it kept
pub states_left_alone : {B : Type 0} (state : B → PortState) (items : List B) (j : ℕ) (old new : B)
    → old ≡ get_or items j old → state new ≡ state old → map state (set items j new) ≡ map state items
states_left_alone state items j old new here same =
    map-set state items j new
    ∙ ap (set (map state items) j) same
    ∙ sym (map-set state items j old)
    ∙ ap (λ b. map state (set items j b)) here
    ∙ ap (map state) (set-get_or items j old)

-- one more has so much room
more_room : (spares : List ℕ) (i n spare : ℕ) → i < length spares → n ≤ spare → ((k : ℕ) → k < i → n ≤ get_or spares k 0)
    → (k : ℕ) → k < i + 1 → n ≤ get_or (set spares i spare) k 0
more_room spares i n spare low more all k lt = by_number (k == i) refl
  where
    by_number : (here : Bool) → (k == i) ≡ here → n ≤ get_or (set spares i spare) k 0
    by_number true e =
        let at : k ≡ i = grind (arith, nat_tests) in
        let same = get_or-set_at spares i k spare 0 at low in omega (arith, same, more)
    by_number false e =
        let apart : k ≢ i = grind (arith, nat_tests) in
        let before : k < i = grind (arith, nat_tests) in
        let same = get_or-set_other spares i k spare 0 apart in
        let enough = all k before in omega (arith, same, enough)

pub room_of_more : {B : Type 0} (spare : B → ℕ) (items : List B) (i n : ℕ) (new : B) → i < length items → n ≤ spare new
    → ((k : ℕ) → k < i → n ≤ get_or (map spare items) k 0)
    → (k : ℕ) → k < i + 1 → n ≤ get_or (map spare (set items i new)) k 0
room_of_more spare items i n new low more all k lt =
    let step = more_room (map spare items) i n (spare new) (omega (arith, low, length-map items spare)) more all k lt in
    let same = ap (λ spares. get_or spares k 0) (map-set spare items i new) in
    omega (arith, same, step)
