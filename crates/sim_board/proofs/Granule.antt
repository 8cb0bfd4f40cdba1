-- Granules of 64 bytes: a port has all bytes of one or none.
use Rattle.std.proofs.Common.{◌≡◌, ℕ, zero, suc, ◌+◌, ◌-◌, ◌/◌, ◌%◌, ◌^◌, ◌<◌, ◌≤◌, Bool, true, false, List, [], ◌∷◌, All, find, refl, sym, ap, ◌∙◌, inl, inr, arith}
use Rattle.std.specs.Prelude.{IsTrue, ◌&&◌, ◌||◌, is_some, nat_le, nat_lt, if◌then◌else◌, Some}
use Rattle.std.specs.Option.{option_map}
use Rattle.std.proofs.lemmas.Bool.Decides.{nat_tests}
use Rattle.std.proofs.lemmas.List.Elements.{All-head, All-tail}
use Rattle.bao_types.specs.Bytes.{IsWidth, next_address}
use Rattle.bao_types.specs.ByteRange.{is_within}
use Rattle.bao_types.specs.Shape.{is_port_of, port_range, port_size}
use Rattle.bao_types.specs.declared.shape.PortSpot.{PortSpot}
use Rattle.board.specs.Judge.{has_no_port}
use Rattle.board.specs.Machine.{port_places}
use Rattle.board.specs.Ports.{PortByte as PlaceInPort, is_port}

-- a byte is a port's where one of the ports has it
pub port_if_one : (spots : List PortSpot) (at : ℕ) → is_port (port_places spots) at ≡ is_port_of spots at
port_if_one [] at = refl
port_if_one (spot ∷ spots) at = by_test (is_within (port_range spot.base) at) (port_if_one spots at)
  where
    by_test : (here : Bool) → is_port (port_places spots) at ≡ is_port_of spots at
        → is_some {T = PlaceInPort} (option_map (λ found. record { port = found.id; offset = at - found.base })
        (if here then Some spot else find (λ other. is_within (port_range other.base) at) spots))
        ≡ (here || is_port_of spots at)
    by_test true rest = refl
    by_test false rest = rest

-- a port has all bytes of a granule of 64 or none
same_granule : (base at other : ℕ) → base % 64 ≡ 0 → at / 64 ≡ other / 64
    → is_within (port_range base) other ≡ is_within (port_range base) at
same_granule base at other aligned same = by_tests (nat_le base at) (nat_lt at (base + 64)) refl refl
  where
    by_tests : (from to : Bool) → nat_le base at ≡ from → nat_lt at (base + 64) ≡ to
        → (nat_le base other && nat_lt other (base + 64)) ≡ (from && to)
    by_tests true true f t =
        let low : base ≤ other = grind (arith, nat_tests) in
        let high : other < base + 64 = grind (arith, nat_tests) in
        let f' : nat_le base other ≡ true = grind (arith, nat_tests) in
        let t' : nat_lt other (base + 64) ≡ true = grind (arith, nat_tests) in
        rw (f', t') refl
    by_tests true false f t =
        let high : base + 64 ≤ other = grind (arith, nat_tests) in
        let f' : nat_le base other ≡ true = grind (arith, nat_tests) in
        let t' : nat_lt other (base + 64) ≡ false = grind (arith, nat_tests) in
        rw (f', t') refl
    by_tests false to f t =
        let low : other < base = grind (arith, nat_tests) in
        let f' : nat_le base other ≡ false = grind (arith, nat_tests) in
        rw f' refl

alike_in_granule : (spots : List PortSpot) (at other : ℕ) → All (λ spot. spot.base % port_size ≡ 0) spots → at / 64 ≡ other / 64
    → is_port_of spots other ≡ is_port_of spots at
alike_in_granule [] at other bases same = refl
alike_in_granule (spot ∷ spots) at other bases same =
    ap (λ here. here || is_port_of spots other) (same_granule spot.base at other (All-head (λ s. s.base % port_size ≡ 0) spot spots bases) same)
    ∙ ap (λ rest. is_within (port_range spot.base) at || rest)
    (alike_in_granule spots at other (All-tail (λ s. s.base % port_size ≡ 0) spot spots bases) same)

free_from : (spots : List PortSpot) (first at n : ℕ) → All (λ spot. spot.base % port_size ≡ 0) spots
    → is_port (port_places spots) first ≡ false
    → ((k : ℕ) → k < n → (first / 64 ≡ (at + k) / 64) × (at + k < 2 ^ 64))
    → IsTrue (has_no_port (port_places spots) at n)
free_from spots first at zero bases none near = refl
free_from spots first at (suc n) bases none near =
    let start : first / 64 ≡ at / 64 = (let e = (near 0 (omega arith)).0 in omega (arith, e)) in
    let here : is_port (port_places spots) at ≡ false
    = port_if_one spots at ∙ alike_in_granule spots first at bases start ∙ sym (port_if_one spots first) ∙ none in
    rw here (free_from spots first (next_address at) n bases none (later at n near))
  where
    later : (at n : ℕ) → ((k : ℕ) → k < suc n → (first / 64 ≡ (at + k) / 64) × (at + k < 2 ^ 64))
        → (k : ℕ) → k < n → (first / 64 ≡ (next_address at + k) / 64) × (next_address at + k < 2 ^ 64)
    later at n near k lt =
        let far = near (suc k) (omega (arith, lt)) in
        let next : next_address at + k ≡ at + suc k = omega (arith, far.1) in
        (far.0 ∙ sym (ap (λ a. a / 64) next), omega (arith, next, far.1))

near_bytes : (at width : ℕ) → at % 64 + width ≤ 64 → at < 2 ^ 64
    → (k : ℕ) → k < width → (at / 64 ≡ (at + k) / 64) × (at + k < 2 ^ 64)
near_bytes at width room low k lt = (omega (arith, room, lt), omega (arith, room, lt, low))

-- an element of a port lies in it wholly
element_inside : (at width : ℕ) → IsWidth width → at % width ≡ 0 → at % port_size + width ≤ port_size
element_inside at width (inl one) aligned = omega (arith, one)
element_inside at width (inr (inl two)) aligned =
    let even : at % 2 ≡ 0 = sym (ap (λ w. at % w) two) ∙ aligned in omega (arith, two, even)
element_inside at width (inr (inr (inl four))) aligned =
    let even : at % 4 ≡ 0 = sym (ap (λ w. at % w) four) ∙ aligned in omega (arith, four, even)
element_inside at width (inr (inr (inr eight))) aligned =
    let even : at % 8 ≡ 0 = sym (ap (λ w. at % w) eight) ∙ aligned in omega (arith, eight, even)

-- an element of which the first byte is no port's has no port's byte
pub element_free : (spots : List PortSpot) (at width : ℕ) → All (λ spot. spot.base % port_size ≡ 0) spots → IsWidth width
    → at % width ≡ 0 → at < 2 ^ 64 → is_port (port_places spots) at ≡ false → IsTrue (has_no_port (port_places spots) at width)
element_free spots at width bases is aligned low none =
    free_from spots at at width bases none (near_bytes at width (element_inside at width is aligned) low)
