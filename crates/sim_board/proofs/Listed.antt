-- A list of ports that is made by adding one port after the other is the standard list.
use Rattle.std.proofs.Common.{◌≡◌, ℕ, zero, suc, ◌<◌, ◌≤◌, List, [], ◌∷◌, ◌++◌, map, length, ◌⊎◌, inl, inr, refl, sym, ap, subst, ◌∙◌, arith}
use Rattle.std.specs.Prelude.{slice_index_or}
use Rattle.std.proofs.lemmas.List.{length-append, length-map}
use Rattle.std.proofs.lemmas.Bool.{cases_eq}
use Rattle.ports.specs.PortState.{PortState, new_port}
use Rattle.ports.specs.declared.port.PortKind.TheVariants.{Console, Scratch, Ticker}
use Rattle.board.specs.Ports.{console_count, standard_ports}
use Rattle.sim_board.specs.Devices.{states_of}

-- each is as the port of its number
abbrev pub AreStandard : List PortState → Type 0
AreStandard states = (port : ℕ) → port < length states → states_of states port ≡ standard_ports port

before : (xs : List PortState) (y d : PortState) (i : ℕ) → i < length xs → slice_index_or (xs ++ y ∷ []) i d ≡ slice_index_or xs i d
before [] y d i low = absurd (omega arith)
before (x ∷ xs) y d zero low = refl
before (x ∷ xs) y d (suc i) low = before xs y d i (omega arith)

last : (xs : List PortState) (y d : PortState) → slice_index_or (xs ++ y ∷ []) (length xs) d ≡ y
last [] y d = refl
last (x ∷ xs) y d = last xs y d

map-append : {B : Type 0} (f : B → PortState) (xs : List B) (y : B) → map f (xs ++ y ∷ []) ≡ map f xs ++ f y ∷ []
map-append f [] y = refl
map-append f (x ∷ xs) y = ap (λ ys. f x ∷ ys) (map-append f xs y)

pub one_more : {B : Type 0} (f : B → PortState) (xs ys : List B) (y : B) → AreStandard (map f xs) → ys ≡ xs ++ y ∷ []
    → f y ≡ standard_ports (length xs) → AreStandard (map f ys)
one_more f xs ys y standard grown is =
    subst (λ zs. AreStandard (map f zs)) (sym grown)
    (subst AreStandard (sym (map-append f xs y)) (λ port low. by_place port low (cases_eq port (length (map f xs)))))
  where
    by_place : (port : ℕ) → port < length (map f xs ++ f y ∷ []) → (port ≡ length (map f xs)) ⊎ (port ≡ length (map f xs) → ⊥)
        → states_of (map f xs ++ f y ∷ []) port ≡ standard_ports port
    by_place port low (inl here) =
        ap (λ p. slice_index_or (map f xs ++ f y ∷ []) p (new_port Console)) here ∙ last (map f xs) (f y) (new_port Console) ∙ is
        ∙ sym (ap standard_ports (here ∙ length-map xs f))
    by_place port low (inr other) =
        let low' : port < length (map f xs) = omega (arith, length-append (map f xs) (f y ∷ [])) in
        before (map f xs) (f y) (new_port Console) port low' ∙ standard port low'

pub console_at : (port : ℕ) → port < console_count → new_port Console ≡ standard_ports port
console_at port low = search (cases_eq, arith)

pub scratch_at : (port : ℕ) → console_count ≤ port → port < 12 → new_port Scratch ≡ standard_ports port
scratch_at port from low = search (cases_eq, arith)

pub ticker_at : (port : ℕ) → 12 ≤ port → port < 16 → new_port Ticker ≡ standard_ports port
ticker_at port from low = search (cases_eq, arith)

pub all_standard : {B : Type 0} (f : B → PortState) (xs : List B) (count : ℕ) → AreStandard (map f xs) → length xs ≡ count
    → (port : ℕ) → port < count → states_of (map f xs) port ≡ standard_ports port
all_standard f xs count standard all port low = standard port (omega (arith, length-map xs f))
