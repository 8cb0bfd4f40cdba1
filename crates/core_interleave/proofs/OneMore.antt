-- The events that are left of a run.
use Rattle.std.proofs.Common.{◌≡◌, ℕ, zero, suc, ◌+◌, ◌<◌, ◌≤◌, List, [], ◌∷◌, length, drop, get_or, refl, arith, add-one}
use Rattle.std.proofs.Math.Seq.{drop-cons}
use Rattle.hypervisor.specs.declared.event.Event.{Event}

-- the event at a place is the first of those that are left there
pub next_of : (all : List Event) (n : ℕ) (d : Event) → n < length all → drop n all ≡ get_or all n d ∷ drop (n + 1) all
next_of all n d low = rw add-one (drop-cons all n d low)

-- at the end none is left
pub none_left : (all : List Event) (n : ℕ) → length all ≤ n → drop n all ≡ []
none_left [] zero end = refl
none_left [] (suc n) end = refl
none_left (first ∷ rest) zero end = absurd (omega arith)
none_left (first ∷ rest) (suc n) end = none_left rest n (omega arith)
