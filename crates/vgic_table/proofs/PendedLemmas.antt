-- Ids that are made pending by their places, for this crate and its callers.
use Rattle.std.proofs.Common.{◌≡◌, ℕ, zero, suc, ◌+◌, ◌<◌, ◌≤◌, ◌==◌, Bool, true, false, ◌||◌, List, [], ◌∷◌, length, map, get_or, set, refl, sym, ap, ◌∙◌, arith}
use Rattle.std.specs.List.{enumerate_from}
use Rattle.std.proofs.lemmas.Bool.Decides.{nat_tests}
use Rattle.std.proofs.lemmas.List.{length-map}
use Rattle.std.proofs.lemmas.List.FromFn.{length-enumerate_from}
use Rattle.vgic_table.specs.declared.id_state.IdState.{IdState}
use Rattle.vgic_table.specs.Interrupts.{Interrupts, place, quiet}
use Rattle.vgic_table.specs.Changes.{made_pending, pended_at, pended_if}
use Rattle.vgic_table.specs.Shape.{IsShaped}

-- the ids from a place on
abbrev pended_from : ℕ → (ℕ → Bool) → List IdState → List IdState
pended_from first chosen ids = map (λ each. pended_if (chosen each.0) each.1) (enumerate_from first ids)

from-same : (first : ℕ) (one other : ℕ → Bool) (ids : List IdState) → ((p : ℕ) → first ≤ p → one p ≡ other p) →
    pended_from first one ids ≡ pended_from first other ids
from-same first one other [] same = refl
from-same first one other (state ∷ ids) same =
    ap (λ b. pended_if b state ∷ pended_from (first + 1) one ids) (same first (omega arith))
    ∙ ap (λ rest. pended_if (other first) state ∷ rest) (from-same (first + 1) one other ids (λ p above. same p (omega arith)))

from-none : (first : ℕ) (chosen : ℕ → Bool) (ids : List IdState) → ((p : ℕ) → first ≤ p → chosen p ≡ false) → pended_from first chosen ids ≡ ids
from-none first chosen [] none = refl
from-none first chosen (state ∷ ids) none =
    ap (λ b. pended_if b state ∷ pended_from (first + 1) chosen ids) (none first (omega arith))
    ∙ ap (λ rest. state ∷ rest) (from-none (first + 1) chosen ids (λ p above. none p (omega arith)))

from-both : (first : ℕ) (one other : ℕ → Bool) (ids : List IdState) →
    pended_from first one (pended_from first other ids) ≡ pended_from first (λ p. one p || other p) ids
from-both first one other [] = refl
from-both first one other (state ∷ ids) =
    ap (λ s. s ∷ pended_from (first + 1) one (pended_from (first + 1) other ids)) (twice (one first) (other first))
    ∙ ap (λ rest. pended_if (one first || other first) state ∷ rest) (from-both (first + 1) one other ids)
  where
    twice : (a b : Bool) → pended_if a (pended_if b state) ≡ pended_if (a || b) state
    twice true true = refl
    twice true false = refl
    twice false b = refl

from-one : (first i at : ℕ) (ids : List IdState) → at ≡ first + i → i < length ids →
    set ids i (record (get_or ids i quiet) { pending = true }) ≡ pended_from first (λ p. p == at) ids
from-one first i at [] is within = absurd (omega arith)
from-one first zero at (state ∷ ids) is within =
    let here : (first == at) ≡ true = grind (arith, nat_tests) in
    ap (λ b. pended_if b state ∷ ids) (sym here)
    ∙ ap (λ rest. pended_if (first == at) state ∷ rest) (sym (from-none (first + 1) (λ p. p == at) ids (λ p above. past p above)))
  where
    past : (p : ℕ) → first + 1 ≤ p → (p == at) ≡ false
    past p above = grind (arith, nat_tests)
from-one first (suc i) at (state ∷ ids) is within =
    let before : (first == at) ≡ false = grind (arith, nat_tests) in
    ap (λ b. pended_if b state ∷ set ids i (record (get_or ids i quiet) { pending = true })) (sym before)
    ∙ ap (λ rest. pended_if (first == at) state ∷ rest) (from-one (first + 1) i at ids (omega arith) (omega arith))

-- one id made pending is the one at its place
pub made_pending-at : (vm : Interrupts) (core id : ℕ) → place core id < length vm.ids →
    made_pending vm core id ≡ pended_at (λ p. p == place core id) vm
made_pending-at vm core id within =
    ap (λ ids. record vm { ids = ids }) (from-one 0 (place core id) (place core id) vm.ids (omega arith) within)

-- two sets that are made pending are their union
pub pended-both : (vm : Interrupts) (one other : ℕ → Bool) → pended_at one (pended_at other vm) ≡ pended_at (λ p. one p || other p) vm
pended-both vm one other = ap (λ ids. record vm { ids = ids }) (from-both 0 one other vm.ids)

-- sets that are alike make the same pending
pub pended-same : (vm : Interrupts) (one other : ℕ → Bool) → ((p : ℕ) → one p ≡ other p) → pended_at one vm ≡ pended_at other vm
pended-same vm one other same = ap (λ ids. record vm { ids = ids }) (from-same 0 one other vm.ids (λ p above. same p))

-- an empty set changes nothing
pub pended-none : (vm : Interrupts) (chosen : ℕ → Bool) → ((p : ℕ) → chosen p ≡ false) → pended_at chosen vm ≡ vm
pended-none vm chosen none = ap (λ ids. record vm { ids = ids }) (from-none 0 chosen vm.ids (λ p above. none p))

pub length-pended : (vm : Interrupts) (chosen : ℕ → Bool) → length (pended_at chosen vm).ids ≡ length vm.ids
length-pended vm chosen =
    length-map (enumerate_from 0 vm.ids) (λ each. pended_if (chosen each.0) each.1) ∙ length-enumerate_from 0 vm.ids

pub shaped-pended : (vm : Interrupts) (chosen : ℕ → Bool) → IsShaped vm → IsShaped (pended_at chosen vm)
shaped-pended vm chosen shaped = length-pended vm chosen ∙ shaped
