-- The first register in which an id stands, and a change of it.
use Rattle.std.proofs.Common.{◌≡◌, ℕ, zero, suc, ◌+◌, ◌<◌, ◌≤◌, Bool, true, false, not, ◌&&◌, cond, if◌then◌else◌, List, [], ◌∷◌, length, get_or, set, take, Option, Some, None, find, refl, sym, ap, subst, ◌∙◌, arith, min, ◌⊎◌, inl, inr}
use Rattle.std.specs.Prelude.{unwrap_or}
use Rattle.std.proofs.lemmas.List.{take_more, get_or_default}
use Rattle.std.proofs.lemmas.Bool.Decides.{nat_tests}
use Rattle.std.proofs.Math.Seq.{take-length}
use Rattle.std.proofs.Math.Nat.{le_antisymm, le_trans}
use Rattle.std.proofs.lemmas.List.Folds.{find-append}
use Rattle.bao_types.specs.ListReg.{ListRegData}
use Rattle.vgic_iface.specs.Rank.{no_rank}
use Rattle.vgic_iface.specs.Interface.{holds, listed_rank, rank_by, with_holder}

-- no element up to the next one passes
pub find_none-more : {X : Type 0} (p : X → Bool) (xs : List X) (i : ℕ) (x : X) → i < length xs → x ≡ get_or xs i x →
    find p (take i xs) ≡ None → p x ≡ false → find p (take (i + 1) xs) ≡ None
find_none-more p xs i x within is none off =
    rw (take_more xs i x within, find-append p (take i xs) (get_or xs i x ∷ []), none, ← is, off) refl

is_there : {X : Type 0} → Option X → Type 0
is_there None = ⊥
is_there (Some x) = Unit {0}

some_is_none : {X : Type 0} (x : X) → Some x ≡ None → ⊥
unfolding is_there
some_is_none x is = subst is_there is tt

none_is_none : {X Y : Type 0} (x : X) → Some x ≡ None → Y
none_is_none x is = absurd (some_is_none x is)

-- the first element that passes is the one after those that don't
pub find-at : {X : Type 0} (p : X → Bool) (xs : List X) (i : ℕ) (x : X) → i < length xs → x ≡ get_or xs i x →
    find p (take i xs) ≡ None → p x ≡ true → find p xs ≡ Some x
find-at p [] i x within is none on = absurd (omega arith)
find-at p (y ∷ ys) zero x within is none on = rw (← is, on) refl
find-at p (y ∷ ys) (suc i) x within is none on = by_test (p y) none (λ rest. find-at p ys i x (omega arith) is rest on)
  where
    by_test : (test : Bool) → cond test (Some y) (find p (take i ys)) ≡ None →
        (find p (take i ys) ≡ None → find p ys ≡ Some x) → cond test (Some y) (find p ys) ≡ Some x
    by_test true none rest = none_is_none y none
    by_test false none rest = rest none

-- the register after those that don't hold the id is the one that is changed
pub with_holder-at : (change : ListRegData → ListRegData) (id : ℕ) (lists : List ListRegData) (i : ℕ) (list : ListRegData) →
    i < length lists → list ≡ get_or lists i list → find (holds id) (take i lists) ≡ None → holds id list ≡ true →
    set lists i (change list) ≡ with_holder change id lists
with_holder-at change id [] i list within is none on = absurd (omega arith)
with_holder-at change id (first ∷ lists) zero list within is none on = rw (← is, on) refl
with_holder-at change id (first ∷ lists) (suc i) list within is none on =
    by_test (holds id first) none (λ rest. with_holder-at change id lists i list (omega arith) is rest on)
  where
    by_test : (test : Bool) → cond test (Some first) (find (holds id) (take i lists)) ≡ None →
        (find (holds id) (take i lists) ≡ None → set lists i (change list) ≡ with_holder change id lists) →
        first ∷ set lists i (change list) ≡ (if test then change first ∷ lists else first ∷ with_holder change id lists)
    by_test true none rest = none_is_none first none
    by_test false none rest = ap (λ others. first ∷ others) (rest none)

-- nothing is changed where the id stands in no register
pub with_holder-none : (change : ListRegData → ListRegData) (id : ℕ) (lists : List ListRegData) →
    find (holds id) lists ≡ None → with_holder change id lists ≡ lists
with_holder-none change id [] none = refl
with_holder-none change id (first ∷ lists) none = by_test (holds id first) none (with_holder-none change id lists)
  where
    by_test : (test : Bool) → cond test (Some first) (find (holds id) lists) ≡ None →
        (find (holds id) lists ≡ None → with_holder change id lists ≡ lists) →
        (if test then change first ∷ lists else first ∷ with_holder change id lists) ≡ first ∷ lists
    by_test true none rest = none_is_none first none
    by_test false none rest = ap (λ others. first ∷ others) (rest none)

-- none of them passes
pub find_none-end : {X : Type 0} (p : X → Bool) (xs : List X) (i : ℕ) → length xs ≤ i → i ≤ length xs →
    find p (take i xs) ≡ None → find p xs ≡ None
find_none-end p xs i above below none =
    ap (find p) (sym (take-length xs) ∙ ap (λ n. take n xs) (le_antisymm above below)) ∙ none

-- an element that is found is one of the list, and passes
pub find-found : {X : Type 0} (p : X → Bool) (xs : List X) (x : X) → find p xs ≡ Some x →
    (k : ℕ) × (k < length xs) × (get_or xs k x ≡ x) × (p x ≡ true)
find-found p [] x is = absurd (some_is_none x (sym is))
find-found p (y ∷ ys) x is = by_test (p y) refl is (λ later. find-found p ys x later)
  where
    by_test : (test : Bool) → p y ≡ test → cond test (Some y) (find p ys) ≡ Some x →
        (find p ys ≡ Some x → (k : ℕ) × (k < length ys) × (get_or ys k x ≡ x) × (p x ≡ true)) →
        (k : ℕ) × (k < length (y ∷ ys)) × (get_or (y ∷ ys) k x ≡ x) × (p x ≡ true)
    by_test true passes is rest =
        let same : y ≡ x = ap (λ found. unwrap_or found y) is in
        (zero, omega arith, same, subst (λ z. p z ≡ true) same passes)
    by_test false passes is rest =
        let found = rest is in
        (suc found.0, omega (arith, found.1), found.2, found.3)

-- an id stands in a register that holds it
pub holds-id : (id : ℕ) (list : ListRegData) → holds id list ≡ true → list.id ≡ id
holds-id id list on = grind (arith, nat_tests)

-- a number that is no greater than what each register adds is no greater than the rank of any id
pub le_listed_rank : (lists : List ListRegData) (bound : ℕ) → bound ≤ no_rank →
    ((k : ℕ) (d : ListRegData) → k < length lists → bound ≤ rank_by lists (get_or lists k d)) →
    (id : ℕ) → bound ≤ listed_rank lists id
le_listed_rank lists bound top below id = by_cases (find (holds id) lists) refl
  where
    by_test : (list : ListRegData) (test : Bool) → (list.pending && not list.active) ≡ test → find (holds id) lists ≡ Some list →
        bound ≤ (if test then listed_rank lists list.id else no_rank) → list.id ≡ id → bound ≤ listed_rank lists id
    by_test list true pending is low same = subst (λ n. bound ≤ listed_rank lists n) same low
    by_test list false pending is low same = rw (is, pending) top

    by_cases : (found : Option ListRegData) → find (holds id) lists ≡ found → bound ≤ listed_rank lists id
    by_cases None is = rw is top
    by_cases (Some list) is =
        let at = find-found (holds id) lists list is in
        let low : bound ≤ rank_by lists list = subst (λ r. bound ≤ rank_by lists r) at.2 (below at.0 list at.1) in
        by_test list (list.pending && not list.active) refl is low (holds-id id list at.3)

-- one more register is looked at
pub below-more : (lists : List ListRegData) (i : ℕ) (list : ListRegData) (best next : ℕ) →
    i < length lists → list ≡ get_or lists i list → next ≡ min best (rank_by lists list) →
    ((k : ℕ) (d : ListRegData) → k < i → best ≤ rank_by lists (get_or lists k d)) →
    (k : ℕ) (d : ListRegData) → k < i + 1 → next ≤ rank_by lists (get_or lists k d)
below-more lists i list best next within is least below k d before = by_place (lt_cases k i before)
  where
    lt_cases : (k i : ℕ) → k < i + 1 → (k < i) ⊎ (k ≡ i)
    lt_cases k i before = grind arith

    lower : (a b c : ℕ) → c ≡ min a b → (c ≤ a) × (c ≤ b)
    lower a b c is = (omega arith, omega arith)

    by_place : (k < i) ⊎ (k ≡ i) → next ≤ rank_by lists (get_or lists k d)
    by_place (inl earlier) = le_trans (lower best (rank_by lists list) next least).0 (below k d earlier)
    by_place (inr same) =
        subst (λ (r : ListRegData). next ≤ rank_by lists r)
        (is ∙ get_or_default lists i list d within ∙ ap (λ n. get_or lists n d) (sym same))
        (lower best (rank_by lists list) next least).1
