-- What an empty list of breaks says of the items.
use Rattle.std.proofs.Common.{◌≡◌, ℕ, zero, suc, ◌+◌, ◌<◌, Bool, true, false, cond, ◌||◌, List, [], ◌∷◌, ◌++◌, map, filter, option_to_list, slice_get, get_or, length, All, Option, Some, None, refl, sym, subst, ap, ◌∙◌, arith}
use Rattle.std.specs.List.{enumerate_from, flat_map, list_any, position_from}
use Rattle.std.proofs.lemmas.List.{get_or-map, length-map}
use Rattle.std.proofs.lemmas.List.Elements.{filter-append}
use Rattle.std.proofs.lemmas.Option.{slice_get-get_or}
use Rattle.bao_wellformed.specs.Break.{pairs}

pub left_empty : {A : Type 0} (xs ys : List A) → xs ++ ys ≡ [] → xs ≡ []
left_empty [] ys e = refl
left_empty (x ∷ xs) ys e = cc

pub right_empty : {A : Type 0} (xs ys : List A) → xs ++ ys ≡ [] → ys ≡ []
right_empty [] ys e = e
right_empty (x ∷ xs) ys e = cc

pub map_empty : {A B : Type 0} (f : A → B) (xs : List A) → map f xs ≡ [] → xs ≡ []
map_empty f [] e = refl
map_empty f (x ∷ xs) e = cc

pub option_empty : {A B : Type 0} (f : A → B) (o : Option A) → map f (option_to_list o) ≡ [] → o ≡ None
option_empty f None e = refl
option_empty f (Some x) e = cc

-- no element passes
pub none_passes : {A : Type 0} (p : A → Bool) (xs : List A) → filter p xs ≡ [] → (k : ℕ) (x : A) → slice_get xs k ≡ Some x → p x ≡ false
none_passes p [] e k x got = cc
none_passes {A} p (y ∷ ys) e k x got = by_test (p y) refl e k got (λ rest. none_passes p ys rest)
  where
    by_test : (b : Bool) → p y ≡ b → cond b (y ∷ filter p ys) (filter p ys) ≡ [] → (k : ℕ) → slice_get (y ∷ ys) k ≡ Some x
        → (filter p ys ≡ [] → (k : ℕ) (x : A) → slice_get ys k ≡ Some x → p x ≡ false) → p x ≡ false
    by_test true t e k got rest = cc
    by_test false t e zero got rest = let same : y ≡ x = cc in ap p (sym same) ∙ t
    by_test false t e (suc k) got rest = rest e k x got

pub none_in_each : {A B : Type 0} (f : A → List B) (xs : List A) → flat_map f xs ≡ [] → (k : ℕ) (x : A) → slice_get xs k ≡ Some x → f x ≡ []
none_in_each f [] e k x got = cc
none_in_each f (y ∷ ys) e zero x got = let same : y ≡ x = cc in ap f (sym same) ∙ left_empty (f y) (flat_map f ys) e
none_in_each f (y ∷ ys) e (suc k) x got = none_in_each f ys (right_empty (f y) (flat_map f ys) e) k x got

-- the element at a place, with its place
pub indexed_at : {A : Type 0} (n k : ℕ) (xs : List A) (x : A) → slice_get xs k ≡ Some x → slice_get (enumerate_from n xs) k ≡ Some (n + k, x)
indexed_at n k [] x got = cc
indexed_at n zero (y ∷ ys) x got = let same : y ≡ x = cc in let place : n ≡ n + 0 = omega arith in λ t. Some (place t, same t)
indexed_at n (suc k) (y ∷ ys) x got = indexed_at (n + 1) k ys x got ∙ (let place : n + 1 + k ≡ n + suc k = omega arith in ap (λ m. Some (m, x)) place)

pub indexed_got : {A : Type 0} (k : ℕ) (xs : List A) (x : A) → slice_get xs k ≡ Some x → slice_get (enumerate_from 0 xs) k ≡ Some (k, x)
indexed_got k xs x got = indexed_at 0 k xs x got ∙ (let place : 0 + k ≡ k = omega arith in ap (λ m. Some (m, x)) place)

-- what is at two places is among the pairs
pub record IsPair {A : Type 0} (xs : List A) (x y : A) : Type 0 where
  pub place : ℕ
  pub got : slice_get (pairs xs) place ≡ Some (x, y)

pub left_got : {A : Type 0} (xs ys : List A) (k : ℕ) (x : A) → slice_get xs k ≡ Some x → slice_get (xs ++ ys) k ≡ Some x
left_got [] ys k x got = cc
left_got (z ∷ zs) ys zero x got = got
left_got (z ∷ zs) ys (suc k) x got = left_got zs ys k x got

pub right_got : {A : Type 0} (xs ys : List A) (k : ℕ) (x : A) → slice_get ys k ≡ Some x → (place : ℕ) × (slice_get (xs ++ ys) place ≡ Some x)
right_got [] ys k x got = (k, got)
right_got (z ∷ zs) ys k x got = let r = right_got zs ys k x got in (suc r.0, r.1)

pub map_got : {A B : Type 0} (f : A → B) (xs : List A) (k : ℕ) (x : A) → slice_get xs k ≡ Some x → slice_get (map f xs) k ≡ Some (f x)
map_got f [] k x got = cc
map_got f (z ∷ zs) zero x got = let same : z ≡ x = cc in ap (λ y. Some (f y)) same
map_got f (z ∷ zs) (suc k) x got = map_got f zs k x got

pub is_pair : {A : Type 0} (xs : List A) (i j : ℕ) (x y : A) → slice_get xs i ≡ Some x → slice_get xs j ≡ Some y → i < j → IsPair xs x y
is_pair [] i j x y one two less = cc
is_pair (z ∷ zs) i zero x y one two less = absurd (omega arith)
is_pair (z ∷ zs) zero (suc j) x y one two less =
    let same : z ≡ x = cc in
    record {
      place = j;
      got = left_got (map (λ other. (z, other)) zs) (pairs zs) j (x, y) (map_got (λ other. (z, other)) zs j y two ∙ ap (λ w. Some (w, y)) same);
    }
is_pair (z ∷ zs) (suc i) (suc j) x y one two less =
    let rest = is_pair zs i j x y one two (omega arith) in
    let r = right_got (map (λ other. (z, other)) zs) (pairs zs) rest.place (x, y) rest.got in
    record { place = r.0; got = r.1 }

-- what one of joined lists has, they have together
pub flat_got : {A B : Type 0} (f : A → List B) (xs : List A) (k : ℕ) (x : A) (j : ℕ) (y : B) → slice_get xs k ≡ Some x → slice_get (f x) j ≡ Some y
    → (place : ℕ) × (slice_get (flat_map f xs) place ≡ Some y)
flat_got f [] k x j y got has = cc
flat_got f (z ∷ zs) zero x j y got has =
    let same : z ≡ x = cc in (j, left_got (f z) (flat_map f zs) j y (ap (λ a. slice_get (f a) j) same ∙ has))
flat_got f (z ∷ zs) (suc k) x j y got has =
    let r = flat_got f zs k x j y got has in right_got (f z) (flat_map f zs) r.0 y r.1

-- a test that passes somewhere in a list passes at a place
pub any_got : {A : Type 0} (p : A → Bool) (xs : List A) → list_any p xs ≡ true → (place : ℕ) × (x : A) × (slice_get xs place ≡ Some x) × (p x ≡ true)
any_got p [] h = cc
any_got {A} p (y ∷ ys) h = by_test (p y) refl h (any_got p ys)
  where
    by_test : (b : Bool) → p y ≡ b → (b || list_any p ys) ≡ true
        → (list_any p ys ≡ true → (place : ℕ) × (x : A) × (slice_get ys place ≡ Some x) × (p x ≡ true))
        → (place : ℕ) × (x : A) × (slice_get (y ∷ ys) place ≡ Some x) × (p x ≡ true)
    by_test true e h rest = (0, y, refl, e)
    by_test false e h rest = let r = rest h in (suc r.0, r.1, r.2, r.3)

-- the first that passes, where it is the only one
pub only_position : {A : Type 0} (p : A → Bool) (xs : List A) (n v : ℕ) (x : A) → slice_get xs v ≡ Some x → p x ≡ true
    → ((w : ℕ) (y : A) → slice_get xs w ≡ Some y → p y ≡ true → w ≡ v) → position_from p n xs ≡ Some (n + v)
only_position p [] n v x got pass one = cc
only_position {A} p (y ∷ ys) n zero x got pass one =
    let same : y ≡ x = cc in let e : p y ≡ true = ap p same ∙ pass in let place : n ≡ n + 0 = omega arith in rw e (ap Some place)
only_position {A} p (y ∷ ys) n (suc v) x got pass one =
    by_test (p y) refl (only_position p ys (n + 1) v x got pass (λ w z has yes. let e = one (suc w) z has yes in omega (arith, e)))
  where
    by_test : (b : Bool) → p y ≡ b → position_from p (n + 1) ys ≡ Some (n + 1 + v) → position_from p n (y ∷ ys) ≡ Some (n + suc v)
    by_test true e rest = absurd (let z = one 0 y refl e in omega (arith, z))
    by_test false e rest = let place : n + 1 + v ≡ n + suc v = omega arith in rw e (rest ∙ ap Some place)

pub none_passes_in : {A : Type 0} (p : A → Bool) (xs ys : List A) → filter p (xs ++ ys) ≡ [] → (filter p xs ≡ []) × (filter p ys ≡ [])
none_passes_in p xs ys e =
    let parts = sym (filter-append p xs ys) ∙ e in (left_empty (filter p xs) (filter p ys) parts, right_empty (filter p xs) (filter p ys) parts)

pub none_passes_of : {A B : Type 0} (p : B → Bool) (f : A → List B) (xs : List A) → filter p (flat_map f xs) ≡ []
    → (k : ℕ) (x : A) → slice_get xs k ≡ Some x → filter p (f x) ≡ []
none_passes_of p f [] e k x got = cc
none_passes_of p f (y ∷ ys) e zero x got = let same : y ≡ x = cc in ap (λ z. filter p (f z)) (sym same) ∙ (none_passes_in p (f y) (flat_map f ys) e).0
none_passes_of p f (y ∷ ys) e (suc k) x got = none_passes_of p f ys (none_passes_in p (f y) (flat_map f ys) e).1 k x got

pub all_fail : {A : Type 0} (p : A → Bool) (xs : List A) → filter p xs ≡ [] → All (λ x. p x ≡ false) xs
all_fail p xs e k d low = none_passes p xs e k (get_or xs k d) (slice_get-get_or xs k d low)

pub all_of_viewed : {A B : Type 0} (P : B → Type 0) (f : A → B) (xs : List A) → All P (map f xs) → All (λ x. P (f x)) xs
all_of_viewed P f xs all k d low = subst P (get_or-map f xs k d (f d) low) (all k (f d) (let l : length (map f xs) ≡ length xs = length-map xs f in omega (arith, l, low)))
