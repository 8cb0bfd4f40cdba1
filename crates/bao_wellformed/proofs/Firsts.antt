-- The first break of a list that is gone through in order.
use Rattle.std.proofs.Common.{◌≡◌, ℕ, ◌+◌, ◌<◌, Bool, true, false, List, [], ◌∷◌, ◌++◌, map, filter, length, get_or, drop, Option, None, is_some, refl, sym, ap, ◌∙◌, append_assoc}
use Rattle.std.specs.List.{enumerate_from, flat_map}
use Rattle.std.proofs.lemmas.List.{drop_more, map-append}
use Rattle.std.proofs.lemmas.List.Elements.{filter-append}
use Rattle.std.proofs.lemmas.List.Concat.{flat_map-append}
use Rattle.bao_wellformed.specs.declared.ill.Ill.{Ill}
use Rattle.bao_wellformed.specs.Break.{first, pairs}

-- where the front of a list has a first element, it is the whole list's
pub first_in_front : {A : Type 0} (xs ys : List A) → is_some (first xs) ≡ true → first (xs ++ ys) ≡ first xs
first_in_front [] ys h = cc
first_in_front (x ∷ xs) ys h = refl

pub first_behind : {A : Type 0} (xs ys : List A) → is_some (first xs) ≡ false → first (xs ++ ys) ≡ first ys
first_behind [] ys h = refl
first_behind (x ∷ xs) ys h = cc

-- a list without a first element is empty
pub empty_without_first : {A : Type 0} (xs : List A) → None ≡ first xs → xs ≡ []
empty_without_first [] h = refl
empty_without_first (x ∷ xs) h = cc

-- rule by rule: the first break of a rule is the first of all after it too, and without one the next rule decides
pub stops : {A : Type 0} (result : Option A) (xs ys : List A) → result ≡ first xs → is_some result ≡ true → result ≡ first (xs ++ ys)
stops result xs ys says some = says ∙ sym (first_in_front xs ys (ap is_some (sym says) ∙ some))

pub goes_on : {A : Type 0} (result : Option A) (xs ys : List A) → result ≡ first xs → is_some result ≡ false → first ys ≡ first (xs ++ ys)
goes_on result xs ys says none = sym (first_behind xs ys (ap is_some (sym says) ∙ none))

-- the rest of a list from an element on
rest_from : {A B : Type 0} (view : A → B) (xs : List A) (i : ℕ) (x : A) → i < length xs → x ≡ get_or xs i x
    → map view (drop i xs) ≡ view x ∷ map view (drop (i + 1) xs)
rest_from view xs i x low is = ap (map view) (drop_more xs i x low) ∙ ap (λ y. view y ∷ map view (drop (i + 1) xs)) (sym is)

-- what is made of each element, by its place
module _ {A B C : Type 0} (view : A → B) (made : ℕ → B → List C) where
  abbrev pub joined_from : ℕ → List A → List C
  joined_from n xs = flat_map (λ (v, x). made v x) (enumerate_from n (map view xs))

  pub joined_from-more : (xs : List A) (n i : ℕ) (x : A) → i < length xs → x ≡ get_or xs i x
      → joined_from n (drop i xs) ≡ made n (view x) ++ joined_from (n + 1) (drop (i + 1) xs)
  joined_from-more xs n i x low is = ap (λ ys. flat_map (λ (v, y). made v y) (enumerate_from n ys)) (rest_from view xs i x low is)

  -- a walk that joins what is made of one more element
  pub one_joined : (xs : List A) (n i : ℕ) (x : A) (before after whole : List C) → i < length xs → x ≡ get_or xs i x
      → before ++ joined_from n (drop i xs) ≡ whole → after ≡ before ++ made n (view x) → after ++ joined_from (n + 1) (drop (i + 1) xs) ≡ whole
  one_joined xs n i x before after whole low is so_far more =
      ap (λ ys. ys ++ joined_from (n + 1) (drop (i + 1) xs)) more
      ∙ append_assoc before (made n (view x)) (joined_from (n + 1) (drop (i + 1) xs))
      ∙ ap (λ ys. before ++ ys) (sym (joined_from-more xs n i x low is)) ∙ so_far

  -- the first of what is made
  module _ (xs : List A) (n i : ℕ) (x : A) (result : Option C) (low : i < length xs) (is : x ≡ get_or xs i x)
      (says : result ≡ first (made n (view x))) where
    pub found_here : is_some result ≡ true → result ≡ first (joined_from n (drop i xs))
    found_here some =
        says ∙ sym (first_in_front (made n (view x)) (joined_from (n + 1) (drop (i + 1) xs)) (ap is_some (sym says) ∙ some))
        ∙ sym (ap first (joined_from-more xs n i x low is))

    pub found_later : is_some result ≡ false → first (joined_from (n + 1) (drop (i + 1) xs)) ≡ first (joined_from n (drop i xs))
    found_later none =
        sym (first_behind (made n (view x)) (joined_from (n + 1) (drop (i + 1) xs)) (ap is_some (sym says) ∙ none))
        ∙ sym (ap first (joined_from-more xs n i x low is))

-- what is found in pairs
module _ {A : Type 0} (test : A × A → Bool) (report : A × A → Ill) where
  abbrev pub found_in : List (A × A) → List Ill
  found_in two = map report (filter test two)

  found_in-append : (xs ys : List (A × A)) → found_in (xs ++ ys) ≡ found_in xs ++ found_in ys
  found_in-append xs ys = ap (map report) (filter-append test xs ys) ∙ map-append report (filter test xs) (filter test ys)

  pairs_from : (xs : List A) (i : ℕ) (x : A) → i < length xs → x ≡ get_or xs i x
      → found_in (pairs (drop i xs)) ≡ found_in (map (λ other. (x, other)) (drop (i + 1) xs)) ++ found_in (pairs (drop (i + 1) xs))
  pairs_from xs i x low is =
      ap (λ ys. found_in (pairs ys)) (drop_more xs i x low ∙ ap (λ y. y ∷ drop (i + 1) xs) (sym is))
      ∙ found_in-append (map (λ other. (x, other)) (drop (i + 1) xs)) (pairs (drop (i + 1) xs))

  module _ (xs : List A) (i : ℕ) (x : A) (later : List A) (result : Option Ill) (low : i < length xs) (is : x ≡ get_or xs i x)
      (rest : later ≡ drop (i + 1) xs) (says : result ≡ first (found_in (map (λ other. (x, other)) later))) where
    with_rest : result ≡ first (found_in (map (λ other. (x, other)) (drop (i + 1) xs)))
    with_rest = says ∙ ap (λ ys. first (found_in (map (λ other. (x, other)) ys))) rest

    pub pair_here : is_some result ≡ true → result ≡ first (found_in (pairs (drop i xs)))
    pair_here some =
        with_rest
        ∙ sym (first_in_front (found_in (map (λ other. (x, other)) (drop (i + 1) xs))) (found_in (pairs (drop (i + 1) xs)))
        (ap is_some (sym with_rest) ∙ some))
        ∙ sym (ap first (pairs_from xs i x low is))

    pub pair_later : is_some result ≡ false → first (found_in (pairs (drop (i + 1) xs))) ≡ first (found_in (pairs (drop i xs)))
    pair_later none =
        sym (first_behind (found_in (map (λ other. (x, other)) (drop (i + 1) xs))) (found_in (pairs (drop (i + 1) xs)))
        (ap is_some (sym with_rest) ∙ none))
        ∙ sym (ap first (pairs_from xs i x low is))

-- what is made of each two elements, by their places
module _ {A B C : Type 0} (view : A → B) (made : ℕ → B → ℕ → B → List C) where
  abbrev pub of_two : (ℕ × B) × (ℕ × B) → List C
  of_two (one, other) = made one.0 one.1 other.0 other.1

  abbrev later_of : ℕ → B → ℕ × B → List C
  later_of n b (w, other) = made n b w other

  abbrev pub joined_pairs : ℕ → List A → List C
  joined_pairs n xs = flat_map of_two (pairs (enumerate_from n (map view xs)))

  with_each : (n : ℕ) (b : B) (others : List (ℕ × B))
      → flat_map of_two (map (λ other. ((n, b), other)) others) ≡ flat_map (later_of n b) others
  with_each n b [] = refl
  with_each n b (other ∷ others) = ap (λ ys. made n b other.0 other.1 ++ ys) (with_each n b others)

  joined_pairs-more : (xs : List A) (n : ℕ) (x : A) → n < length xs → x ≡ get_or xs n x
      → joined_pairs n (drop n xs) ≡ joined_from view (made n (view x)) (n + 1) (drop (n + 1) xs) ++ joined_pairs (n + 1) (drop (n + 1) xs)
  joined_pairs-more xs n x low is =
      let later = enumerate_from (n + 1) (map view (drop (n + 1) xs)) in
      ap (λ ys. flat_map of_two (pairs (enumerate_from n ys))) (rest_from view xs n x low is)
      ∙ flat_map-append of_two (map (λ other. ((n, view x), other)) later) (pairs later)
      ∙ ap (λ ys. ys ++ joined_pairs (n + 1) (drop (n + 1) xs)) (with_each n (view x) later)

  module _ (xs : List A) (n : ℕ) (x : A) (result : Option C) (low : n < length xs) (is : x ≡ get_or xs n x)
      (says : result ≡ first (joined_from view (made n (view x)) (n + 1) (drop (n + 1) xs))) where
    pub two_here : is_some result ≡ true → result ≡ first (joined_pairs n (drop n xs))
    two_here some =
        says
        ∙ sym (first_in_front (joined_from view (made n (view x)) (n + 1) (drop (n + 1) xs)) (joined_pairs (n + 1) (drop (n + 1) xs)) (ap is_some (sym says) ∙ some))
        ∙ sym (ap first (joined_pairs-more xs n x low is))

    pub two_later : is_some result ≡ false → first (joined_pairs (n + 1) (drop (n + 1) xs)) ≡ first (joined_pairs n (drop n xs))
    two_later none =
        sym (first_behind (joined_from view (made n (view x)) (n + 1) (drop (n + 1) xs)) (joined_pairs (n + 1) (drop (n + 1) xs)) (ap is_some (sym says) ∙ none))
        ∙ sym (ap first (joined_pairs-more xs n x low is))
