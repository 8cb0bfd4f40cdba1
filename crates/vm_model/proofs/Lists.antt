-- Facts on lists that the model's steps need.
use Rattle.std.proofs.Common.{◌≡◌, ◌≢◌, ℕ, zero, suc, ◌+◌, ◌<◌, ◌≤◌, Bool, true, false, List, [], ◌∷◌, length, map, get_or, set, refl, sym, ap, ◌∙◌, arith}
use Rattle.std.specs.Prelude.{IsTrue, ◌==◌, nat_lt, Some, if◌then◌else◌, slice_get}
use Rattle.std.specs.List.{find, position_from, enumerate_from}
use Rattle.std.proofs.lemmas.Bool.{eq-eqb}
use Rattle.std.proofs.lemmas.Bool.Decides.{nat_tests}
use Rattle.std.proofs.lemmas.List.{get_or-set_same, get_or-set_other, set_past}
use Rattle.bao_config.specs.Data.{VmData}
use Rattle.vm_model.specs.Cores.{is_place}

-- the first one that passes, by its place
pub record IsFound (p : VmData → Bool) (xs : List VmData) (i v : ℕ) : Type 0 where
  pub index : ℕ
  pub element : VmData
  pub place : v ≡ i + index
  pub got : slice_get xs index ≡ Some element
  pub first : find p xs ≡ Some element
  pub passes : IsTrue (p element)

found : (p : VmData → Bool) (xs : List VmData) (i v : ℕ) → IsTrue (is_place v (position_from p i xs)) → IsFound p xs i v
found p [] i v h = cc
found p (x ∷ xs) i v h = by_test (p x) refl h (found p xs (i + 1) v)
  where
    by_test : (b : Bool) → p x ≡ b
        → IsTrue (is_place v (if b then Some i else position_from p (i + 1) xs))
        → (IsTrue (is_place v (position_from p (i + 1) xs)) → IsFound p xs (i + 1) v) → IsFound p (x ∷ xs) i v
    by_test true e h rest = record {
      index = 0;
      element = x;
      place = grind (arith, nat_tests);
      got = refl;
      first = rw e refl;
      passes = e;
    }
    by_test false e h rest =
        let r = rest h in
        record {
          index = suc r.index;
          element = r.element;
          place = omega (arith, r.place);
          got = r.got;
          first = rw e r.first;
          passes = r.passes;
        }

pub first_by_place : (p : VmData → Bool) (xs : List VmData) (v : ℕ) (x : VmData) → slice_get xs v ≡ Some x
    → IsTrue (is_place v (position_from p 0 xs)) → (find p xs ≡ Some x) × IsTrue (p x)
first_by_place p xs v x got h =
    let r = found p xs 0 v h in
    let same : slice_get xs v ≡ slice_get xs r.index = ap (slice_get xs) (omega (arith, r.place)) in
    let element : r.element ≡ x = (let e : Some r.element ≡ Some x = sym r.got ∙ sym same ∙ got in cc) in
    (r.first ∙ ap Some element, ap p (sym element) ∙ r.passes)

-- what stands at the place of the first one that passes
pub placed_got : (p : VmData → Bool) (xs : List VmData) (v : ℕ) → position_from p 0 xs ≡ Some v
    → (x : VmData) × (slice_get xs v ≡ Some x) × IsTrue (p x)
placed_got p xs v e =
    let r = found p xs 0 v (ap (is_place v) e ∙ eq-eqb v v refl) in
    (r.element, ap (slice_get xs) (let i = r.place in omega (arith, i)) ∙ r.got, r.passes)

-- the first one that passes stands at a place
pub found_got : {A : Type 0} (p : A → Bool) (xs : List A) (x : A) → find p xs ≡ Some x
    → (place : ℕ) × (slice_get xs place ≡ Some x) × IsTrue (p x)
found_got p [] x e = cc
found_got {A} p (y ∷ ys) x e = by_test (p y) refl e (found_got p ys x)
  where
    by_test : (b : Bool) → p y ≡ b → (if b then Some y else find p ys) ≡ Some x
        → (find p ys ≡ Some x → (place : ℕ) × (slice_get ys place ≡ Some x) × IsTrue (p x))
        → (place : ℕ) × (slice_get (y ∷ ys) place ≡ Some x) × IsTrue (p x)
    by_test true t e rest = let same : y ≡ x = cc in (0, e, ap p (sym same) ∙ t)
    by_test false t e rest = let r = rest e in (suc r.0, r.1, r.2)

-- the same write to two lists that are equal at a place
module _ {A : Type 0} (xs ys : List A) (i j : ℕ) (y d : A) (long : length xs ≡ length ys) where
  pub set_alike : get_or xs j d ≡ get_or ys j d → get_or (set xs i y) j d ≡ get_or (set ys i y) j d
  set_alike same = by_place (j == i) (nat_lt i (length xs)) refl refl
    where
      by_place : (here low : Bool) → (j == i) ≡ here → nat_lt i (length xs) ≡ low
          → get_or (set xs i y) j d ≡ get_or (set ys i y) j d
      by_place false low e l =
          let other : j ≢ i = grind (arith, nat_tests) in
          get_or-set_other xs i j y d other ∙ same ∙ sym (get_or-set_other ys i j y d other)
      by_place true true e l =
          let at : j ≡ i = grind (arith, nat_tests) in let lx : i < length xs = grind (arith, nat_tests) in
          let ly : i < length ys = omega (arith, lx, long) in
          ap (λ k. get_or (set xs i y) k d) at ∙ get_or-set_same xs i y d lx
          ∙ sym (ap (λ k. get_or (set ys i y) k d) at ∙ get_or-set_same ys i y d ly)
      by_place true false e l =
          let lx : length xs ≤ i = grind (arith, nat_tests) in let ly : length ys ≤ i = omega (arith, lx, long) in
          ap (λ zs. get_or zs j d) (set_past xs i y lx) ∙ same ∙ sym (ap (λ zs. get_or zs j d) (set_past ys i y ly))

-- what stands at a place after the same write to two lists that are equal there and at the place that is written
pub set_get_alike : {A : Type 0} (xs ys : List A) (i j : ℕ) (y : A) → slice_get xs i ≡ slice_get ys i
    → slice_get xs j ≡ slice_get ys j → slice_get (set xs i y) j ≡ slice_get (set ys i y) j
set_get_alike [] [] i j y here there = refl
set_get_alike [] (b ∷ bs) zero j y here there = cc
set_get_alike [] (b ∷ bs) (suc i) zero y here there = cc
set_get_alike [] (b ∷ bs) (suc i) (suc j) y here there = set_get_alike [] bs i j y here there
set_get_alike (a ∷ xs) [] zero j y here there = cc
set_get_alike (a ∷ xs) [] (suc i) zero y here there = cc
set_get_alike (a ∷ xs) [] (suc i) (suc j) y here there = set_get_alike xs [] i j y here there
set_get_alike (a ∷ xs) (b ∷ bs) zero zero y here there = refl
set_get_alike (a ∷ xs) (b ∷ bs) zero (suc j) y here there = there
set_get_alike (a ∷ xs) (b ∷ bs) (suc i) zero y here there = there
set_get_alike (a ∷ xs) (b ∷ bs) (suc i) (suc j) y here there = set_get_alike xs bs i j y here there

-- and at another place
pub set_get_other : {A : Type 0} (xs : List A) (i j : ℕ) (y : A) → j ≢ i → slice_get (set xs i y) j ≡ slice_get xs j
set_get_other [] i j y other = refl
set_get_other (x ∷ xs) zero zero y other = absurd (other refl)
set_get_other (x ∷ xs) zero (suc j) y other = refl
set_get_other (x ∷ xs) (suc i) zero y other = refl
set_get_other (x ∷ xs) (suc i) (suc j) y other = set_get_other xs i j y (λ same. other (ap suc same))

-- what is made of each place of a list
module _ {Y : Type 0} (f g : ℕ → Y) where
  here : (n : ℕ) → f (n + 0) ≡ g (n + 0) → f n ≡ g n
  here n same = let e : n + 0 ≡ n = omega arith in sym (ap f e) ∙ same ∙ ap g e

  pub mapped_get_or : (xs : List ℕ) (n c : ℕ) (d : Y) → f (n + c) ≡ g (n + c)
      → get_or (map (λ p. f p.0) (enumerate_from n xs)) c d ≡ get_or (map (λ p. g p.0) (enumerate_from n xs)) c d
  mapped_get_or [] n c d same = refl
  mapped_get_or (x ∷ xs) n zero d same = here n same
  mapped_get_or (x ∷ xs) n (suc c) d same =
      mapped_get_or xs (n + 1) c d (let e : n + 1 + c ≡ n + suc c = omega arith in ap f e ∙ same ∙ sym (ap g e))

  pub mapped_slice_get : (xs : List ℕ) (n c : ℕ) → f (n + c) ≡ g (n + c)
      → slice_get (map (λ p. f p.0) (enumerate_from n xs)) c ≡ slice_get (map (λ p. g p.0) (enumerate_from n xs)) c
  mapped_slice_get [] n c same = refl
  mapped_slice_get (x ∷ xs) n zero same = ap Some (here n same)
  mapped_slice_get (x ∷ xs) n (suc c) same =
      mapped_slice_get xs (n + 1) c (let e : n + 1 + c ≡ n + suc c = omega arith in ap f e ∙ same ∙ sym (ap g e))
