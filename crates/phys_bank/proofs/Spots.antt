-- What the places of bytes say of each other.
use Rattle.std.proofs.Common.{◌≡◌, ℕ, suc, ◌+◌, ◌-◌, ◌/◌, ◌%◌, ◌<◌, ◌≤◌, ◌⊎◌, inl, inr, Bool, true, false, List, [], ◌∷◌, Some, None, min, refl, sym, ap, ◌∙◌, arith}
use Rattle.std.specs.Prelude.{All, IsFalse, if◌then◌else◌}
use Rattle.std.proofs.lemmas.Bool.Decides.{nat_tests}
use Rattle.std.proofs.lemmas.List.Sums.{sum_by-cons}
use Rattle.bao_types.specs.declared.range.ByteRange.{ByteRange}
use Rattle.bao_types.specs.ByteRange.{is_within, overlaps, address_space_end}
use Rattle.bao_types.proofs.Ranges.{is_within-bounds, is_within-between}
use Rattle.phys_bank.specs.declared.bank_place.BankPlace.{BankPlace}
use Rattle.phys_bank.specs.declared.place.Spot.{Spot}
use Rattle.phys_bank.specs.Places.{page_size, page_count, spot_in, spot_of, ranges_of, total_pages, AreApart, AreLaid}

none_is_not_some : {A : Type 0} {X : Type 0} {x : X} → None ≡ Some x → A
none_is_not_some e = cc

same_spot : {s t : Spot} → Some s ≡ Some t → s ≡ t
same_spot e = cc

true_is_not_false : {A : Type 0} {b : Bool} → b ≡ true → b ≡ false → A
true_is_not_false t f = cc

-- the first bank has the byte, or the ones after it decide
module _ (place : BankPlace) (places : List BankPlace) (at : ℕ) where
  abbrev pub Found : Spot → Type 0
  Found s = ((is_within place.range at ≡ true) × (s ≡ spot_in place at)) ⊎ ((is_within place.range at ≡ false) × (spot_of places at ≡ Some s))

  pub found : (s : Spot) → spot_of (place ∷ places) at ≡ Some s → Found s
  found s e = either (is_within place.range at) refl e
    where
      either : (b : Bool) → is_within place.range at ≡ b → (if b then Some (spot_in place at) else spot_of places at) ≡ Some s → Found s
      either true is f = inl (is, sym (same_spot f))
      either false is f = inr (is, f)

  pub finds_here : is_within place.range at ≡ true → spot_of (place ∷ places) at ≡ Some (spot_in place at)
  finds_here is = ap (λ (b : Bool). if b then Some (spot_in place at) else spot_of places at) is

  pub finds_behind : is_within place.range at ≡ false → spot_of (place ∷ places) at ≡ spot_of places at
  finds_behind is = ap (λ (b : Bool). if b then Some (spot_in place at) else spot_of places at) is

-- the page of a byte of the bank is one of the bank's
pub within_pages : (from size : ℕ) → from < size → from / 4096 < (size + 4095) / 4096
within_pages from size lt = omega arith

pub from_base : (range : ByteRange) (at : ℕ) → is_within range at ≡ true → at - range.base < range.size
from_base range at is = let b = is_within-bounds range at is in omega (arith, b.0, b.1)

pub total-more : (place : BankPlace) (places : List BankPlace) → total_pages (place ∷ places) ≡ page_count place.range + total_pages places
total-more place places = sum_by-cons (λ (p : BankPlace). page_count p.range) place places

-- a spot's place is one of the banks'
pub spot-places : (places : List BankPlace) (next at : ℕ) (s : Spot) → AreLaid next places → spot_of places at ≡ Some s → (next ≤ s.entry) × (s.entry < next + total_pages places)
spot-places [] next at s laid e = none_is_not_some e
spot-places (place ∷ places) next at s laid e = elim (found place places at s e) [
  | inl is ↦ let lt = within_pages (at - place.range.base) place.range.size (from_base place.range at is.0) in let entry = ap (λ t. t.entry) is.1 in (omega (arith, entry, laid.0), omega (arith, entry, laid.0, lt, total-more place places))
  | inr is ↦ let h = spot-places places (next + page_count place.range) at s laid.1 is.1 in (omega (arith, h.0), omega (arith, h.1, total-more place places))
]

inside : (from size offset room : ℕ) → from < size → offset ≡ from % 4096 → room ≡ min (4096 - from % 4096) (size - from) → (offset + room ≤ 4096) × (1 ≤ room)
inside from size offset room lt o r = (grind (arith, o, r), grind (arith, o, r, lt))

-- a spot lies in its page, and has itself for room
pub spot-inside : (places : List BankPlace) (at : ℕ) (s : Spot) → spot_of places at ≡ Some s → (s.offset + s.room ≤ page_size) × (1 ≤ s.room)
spot-inside [] at s e = none_is_not_some e
spot-inside (place ∷ places) at s e = elim (found place places at s e) [
  | inl is ↦ let lt = from_base place.range at is.0 in let offset = ap (λ t. t.offset) is.1 in let room = ap (λ t. t.room) is.1 in inside (at - place.range.base) place.range.size s.offset s.room lt offset room
  | inr is ↦ spot-inside places at s is.1
]

-- a byte that has a spot is below the end of the address space
pub spot-below : (places : List BankPlace) (at : ℕ) (s : Spot) → spot_of places at ≡ Some s → at < address_space_end
spot-below [] at s e = none_is_not_some e
spot-below (place ∷ places) at s e = elim (found place places at s e) [
  | inl is ↦ let b = is_within-bounds place.range at is.0 in let top = place.space in omega (arith, b.1, top)
  | inr is ↦ spot-below places at s is.1
]

-- spots in one page are as far from each other as their bytes
same-quotient : (x y : ℕ) → x / 4096 ≡ y / 4096 → x + y % 4096 ≡ y + x % 4096
same-quotient x y e = omega (arith, e)

pub same-page : (places : List BankPlace) (next a b : ℕ) (s t : Spot) → AreLaid next places → spot_of places a ≡ Some s → spot_of places b ≡ Some t → s.entry ≡ t.entry → a + t.offset ≡ b + s.offset
same-page [] next a b s t laid e f same = none_is_not_some e
same-page (place ∷ places) next a b s t laid e f same = elim (found place places a s e) [
  | inl x ↦ elim (found place places b t f) [
    | inl y ↦ (
        let p = is_within-bounds place.range a x.0 in let q = is_within-bounds place.range b y.0 in let ox = ap (λ u. u.offset) x.1 in let oy = ap (λ u. u.offset) y.1 in
        let ex = ap (λ u. u.entry) x.1 in let ey = ap (λ u. u.entry) y.1 in
        let quotients : (a - place.range.base) / 4096 ≡ (b - place.range.base) / 4096 = omega (arith, ex, ey, same) in
        omega (arith, p.0, q.0, ox, oy, same-quotient (a - place.range.base) (b - place.range.base) quotients))
    | inr y ↦ (
        let h = spot-places places (next + page_count place.range) b t laid.1 y.1 in let lt = within_pages (a - place.range.base) place.range.size (from_base place.range a x.0) in let ex = ap (λ u. u.entry) x.1 in
        absurd (omega (arith, h.0, lt, ex, laid.0, same)))
  ]
  | inr x ↦ elim (found place places b t f) [
    | inl y ↦ (
        let h = spot-places places (next + page_count place.range) a s laid.1 x.1 in let lt = within_pages (b - place.range.base) place.range.size (from_base place.range b y.0) in let ey = ap (λ u. u.entry) y.1 in
        absurd (omega (arith, h.0, lt, ey, laid.0, same)))
    | inr y ↦ same-page places (next + page_count place.range) a b s t laid.1 x.1 y.1 same
  ]
]

-- a byte of one range isn't in another that doesn't overlap it
pub not_in_both : (one other : ByteRange) (at : ℕ) → overlaps one other ≡ false → is_within other at ≡ true → is_within one at ≡ false
not_in_both one other at apart is = grind (arith, nat_tests)

-- the first range is apart from those after it, which are apart from each other
abbrev IsApart : ByteRange → List ByteRange → Type 0
IsApart range ranges = All (λ other. IsFalse (overlaps range other)) ranges

apart-first : (range : ByteRange) (ranges : List ByteRange) → AreApart (range ∷ ranges) → IsApart range ranges
apart-first range ranges apart = λ k d lt. apart 0 (suc k) d (omega arith) (omega (arith, lt))

apart-behind : (range : ByteRange) (ranges : List ByteRange) → AreApart (range ∷ ranges) → AreApart ranges
apart-behind range ranges apart = λ i j d lt within. apart (suc i) (suc j) d (omega (arith, lt)) (omega (arith, within))

-- a byte that has a spot is in a bank, and so in none that the banks don't overlap
not_in_first : (range : ByteRange) (places : List BankPlace) (at : ℕ) (s : Spot) → IsApart range (ranges_of places) → spot_of places at ≡ Some s → is_within range at ≡ false
not_in_first range [] at s apart e = none_is_not_some e
not_in_first range (place ∷ places) at s apart e =
    elim (found place places at s e) [
      | inl is ↦ not_in_both range place.range at (apart 0 place.range (omega arith)) is.0
      | inr is ↦ not_in_first range places at s (λ k d lt. apart (suc k) d (omega (arith, lt))) is.1
    ]

next-quotient : (from k : ℕ) → k < 4096 - from % 4096 → (from + k) / 4096 ≡ from / 4096
next-quotient from k lt = omega (arith, lt)

next-remainder : (from k : ℕ) → k < 4096 - from % 4096 → (from + k) % 4096 ≡ from % 4096 + k
next-remainder from k lt = omega (arith, lt)

room-page : (k from size room : ℕ) → room ≡ min (4096 - from % 4096) (size - from) → k < room → k < 4096 - from % 4096
room-page k from size room r lt = grind (arith, r, lt)

room-bank : (k from size room : ℕ) → room ≡ min (4096 - from % 4096) (size - from) → k < room → k < size - from
room-bank k from size room r lt = grind (arith, r, lt)

-- the bytes that a spot has room for lie in its page, one after the other
abbrev pub Follows : List BankPlace → ℕ → ℕ → Spot → Type 0
Follows places at k s = (t : Spot) × (spot_of places (at + k) ≡ Some t) × (t.entry ≡ s.entry) × (t.offset ≡ s.offset + k)

pub spot-follows : (places : List BankPlace) (at k : ℕ) (s : Spot) → AreApart (ranges_of places) → spot_of places at ≡ Some s → k < s.room → Follows places at k s
spot-follows [] at k s apart e lt = none_is_not_some e
spot-follows (place ∷ places) at k s apart e lt =
    elim (found place places at s e) [
      | inl is ↦ (
          let from = at - place.range.base in let b = is_within-bounds place.range at is.0 in let room = ap (λ t. t.room) is.1 in
          let in_page = room-page k from place.range.size s.room room lt in let in_bank = room-bank k from place.range.size s.room room lt in
          let moved : (at + k) - place.range.base ≡ from + k = omega (arith, b.0) in
          let here = is_within-between place.range (at + k) (omega (arith, b.0)) (omega (arith, b.0, in_bank)) in
          let quotient = ap (λ n. n / 4096) moved ∙ next-quotient from k in_page in let remainder = ap (λ n. n % 4096) moved ∙ next-remainder from k in_page in
          (spot_in place (at + k), finds_here place places (at + k) here, ap (λ n. place.first + n) quotient ∙ sym (ap (λ t. t.entry) is.1), remainder ∙ ap (λ n. n + k) (sym (ap (λ t. t.offset) is.1))))
      | inr is ↦ (
          let h = spot-follows places at k s (apart-behind place.range (ranges_of places) apart) is.1 lt in let behind = not_in_first place.range places (at + k) h.0 (apart-first place.range (ranges_of places) apart) h.1 in
          (h.0, finds_behind place places (at + k) behind ∙ h.1, h.2, h.3))
    ]
