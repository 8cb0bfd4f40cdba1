-- Banks whose pages lie one after the other.
use Rattle.std.proofs.Common.{◌≡◌, ℕ, zero, suc, ◌+◌, ◌*◌, ◌/◌, ◌<◌, ◌≤◌, List, [], ◌∷◌, ◌++◌, Some, length, take, get_or, slice_get, refl, sym, ap, ◌∙◌, arith}
use Rattle.std.proofs.lemmas.List.Sums.{sum_by-append, sum_by_more, sum_by-take-le}
use Rattle.std.proofs.lemmas.Option.{get_or_from_slice_get}
use Rattle.bao_types.specs.declared.range.ByteRange.{ByteRange}
use Rattle.phys_bank.specs.declared.bank_place.BankPlace.{BankPlace}
use Rattle.phys_bank.specs.Places.{page_count, total_pages, AreLaid, ranges_of}
use Rattle.phys_bank.proofs.Spots.{total-more}

-- a bank's first place is how many pages the banks before it have
laid-at : (places : List BankPlace) (next i : ℕ) (d : BankPlace) → AreLaid next places → i < length places → (get_or places i d).first ≡ next + total_pages (take i places)
laid-at [] next i d laid lt = absurd (omega (arith, lt))
laid-at (place ∷ places) next zero d laid lt = omega (arith, laid.0)
laid-at (place ∷ places) next (suc i) d laid lt = omega (arith, laid-at places (next + page_count place.range) i d laid.1 (omega (arith, lt)), total-more place (take i places))

pub first-at : (places : List BankPlace) (i : ℕ) (place : BankPlace) → AreLaid 0 places → i < length places → place ≡ get_or places i place → place.first ≡ total_pages (take i places)
first-at places i place laid lt is = omega (arith, ap (λ p. p.first) is, laid-at places 0 i place laid lt)

-- and the banks up to it have its own ones too
pub total-up_to : (places : List BankPlace) (i : ℕ) (place : BankPlace) → i < length places → place ≡ get_or places i place → total_pages (take (i + 1) places) ≡ total_pages (take i places) + page_count place.range
total-up_to places i place lt is = sum_by_more (λ (p : BankPlace). page_count p.range) places i place lt ∙ ap (λ p. total_pages (take i places) + page_count p.range) (sym is)

pub total-at_most : (places : List BankPlace) (i : ℕ) → total_pages (take i places) ≤ total_pages places
total-at_most places i = sum_by-take-le (λ (p : BankPlace). page_count p.range) places i

-- more banks have more pages
total-mono : (places : List BankPlace) (j i : ℕ) → j ≤ i → total_pages (take j places) ≤ total_pages (take i places)
total-mono places j zero le = let none : j ≡ 0 = omega (arith, le) in let e = ap (λ k. total_pages (take k places)) none in omega (arith, e)
total-mono [] zero (suc i) le = omega arith
total-mono [] (suc j) (suc i) le = omega arith
total-mono (place ∷ places) zero (suc i) le = omega arith
total-mono (place ∷ places) (suc j) (suc i) le = omega (arith, total-mono places j i (omega (arith, le)), total-more place (take j places), total-more place (take i places))

-- the banks before the i-th have their places before its own
pub laid-before : (places : List BankPlace) (j i : ℕ) (place : BankPlace) → AreLaid 0 places → j < i → i ≤ length places → slice_get places j ≡ Some place → place.first + page_count place.range ≤ total_pages (take i places)
laid-before places j i place laid lt le there =
    let is : place ≡ get_or places j place = sym (get_or_from_slice_get places j place place there) in
    omega (arith, first-at places j place laid (omega (arith, lt, le)) is, total-up_to places j place (omega (arith, lt, le)) is, total-mono places (j + 1) i (omega (arith, lt)))

-- one more bank after them
pub laid-more : (places : List BankPlace) (next : ℕ) (place : BankPlace) → AreLaid next places → place.first ≡ next + total_pages places → AreLaid next (places ++ place ∷ [])
laid-more [] next place laid first = (omega (arith, first), tt)
laid-more (p ∷ ps) next place laid first = (laid.0, laid-more ps (next + page_count p.range) place laid.1 (omega (arith, first, total-more p ps)))

pub total-behind : (places : List BankPlace) (place : BankPlace) → total_pages (places ++ place ∷ []) ≡ total_pages places + page_count place.range
total-behind places place = omega (arith, sum_by-append (λ (p : BankPlace). page_count p.range) places (place ∷ []), total-more place [])

pub next-total : (old new : List BankPlace) (place : BankPlace) → new ≡ old ++ place ∷ [] → total_pages new ≡ total_pages old + page_count place.range
next-total old new place put = ap total_pages put ∙ total-behind old place

pub ranges-more : (places : List BankPlace) (place : BankPlace) (banks : List ByteRange) → ranges_of places ≡ banks → ranges_of (places ++ place ∷ []) ≡ banks ++ place.range ∷ []
ranges-more [] place banks e = ap (λ rs. rs ++ place.range ∷ []) e
ranges-more (p ∷ ps) place banks e = ap (λ rs. p.range ∷ rs) (ranges-more ps place (ranges_of ps) refl) ∙ ap (λ rs. rs ++ place.range ∷ []) e

-- a page has its bytes, but for the last one of a bank
pub pages-fit : (size : ℕ) → (size + 4095) / 4096 * 4096 ≤ size + 4095
pages-fit size = omega arith
