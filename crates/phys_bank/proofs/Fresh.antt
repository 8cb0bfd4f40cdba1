-- Banks as they are made.
use Rattle.std.proofs.Common.{◌≡◌, ℕ, suc, ◌+◌, ◌-◌, ◌*◌, ◌/◌, ◌<◌, ◌≤◌, Bool, true, false, List, [], ◌∷◌, Option, Some, slice_get, refl, sym, ap, subst, arith}
use Rattle.std.specs.Prelude.{IsTrue, All, ◌||◌, if◌then◌else◌}
use Rattle.std.specs.List.{list_any}
use Rattle.std.proofs.lemmas.Bool.Decides.{nat_tests}
use Rattle.std.proofs.lemmas.List.Elements.{All-head, All-tail}
use Rattle.bao_types.specs.declared.range.ByteRange.{ByteRange}
use Rattle.bao_types.specs.ByteRange.{is_within, is_in_one, overlaps, lies_in}
use Rattle.bao_types.proofs.Ranges.{is_within-bounds, is_within-between}
use Rattle.phys_bank.specs.declared.bank_place.BankPlace.{BankPlace}
use Rattle.phys_bank.specs.Banks.{has_page}
use Rattle.phys_bank.specs.Directory.{is_page}
use Rattle.phys_bank.specs.Filled.{IsFilled}
use Rattle.phys_bank.specs.Pages.{page_number, page_of, is_in_use, is_one_in_use, shares_page}
use Rattle.phys_bank.specs.Places.{page_size, spot_in, spot_of, ranges_of}
use Rattle.phys_bank.proofs.Spots.{within_pages, from_base}

-- the pages that are made are those in which some byte is in use
pub kept-in_use : (used : List ByteRange) (pages : List (Option (List ℕ))) (places : List BankPlace) (at : ℕ) → ((i : ℕ) (place : BankPlace) → slice_get places i ≡ Some place → IsFilled used pages place)
    → has_page pages (spot_of places at) ≡ is_one_in_use used (page_of (ranges_of places) at)
kept-in_use used pages [] at filled = refl
kept-in_use used pages (place ∷ places) at filled =
    let behind = kept-in_use used pages places at (λ i p there. filled (suc i) p there) in
    let n = (at - place.range.base) / page_size in
    here (is_within place.range at) refl (λ is. filled 0 place refl n (within_pages (at - place.range.base) place.range.size (from_base place.range at is))) behind
  where
    here : (b : Bool) → is_within place.range at ≡ b
        → (is_within place.range at ≡ true → is_page pages (place.first + (at - place.range.base) / page_size) ≡ is_in_use used (page_number place.range ((at - place.range.base) / page_size)))
        → has_page pages (spot_of places at) ≡ is_one_in_use used (page_of (ranges_of places) at)
        → has_page pages (if b then Some (spot_in place at) else spot_of places at)
        ≡ is_one_in_use used (if b then Some (page_number place.range ((at - place.range.base) / page_size)) else page_of (ranges_of places) at)
    here true is made behind = made is
    here false is made behind = behind

-- one of the used ranges has the byte; it lies in a bank, and each page that overlaps it is in use
abbrev HasByte : List ByteRange → List ByteRange → ℕ → ByteRange → Type 0
HasByte banks used at range =
    IsTrue (is_within range at) × IsTrue (list_any (lies_in range) banks) × ((page : ByteRange) → IsTrue (overlaps page range) → IsTrue (is_in_use used page))

or_right : (b c : Bool) → IsTrue c → IsTrue (b || c)
or_right true c h = refl
or_right false c h = h

range-of : (banks used : List ByteRange) (at : ℕ) → All (λ range. IsTrue (list_any (lies_in range) banks)) used → IsTrue (is_in_one (λ range. range) used at)
    → (range : ByteRange) × HasByte banks used at range
range-of banks [] at lie held = cc
range-of banks (range ∷ used) at lie held =
    first (is_within range at) refl held (range-of banks used at (All-tail (λ r. IsTrue (list_any (lies_in r) banks)) range used lie))
  where
    first : (b : Bool) → is_within range at ≡ b → IsTrue (b || is_in_one (λ r. r) used at)
        → (IsTrue (is_in_one (λ r. r) used at) → (r : ByteRange) × HasByte banks used at r) → (r : ByteRange) × HasByte banks (range ∷ used) at r
    first true is held behind =
        (range, (is, All-head (λ r. IsTrue (list_any (lies_in r) banks)) range used lie, λ page over. ap (λ b. b || list_any (overlaps page) used) over))
    first false is held behind =
        let r = behind held in (r.0, (r.1.0, r.1.1, λ page over. or_right (overlaps page range) (list_any (overlaps page) used) (r.1.2 page over)))

-- the page by number that has a byte of the bank
in_page : (bank : ByteRange) (at : ℕ) → IsTrue (is_within bank at) → IsTrue (is_within (page_number bank ((at - bank.base) / page_size)) at)
in_page bank at is =
    let b = is_within-bounds bank at is in let n = (at - bank.base) / 4096 in
    let low : n * 4096 ≤ at - bank.base = omega arith in let high : at - bank.base < n * 4096 + 4096 = omega arith in
    is_within-between (page_number bank n) at (omega (arith, b.0, low)) (grind (arith, b.0, b.1, low, high))

-- a page was found, and it has the byte
abbrev HasPage : ℕ → Option ByteRange → Type 0
HasPage at found = (page : ByteRange) × ((found ≡ Some page) × IsTrue (is_within page at))

-- where a range lies in one of the banks, each byte of it has a page
page-of : (banks : List ByteRange) (range : ByteRange) (at : ℕ) → IsTrue (is_within range at) → IsTrue (list_any (lies_in range) banks)
    → HasPage at (page_of banks at)
page-of [] range at is lies = cc
page-of (bank ∷ banks) range at is lies = here (is_within bank at) refl (page-of banks range at is)
  where
    behind : is_within bank at ≡ false → (b : Bool) → lies_in range bank ≡ b → IsTrue (b || list_any (lies_in range) banks) → IsTrue (list_any (lies_in range) banks)
    behind out true inside lies = absurd (grind (arith, nat_tests))
    behind out false inside lies = lies

    here : (b : Bool) → is_within bank at ≡ b → (IsTrue (list_any (lies_in range) banks) → HasPage at (page_of banks at))
        → HasPage at (if b then Some (page_number bank ((at - bank.base) / page_size)) else page_of banks at)
    here true in_bank later = (page_number bank ((at - bank.base) / page_size), (refl, in_page bank at in_bank))
    here false out later = later (behind out (lies_in range bank) refl lies)

-- ranges that have a byte in common overlap
share_byte : (one other : ByteRange) (at : ℕ) → IsTrue (is_within one at) → IsTrue (is_within other at) → IsTrue (overlaps one other)
share_byte one other at a b = grind (arith, nat_tests)

-- so each byte of the used ranges has a page, where these lie in banks
pub used-has_page : (banks used : List ByteRange) (at : ℕ) → All (λ range. IsTrue (list_any (lies_in range) banks)) used → IsTrue (is_in_one (λ range. range) used at)
    → IsTrue (shares_page banks used at)
used-has_page banks used at lie held =
    let r = range-of banks used at lie held in let p = page-of banks r.0 at r.1.0 r.1.1 in
    subst (λ page. IsTrue (is_one_in_use used page)) (sym p.1.0) (r.1.2 p.0 (share_byte p.0 r.0 at p.1.1 r.1.0))
