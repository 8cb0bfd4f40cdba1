-- Where the byte at an address lies among the pages of the banks. Each bank has pages of its own, the first one from the
-- bank's base on, and they have consecutive places in the directory.
use Rattle.std.specs.Prelude.{◌≡◌, ℕ, ◌+◌, ◌-◌, ◌/◌, ◌%◌, min, IsFalse, if◌then◌else◌, List, [], ◌∷◌, map, Option, Some, None, sum_by}
use Rattle.std.specs.List.{AllPairs}
use Rattle.bao_types.specs.declared.range.ByteRange.{ByteRange}
use Rattle.bao_types.specs.ByteRange.{is_within, overlaps}
use Rattle.phys_bank.specs.declared.bank_place.BankPlace.{BankPlace}
use Rattle.phys_bank.specs.declared.place.Spot.{Spot}

-- the bytes of a page
abbrev pub page_size : ℕ
page_size = 4096

-- how many pages have a bank's bytes; the last of them may have fewer
abbrev pub page_count : ByteRange → ℕ
page_count bank = (bank.size + 4095) / page_size

-- no byte is in two of the ranges
abbrev pub AreApart : List ByteRange → Type 0
AreApart ranges = AllPairs (λ one other. IsFalse (overlaps one other)) ranges

-- where a byte of the bank lies: its page's place, its own place in the page, and how many bytes from it on are in the page
-- and in the bank
abbrev pub spot_in : BankPlace → ℕ → Spot
spot_in place at =
    let from : ℕ = at - place.range.base in
    record {
      entry = place.first + from / page_size;
      offset = from % page_size;
      room = min (page_size - from % page_size) (place.range.size - from);
    }

-- the first bank that has the byte decides
abbrev pub spot_of : List BankPlace → ℕ → Option Spot
spot_of [] at = None
spot_of (place ∷ places) at = if is_within place.range at then Some (spot_in place at) else spot_of places at

-- the ranges of the banks
abbrev pub ranges_of : List BankPlace → List ByteRange
ranges_of places = map (λ place. place.range) places

-- how many pages all banks have
abbrev pub total_pages : List BankPlace → ℕ
total_pages places = sum_by (λ place. page_count place.range) places

-- each bank's pages come right after those of the banks before it
abbrev pub AreLaid : ℕ → List BankPlace → Type 0
AreLaid next [] = Unit {0}
AreLaid next (place ∷ places) = (place.first ≡ next) × AreLaid (next + page_count place.range) places
