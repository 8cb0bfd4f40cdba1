-- Which pages a bank has, and which of them are in use.
use Rattle.std.specs.Prelude.{ℕ, ◌+◌, ◌-◌, ◌*◌, ◌/◌, min, Bool, false, if◌then◌else◌, List, [], ◌∷◌, Option, Some, None}
use Rattle.std.specs.List.{list_any}
use Rattle.bao_types.specs.declared.range.ByteRange.{ByteRange}
use Rattle.bao_types.specs.ByteRange.{is_within, overlaps}
use Rattle.phys_bank.specs.Places.{page_size}

-- a bank's page by number: the first one begins with the bank, and the last one ends with it
abbrev pub page_number : ByteRange → ℕ → ByteRange
page_number bank number =
    record { base = bank.base + number * page_size; size = min page_size (bank.size - number * page_size) }

-- the page that has a byte; the first bank that has the byte decides
abbrev pub page_of : List ByteRange → ℕ → Option ByteRange
page_of [] at = None
page_of (bank ∷ banks) at =
    if is_within bank at then Some (page_number bank ((at - bank.base) / page_size)) else page_of banks at

-- some byte of the page is in use
abbrev pub is_in_use : List ByteRange → ByteRange → Bool
is_in_use used page = list_any (overlaps page) used

-- there is such a page, and some byte of it is in use
abbrev pub is_one_in_use : List ByteRange → Option ByteRange → Bool
is_one_in_use used None = false
is_one_in_use used (Some page) = is_in_use used page

-- the byte has a page of the banks in which some byte is in use
abbrev pub shares_page : List ByteRange → List ByteRange → ℕ → Bool
shares_page banks used at = is_one_in_use used (page_of banks at)
