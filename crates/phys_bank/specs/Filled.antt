-- A directory while its pages are made. No public clause cites this module.
use Rattle.std.specs.Prelude.{◌≡◌, ℕ, ◌+◌, ◌<◌, ◌≤◌, List, Option, None, length, slice_index, IfSome}
use Rattle.bao_types.specs.declared.range.ByteRange.{ByteRange}
use Rattle.phys_bank.specs.declared.bank_place.BankPlace.{BankPlace}
use Rattle.phys_bank.specs.Directory.{page_at, is_page}
use Rattle.phys_bank.specs.Pages.{page_number, is_in_use}
use Rattle.phys_bank.specs.Places.{page_size, page_count}

-- a page of zeros
pub record IsZeroPage (bytes : List ℕ) : Type 0 where
  pub size : length bytes ≡ page_size
  pub zero : (at : ℕ) → slice_index bytes at ≡ 0

-- each page is one of zeros
abbrev pub HasZeroPages : List (Option (List ℕ)) → Type 0
HasZeroPages pages = (entry : ℕ) → IfSome (page_at pages entry) IsZeroPage

-- from a place on there is no page
abbrev pub IsEmptyFrom : ℕ → List (Option (List ℕ)) → Type 0
IsEmptyFrom from pages = (entry : ℕ) → from ≤ entry → page_at pages entry ≡ None

-- the bank has its pages exactly where some byte of theirs is in use
abbrev pub IsFilled : List ByteRange → List (Option (List ℕ)) → BankPlace → Type 0
IsFilled used pages place =
    (number : ℕ) → number < page_count place.range
    → is_page pages (place.first + number) ≡ is_in_use used (page_number place.range number)
