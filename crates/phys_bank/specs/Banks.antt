-- What a contract sees of `Banks`: the byte at each address, and which bytes are kept.
use Rattle.std.specs.Prelude.{◌≡◌, ℕ, ◌+◌, ◌<◌, ◌≤◌, ◌⊎◌, Bool, false, List, length, Option, Some, None, slice_index, IfSome}
use Rattle.phys_bank.specs.declared.bank_place.BankPlace.{BankPlace}
use Rattle.phys_bank.specs.declared.place.Spot.{Spot}
use Rattle.phys_bank.specs.Directory.{page_at, is_page}
use Rattle.phys_bank.specs.Places.{page_size, spot_of, ranges_of, total_pages, AreApart, AreLaid}

-- the banks with the places of their pages, and the bytes of each page that is there
pub record BanksData : Type 0 where
  pub places : List BankPlace
  pub pages : List (Option (List ℕ))

-- a byte of a page, 0 where there is no page
abbrev pub page_byte : Option (List ℕ) → ℕ → ℕ
page_byte None offset = 0
page_byte (Some bytes) offset = slice_index bytes offset

-- the byte at a spot, 0 where there is no spot
abbrev pub byte_in : List (Option (List ℕ)) → Option Spot → ℕ
byte_in pages None = 0
byte_in pages (Some spot) = page_byte (page_at pages spot.entry) spot.offset

-- the byte at an address, 0 outside the pages
abbrev pub byte_at : BanksData → ℕ → ℕ
byte_at banks at = byte_in banks.pages (spot_of banks.places at)

-- there is a page for the spot
abbrev pub has_page : List (Option (List ℕ)) → Option Spot → Bool
has_page pages None = false
has_page pages (Some spot) = is_page pages spot.entry

-- the byte at an address has a page
abbrev pub is_kept : BanksData → ℕ → Bool
is_kept banks at = has_page banks.pages (spot_of banks.places at)

-- these bytes lie from an address on, all others stay, and no page comes or goes
pub record IsWritten (old new : BanksData) (from : ℕ) (bytes : List ℕ) : Type 0 where
  pub here : (k : ℕ) → k < length bytes → byte_at new (from + k) ≡ slice_index bytes k
  pub others : (at : ℕ) → (at < from) ⊎ (from + length bytes ≤ at) → byte_at new at ≡ byte_at old at
  pub kept : is_kept new ≡ is_kept old

-- the pages lie one after the other, no byte is in two banks, and each page has all its bytes
pub record IsBanks (banks : BanksData) : Type 0 where
  pub laid : AreLaid 0 banks.places
  pub apart : AreApart (ranges_of banks.places)
  pub total : total_pages banks.places ≡ length banks.pages
  pub whole : (entry : ℕ) → IfSome (page_at banks.pages entry) (λ bytes. length bytes ≡ page_size)
