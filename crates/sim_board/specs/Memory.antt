-- The bytes of a board's memory by address.
use Rattle.std.specs.Prelude.{◌≡◌, ◌⊎◌, ℕ, Option, Some, None}
use Rattle.bao_types.specs.Bytes.{IsWidth}
use Rattle.phys_bank.specs.Banks.{BanksData, byte_at}

-- the bytes that a board keeps; none before it is fitted
abbrev pub held_bytes : Option BanksData → ℕ → ℕ
held_bytes None = λ at. 0
held_bytes (Some memory) = byte_at memory

-- the bytes of an access: those of one element, or of a pair of doublewords; a pair of shorter ones has the bytes of one
abbrev pub IsSpanned : ℕ → Type 0
IsSpanned count = IsWidth count ⊎ (count ≡ 16)
