-- In which order interrupts come: by priority, the least number first, and by id where two are alike (GICv3,
-- "Interrupt prioritization"). Both are one number here, the rank, so that the best interrupt is a least number.
use Rattle.std.specs.Prelude.{ℕ, zero, suc, ◌+◌, ◌*◌, ◌/◌, ◌%◌, min}

-- the rank of an interrupt that may be taken
abbrev pub rank : ℕ → ℕ → ℕ
rank priority id = 128 * priority + id

-- the rank where there is none: it is above every other, and its priority above every 8-bit one
abbrev pub no_rank : ℕ
no_rank = 32768

abbrev pub priority_of : ℕ → ℕ
priority_of rank = rank / 128

abbrev pub id_of : ℕ → ℕ
id_of rank = rank % 128

-- the least rank of the ids below `count`, where `rank_at` tells the rank of each
unfoldable pub least : (ℕ → ℕ) → ℕ → ℕ
least rank_at zero = no_rank
least rank_at (suc count) = min (least rank_at count) (rank_at count)
