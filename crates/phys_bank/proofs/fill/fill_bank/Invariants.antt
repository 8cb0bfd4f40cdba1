use Rattle.std.proofs.Common.{◌≡◌, ℕ, ◌+◌, ◌<◌, length}
use Rattle.phys_bank.specs.Directory.{page_at, is_page}
use Rattle.phys_bank.specs.Filled.{HasZeroPages, IsEmptyFrom}
use Rattle.phys_bank.specs.Pages.{page_number, is_in_use}
use Rattle.phys_bank.proofs.fill.fill_bank.Given as goal

abbrev pub invariant-loop-number : goal.invariant-loop-number
invariant-loop-number l =
    (length l.directory ≡ length l.fn.directory) × HasZeroPages l.directory × IsEmptyFrom (l.place.first + l.number) l.directory
    × ((k : ℕ) → k < l.number → is_page l.directory (l.place.first + k) ≡ is_in_use l.used (page_number l.place.range k))
    × ((other : ℕ) → other < l.place.first → page_at l.directory other ≡ page_at l.fn.directory other)
