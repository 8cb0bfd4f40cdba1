use Rattle.std.proofs.Common.{◌≡◌, ℕ, ◌<◌, Some, length, take, slice_get}
use Rattle.phys_bank.specs.declared.bank_place.BankPlace.{BankPlace}
use Rattle.phys_bank.specs.Filled.{HasZeroPages, IsEmptyFrom, IsFilled}
use Rattle.phys_bank.specs.Places.{total_pages}
use Rattle.phys_bank.proofs.fill.fill.Given as goal

abbrev pub invariant-loop-place : goal.invariant-loop-place
invariant-loop-place l =
    (length l.directory ≡ length l.fn.directory) × HasZeroPages l.directory × IsEmptyFrom (total_pages (take l.place-index l.places)) l.directory
    × ((i : ℕ) (place : BankPlace) → i < l.place-index → slice_get l.places i ≡ Some place → IsFilled l.used l.directory place)
