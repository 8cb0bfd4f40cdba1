use Rattle.std.proofs.Common.{◌≡◌, ◌+◌, ◌*◌, ◌≤◌, length, take, sum_by}
use Rattle.phys_bank.specs.Places.{AreLaid, ranges_of, total_pages}
use Rattle.phys_bank.proofs.layout.lay_out.Given as goal

abbrev pub invariant-loop-bank : goal.invariant-loop-bank
invariant-loop-bank l =
    (length l.places.items ≡ l.bank-index) × (ranges_of l.places.items ≡ take l.bank-index l.banks) × AreLaid 0 l.places.items × (l.next ≡ total_pages l.places.items)
    × (l.next * 4096 ≤ sum_by (λ bank. bank.size) (take l.bank-index l.banks) + 4095 * l.bank-index)
