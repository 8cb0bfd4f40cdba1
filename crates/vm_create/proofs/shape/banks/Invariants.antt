use Rattle.std.proofs.Common.{◌≡◌, take}
use Rattle.vm_create.proofs.shape.banks.Given as goal

abbrev pub invariant-loop-bank : goal.invariant-loop-bank
invariant-loop-bank l = l.banks.items ≡ take l.bank-index l.bank-items
