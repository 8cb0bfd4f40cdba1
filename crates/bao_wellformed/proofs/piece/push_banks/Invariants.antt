use Rattle.std.proofs.Common.{◌≡◌, ◌++◌, map, take}
use Rattle.bao_wellformed.specs.Rules.{plain}
use Rattle.bao_wellformed.proofs.piece.push_banks.Given as goal

abbrev pub invariant-loop-bank : goal.invariant-loop-bank
invariant-loop-bank l = l.all.items ≡ l.initial.all.items ++ map plain (take l.bank-index l.banks)
