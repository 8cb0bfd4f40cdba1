use Rattle.std.proofs.Common.{◌≡◌, ◌++◌, ℕ, map, drop}
use Rattle.std.specs.List.{enumerate_from}
use Rattle.bao_wellformed.specs.declared.claim.Claim.{Claim}
use Rattle.bao_wellformed.proofs.claim.push_claims.Given as goal

abbrev pub invariant-loop-item : goal.invariant-loop-item
invariant-loop-item l =
    let claim : ℕ × ℕ → Claim = λ (j, number). record { vm = l.place; item = j; number = number } in
    l.all.items ++ map claim (enumerate_from l.item (drop l.item l.numbers)) ≡ l.initial.all.items ++ map claim (enumerate_from 0 l.numbers)
