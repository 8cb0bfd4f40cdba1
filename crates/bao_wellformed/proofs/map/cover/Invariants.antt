use Rattle.std.proofs.Common.{◌≡◌, take}
use Rattle.bao_wellformed.specs.ByteRules.{cover}
use Rattle.bao_wellformed.proofs.map.cover.Given as goal

abbrev pub invariant-loop-entry : goal.invariant-loop-entry
invariant-loop-entry l = l.found ≡ cover (take l.entry-index l.entries) l.at
