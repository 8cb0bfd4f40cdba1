use Rattle.std.proofs.Common.{◌≡◌, drop, fold}
use Rattle.bao_wellformed.specs.ByteRules.{bounds_of, tried}
use Rattle.bao_wellformed.proofs.byte_rules.tried_bounds.Given as goal

abbrev pub invariant-loop-entry : goal.invariant-loop-entry
invariant-loop-entry g l =
    fold (tried (g.T.ByteTest.test l.test)) l.least (bounds_of (drop l.entry-index l.entries))
    ≡ fold (tried (g.T.ByteTest.test l.test)) l.fn.found (bounds_of l.entries)
