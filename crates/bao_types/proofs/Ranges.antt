-- A byte of a range, by the range's bounds.
use Rattle.std.proofs.Common.{ℕ, ◌<◌, ◌≤◌, arith}
use Rattle.std.specs.Prelude.{IsTrue}
use Rattle.std.proofs.lemmas.Bool.Decides.{nat_tests}
use Rattle.bao_types.specs.declared.range.ByteRange.{ByteRange}
use Rattle.bao_types.specs.ByteRange.{end, is_within}

pub is_within-bounds : (range : ByteRange) (at : ℕ) → IsTrue (is_within range at) → (range.base ≤ at) × (at < end range)
is_within-bounds range at within = (grind (arith, nat_tests), grind (arith, nat_tests))

pub is_within-between : (range : ByteRange) (at : ℕ) → range.base ≤ at → at < end range → IsTrue (is_within range at)
is_within-between range at from before = grind (arith, nat_tests)
