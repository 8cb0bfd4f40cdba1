use Rattle.std.proofs.Common.{◌≡◌, ◌≤◌, vec_len}
use Rattle.std.specs.Vec.{vec_capacity}
use Rattle.phys_bank.proofs.directory.nulls.Given as goal

abbrev pub invariant-loop-count : goal.invariant-loop-count
invariant-loop-count l = (vec_len l.nulls ≡ l._count) × (l.len ≤ vec_capacity l.nulls)
