use Rattle.std.proofs.Common.{arith, length-take, ℕ}
use Rattle.outside.proofs.ReaderLemmas.{gives_twice}
use Rattle.outside.proofs.file_shelf.read_to_limit.Goals as goal

pub returns-in_err-extend_from_slice-clause-stops : goal.returns-in_err-extend_from_slice-clause-stops
returns-in_err-extend_from_slice-clause-stops g c =
    gives_twice _ _ _ _ _ _ c.loop-piece.invariant.consumed c.in-Ok.ensures.bytes.0 (grind (arith, length-take {A = ℕ}))
