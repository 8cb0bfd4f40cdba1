use Rattle.std.proofs.Common.{◌≤◌, ◌+◌, ◌^◌, arith}
use Rattle.std.proofs.Math.Pow.{pow_mono}
use Rattle.a64_alu.proofs.moves.moved.Goals as goal

pub inverted-requires-clause-value : goal.inverted-requires-clause-value
inverted-requires-clause-value c =
    let room : 2 ^ (c.args.place + 16) ≤ 2 ^ c.args.width = pow_mono c.requires.place in
    omega arith
