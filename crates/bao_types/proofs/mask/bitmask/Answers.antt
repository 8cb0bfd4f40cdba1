use Rattle.std.proofs.Common.{◌<◌, ◌*◌, ◌%◌, ◌^◌, arith}
use Rattle.std.proofs.Math.Nat.{mod-lt}
use Rattle.std.proofs.lemmas.Nat.{pow_pos}
use Rattle.bao_types.proofs.Powers.{ones_below, weight_in_word}
use Rattle.bao_types.proofs.mask.bitmask.Goals as goal

pub rotated-requires-clause-element : goal.rotated-requires-clause-element
rotated-requires-clause-element c =
    let positive : 0 < 1 * 2 ^ c.element_log-log.result % 4294967296 =
    rw (weight_in_word _ c.element_log-log.ensures.bound) (pow_pos c.element_log-log.result) in
    let last : c.args.imms % (1 * 2 ^ c.element_log-log.result % 4294967296) < 1 * 2 ^ c.element_log-log.result % 4294967296 =
    mod-lt c.args.imms positive in
    rw c.weight-ones.ensures (ones_below _ _ (omega arith))
