use Rattle.std.proofs.Common.{◌≡◌, nat_lt, filter, drop}
use Rattle.bao_types.specs.ByteRange.{address_space_end, end}
use Rattle.bao_wellformed.proofs.platform_rules.first_outside.Given as goal

abbrev pub invariant-loop-range : goal.invariant-loop-range
invariant-loop-range l =
    filter (λ range. nat_lt address_space_end (end range)) (drop l.range-index l.ranges)
    ≡ filter (λ range. nat_lt address_space_end (end range)) l.ranges
