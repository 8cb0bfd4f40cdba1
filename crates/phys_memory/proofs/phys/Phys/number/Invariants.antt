use Rattle.std.proofs.Common.{◌≡◌, ◌+◌, ◌-◌, ◌^◌, ◌<◌, slice_range}
use Rattle.bao_types.specs.Bytes.{little_endian}
use Rattle.phys_memory.proofs.phys.Phys.number.Given as goal

abbrev pub invariant-loop-k : goal.invariant-loop-k
invariant-loop-k l = (l.value ≡ little_endian (slice_range l.self (l.at + l.k) (l.at + l.width))) × (l.value < 256 ^ (l.width - l.k))
