use Rattle.std.proofs.Common.{◌≡◌, ◌+◌, ◌-◌, ◌%◌, ◌^◌, ◌<◌}
use Rattle.bao_types.specs.Bytes.{bytes_from, little_endian}
use Rattle.phys_bank.specs.Banks.{byte_at}
use Rattle.phys_bank.proofs.banks.Banks.read_across.Given as goal

abbrev pub invariant-loop-k : goal.invariant-loop-k
invariant-loop-k l =
    (l.value ≡ little_endian (bytes_from (byte_at l.self) ((l.at + l.k) % 2 ^ 64) (l.width - l.k))) × (l.value < 256 ^ (l.width - l.k))
