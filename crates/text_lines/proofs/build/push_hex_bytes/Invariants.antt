use Rattle.std.proofs.Common.{◌≡◌, ◌+◌, ◌*◌, ◌++◌, length, take}
use Rattle.text_lines.specs.Digits.{hex_bytes}
use Rattle.text_lines.proofs.build.push_hex_bytes.Given as goal

abbrev pub invariant-loop-byte : goal.invariant-loop-byte
invariant-loop-byte g l = record {
  text : l.line.items ≡ l.initial.line.items ++ hex_bytes (take l.byte-index l.bytes);
  len : length l.line.items ≡ length l.initial.line.items + 2 * l.byte-index;
}
