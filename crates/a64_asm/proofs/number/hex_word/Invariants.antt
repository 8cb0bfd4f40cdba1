use Rattle.std.proofs.Common.{◌≡◌, ◌^◌, ◌<◌, true, take}
use Rattle.std.specs.List.{list_all}
use Rattle.a64_asm.specs.Number.{is_hex_digit}
use Rattle.a64_asm.proofs.Hex.{hex_value}
use Rattle.a64_asm.proofs.number.hex_word.Given as goal

abbrev pub invariant-loop-byte : goal.invariant-loop-byte
invariant-loop-byte l = record {
  digits : list_all is_hex_digit (take l.byte-index l.text) ≡ true;
  value : l.value ≡ hex_value (take l.byte-index l.text);
  bound : l.value < 16 ^ l.byte-index;
}
