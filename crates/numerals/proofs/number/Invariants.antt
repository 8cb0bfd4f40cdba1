use Rattle.std.proofs.Common.{◌≡◌, min, true, take}
use Rattle.std.specs.List.{list_all}
use Rattle.std.specs.Char.{is_ascii_digit}
use Rattle.numerals.specs.Numeral.{value_of}
use Rattle.numerals.proofs.number.Given as goal

abbrev pub invariant-loop-byte : goal.invariant-loop-byte
invariant-loop-byte l = record {
  digits : list_all is_ascii_digit (take l.byte-index l.text) ≡ true;
  value : l.value ≡ min (value_of (take l.byte-index l.text)) 0xffffffffffffffff;
}
