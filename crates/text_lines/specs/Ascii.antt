-- Bytes of text, by their names.
use Rattle.std.specs.Prelude.{ℕ}

abbrev pub line_feed : ℕ
line_feed = 10

abbrev pub blank : ℕ
blank = 32

abbrev pub number_sign : ℕ
number_sign = 35

abbrev pub comma_sign : ℕ
comma_sign = 44

abbrev pub minus_sign : ℕ
minus_sign = 45

abbrev pub colon : ℕ
colon = 58

abbrev pub semicolon : ℕ
semicolon = 59

abbrev pub capital_a : ℕ
capital_a = 65

abbrev pub capital_z : ℕ
capital_z = 90

abbrev pub opening_bracket : ℕ
opening_bracket = 91

abbrev pub closing_bracket : ℕ
closing_bracket = 93

abbrev pub low_line : ℕ
low_line = 95

abbrev pub letter_a : ℕ
letter_a = 97

abbrev pub letter_c : ℕ
letter_c = 99

abbrev pub letter_f : ℕ
letter_f = 102

abbrev pub letter_i : ℕ
letter_i = 105

abbrev pub letter_s : ℕ
letter_s = 115

abbrev pub letter_z : ℕ
letter_z = 122
