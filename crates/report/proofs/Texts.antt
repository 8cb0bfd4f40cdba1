-- Texts of lists that a loop puts out piece by piece: how it begins, goes on, stops at a failure and ends.
use Rattle.std.proofs.Common.{◌≡◌, ℕ, zero, suc, ◌+◌, ◌-◌, ◌<◌, ◌≤◌, List, [], ◌++◌, length, get_or, drop, refl, arith, add-one, sub-one}
use Rattle.std.proofs.Math.Seq.{drop-cons}
use Rattle.std.proofs.Math.ListN.{drop_of_length-le}
use Rattle.std.specs.Prelude.{Option}
use Rattle.numerals.specs.Hex.{hex}
use Rattle.outside.specs.Sink.{grown, TakesPart}
use Rattle.text_lines.specs.Digits.{hex_bytes}
use Rattle.report.specs.Lines.{nonzero_line, x_name}
use Rattle.report.specs.Registers.{general_text}
use Rattle.report.specs.Groups.{plain_group, groups_text}
use Rattle.report.proofs.Progress.{IsUnderWay, under_way, goes_on, stops, all_taken}

-- the same with what is left written otherwise
rewritten : (start now : Option (List ℕ)) (whole left left' : List ℕ) → left ≡ left' → IsUnderWay start now whole left
    → IsUnderWay start now whole left'
rewritten start now whole left left' same way = rw (← same) way

-- the general registers
module _ (start now : Option (List ℕ)) (values : List ℕ) (n : ℕ) where
  general_next : n < length values
      → general_text n (drop n values) ≡ nonzero_line (x_name n) (get_or values n 0) ++ general_text (n + 1) (drop (n + 1) values)
  unfolding general_text
  general_next low = rw (drop-cons values n 0, add-one) refl

  general_left_none : length values ≤ n → general_text n (drop n values) ≡ []
  unfolding general_text
  general_left_none high = rw (drop_of_length-le values high) refl

  pub general_goes_on : (new : Option (List ℕ)) → n < length values
      → IsUnderWay start now (general_text 0 values) (general_text n (drop n values))
      → new ≡ grown now (nonzero_line (x_name n) (get_or values n 0))
      → IsUnderWay start new (general_text 0 values) (general_text (n + 1) (drop (n + 1) values))
  general_goes_on new low way put = goes_on _ _ _ _ _ _ (rewritten _ _ _ _ _ (general_next low) way) put

  pub general_stops : (new : Option (List ℕ)) → n < length values
      → IsUnderWay start now (general_text 0 values) (general_text n (drop n values))
      → TakesPart now new (nonzero_line (x_name n) (get_or values n 0)) → TakesPart start new (general_text 0 values)
  general_stops new low way part = stops _ _ _ _ _ _ (rewritten _ _ _ _ _ (general_next low) way) part

  pub general_ends : length values ≤ n → IsUnderWay start now (general_text 0 values) (general_text n (drop n values))
      → now ≡ grown start (general_text 0 values)
  general_ends high way = all_taken _ _ _ (rewritten _ _ _ _ _ (general_left_none high) way)

pub general_begins : (start : Option (List ℕ)) (values : List ℕ) → IsUnderWay start start (general_text 0 values) (general_text 0 values)
general_begins start values = under_way start (general_text 0 values)

-- the bytes that a console has put out
module _ (start now : Option (List ℕ)) (bytes : List ℕ) (n : ℕ) where
  byte_next : n < length bytes
      → hex_bytes (drop n bytes) ≡ hex 2 (get_or bytes n 0) ++ hex_bytes (drop (n + 1) bytes)
  unfolding hex_bytes
  byte_next low = rw (drop-cons bytes n 0, add-one) refl

  byte_left_none : length bytes ≤ n → hex_bytes (drop n bytes) ≡ []
  unfolding hex_bytes
  byte_left_none high = rw (drop_of_length-le bytes high) refl

  pub bytes_go_on : (new : Option (List ℕ)) → n < length bytes
      → IsUnderWay start now (hex_bytes bytes) (hex_bytes (drop n bytes)) → new ≡ grown now (hex 2 (get_or bytes n 0))
      → IsUnderWay start new (hex_bytes bytes) (hex_bytes (drop (n + 1) bytes))
  bytes_go_on new low way put = goes_on _ _ _ _ _ _ (rewritten _ _ _ _ _ (byte_next low) way) put

  pub bytes_stop : (new : Option (List ℕ)) → n < length bytes
      → IsUnderWay start now (hex_bytes bytes) (hex_bytes (drop n bytes)) → TakesPart now new (hex 2 (get_or bytes n 0))
      → TakesPart start new (hex_bytes bytes)
  bytes_stop new low way part = stops _ _ _ _ _ _ (rewritten _ _ _ _ _ (byte_next low) way) part

  pub bytes_end : length bytes ≤ n → IsUnderWay start now (hex_bytes bytes) (hex_bytes (drop n bytes))
      → now ≡ grown start (hex_bytes bytes)
  bytes_end high way = all_taken _ _ _ (rewritten _ _ _ _ _ (byte_left_none high) way)

pub bytes_begin : (start : Option (List ℕ)) (bytes : List ℕ) → IsUnderWay start start (hex_bytes bytes) (hex_bytes bytes)
bytes_begin start bytes = under_way start (hex_bytes bytes)

-- groups of 16 bytes of memory
groups_first : (bytes : ℕ → ℕ) (at n : ℕ) → 0 < n
    → groups_text bytes n at ≡ plain_group bytes at ++ groups_text bytes (n - 1) (at + 16)
unfolding groups_text
groups_first bytes at zero some = absurd (omega arith)
groups_first bytes at (suc n) some = rw sub-one refl

module _ (start now : Option (List ℕ)) (bytes : ℕ → ℕ) (whole : List ℕ) (n at : ℕ) where
  group_next : 0 < n → groups_text bytes n at ≡ plain_group bytes at ++ groups_text bytes (n - 1) (at + 16)
  group_next some = groups_first bytes at n some

  group_left_none : n ≡ 0 → groups_text bytes n at ≡ []
  unfolding groups_text
  group_left_none none = rw none refl

  pub groups_go_on : (new : Option (List ℕ)) → 0 < n → IsUnderWay start now whole (groups_text bytes n at)
      → new ≡ grown now (plain_group bytes at) → IsUnderWay start new whole (groups_text bytes (n - 1) (at + 16))
  groups_go_on new some way put = goes_on _ _ _ _ _ _ (rewritten _ _ _ _ _ (group_next some) way) put

  pub groups_stop : (new : Option (List ℕ)) → 0 < n → IsUnderWay start now whole (groups_text bytes n at)
      → TakesPart now new (plain_group bytes at) → TakesPart start new whole
  groups_stop new some way part = stops _ _ _ _ _ _ (rewritten _ _ _ _ _ (group_next some) way) part

  pub groups_end : n ≡ 0 → IsUnderWay start now whole (groups_text bytes n at) → now ≡ grown start whole
  groups_end none way = all_taken _ _ _ (rewritten _ _ _ _ _ (group_left_none none) way)
