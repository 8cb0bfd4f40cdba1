-- For callers: what lies at each place after a run of n bytes was put at a place, as `write_le` and `copy_in` put it.
use Rattle.std.proofs.Common.{◌≡◌, ℕ, ◌+◌, ◌-◌, ◌<◌, ◌≤◌, List, ◌++◌, length, take, drop, slice_index, ap, ◌∙◌, arith, length-append, length-take, length-drop}
use Rattle.std.proofs.lemmas.List.{get_or_append_left, get_or-append_right, get_or-take, get_or-drop}

module _ (xs ys : List ℕ) (at n : ℕ) (long : length ys ≡ n) (within : at + n ≤ length xs) where
  abbrev put : List ℕ
  put = take at xs ++ ys ++ drop (at + n) xs

  front : length (take at xs) ≡ at
  front = omega (arith, length-take at xs)

  both : length (take at xs ++ ys) ≡ at + n
  both = omega (arith, length-append (take at xs) ys, front)

  pub length-put : length put ≡ length xs
  length-put = omega (arith, length-append (take at xs ++ ys) (drop (at + n) xs), length-drop (at + n) xs, both)

  pub slice_index-put_before : (i : ℕ) → i < at → slice_index put i ≡ slice_index xs i
  slice_index-put_before i lt =
      get_or_append_left (take at xs ++ ys) (drop (at + n) xs) 0 i (omega (arith, both)) ∙ get_or_append_left (take at xs) ys 0 i (omega (arith, front)) ∙ get_or-take at xs i 0 lt

  pub slice_index-put_inside : (i : ℕ) → at ≤ i → i < at + n → slice_index put i ≡ slice_index ys (i - at)
  slice_index-put_inside i le lt =
      get_or_append_left (take at xs ++ ys) (drop (at + n) xs) 0 i (omega (arith, both)) ∙ get_or-append_right (take at xs) ys at i 0 front le

  pub slice_index-put_behind : (i : ℕ) → at + n ≤ i → slice_index put i ≡ slice_index xs i
  slice_index-put_behind i le =
      let same : at + n + (i - (at + n)) ≡ i = omega arith in
      get_or-append_right (take at xs ++ ys) (drop (at + n) xs) (at + n) i 0 both le ∙ get_or-drop (at + n) xs (i - (at + n)) 0 ∙ ap (slice_index xs) same
