-- The classes of words by bits 28 to 25 (ARM DDI 0487, "A64 Instruction Set Encoding"): a word of one class matches no row of
-- another.
use Rattle.std.proofs.Common.{◌≡◌, ◌≢◌, ℕ, Bool, true, false, List, [], ◌∷◌, ◌++◌, refl, ◌∙◌, arith}
use Rattle.std.specs.Prelude.{◌==◌, ◌&&◌}
use Rattle.std.proofs.lemmas.Bool.Decides.{nat_tests}
use Rattle.bao_types.specs.Bits.{field}
use Rattle.a64_decode.specs.Pattern.{Row, matches, first_reading}
use Rattle.a64_decode.specs.Table.{table, branch_rows, system_rows, register_rows, source_rows, load_store_rows, address_row, add_sub_immediate_row, logical_immediate_row, move_wide_row, bitfield_row, extract_row, branch_row, branch_conditional_row, compare_branch_row, test_branch_row, branch_register_row, exception_return_row, exception_row, hint_row, barrier_row, msr_immediate_row, system_row, system_register_row, logical_shifted_row, add_sub_shifted_row, add_sub_extended_row, add_sub_carry_row, conditional_compare_row, conditional_select_row, three_sources_row, two_sources_row, one_source_row}

-- a field with another value
differs : (bits value : ℕ) (rest : Bool) → bits ≢ value → (bits == value) && rest ≡ false
differs bits value rest other = by_test (bits == value) refl
  where
    by_test : (same : Bool) → (bits == value) ≡ same → same && rest ≡ false
    by_test true e = let equal : bits ≡ value = grind (arith, nat_tests) in absurd (other equal)
    by_test false e = refl

-- the parts of the table, each without the rows after it
abbrev immediates : List Row
immediates = address_row ∷ add_sub_immediate_row ∷ logical_immediate_row ∷ move_wide_row ∷ bitfield_row ∷ extract_row ∷ []

abbrev branches : List Row
branches = branch_row ∷ branch_conditional_row ∷ compare_branch_row ∷ test_branch_row ∷ branch_register_row ∷ []

abbrev systems : List Row
systems =
    exception_return_row ∷ exception_row ∷ hint_row ∷ barrier_row ∷ msr_immediate_row ∷ system_row ∷ system_register_row ∷ []

abbrev registers : List Row
registers = logical_shifted_row ∷ add_sub_shifted_row ∷ add_sub_extended_row ∷ add_sub_carry_row ∷ []

abbrev sources : List Row
sources = conditional_compare_row ∷ conditional_select_row ∷ three_sources_row ∷ two_sources_row ∷ one_source_row ∷ []

-- the word matches none of the rows
abbrev MatchesNone : List Row → ℕ → Type 0
MatchesNone [] word = Unit {0}
MatchesNone (row ∷ rows) word = (matches 32 row.parts word ≡ false) × MatchesNone rows word

-- such rows are passed over
pass : (rows rest : List Row) (word : ℕ) → MatchesNone rows word → first_reading (rows ++ rest) word ≡ first_reading rest word
pass [] rest word none = refl
pass (row ∷ rows) rest word none = rw none.0 (pass rows rest word none.1)

-- branches, exceptions and system words
module _ (word : ℕ) (class : field word 28 26 ≡ 0b101) where
  b-address : matches 32 address_row.parts word ≡ false
  unfolding address_row
  b-address = differs (field word 28 24) 0b10000 _ (λ e. omega (arith, e, class))

  b-add_sub_immediate : matches 32 add_sub_immediate_row.parts word ≡ false
  unfolding add_sub_immediate_row
  b-add_sub_immediate = differs (field word 28 23) 0b100010 _ (λ e. omega (arith, e, class))

  b-logical_immediate : matches 32 logical_immediate_row.parts word ≡ false
  unfolding logical_immediate_row
  b-logical_immediate = differs (field word 28 23) 0b100100 _ (λ e. omega (arith, e, class))

  b-move_wide : matches 32 move_wide_row.parts word ≡ false
  unfolding move_wide_row
  b-move_wide = differs (field word 28 23) 0b100101 _ (λ e. omega (arith, e, class))

  b-bitfield : matches 32 bitfield_row.parts word ≡ false
  unfolding bitfield_row
  b-bitfield = differs (field word 28 23) 0b100110 _ (λ e. omega (arith, e, class))

  b-extract : matches 32 extract_row.parts word ≡ false
  unfolding extract_row
  b-extract = differs (field word 30 23) 0b00100111 _ (λ e. omega (arith, e, class))

  pub branch : first_reading table word ≡ first_reading branch_rows word
  unfolding table
  branch =
      pass immediates branch_rows word
      (b-address, (b-add_sub_immediate, (b-logical_immediate, (b-move_wide, (b-bitfield, (b-extract, tt))))))

-- data processing on registers
module _ (word : ℕ) (class : field word 27 25 ≡ 0b101) where
  r-address : matches 32 address_row.parts word ≡ false
  unfolding address_row
  r-address = differs (field word 28 24) 0b10000 _ (λ e. omega (arith, e, class))

  r-add_sub_immediate : matches 32 add_sub_immediate_row.parts word ≡ false
  unfolding add_sub_immediate_row
  r-add_sub_immediate = differs (field word 28 23) 0b100010 _ (λ e. omega (arith, e, class))

  r-logical_immediate : matches 32 logical_immediate_row.parts word ≡ false
  unfolding logical_immediate_row
  r-logical_immediate = differs (field word 28 23) 0b100100 _ (λ e. omega (arith, e, class))

  r-move_wide : matches 32 move_wide_row.parts word ≡ false
  unfolding move_wide_row
  r-move_wide = differs (field word 28 23) 0b100101 _ (λ e. omega (arith, e, class))

  r-bitfield : matches 32 bitfield_row.parts word ≡ false
  unfolding bitfield_row
  r-bitfield = differs (field word 28 23) 0b100110 _ (λ e. omega (arith, e, class))

  r-extract : matches 32 extract_row.parts word ≡ false
  unfolding extract_row
  r-extract = differs (field word 30 23) 0b00100111 _ (λ e. omega (arith, e, class))

  r-branch : matches 32 branch_row.parts word ≡ false
  unfolding branch_row
  r-branch = differs (field word 30 26) 0b00101 _ (λ e. omega (arith, e, class))

  r-branch_conditional : matches 32 branch_conditional_row.parts word ≡ false
  unfolding branch_conditional_row
  r-branch_conditional = differs (field word 31 24) 0b01010100 _ (λ e. omega (arith, e, class))

  r-compare_branch : matches 32 compare_branch_row.parts word ≡ false
  unfolding compare_branch_row
  r-compare_branch = differs (field word 30 25) 0b011010 _ (λ e. omega (arith, e, class))

  r-test_branch : matches 32 test_branch_row.parts word ≡ false
  unfolding test_branch_row
  r-test_branch = differs (field word 30 25) 0b011011 _ (λ e. omega (arith, e, class))

  r-branch_register : matches 32 branch_register_row.parts word ≡ false
  unfolding branch_register_row
  r-branch_register = differs (field word 31 23) 0b110101100 _ (λ e. omega (arith, e, class))

  r-exception_return : matches 32 exception_return_row.parts word ≡ false
  unfolding exception_return_row
  r-exception_return = differs (field word 31 0) 0xD69F03E0 _ (λ e. omega (arith, e, class))

  r-exception : matches 32 exception_row.parts word ≡ false
  unfolding exception_row
  r-exception = differs (field word 31 22) 0b1101010000 _ (λ e. omega (arith, e, class))

  r-hint : matches 32 hint_row.parts word ≡ false
  unfolding hint_row
  r-hint = differs (field word 31 12) 0b11010101000000110010 _ (λ e. omega (arith, e, class))

  r-barrier : matches 32 barrier_row.parts word ≡ false
  unfolding barrier_row
  r-barrier = differs (field word 31 12) 0b11010101000000110011 _ (λ e. omega (arith, e, class))

  r-msr_immediate : matches 32 msr_immediate_row.parts word ≡ false
  unfolding msr_immediate_row
  r-msr_immediate = differs (field word 31 19) 0b1101010100000 _ (λ e. omega (arith, e, class))

  r-system : matches 32 system_row.parts word ≡ false
  unfolding system_row
  r-system = differs (field word 31 19) 0b1101010100001 _ (λ e. omega (arith, e, class))

  r-system_register : matches 32 system_register_row.parts word ≡ false
  unfolding system_register_row
  r-system_register = differs (field word 31 22) 0b1101010100 _ (λ e. omega (arith, e, class))

  pub register : first_reading table word ≡ first_reading register_rows word
  unfolding table branch_rows system_rows
  register =
      pass immediates branch_rows word
      (r-address, (r-add_sub_immediate, (r-logical_immediate, (r-move_wide, (r-bitfield, (r-extract, tt))))))
      ∙ pass branches system_rows word
      (r-branch, (r-branch_conditional, (r-compare_branch, (r-test_branch, (r-branch_register, tt)))))
      ∙ pass systems register_rows word
      (r-exception_return, (r-exception, (r-hint, (r-barrier, (r-msr_immediate, (r-system, (r-system_register, tt)))))))

-- loads and stores
module _ (word : ℕ) (memory : field word 27 27 ≡ 1) (even : field word 25 25 ≡ 0) where
  l-address : matches 32 address_row.parts word ≡ false
  unfolding address_row
  l-address = differs (field word 28 24) 0b10000 _ (λ e. omega (arith, e, memory, even))

  l-add_sub_immediate : matches 32 add_sub_immediate_row.parts word ≡ false
  unfolding add_sub_immediate_row
  l-add_sub_immediate = differs (field word 28 23) 0b100010 _ (λ e. omega (arith, e, memory, even))

  l-logical_immediate : matches 32 logical_immediate_row.parts word ≡ false
  unfolding logical_immediate_row
  l-logical_immediate = differs (field word 28 23) 0b100100 _ (λ e. omega (arith, e, memory, even))

  l-move_wide : matches 32 move_wide_row.parts word ≡ false
  unfolding move_wide_row
  l-move_wide = differs (field word 28 23) 0b100101 _ (λ e. omega (arith, e, memory, even))

  l-bitfield : matches 32 bitfield_row.parts word ≡ false
  unfolding bitfield_row
  l-bitfield = differs (field word 28 23) 0b100110 _ (λ e. omega (arith, e, memory, even))

  l-extract : matches 32 extract_row.parts word ≡ false
  unfolding extract_row
  l-extract = differs (field word 30 23) 0b00100111 _ (λ e. omega (arith, e, memory, even))

  l-branch : matches 32 branch_row.parts word ≡ false
  unfolding branch_row
  l-branch = differs (field word 30 26) 0b00101 _ (λ e. omega (arith, e, memory, even))

  l-branch_conditional : matches 32 branch_conditional_row.parts word ≡ false
  unfolding branch_conditional_row
  l-branch_conditional = differs (field word 31 24) 0b01010100 _ (λ e. omega (arith, e, memory, even))

  l-compare_branch : matches 32 compare_branch_row.parts word ≡ false
  unfolding compare_branch_row
  l-compare_branch = differs (field word 30 25) 0b011010 _ (λ e. omega (arith, e, memory, even))

  l-test_branch : matches 32 test_branch_row.parts word ≡ false
  unfolding test_branch_row
  l-test_branch = differs (field word 30 25) 0b011011 _ (λ e. omega (arith, e, memory, even))

  l-branch_register : matches 32 branch_register_row.parts word ≡ false
  unfolding branch_register_row
  l-branch_register = differs (field word 31 23) 0b110101100 _ (λ e. omega (arith, e, memory, even))

  l-exception_return : matches 32 exception_return_row.parts word ≡ false
  unfolding exception_return_row
  l-exception_return = differs (field word 31 0) 0xD69F03E0 _ (λ e. omega (arith, e, memory, even))

  l-exception : matches 32 exception_row.parts word ≡ false
  unfolding exception_row
  l-exception = differs (field word 31 22) 0b1101010000 _ (λ e. omega (arith, e, memory, even))

  l-hint : matches 32 hint_row.parts word ≡ false
  unfolding hint_row
  l-hint = differs (field word 31 12) 0b11010101000000110010 _ (λ e. omega (arith, e, memory, even))

  l-barrier : matches 32 barrier_row.parts word ≡ false
  unfolding barrier_row
  l-barrier = differs (field word 31 12) 0b11010101000000110011 _ (λ e. omega (arith, e, memory, even))

  l-msr_immediate : matches 32 msr_immediate_row.parts word ≡ false
  unfolding msr_immediate_row
  l-msr_immediate = differs (field word 31 19) 0b1101010100000 _ (λ e. omega (arith, e, memory, even))

  l-system : matches 32 system_row.parts word ≡ false
  unfolding system_row
  l-system = differs (field word 31 19) 0b1101010100001 _ (λ e. omega (arith, e, memory, even))

  l-system_register : matches 32 system_register_row.parts word ≡ false
  unfolding system_register_row
  l-system_register = differs (field word 31 22) 0b1101010100 _ (λ e. omega (arith, e, memory, even))

  l-logical_shifted : matches 32 logical_shifted_row.parts word ≡ false
  unfolding logical_shifted_row
  l-logical_shifted = differs (field word 28 24) 0b01010 _ (λ e. omega (arith, e, memory, even))

  l-add_sub_shifted : matches 32 add_sub_shifted_row.parts word ≡ false
  unfolding add_sub_shifted_row
  l-add_sub_shifted = differs (field word 28 24) 0b01011 _ (λ e. omega (arith, e, memory, even))

  l-add_sub_extended : matches 32 add_sub_extended_row.parts word ≡ false
  unfolding add_sub_extended_row
  l-add_sub_extended = differs (field word 28 21) 0b01011001 _ (λ e. omega (arith, e, memory, even))

  l-add_sub_carry : matches 32 add_sub_carry_row.parts word ≡ false
  unfolding add_sub_carry_row
  l-add_sub_carry = differs (field word 28 21) 0b11010000 _ (λ e. omega (arith, e, memory, even))

  l-conditional_compare : matches 32 conditional_compare_row.parts word ≡ false
  unfolding conditional_compare_row
  l-conditional_compare = differs (field word 29 21) 0b111010010 _ (λ e. omega (arith, e, memory, even))

  l-conditional_select : matches 32 conditional_select_row.parts word ≡ false
  unfolding conditional_select_row
  l-conditional_select = differs (field word 29 21) 0b011010100 _ (λ e. omega (arith, e, memory, even))

  l-three_sources : matches 32 three_sources_row.parts word ≡ false
  unfolding three_sources_row
  l-three_sources = differs (field word 30 24) 0b0011011 _ (λ e. omega (arith, e, memory, even))

  l-two_sources : matches 32 two_sources_row.parts word ≡ false
  unfolding two_sources_row
  l-two_sources = differs (field word 30 21) 0b0011010110 _ (λ e. omega (arith, e, memory, even))

  l-one_source : matches 32 one_source_row.parts word ≡ false
  unfolding one_source_row
  l-one_source = differs (field word 30 16) 0b101101011000000 _ (λ e. omega (arith, e, memory, even))

  pub loads : first_reading table word ≡ first_reading load_store_rows word
  unfolding table branch_rows system_rows register_rows source_rows
  loads =
      pass immediates branch_rows word
      (l-address, (l-add_sub_immediate, (l-logical_immediate, (l-move_wide, (l-bitfield, (l-extract, tt))))))
      ∙ pass branches system_rows word
      (l-branch, (l-branch_conditional, (l-compare_branch, (l-test_branch, (l-branch_register, tt)))))
      ∙ pass systems register_rows word
      (l-exception_return, (l-exception, (l-hint, (l-barrier, (l-msr_immediate, (l-system, (l-system_register, tt)))))))
      ∙ pass registers source_rows word
      (l-logical_shifted, (l-add_sub_shifted, (l-add_sub_extended, (l-add_sub_carry, tt))))
      ∙ pass sources load_store_rows word
      (l-conditional_compare, (l-conditional_select, (l-three_sources, (l-two_sources, (l-one_source, tt)))))
