-- A word which decodes to an instruction is its word.
use Rattle.std.proofs.Common.{◌≡◌, ◌<◌, ℕ, ◌+◌, ◌-◌, ◌*◌, ◌/◌, ◌%◌, ◌^◌, true, false, not, ◌||◌, refl, subst, arith, eqb, ltb, lit<}
use Rattle.std.proofs.lemmas.Bool.Decides.{nat_tests}
use Rattle.bao_types.specs.Bits.{field}
use Rattle.a64_decode.specs.Pattern.{Row, matches, free_fields}
use Rattle.a64_decode.specs.Operands.{flag}
use Rattle.a64_decode.specs.Table.{address_row, add_sub_immediate_row, logical_immediate_row, move_wide_row, bitfield_row, extract_row, branch_row, branch_conditional_row, compare_branch_row, test_branch_row, branch_register_row, exception_return_row, exception_row, hint_row, barrier_row, msr_immediate_row, system_row, system_register_row, logical_shifted_row, add_sub_shifted_row, add_sub_extended_row, add_sub_carry_row, conditional_compare_row, conditional_select_row, three_sources_row, two_sources_row, one_source_row, load_literal_row, pair_row, load_store_unsigned_row, load_store_indexed_row, load_store_register_row}
use Rattle.a64_decode.specs.Codes.{bit}
use Rattle.a64_decode.specs.Word.{fields_of, row_of, word_of}
use Rattle.a64_decode.proofs.Words.{field_below, join_whole}
use Rattle.a64_decode.proofs.Numbers.{bit-flag, size_bit-flag, condition-number, shift-number, extend-number, logical-number, move-number, bitfield-number, branch-number, barrier-number, two_source-number, one_source-number, literal-number, pair-number, mode-number, index-number, scale-number, transfer-number, select-op, select-o2, product-op31, product-o0, exception-brk, exception-ll, pstate-op1, pstate-op2, operand-i, operand-bits, unsigned-sign_extend}

-- each word that the row reads is the word of what it makes
abbrev pub Returns : Row → Type 0
Returns row = (word : ℕ) → word < 2 ^ 32 → matches 32 row.parts word ≡ true → row.undefined (free_fields 32 row.parts word) ≡ false
    → word_of (row.variant (free_fields 32 row.parts word)) ≡ word

bit_at : (word place : ℕ) → bit (flag (field word place place)) ≡ field word place place
bit_at word place =
    let one : place + 1 - place ≡ 1 = omega arith in
    let fits : ℕ → Type 0 = λ n. field word place place < 2 ^ n in
    bit-flag (field word place place) (subst fits one (field_below word place place))

joined_below : (high low : ℕ) → high < 524288 → low < 4 → high * 4 + low < 2 * 1048576
joined_below high low high_below low_below = omega arith

low_of_joined : (high low : ℕ) → low < 4 → (high * 4 + low) % 4 ≡ low
low_of_joined high low below = omega arith

high_of_joined : (high low : ℕ) → low < 4 → (high * 4 + low) / 4 ≡ high
high_of_joined high low below = omega arith

low_of_place : (high low : ℕ) → low < 32 → (high * 32 + low) % 32 ≡ low
low_of_place high low below = omega arith

high_of_place : (high low : ℕ) → low < 32 → (high * 32 + low) / 32 ≡ high
high_of_place high low below = omega arith

sub_two : (number : ℕ) → 2 + number - 2 ≡ number
sub_two number = omega arith

pub address-returns : Returns address_row
unfolding address_row word_of fields_of row_of
address-returns word below found lawful =
    rw (
      bit_at word 31,
      unsigned-sign_extend 1048576 8796093022207 ((field word 23 5) * 4 + (field word 30 29)) (lit< tt) (joined_below (field word 23 5) (field word 30 29) (field_below word 23 5) (field_below word 30 29)),
      low_of_joined (field word 23 5) (field word 30 29) (field_below word 30 29),
      high_of_joined (field word 23 5) (field word 30 29) (field_below word 30 29),
    )
    (join_whole address_row.parts word below refl found)

pub add_sub_immediate-returns : Returns add_sub_immediate_row
unfolding add_sub_immediate_row word_of fields_of row_of
add_sub_immediate-returns word below found lawful =
    rw (
      bit_at word 31,
      bit_at word 30,
      bit_at word 29,
      bit_at word 22,
    )
    (join_whole add_sub_immediate_row.parts word below refl found)

pub logical_immediate-returns : Returns logical_immediate_row
unfolding logical_immediate_row word_of fields_of row_of
logical_immediate-returns word below found lawful =
    rw (
      bit_at word 31,
      logical-number (field word 30 29) (field_below word 30 29),
    )
    (join_whole logical_immediate_row.parts word below refl found)

pub move_wide-returns : Returns move_wide_row
unfolding move_wide_row word_of fields_of row_of
move_wide-returns word below found lawful =
    let known : eqb (field word 30 29) 1 ≡ false = grind (arith, nat_tests) in
    rw (
      bit_at word 31,
      move-number (field word 30 29) (field_below word 30 29) known,
    )
    (join_whole move_wide_row.parts word below refl found)

pub bitfield-returns : Returns bitfield_row
unfolding bitfield_row word_of fields_of row_of
bitfield-returns word below found lawful =
    let known : eqb (field word 30 29) 3 ≡ false = grind (arith, nat_tests) in
    let same : (field word 22 22) ≡ (field word 31 31) = grind (arith, nat_tests) in
    rw (
      bit_at word 31,
      bitfield-number (field word 30 29) (field_below word 30 29) known,
      size_bit-flag (field word 22 22) (field word 31 31) (field_below word 31 31) same,
    )
    (join_whole bitfield_row.parts word below refl found)

pub extract-returns : Returns extract_row
unfolding extract_row word_of fields_of row_of
extract-returns word below found lawful =
    let same : (field word 22 22) ≡ (field word 31 31) = grind (arith, nat_tests) in
    rw (
      bit_at word 31,
      size_bit-flag (field word 22 22) (field word 31 31) (field_below word 31 31) same,
    )
    (join_whole extract_row.parts word below refl found)

pub branch-returns : Returns branch_row
unfolding branch_row word_of fields_of row_of
branch-returns word below found lawful =
    rw (
      bit_at word 31,
      unsigned-sign_extend 33554432 274877906943 (field word 25 0) (lit< tt) (field_below word 25 0),
    )
    (join_whole branch_row.parts word below refl found)

pub branch_conditional-returns : Returns branch_conditional_row
unfolding branch_conditional_row word_of fields_of row_of
branch_conditional-returns word below found lawful =
    rw (
      unsigned-sign_extend 262144 35184372088831 (field word 23 5) (lit< tt) (field_below word 23 5),
      condition-number (field word 3 0) (field_below word 3 0),
    )
    (join_whole branch_conditional_row.parts word below refl found)

pub compare_branch-returns : Returns compare_branch_row
unfolding compare_branch_row word_of fields_of row_of
compare_branch-returns word below found lawful =
    rw (
      bit_at word 31,
      bit_at word 24,
      unsigned-sign_extend 262144 35184372088831 (field word 23 5) (lit< tt) (field_below word 23 5),
    )
    (join_whole compare_branch_row.parts word below refl found)

pub test_branch-returns : Returns test_branch_row
unfolding test_branch_row word_of fields_of row_of
test_branch-returns word below found lawful =
    rw (
      high_of_place (field word 31 31) (field word 23 19) (field_below word 23 19),
      bit_at word 24,
      low_of_place (field word 31 31) (field word 23 19) (field_below word 23 19),
      unsigned-sign_extend 8192 1125899906842623 (field word 18 5) (lit< tt) (field_below word 18 5),
    )
    (join_whole test_branch_row.parts word below refl found)

pub branch_register-returns : Returns branch_register_row
unfolding branch_register_row word_of fields_of row_of
branch_register-returns word below found lawful =
    rw
    (branch-number (field word 22 21) (field_below word 22 21) lawful)
    (join_whole branch_register_row.parts word below refl found)

pub exception_return-returns : Returns exception_return_row
unfolding exception_return_row word_of fields_of row_of
exception_return-returns word below found lawful =
    join_whole exception_return_row.parts word below refl found

pub exception-returns : Returns exception_row
unfolding exception_row word_of fields_of row_of
exception-returns word below found lawful =
    rw (
      exception-brk (field word 21 21) (field word 1 0) (field_below word 21 21) (field_below word 1 0) lawful,
      exception-ll (field word 21 21) (field word 1 0) (field_below word 21 21) (field_below word 1 0) lawful,
    )
    (join_whole exception_row.parts word below refl found)

pub hint-returns : Returns hint_row
unfolding hint_row word_of fields_of row_of
hint-returns word below found lawful =
    join_whole hint_row.parts word below refl found

pub barrier-returns : Returns barrier_row
unfolding barrier_row word_of fields_of row_of
barrier-returns word below found lawful =
    rw
    (barrier-number (field word 7 5) (field_below word 7 5) lawful)
    (join_whole barrier_row.parts word below refl found)

pub msr_immediate-returns : Returns msr_immediate_row
unfolding msr_immediate_row word_of fields_of row_of
msr_immediate-returns word below found lawful =
    rw (
      pstate-op1 (field word 18 16) (field word 7 5) (field_below word 18 16) (field_below word 7 5) lawful,
      pstate-op2 (field word 18 16) (field word 7 5) (field_below word 18 16) (field_below word 7 5) lawful,
    )
    (join_whole msr_immediate_row.parts word below refl found)

pub system-returns : Returns system_row
unfolding system_row word_of fields_of row_of
system-returns word below found lawful =
    join_whole system_row.parts word below refl found

pub system_register-returns : Returns system_register_row
unfolding system_register_row word_of fields_of row_of
system_register-returns word below found lawful =
    rw (
      bit_at word 21,
      sub_two (field word 19 19),
    )
    (join_whole system_register_row.parts word below refl found)

pub logical_shifted-returns : Returns logical_shifted_row
unfolding logical_shifted_row word_of fields_of row_of
logical_shifted-returns word below found lawful =
    rw (
      bit_at word 31,
      logical-number (field word 30 29) (field_below word 30 29),
      shift-number (field word 23 22) (field_below word 23 22),
      bit_at word 21,
    )
    (join_whole logical_shifted_row.parts word below refl found)

pub add_sub_shifted-returns : Returns add_sub_shifted_row
unfolding add_sub_shifted_row word_of fields_of row_of
add_sub_shifted-returns word below found lawful =
    rw (
      bit_at word 31,
      bit_at word 30,
      bit_at word 29,
      shift-number (field word 23 22) (field_below word 23 22),
    )
    (join_whole add_sub_shifted_row.parts word below refl found)

pub add_sub_extended-returns : Returns add_sub_extended_row
unfolding add_sub_extended_row word_of fields_of row_of
add_sub_extended-returns word below found lawful =
    rw (
      bit_at word 31,
      bit_at word 30,
      bit_at word 29,
      extend-number (field word 15 13) (field_below word 15 13),
    )
    (join_whole add_sub_extended_row.parts word below refl found)

pub add_sub_carry-returns : Returns add_sub_carry_row
unfolding add_sub_carry_row word_of fields_of row_of
add_sub_carry-returns word below found lawful =
    rw (
      bit_at word 31,
      bit_at word 30,
      bit_at word 29,
    )
    (join_whole add_sub_carry_row.parts word below refl found)

pub conditional_compare-returns : Returns conditional_compare_row
unfolding conditional_compare_row word_of fields_of row_of
conditional_compare-returns word below found lawful =
    rw (
      bit_at word 31,
      bit_at word 30,
      operand-bits (field word 11 11) (field word 20 16) (field_below word 11 11),
      condition-number (field word 15 12) (field_below word 15 12),
      operand-i (field word 11 11) (field word 20 16) (field_below word 11 11),
    )
    (join_whole conditional_compare_row.parts word below refl found)

pub conditional_select-returns : Returns conditional_select_row
unfolding conditional_select_row word_of fields_of row_of
conditional_select-returns word below found lawful =
    rw (
      bit_at word 31,
      select-op (field word 30 30) (field word 10 10) (field_below word 30 30) (field_below word 10 10),
      condition-number (field word 15 12) (field_below word 15 12),
      select-o2 (field word 30 30) (field word 10 10) (field_below word 30 30) (field_below word 10 10),
    )
    (join_whole conditional_select_row.parts word below refl found)

pub three_sources-returns : Returns three_sources_row
unfolding three_sources_row word_of fields_of row_of
three_sources-returns word below found lawful =
    rw (
      bit_at word 31,
      product-op31 (field word 31 31) (field word 23 21) (field word 15 15) (field_below word 31 31) (field_below word 23 21) (field_below word 15 15) lawful,
      product-o0 (field word 31 31) (field word 23 21) (field word 15 15) (field_below word 31 31) (field_below word 23 21) (field_below word 15 15) lawful,
    )
    (join_whole three_sources_row.parts word below refl found)

pub two_sources-returns : Returns two_sources_row
unfolding two_sources_row word_of fields_of row_of
two_sources-returns word below found lawful =
    rw (
      bit_at word 31,
      two_source-number (field word 15 10) (field_below word 15 10) lawful,
    )
    (join_whole two_sources_row.parts word below refl found)

pub one_source-returns : Returns one_source_row
unfolding one_source_row word_of fields_of row_of
one_source-returns word below found lawful =
    let known : ltb 5 (field word 15 10) ≡ false = grind (arith, nat_tests) in
    rw (
      bit_at word 31,
      one_source-number (field word 15 10) (field_below word 15 10) known,
    )
    (join_whole one_source_row.parts word below refl found)

pub load_literal-returns : Returns load_literal_row
unfolding load_literal_row word_of fields_of row_of
load_literal-returns word below found lawful =
    rw (
      literal-number (field word 31 30) (field_below word 31 30),
      unsigned-sign_extend 262144 35184372088831 (field word 23 5) (lit< tt) (field_below word 23 5),
    )
    (join_whole load_literal_row.parts word below refl found)

pub pair-returns : Returns pair_row
unfolding pair_row word_of fields_of row_of
pair-returns word below found lawful =
    let some_mode : not (eqb (field word 25 23) 1 || eqb (field word 25 23) 2 || eqb (field word 25 23) 3) ≡ false = grind (arith, nat_tests) in
    let some_kind : eqb (field word 31 30) 3 ≡ false = grind (arith, nat_tests) in
    rw (
      pair-number (field word 31 30) (field_below word 31 30) some_kind,
      mode-number (field word 25 23) (field_below word 25 23) some_mode,
      bit_at word 22,
      unsigned-sign_extend 64 144115188075855871 (field word 21 15) (lit< tt) (field_below word 21 15),
    )
    (join_whole pair_row.parts word below refl found)

pub load_store_unsigned-returns : Returns load_store_unsigned_row
unfolding load_store_unsigned_row word_of fields_of row_of
load_store_unsigned-returns word below found lawful =
    rw (
      scale-number (field word 31 30) (field_below word 31 30),
      transfer-number (field word 23 22) (field_below word 23 22),
    )
    (join_whole load_store_unsigned_row.parts word below refl found)

pub load_store_indexed-returns : Returns load_store_indexed_row
unfolding load_store_indexed_row word_of fields_of row_of
load_store_indexed-returns word below found lawful =
    let some_mode : eqb (field word 11 10) 2 ≡ false = grind (arith, nat_tests) in
    rw (
      scale-number (field word 31 30) (field_below word 31 30),
      transfer-number (field word 23 22) (field_below word 23 22),
      unsigned-sign_extend 256 36028797018963967 (field word 20 12) (lit< tt) (field_below word 20 12),
      index-number (field word 11 10) (field_below word 11 10) some_mode,
    )
    (join_whole load_store_indexed_row.parts word below refl found)

pub load_store_register-returns : Returns load_store_register_row
unfolding load_store_register_row word_of fields_of row_of
load_store_register-returns word below found lawful =
    rw (
      scale-number (field word 31 30) (field_below word 31 30),
      transfer-number (field word 23 22) (field_below word 23 22),
      extend-number (field word 15 13) (field_below word 15 13),
      bit_at word 12,
    )
    (join_whole load_store_register_row.parts word below refl found)
