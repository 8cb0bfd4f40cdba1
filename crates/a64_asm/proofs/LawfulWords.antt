-- What a word decodes to has fields that fit their bits, where a line says such an instruction.
use Rattle.std.proofs.Common.{◌≡◌, ℕ, zero, suc, ◌+◌, ◌-◌, ◌*◌, ◌^◌, ◌<◌, ◌≤◌, Bool, true, false, not, ◌&&◌, ◌||◌, List, [], ◌∷◌, refl, ap, ◌∙◌, arith, inl, inr, eqb}
use Rattle.std.specs.Prelude.{if◌then◌else◌, nat_lt}
use Rattle.std.proofs.lemmas.Nat.{pow_pos}
use Rattle.std.proofs.lemmas.Bool.{ltb-true, ltb-false, eqb-true, and_parts}
use Rattle.std.proofs.lemmas.Bool.Decides.{nat_tests}
use Rattle.std.proofs.Math.Nat.{mod-lt}
use Rattle.bao_types.specs.Bits.{field}
use Rattle.a64_decode.specs.declared.instr.Instr.{Instr}
use Rattle.a64_decode.specs.declared.instr.Instr.TheVariants.{Undefined}
use Rattle.a64_decode.specs.Pattern.{Row, matches, free_fields, reading_of, first_reading}
use Rattle.a64_decode.specs.Operands.{shift_of, size_of, transfer_of}
use Rattle.a64_decode.specs.Lawful.{IsLawful, IsSigned, is_rotation, has_no_transfer}
use Rattle.a64_decode.specs.Table.{table, decoded, branch_rows, system_rows, register_rows, source_rows, load_store_rows, is_no_transfer, address_row, add_sub_immediate_row, logical_immediate_row, move_wide_row, bitfield_row, extract_row, branch_row, branch_conditional_row, compare_branch_row, test_branch_row, branch_register_row, exception_return_row, exception_row, hint_row, barrier_row, msr_immediate_row, system_row, system_register_row, logical_shifted_row, add_sub_shifted_row, add_sub_extended_row, add_sub_carry_row, conditional_compare_row, conditional_select_row, three_sources_row, two_sources_row, one_source_row, load_literal_row, pair_row, load_store_unsigned_row, load_store_indexed_row, load_store_register_row}
use Rattle.a64_asm.specs.Source.{is_said}

-- a test of the numbers below one
abbrev pub all_below : ℕ → (ℕ → Bool) → Bool
all_below zero p = true
all_below (suc n) p = p n && all_below n p

by_last : (n : ℕ) (p : ℕ → Bool) (k : ℕ) → k < suc n → p n ≡ true → (k < n → p k ≡ true) → (b : Bool) → eqb k n ≡ b → p k ≡ true
by_last n p k low here before true e = ap p (eqb-true k n e) ∙ here
by_last n p k low here before false e = let less : k < n = grind (arith, nat_tests) in before less

pub at_below : (n : ℕ) (p : ℕ → Bool) → all_below n p ≡ true → (k : ℕ) → k < n → p k ≡ true
at_below zero p all k low = absurd (omega arith)
at_below (suc n) p all k low =
    let facts = and_parts (p n) (all_below n p) all in
    by_last n p k low facts.0 (at_below n p facts.1 k) (eqb k n) refl

field_below : (word high low : ℕ) → field word high low < 2 ^ (high + 1 - low)
field_below word high low = mod-lt _ (pow_pos (high + 1 - low))

-- it is lawful, if a line says it
abbrev pub IsKept : Instr → Type 0
IsKept instr = is_said instr ≡ true → IsLawful instr

kept_if : (undefined : Bool) (instr : Instr) → (undefined ≡ false → IsKept instr) → IsKept (if undefined then Undefined else instr)
kept_if true instr kept = λ e. cc
kept_if false instr kept = kept refl

-- what a row makes of each word is
abbrev pub Keeps : Row → Type 0
Keeps row = (word : ℕ) → IsKept (reading_of row word)

-- no line says what the row makes
other : (row : Row) → ((word : ℕ) → is_said (row.variant (free_fields 32 row.parts word)) ≡ false) → Keeps row
other row never word =
    kept_if (row.undefined (free_fields 32 row.parts word)) (row.variant (free_fields 32 row.parts word))
    (λ _ e. let none = never word in cc)

abbrev AllKeep : List Row → Type 0
AllKeep [] = Unit {0}
AllKeep (row ∷ rows) = Keeps row × AllKeep rows

kept_match : (row : Row) (rows : List Row) (word : ℕ) → IsKept (reading_of row word) → IsKept (first_reading rows word) → (b : Bool)
    → IsKept (if b then reading_of row word else first_reading rows word)
kept_match row rows word here later true = here
kept_match row rows word here later false = later

kept_first : (rows : List Row) → AllKeep rows → (word : ℕ) → IsKept (first_reading rows word)
kept_first [] all word = λ e. cc
kept_first (row ∷ rows) all word =
    kept_match row rows word (all.0 word) (kept_first rows all.1 word) (matches 32 row.parts word)

keeps_address : Keeps address_row
unfolding address_row
keeps_address = other address_row (λ word. refl)

keeps_logical_immediate : Keeps logical_immediate_row
unfolding logical_immediate_row
keeps_logical_immediate = other logical_immediate_row (λ word. refl)

keeps_bitfield : Keeps bitfield_row
unfolding bitfield_row
keeps_bitfield = other bitfield_row (λ word. refl)

keeps_extract : Keeps extract_row
unfolding extract_row
keeps_extract = other extract_row (λ word. refl)

keeps_test_branch : Keeps test_branch_row
unfolding test_branch_row
keeps_test_branch = other test_branch_row (λ word. refl)

keeps_barrier : Keeps barrier_row
unfolding barrier_row
keeps_barrier = other barrier_row (λ word. refl)

keeps_msr_immediate : Keeps msr_immediate_row
unfolding msr_immediate_row
keeps_msr_immediate = other msr_immediate_row (λ word. refl)

keeps_system : Keeps system_row
unfolding system_row
keeps_system = other system_row (λ word. refl)

keeps_add_sub_extended : Keeps add_sub_extended_row
unfolding add_sub_extended_row
keeps_add_sub_extended = other add_sub_extended_row (λ word. refl)

keeps_add_sub_carry : Keeps add_sub_carry_row
unfolding add_sub_carry_row
keeps_add_sub_carry = other add_sub_carry_row (λ word. refl)

keeps_conditional_compare : Keeps conditional_compare_row
unfolding conditional_compare_row
keeps_conditional_compare = other conditional_compare_row (λ word. refl)

keeps_conditional_select : Keeps conditional_select_row
unfolding conditional_select_row
keeps_conditional_select = other conditional_select_row (λ word. refl)

keeps_three_sources : Keeps three_sources_row
unfolding three_sources_row
keeps_three_sources = other three_sources_row (λ word. refl)

keeps_two_sources : Keeps two_sources_row
unfolding two_sources_row
keeps_two_sources = other two_sources_row (λ word. refl)

keeps_one_source : Keeps one_source_row
unfolding one_source_row
keeps_one_source = other one_source_row (λ word. refl)

keeps_load_literal : Keeps load_literal_row
unfolding load_literal_row
keeps_load_literal = other load_literal_row (λ word. refl)

keeps_pair : Keeps pair_row
unfolding pair_row
keeps_pair = other pair_row (λ word. refl)

keeps_load_store_indexed : Keeps load_store_indexed_row
unfolding load_store_indexed_row
keeps_load_store_indexed = other load_store_indexed_row (λ word. refl)

keeps_load_store_register : Keeps load_store_register_row
unfolding load_store_register_row
keeps_load_store_register = other load_store_register_row (λ word. refl)

keeps_add_sub_immediate : Keeps add_sub_immediate_row
unfolding add_sub_immediate_row
keeps_add_sub_immediate word = λ _. (field_below word 21 10, field_below word 9 5, field_below word 4 0)

hw_fits : (sf opc hw : ℕ) → sf < 2 → hw < 4 → (eqb opc 1 || (eqb sf 0 && nat_lt 1 hw)) ≡ false
    → 16 * hw < (if eqb sf 1 then 64 else 32)
hw_fits zero opc hw low few h = let small : hw < 2 = grind (arith, nat_tests) in omega arith
hw_fits (suc zero) opc hw low few h = omega arith
hw_fits (suc (suc sf)) opc hw low few h = absurd (omega arith)

keeps_move_wide : Keeps move_wide_row
unfolding move_wide_row
keeps_move_wide word =
    kept_if (eqb (field word 30 29) 1 || (eqb (field word 31 31) 0 && nat_lt 1 (field word 22 21))) _
    (λ h _. (hw_fits (field word 31 31) (field word 30 29) (field word 22 21) (field_below word 31 31) (field_below word 22 21) h, field_below word 20 5, field_below word 4 0))

signed-26 : (value : ℕ) → value < 2 ^ 26 → (b : Bool) → nat_lt value (2 ^ 25) ≡ b → IsSigned 26 (if b then value else value + (2 ^ 64 - 2 ^ 26))
signed-26 value low true e = inl (ltb-true value (2 ^ 25) e)
signed-26 value low false e = let high : 2 ^ 25 ≤ value = ltb-false value (2 ^ 25) e in inr (omega arith, omega arith)

signed-19 : (value : ℕ) → value < 2 ^ 19 → (b : Bool) → nat_lt value (2 ^ 18) ≡ b → IsSigned 19 (if b then value else value + (2 ^ 64 - 2 ^ 19))
signed-19 value low true e = inl (ltb-true value (2 ^ 18) e)
signed-19 value low false e = let high : 2 ^ 18 ≤ value = ltb-false value (2 ^ 18) e in inr (omega arith, omega arith)

keeps_branch : Keeps branch_row
unfolding branch_row
keeps_branch word = λ _. signed-26 (field word 25 0) (field_below word 25 0) _ refl

keeps_branch_conditional : Keeps branch_conditional_row
unfolding branch_conditional_row
keeps_branch_conditional word = λ _. signed-19 (field word 23 5) (field_below word 23 5) _ refl

keeps_compare_branch : Keeps compare_branch_row
unfolding compare_branch_row
keeps_compare_branch word = λ _. (signed-19 (field word 23 5) (field_below word 23 5) _ refl, field_below word 4 0)

keeps_branch_register : Keeps branch_register_row
unfolding branch_register_row
keeps_branch_register word = kept_if (eqb (field word 22 21) 3) _ (λ _ _. field_below word 9 5)

keeps_exception_return : Keeps exception_return_row
unfolding exception_return_row
keeps_exception_return word = λ _. tt

keeps_exception : Keeps exception_row
unfolding exception_row
keeps_exception word =
    kept_if (if eqb (field word 21 21) 1 then not (eqb (field word 1 0) 0) else eqb (field word 1 0) 0) _ (λ _ _. field_below word 20 5)

keeps_hint : Keeps hint_row
unfolding hint_row
keeps_hint word = λ _. (field_below word 11 8, field_below word 7 5)

keeps_system_register : Keeps system_register_row
unfolding system_register_row
keeps_system_register word =
    λ _. ((omega arith, omega (arith, field_below word 19 19), field_below word 18 16, field_below word 15 12, field_below word 11 8, field_below word 7 5), field_below word 4 0)

amount_fits : (sf amount : ℕ) → sf < 2 → amount < 64 → (eqb sf 0 && nat_lt 31 amount) ≡ false → amount < (if eqb sf 1 then 64 else 32)
amount_fits zero amount low few h = grind (arith, nat_tests)
amount_fits (suc zero) amount low few h = few
amount_fits (suc (suc sf)) amount low few h = absurd (omega arith)

keeps_logical_shifted : Keeps logical_shifted_row
unfolding logical_shifted_row
keeps_logical_shifted word =
    kept_if (eqb (field word 31 31) 0 && nat_lt 31 (field word 15 10)) _
    (λ h _. (field_below word 20 16, amount_fits (field word 31 31) (field word 15 10) (field_below word 31 31) (field_below word 15 10) h, field_below word 9 5, field_below word 4 0))

rotation : (shift : ℕ) → shift < 4 → eqb shift 3 ≡ false → is_rotation (shift_of shift) ≡ false
rotation zero low h = refl
rotation (suc zero) low h = refl
rotation (suc (suc zero)) low h = refl
rotation (suc (suc (suc zero))) low h = cc
rotation (suc (suc (suc (suc shift)))) low h = absurd (omega arith)

either_false : (a b : Bool) → (a || b) ≡ false → (a ≡ false) × (b ≡ false)
either_false true b h = cc
either_false false b h = (refl, h)

keeps_add_sub_shifted : Keeps add_sub_shifted_row
unfolding add_sub_shifted_row
keeps_add_sub_shifted word =
    kept_if (eqb (field word 23 22) 3 || (eqb (field word 31 31) 0 && nat_lt 31 (field word 15 10))) _
    (λ h _.
    let facts = either_false (eqb (field word 23 22) 3) (eqb (field word 31 31) 0 && nat_lt 31 (field word 15 10)) h in
    (rotation (field word 23 22) (field_below word 23 22) facts.0, field_below word 20 16, amount_fits (field word 31 31) (field word 15 10) (field_below word 31 31) (field_below word 15 10) facts.1, field_below word 9 5, field_below word 4 0))

abbrev is_transfer : ℕ → ℕ → Bool
is_transfer size opc = is_no_transfer size opc || not (has_no_transfer (size_of size) (transfer_of opc))

passes : (a b : Bool) → (a || not b) ≡ true → a ≡ false → b ≡ false
passes true b h e = cc
passes false true h e = cc
passes false false h e = refl

transfer_fits : (size opc : ℕ) → size < 4 → opc < 4 → is_no_transfer size opc ≡ false → has_no_transfer (size_of size) (transfer_of opc) ≡ false
transfer_fits size opc size_low opc_low h =
    passes (is_no_transfer size opc) _
    (at_below 4 (is_transfer size) (at_below 4 (λ s. all_below 4 (is_transfer s)) refl size size_low) opc opc_low) h

keeps_load_store_unsigned : Keeps load_store_unsigned_row
unfolding load_store_unsigned_row
keeps_load_store_unsigned word =
    kept_if (is_no_transfer (field word 31 30) (field word 23 22)) _
    (λ h _. (field_below word 21 10, field_below word 9 5, field_below word 4 0, transfer_fits (field word 31 30) (field word 23 22) (field_below word 31 30) (field_below word 23 22) h))

keeps_all : AllKeep table
unfolding table branch_rows system_rows register_rows source_rows load_store_rows
keeps_all = (
  keeps_address,
  (
    keeps_add_sub_immediate,
    (
      keeps_logical_immediate,
      (
        keeps_move_wide,
        (
          keeps_bitfield,
          (
            keeps_extract,
            (
              keeps_branch,
              (
                keeps_branch_conditional,
                (
                  keeps_compare_branch,
                  (
                    keeps_test_branch,
                    (
                      keeps_branch_register,
                      (
                        keeps_exception_return,
                        (
                          keeps_exception,
                          (
                            keeps_hint,
                            (
                              keeps_barrier,
                              (
                                keeps_msr_immediate,
                                (
                                  keeps_system,
                                  (
                                    keeps_system_register,
                                    (
                                      keeps_logical_shifted,
                                      (
                                        keeps_add_sub_shifted,
                                        (
                                          keeps_add_sub_extended,
                                          (
                                            keeps_add_sub_carry,
                                            (
                                              keeps_conditional_compare,
                                              (
                                                keeps_conditional_select,
                                                (
                                                  keeps_three_sources,
                                                  (
                                                    keeps_two_sources,
                                                    (
                                                      keeps_one_source,
                                                      (keeps_load_literal, (keeps_pair, (keeps_load_store_unsigned, (keeps_load_store_indexed, (keeps_load_store_register, tt))))),
                                                    ),
                                                  ),
                                                ),
                                              ),
                                            ),
                                          ),
                                        ),
                                      ),
                                    ),
                                  ),
                                ),
                              ),
                            ),
                          ),
                        ),
                      ),
                    ),
                  ),
                ),
              ),
            ),
          ),
        ),
      ),
    ),
  ),
)

-- each word
pub lawful_words : (word : ℕ) → IsKept (decoded word)
lawful_words word = kept_first table keeps_all word
