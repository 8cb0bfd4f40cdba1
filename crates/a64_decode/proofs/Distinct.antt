-- Different words decode to different instructions.
use Rattle.std.proofs.Common.{◌≡◌, ◌≢◌, ◌<◌, ℕ, ◌^◌, Bool, true, false, List, [], ◌∷◌, refl, sym, ◌∙◌, ap, if◌then◌else◌}
use Rattle.a64_decode.specs.declared.instr.Instr.TheVariants.{Undefined}
use Rattle.a64_decode.specs.Pattern.{Row, matches, free_fields, reading_of, first_reading}
use Rattle.a64_decode.specs.Table.{table, branch_rows, system_rows, register_rows, source_rows, load_store_rows, decoded, AreDistinct}
use Rattle.a64_decode.specs.Word.{word_of}
use Rattle.a64_decode.proofs.Encoding.{Returns, address-returns, add_sub_immediate-returns, logical_immediate-returns, move_wide-returns, bitfield-returns, extract-returns, branch-returns, branch_conditional-returns, compare_branch-returns, test_branch-returns, branch_register-returns, exception_return-returns, exception-returns, hint-returns, barrier-returns, msr_immediate-returns, system-returns, system_register-returns, logical_shifted-returns, add_sub_shifted-returns, add_sub_extended-returns, add_sub_carry-returns, conditional_compare-returns, conditional_select-returns, three_sources-returns, two_sources-returns, one_source-returns, load_literal-returns, pair-returns, load_store_unsigned-returns, load_store_indexed-returns, load_store_register-returns}

-- a row that matches
by_test : (row : Row) (word : ℕ) → word < 2 ^ 32 → Returns row → matches 32 row.parts word ≡ true
    → (undefined : Bool) → row.undefined (free_fields 32 row.parts word) ≡ undefined
    → (if undefined then Undefined else row.variant (free_fields 32 row.parts word)) ≢ Undefined
    → word_of (if undefined then Undefined else row.variant (free_fields 32 row.parts word)) ≡ word
by_test row word below returns found true undefined defined = absurd (defined refl)
by_test row word below returns found false lawful defined = returns word below found lawful

-- a row that may match, before others
by_match : (row : Row) (rows : List Row) (word : ℕ) → word < 2 ^ 32 → Returns row
    → (first_reading rows word ≢ Undefined → word_of (first_reading rows word) ≡ word)
    → (found : Bool) → matches 32 row.parts word ≡ found
    → (if found then reading_of row word else first_reading rows word) ≢ Undefined
    → word_of (if found then reading_of row word else first_reading rows word) ≡ word
by_match row rows word below returns others true found defined =
    by_test row word below returns found (row.undefined (free_fields 32 row.parts word)) refl defined
by_match row rows word below returns others false missed defined = others defined

-- all of these rows
abbrev AllReturn : List Row → Type 0
AllReturn [] = Unit {0}
AllReturn (row ∷ rows) = Returns row × AllReturn rows

word_of-first_reading : (rows : List Row) → AllReturn rows → (word : ℕ) → word < 2 ^ 32 → first_reading rows word ≢ Undefined
    → word_of (first_reading rows word) ≡ word
word_of-first_reading [] all word below defined = absurd (defined refl)
word_of-first_reading (row ∷ rows) all word below defined =
    by_match row rows word below all.0 (word_of-first_reading rows all.1 word below) (matches 32 row.parts word) refl defined

all_load_store_rows : AllReturn load_store_rows
unfolding load_store_rows
all_load_store_rows = (load_literal-returns, (pair-returns, (load_store_unsigned-returns, (load_store_indexed-returns, (load_store_register-returns, tt)))))

all_source_rows : AllReturn source_rows
unfolding source_rows
all_source_rows = (conditional_compare-returns, (conditional_select-returns, (three_sources-returns, (two_sources-returns, (one_source-returns, all_load_store_rows)))))

all_register_rows : AllReturn register_rows
unfolding register_rows
all_register_rows = (logical_shifted-returns, (add_sub_shifted-returns, (add_sub_extended-returns, (add_sub_carry-returns, all_source_rows))))

all_system_rows : AllReturn system_rows
unfolding system_rows
all_system_rows = (exception_return-returns, (exception-returns, (hint-returns, (barrier-returns, (msr_immediate-returns, (system-returns, (system_register-returns, all_register_rows)))))))

all_branch_rows : AllReturn branch_rows
unfolding branch_rows
all_branch_rows = (branch-returns, (branch_conditional-returns, (compare_branch-returns, (test_branch-returns, (branch_register-returns, all_system_rows)))))

all_table : AllReturn table
unfolding table
all_table = (address-returns, (add_sub_immediate-returns, (logical_immediate-returns, (move_wide-returns, (bitfield-returns, (extract-returns, all_branch_rows))))))

-- a word that decodes to an instruction is the word of it
pub word_of-decoded : (word : ℕ) → word < 2 ^ 32 → decoded word ≢ Undefined → word_of (decoded word) ≡ word
word_of-decoded = word_of-first_reading table all_table

pub are_distinct : AreDistinct
are_distinct a b a_below b_below same defined =
    sym (word_of-decoded a a_below defined) ∙ ap word_of same ∙ word_of-decoded b b_below (λ undefined. defined (same ∙ undefined))
