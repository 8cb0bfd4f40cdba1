-- The encodings of operands, from what they stand for.
use Rattle.std.proofs.Common.{◌≡◌, ◌<◌, ℕ, zero, suc, ◌+◌, ◌*◌, ◌%◌, Bool, true, false, inl, inr, not, ◌&&◌, ◌||◌, refl, sym, ◌∙◌, arith, eqb, ltb, if◌then◌else◌}
use Rattle.std.proofs.lemmas.Bool.{eqb-true}
use Rattle.std.proofs.Math.Nat.{mod-eq_of_lt, add-mul-mod_self_right}
use Rattle.std.proofs.lemmas.Bool.Decides.{eqb_tells}
use Rattle.a64_decode.specs.Operands.{flag, condition_of, shift_of, extend_of, logical_of, move_of, bitfield_of, branch_of, exception_of, barrier_of, pstate_field_of, operand_of, select_of, product_of, two_source_of, one_source_of, literal_of, pair_of, mode_of, index_of, size_of, transfer_of}
use Rattle.a64_decode.specs.Codes.{bit, size_bit, condition_number, shift_number, extend_number, logical_number, move_number, bitfield_number, branch_number, barrier_number, two_source_number, one_source_number, literal_number, pair_number, mode_number, index_number, transfer_number, select_op, select_o2, product_op31, product_o0, exception_brk, exception_ll, pstate_op1, pstate_op2, operand_i, operand_bits, unsigned_of}
use Rattle.a64_decode.proofs.Words.{both}
use Rattle.a64_decode.specs.Access.{scale_of}

-- a test that holds of every number below `count`
abbrev all_below : ℕ → (ℕ → Bool) → Bool
all_below zero test = true
all_below (suc count) test = test count && all_below count test

-- what the test says of one of them
at_below : (count : ℕ) (test : ℕ → Bool) → all_below count test ≡ true → (number : ℕ) → number < count → test number ≡ true
at_below zero test all number below = absurd (omega arith)
at_below (suc count) test all number below =
    let parts = both (test count) (all_below count test) all in
    elim (eqb_tells number count) [
      | inl same ↦ rw same.1 parts.0
      | inr other ↦ at_below count test parts.1 number (omega (arith, other.1))
    ]

pub bit-flag : (number : ℕ) → number < 2 → bit (flag number) ≡ number
unfolding bit
bit-flag number below = eqb-true _ _ (at_below 2 (λ n. eqb (bit (flag n)) n) refl number below)

pub size_bit-flag : (n sf : ℕ) → sf < 2 → n ≡ sf → size_bit (flag sf) ≡ n
unfolding size_bit
size_bit-flag n sf below same = bit-flag sf below ∙ sym same

pub condition-number : (number : ℕ) → number < 16 → condition_number (condition_of number) ≡ number
unfolding condition_number
condition-number number below = eqb-true _ _ (at_below 16 (λ n. eqb (condition_number (condition_of n)) n) refl number below)

-- a test that holds unless another does
when_not : (a b : Bool) → (a || b) ≡ true → a ≡ false → b ≡ true
when_not false b h none = h
when_not true b h none = absurd (cc)

pub shift-number : (number : ℕ) → number < 4 → shift_number (shift_of number) ≡ number
unfolding shift_number
shift-number number below = eqb-true _ _ (at_below 4 (λ n. eqb (shift_number (shift_of n)) n) refl number below)

pub extend-number : (number : ℕ) → number < 8 → extend_number (extend_of number) ≡ number
unfolding extend_number
extend-number number below = eqb-true _ _ (at_below 8 (λ n. eqb (extend_number (extend_of n)) n) refl number below)

pub logical-number : (number : ℕ) → number < 4 → logical_number (logical_of number) ≡ number
unfolding logical_number
logical-number number below = eqb-true _ _ (at_below 4 (λ n. eqb (logical_number (logical_of n)) n) refl number below)

pub move-number : (number : ℕ) → number < 4 → (eqb number 1) ≡ false → move_number (move_of number) ≡ number
unfolding move_number
move-number number below lawful =
    eqb-true _ _ (when_not _ _ (at_below 4 (λ n. eqb n 1 || eqb (move_number (move_of n)) n) refl number below) lawful)

pub bitfield-number : (number : ℕ) → number < 4 → (eqb number 3) ≡ false → bitfield_number (bitfield_of number) ≡ number
unfolding bitfield_number
bitfield-number number below lawful =
    eqb-true _ _ (when_not _ _ (at_below 4 (λ n. eqb n 3 || eqb (bitfield_number (bitfield_of n)) n) refl number below) lawful)

pub branch-number : (number : ℕ) → number < 4 → (eqb number 3) ≡ false → branch_number (branch_of number) ≡ number
unfolding branch_number
branch-number number below lawful =
    eqb-true _ _ (when_not _ _ (at_below 4 (λ n. eqb n 3 || eqb (branch_number (branch_of n)) n) refl number below) lawful)

pub barrier-number : (number : ℕ) → number < 8 → (not (eqb number 2 || eqb number 4 || eqb number 5 || eqb number 6)) ≡ false → barrier_number (barrier_of number) ≡ number
unfolding barrier_number
barrier-number number below lawful =
    eqb-true _ _ (when_not _ _ (at_below 8 (λ n. not (eqb n 2 || eqb n 4 || eqb n 5 || eqb n 6) || eqb (barrier_number (barrier_of n)) n) refl number below) lawful)

pub two_source-number : (number : ℕ) → number < 64 → (ltb number 2 || (ltb 3 number && ltb number 8) || ltb 11 number) ≡ false → two_source_number (two_source_of number) ≡ number
unfolding two_source_number
two_source-number number below lawful =
    eqb-true _ _ (when_not _ _ (at_below 64 (λ n. ltb n 2 || (ltb 3 n && ltb n 8) || ltb 11 n || eqb (two_source_number (two_source_of n)) n) refl number below) lawful)

pub one_source-number : (number : ℕ) → number < 64 → (ltb 5 number) ≡ false → one_source_number (one_source_of number) ≡ number
unfolding one_source_number
one_source-number number below lawful =
    eqb-true _ _ (when_not _ _ (at_below 64 (λ n. ltb 5 n || eqb (one_source_number (one_source_of n)) n) refl number below) lawful)

pub literal-number : (number : ℕ) → number < 4 → literal_number (literal_of number) ≡ number
unfolding literal_number
literal-number number below = eqb-true _ _ (at_below 4 (λ n. eqb (literal_number (literal_of n)) n) refl number below)

pub pair-number : (number : ℕ) → number < 4 → (eqb number 3) ≡ false → pair_number (pair_of number) ≡ number
unfolding pair_number
pair-number number below lawful =
    eqb-true _ _ (when_not _ _ (at_below 4 (λ n. eqb n 3 || eqb (pair_number (pair_of n)) n) refl number below) lawful)

pub mode-number : (number : ℕ) → number < 8 → (not (eqb number 1 || eqb number 2 || eqb number 3)) ≡ false → mode_number (mode_of number) ≡ number
unfolding mode_number
mode-number number below lawful =
    eqb-true _ _ (when_not _ _ (at_below 8 (λ n. not (eqb n 1 || eqb n 2 || eqb n 3) || eqb (mode_number (mode_of n)) n) refl number below) lawful)

pub index-number : (number : ℕ) → number < 4 → (eqb number 2) ≡ false → index_number (index_of number) ≡ number
unfolding index_number
index-number number below lawful =
    eqb-true _ _ (when_not _ _ (at_below 4 (λ n. eqb n 2 || eqb (index_number (index_of n)) n) refl number below) lawful)

pub scale-number : (number : ℕ) → number < 4 → scale_of (size_of number) ≡ number
scale-number number below = eqb-true _ _ (at_below 4 (λ n. eqb (scale_of (size_of n)) n) refl number below)

pub transfer-number : (number : ℕ) → number < 4 → transfer_number (transfer_of number) ≡ number
unfolding transfer_number
transfer-number number below = eqb-true _ _ (at_below 4 (λ n. eqb (transfer_number (transfer_of n)) n) refl number below)

pub select-op : (op o2 : ℕ) → op < 2 → o2 < 2 → select_op (select_of op o2) ≡ op
unfolding select_op
select-op op o2 op_below o2_below =
    eqb-true _ _ (at_below 2 (λ o2. eqb (select_op (select_of op o2)) op) (at_below 2 (λ op. all_below 2 (λ o2. eqb (select_op (select_of op o2)) op)) refl op op_below) o2 o2_below)

pub select-o2 : (op o2 : ℕ) → op < 2 → o2 < 2 → select_o2 (select_of op o2) ≡ o2
unfolding select_o2
select-o2 op o2 op_below o2_below =
    eqb-true _ _ (at_below 2 (λ o2. eqb (select_o2 (select_of op o2)) o2) (at_below 2 (λ op. all_below 2 (λ o2. eqb (select_o2 (select_of op o2)) o2)) refl op op_below) o2 o2_below)

pub exception-brk : (brk ll : ℕ) → brk < 2 → ll < 4 → (if eqb brk 1 then not (eqb ll 0) else eqb ll 0) ≡ false → exception_brk (exception_of ll) ≡ brk
unfolding exception_brk
exception-brk brk ll brk_below ll_below lawful =
    eqb-true _ _ (when_not _ _ (at_below 4 (λ ll. (if eqb brk 1 then not (eqb ll 0) else eqb ll 0) || eqb (exception_brk (exception_of ll)) brk) (at_below 2 (λ brk. all_below 4 (λ ll. (if eqb brk 1 then not (eqb ll 0) else eqb ll 0) || eqb (exception_brk (exception_of ll)) brk)) refl brk brk_below) ll ll_below) lawful)

pub exception-ll : (brk ll : ℕ) → brk < 2 → ll < 4 → (if eqb brk 1 then not (eqb ll 0) else eqb ll 0) ≡ false → exception_ll (exception_of ll) ≡ ll
unfolding exception_ll
exception-ll brk ll brk_below ll_below lawful =
    eqb-true _ _ (when_not _ _ (at_below 4 (λ ll. (if eqb brk 1 then not (eqb ll 0) else eqb ll 0) || eqb (exception_ll (exception_of ll)) ll) (at_below 2 (λ brk. all_below 4 (λ ll. (if eqb brk 1 then not (eqb ll 0) else eqb ll 0) || eqb (exception_ll (exception_of ll)) ll)) refl brk brk_below) ll ll_below) lawful)

pub pstate-op1 : (op1 op2 : ℕ) → op1 < 8 → op2 < 8 → not ((eqb op1 0 && eqb op2 5) || (eqb op1 3 && eqb op2 6) || (eqb op1 3 && eqb op2 7)) ≡ false → pstate_op1 (pstate_field_of op2) ≡ op1
unfolding pstate_op1
pstate-op1 op1 op2 op1_below op2_below lawful =
    eqb-true _ _ (when_not _ _ (at_below 8 (λ op2. not ((eqb op1 0 && eqb op2 5) || (eqb op1 3 && eqb op2 6) || (eqb op1 3 && eqb op2 7)) || eqb (pstate_op1 (pstate_field_of op2)) op1) (at_below 8 (λ op1. all_below 8 (λ op2. not ((eqb op1 0 && eqb op2 5) || (eqb op1 3 && eqb op2 6) || (eqb op1 3 && eqb op2 7)) || eqb (pstate_op1 (pstate_field_of op2)) op1)) refl op1 op1_below) op2 op2_below) lawful)

pub pstate-op2 : (op1 op2 : ℕ) → op1 < 8 → op2 < 8 → not ((eqb op1 0 && eqb op2 5) || (eqb op1 3 && eqb op2 6) || (eqb op1 3 && eqb op2 7)) ≡ false → pstate_op2 (pstate_field_of op2) ≡ op2
unfolding pstate_op2
pstate-op2 op1 op2 op1_below op2_below lawful =
    eqb-true _ _ (when_not _ _ (at_below 8 (λ op2. not ((eqb op1 0 && eqb op2 5) || (eqb op1 3 && eqb op2 6) || (eqb op1 3 && eqb op2 7)) || eqb (pstate_op2 (pstate_field_of op2)) op2) (at_below 8 (λ op1. all_below 8 (λ op2. not ((eqb op1 0 && eqb op2 5) || (eqb op1 3 && eqb op2 6) || (eqb op1 3 && eqb op2 7)) || eqb (pstate_op2 (pstate_field_of op2)) op2)) refl op1 op1_below) op2 op2_below) lawful)

pub product-op31 : (sf op31 o0 : ℕ) → sf < 2 → op31 < 8 → o0 < 2 → not (eqb op31 0 || (eqb sf 1 && (eqb op31 1 || eqb op31 5)) || (eqb sf 1 && eqb o0 0 && (eqb op31 2 || eqb op31 6))) ≡ false
    → product_op31 (product_of op31 o0) ≡ op31
unfolding product_op31
product-op31 sf op31 o0 sf_below op31_below o0_below lawful =
    let test = λ (sf op31 o0 : ℕ). not (eqb op31 0 || (eqb sf 1 && (eqb op31 1 || eqb op31 5)) || (eqb sf 1 && eqb o0 0 && (eqb op31 2 || eqb op31 6))) || eqb (product_op31 (product_of op31 o0)) op31 in
    eqb-true _ _
    (when_not _ _
    (at_below 2 (test sf op31)
    (at_below 8 (λ n. all_below 2 (test sf n)) (at_below 2 (λ m. all_below 8 (λ n. all_below 2 (test m n))) refl sf sf_below) op31 op31_below)
    o0 o0_below)
    lawful)

pub product-o0 : (sf op31 o0 : ℕ) → sf < 2 → op31 < 8 → o0 < 2 → not (eqb op31 0 || (eqb sf 1 && (eqb op31 1 || eqb op31 5)) || (eqb sf 1 && eqb o0 0 && (eqb op31 2 || eqb op31 6))) ≡ false
    → product_o0 (product_of op31 o0) ≡ o0
unfolding product_o0
product-o0 sf op31 o0 sf_below op31_below o0_below lawful =
    let test = λ (sf op31 o0 : ℕ). not (eqb op31 0 || (eqb sf 1 && (eqb op31 1 || eqb op31 5)) || (eqb sf 1 && eqb o0 0 && (eqb op31 2 || eqb op31 6))) || eqb (product_o0 (product_of op31 o0)) o0 in
    eqb-true _ _
    (when_not _ _
    (at_below 2 (test sf op31)
    (at_below 8 (λ n. all_below 2 (test sf n)) (at_below 2 (λ m. all_below 8 (λ n. all_below 2 (test m n))) refl sf sf_below) op31 op31_below)
    o0 o0_below)
    lawful)

pub operand-i : (i bits : ℕ) → i < 2 → operand_i (operand_of i bits) ≡ i
unfolding operand_i
operand-i i bits below = eqb-true _ _ (at_below 2 (λ n. eqb (operand_i (operand_of n bits)) n) refl i below)

pub operand-bits : (i bits : ℕ) → i < 2 → operand_bits (operand_of i bits) ≡ bits
unfolding operand_bits
operand-bits i bits below =
    elim (eqb_tells i 1) [ inl same ↦ rw same.0 refl | inr other ↦ rw other.0 refl ]

-- `half` is the weight of the sign, and `count` says how often all bits of the number go into 64
pub unsigned-sign_extend : (half count value : ℕ) → 0 < half → value < 2 * half
    → unsigned_of half (if ltb value half then value else value + count * (2 * half)) ≡ value
unfolding unsigned_of
unsigned-sign_extend half count value some below =
    elim (ltb value half) as (λ t. (if t then value else value + count * (2 * half)) % (2 * half) ≡ value) [
      | true ↦ mod-eq_of_lt below
      | false ↦ rw (add-mul-mod_self_right value count (2 * half)) (mod-eq_of_lt below)
    ]
