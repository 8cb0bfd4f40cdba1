-- The bytes of an access in two parts, the second one after the first.
use Rattle.std.proofs.Common.{◌≡◌, ℕ, zero, suc, ◌+◌, ◌-◌, ◌*◌, ◌/◌, ◌%◌, ◌^◌, ◌<◌, ◌≤◌, ◌⊎◌, inl, inr, Bool, true, false, ◌∷◌, refl, sym, ap, ◌∙◌, arith, lit<}
use Rattle.std.specs.Prelude.{IsTrue, ◌&&◌}
use Rattle.std.proofs.Math.Nat.{div-div-eq-div-mul, mul_assoc, pow-le-pow_right, pow-suc, pow-succ'}
use Rattle.std.proofs.Math.Arith.{mod-mul}
use Rattle.bao_types.specs.Bytes.{next_address}
use Rattle.board.specs.Judge.{all_from}
use Rattle.board.specs.Ports.{number_at}
use Rattle.board.specs.Ports.{stores_from}
use Rattle.board.specs.Machine.{with_byte, written}

-- what is above the first part of a value
abbrev shifted : ℕ → ℕ → ℕ
shifted zero value = value
shifted (suc m) value = shifted m (value / 256)

-- the address after the first part
after : (at m : ℕ) → (next_address at + m) % 2 ^ 64 ≡ (at + suc m) % 2 ^ 64
after at m = omega arith

-- a number is the first part and, above it, the second
pub number_split : (bytes : ℕ → ℕ) (m n total at : ℕ) → total ≡ m + n → at < 2 ^ 64
    → number_at bytes at total ≡ number_at bytes at m + 256 ^ m * number_at bytes ((at + m) % 2 ^ 64) n
number_split bytes zero n total at is low =
    let none : total ≡ n = omega (arith, is) in
    let here : (at + 0) % 2 ^ 64 ≡ at = omega arith in
    ap (λ t. number_at bytes at t) none ∙ sym (ap (λ a. number_at bytes a n) here) ∙ omega arith
number_split bytes (suc m) n total at is low =
    let next = next_address at in
    let more : total ≡ suc (m + n) = omega (arith, is) in
    let rest = number_split bytes m n (m + n) next refl (omega arith) in
    let upper = number_at bytes ((next + m) % 2 ^ 64) n in
    let power : 256 ^ suc m * upper ≡ 256 * (256 ^ m * upper) =
    ap (λ p. p * upper) (pow-succ' 256 m) ∙ mul_assoc 256 (256 ^ m) upper in
    let same : number_at bytes ((at + suc m) % 2 ^ 64) n ≡ upper = ap (λ a. number_at bytes a n) (sym (after at m)) in
    ap (λ t. number_at bytes at t) more
    ∙ omega (arith, rest, power)
    ∙ ap (λ u. number_at bytes at (suc m) + 256 ^ suc m * u) (sym same)

-- all pass a test where all of the first part and of the second do
both : (a b c : Bool) → IsTrue (a && b) → (IsTrue b → IsTrue c) → IsTrue (a && c)
both true b c all step = step all
both false b c all step = cc

second : (a b : Bool) → IsTrue (a && b) → IsTrue b
second true b all = all
second false b all = cc

first_part : (test : ℕ → Bool) (m n total at : ℕ) → total ≡ m + n → IsTrue (all_from test at total)
    → IsTrue (all_from test at m)
first_part test zero n total at is all = refl
first_part test (suc m) n total at is all =
    let more : total ≡ suc (m + n) = omega (arith, is) in
    both (test at) (all_from test (next_address at) (m + n)) (all_from test (next_address at) m)
    (sym (ap (λ t. all_from test at t) more) ∙ all) (first_part test m n (m + n) (next_address at) refl)

pub second_part : (test : ℕ → Bool) (m n total at : ℕ) → total ≡ m + n → at < 2 ^ 64 → IsTrue (all_from test at total)
    → IsTrue (all_from test ((at + m) % 2 ^ 64) n)
second_part test zero n total at is low all =
    let none : total ≡ n = omega (arith, is) in
    let here : (at + 0) % 2 ^ 64 ≡ at = omega arith in
    ap (λ a. all_from test a n) here ∙ sym (ap (λ t. all_from test at t) none) ∙ all
second_part test (suc m) n total at is low all =
    let more : total ≡ suc (m + n) = omega (arith, is) in
    sym (ap (λ a. all_from test a n) (after at m))
    ∙ second_part test m n (m + n) (next_address at) refl (omega arith)
    (second (test at) (all_from test (next_address at) (m + n)) (sym (ap (λ t. all_from test at t) more) ∙ all))

stores_parts : (m n total at value : ℕ) (old : ℕ → ℕ) → total ≡ m + n → at < 2 ^ 64
    → written (stores_from at total value) old
    ≡ written (stores_from ((at + m) % 2 ^ 64) n (shifted m value)) (written (stores_from at m value) old)
stores_parts zero n total at value old is low =
    let none : total ≡ n = omega (arith, is) in
    let here : (at + 0) % 2 ^ 64 ≡ at = omega arith in
    ap (λ t. written (stores_from at t value) old) none ∙ sym (ap (λ a. written (stores_from a n value) old) here)
stores_parts (suc m) n total at value old is low =
    let more : total ≡ suc (m + n) = omega (arith, is) in
    ap (λ t. written (stores_from at t value) old) more
    ∙ stores_parts m n (m + n) (next_address at) (value / 256) (with_byte at (value % 256) old) refl (omega arith)
    ∙ ap (λ a. written (stores_from a n (shifted (suc m) value)) (written (stores_from at (suc m) value) old)) (after at m)

shifted_is : (m value : ℕ) → shifted m value ≡ value / 256 ^ m
shifted_is zero value = omega arith
shifted_is (suc m) value =
    shifted_is m (value / 256) ∙ div-div-eq-div-mul value 256 (256 ^ m) ∙ sym (ap (λ p. value / p) (pow-succ' 256 m))

-- the first part is stored, and then the second
pub stores_split : (m n total at value : ℕ) (old : ℕ → ℕ) → total ≡ m + n → at < 2 ^ 64
    → written (stores_from at total value) old
    ≡ written (stores_from ((at + m) % 2 ^ 64) n (value / 256 ^ m)) (written (stores_from at m value) old)
stores_split m n total at value old is low =
    stores_parts m n total at value old is low
    ∙ ap (λ v. written (stores_from ((at + m) % 2 ^ 64) n v) (written (stores_from at m value) old)) (shifted_is m value)

-- bytes above those that are stored don't matter
pub stores_low : (at n value m : ℕ) → n ≤ m → stores_from at n (value % 256 ^ m) ≡ stores_from at n value
stores_low at zero value m le = refl
stores_low at (suc n) value m le =
    let k = m - 1 in
    let up : m ≡ suc k = omega (arith, le) in
    let least : 0 ≤ k = omega arith in
    let some : 256 ^ 0 ≤ 256 ^ k = pow-le-pow_right (lit< tt) least in
    let is : value % 256 ^ m ≡ (value / 256 % 256 ^ k) * 256 + value % 256 =
    ap (λ j. value % 256 ^ j) up ∙ ap (λ p. value % p) (pow-suc 256 k) ∙ mod-mul value (omega (arith, some)) (lit< tt) in
    let first : value % 256 ^ m % 256 ≡ value % 256 = omega (arith, is) in
    let rest : value % 256 ^ m / 256 ≡ value / 256 % 256 ^ k = omega (arith, is) in
    ap (λ b. (at, b) ∷ stores_from (next_address at) n (value % 256 ^ m / 256)) first
    ∙ ap (λ r. (at, value % 256) ∷ stores_from (next_address at) n r) rest
    ∙ ap (λ s. (at, value % 256) ∷ s) (stores_low (next_address at) n (value / 256) k (omega (arith, le)))

-- of one element or two the bytes of the first
pub first_element : (test : ℕ → Bool) (width count at : ℕ) → (count ≡ 1) ⊎ (count ≡ 2) → IsTrue (all_from test at (width * count))
    → IsTrue (all_from test at width)
first_element test width count at (inl one) all =
    let same : width * count ≡ width = rw one (omega arith) in sym (ap (λ n. all_from test at n) same) ∙ all
first_element test width count at (inr two) all =
    let double : width * count ≡ width + width = rw two (omega arith) in first_part test width width (width * count) at double all

-- and of the second
pub second_element : (test : ℕ → Bool) (width count at : ℕ) → count ≡ 2 → at < 2 ^ 64 → IsTrue (all_from test at (width * count))
    → IsTrue (all_from test ((at + width) % 2 ^ 64) width)
second_element test width count at two low all =
    let double : width * count ≡ width + width = rw two (omega arith) in second_part test width width (width * count) at double low all
