-- One more bit of a word of flags, or byte of a word of priorities.
use Rattle.std.proofs.Common.{◌≡◌, ◌≢◌, ℕ, zero, suc, ◌+◌, ◌*◌, ◌/◌, ◌%◌, ◌^◌, ◌<◌, ◌==◌, Bool, true, false, if◌then◌else◌}
use Rattle.std.proofs.Common.{refl, ap, ◌∙◌, arith, add-one, add-zero, eq-eqb}
use Rattle.std.specs.Int.{bit_at}
use Rattle.std.proofs.lemmas.Bool.{ne_eqb}
use Rattle.std.proofs.lemmas.Nat.{mul-add-lt, pow-add, shl_whole}
use Rattle.std.proofs.Math.Nat.{pow-suc}
use Rattle.vgic_table.specs.declared.id_state.IdState.{IdState}
use Rattle.vgic_table.specs.Interrupts.{Interrupts, state_of}
use Rattle.vgic_emul.specs.Effects.{changed, changed_by_bits, flag_bits, priority_bytes, with_priorities}

pub flag_bits-none : (vm : Interrupts) (core : ℕ) (flag : IdState → Bool) (first : ℕ) → flag_bits vm core flag first 0 ≡ 0
unfolding flag_bits
flag_bits-none vm core flag first = refl

pub flag_bits-on : (vm : Interrupts) (core : ℕ) (flag : IdState → Bool) (first count : ℕ) → flag (state_of vm core (first + count)) ≡ true →
    flag_bits vm core flag first (count + 1) ≡ flag_bits vm core flag first count + 2 ^ count
unfolding flag_bits
flag_bits-on vm core flag first count on = rw (add-one, on) refl

pub flag_bits-off : (vm : Interrupts) (core : ℕ) (flag : IdState → Bool) (first count : ℕ) → flag (state_of vm core (first + count)) ≡ false →
    flag_bits vm core flag first (count + 1) ≡ flag_bits vm core flag first count
unfolding flag_bits
flag_bits-off vm core flag first count off = rw (add-one, off) (add-zero _)

pub flag_bits-lt : (vm : Interrupts) (core : ℕ) (flag : IdState → Bool) (first count : ℕ) → flag_bits vm core flag first count < 2 ^ count
unfolding flag_bits
flag_bits-lt vm core flag first zero = omega arith
flag_bits-lt vm core flag first (suc count) = by_test (flag (state_of vm core (first + count))) (flag_bits-lt vm core flag first count)
  where
    by_test : (test : Bool) → flag_bits vm core flag first count < 2 ^ count →
        flag_bits vm core flag first count + (if test then 2 ^ count else 0) < 2 ^ suc count
    by_test true rest = rw pow-suc (omega (arith, rest))
    by_test false rest = rw pow-suc (omega (arith, rest))

pub changed_by_bits-none : (change : ℕ → Interrupts → Interrupts) (vm : Interrupts) (value first : ℕ) →
    changed_by_bits change vm value first 0 ≡ vm
unfolding changed_by_bits
changed_by_bits-none change vm value first = refl

pub changed_by_bits-set : (change : ℕ → Interrupts → Interrupts) (vm : Interrupts) (value first count : ℕ) → bit_at value count ≡ 1 →
    changed_by_bits change vm value first (count + 1) ≡ change (first + count) (changed_by_bits change vm value first count)
unfolding changed_by_bits
changed_by_bits-set change vm value first count set =
    let test : (bit_at value count == 1) ≡ true = eq-eqb _ _ set in
    rw (add-one, test) refl

pub changed_by_bits-clear : (change : ℕ → Interrupts → Interrupts) (vm : Interrupts) (value first count : ℕ) → bit_at value count ≢ 1 →
    changed_by_bits change vm value first (count + 1) ≡ changed_by_bits change vm value first count
unfolding changed_by_bits
changed_by_bits-clear change vm value first count clear =
    let test : (bit_at value count == 1) ≡ false = ne_eqb _ _ clear in
    rw (add-one, test) refl

pub priority_bytes-none : (vm : Interrupts) (core first : ℕ) → priority_bytes vm core first 0 ≡ 0
unfolding priority_bytes
priority_bytes-none vm core first = refl

pub priority_bytes-more : (vm : Interrupts) (core first count : ℕ) →
    priority_bytes vm core first (count + 1)
    ≡ priority_bytes vm core first count + (state_of vm core (first + count)).priority * 2 ^ (8 * count)
unfolding priority_bytes
priority_bytes-more vm core first count = rw add-one refl

-- a byte above this many others
pub byte_above-whole : (byte above : ℕ) → byte < 4 → above < 256 → above * 2 ^ (8 * byte) % 2 ^ 64 ≡ above * 2 ^ (8 * byte)
byte_above-whole byte above least small = shl_whole above 8 (8 * byte) 64 small (omega arith)

pub byte_above-lt : (byte above below : ℕ) → above < 256 → below < 2 ^ (8 * byte) → below + above * 2 ^ (8 * byte) < 2 ^ (8 * (byte + 1))
byte_above-lt byte above below small least =
    let next : 8 * (byte + 1) ≡ 8 * byte + 8 = omega arith in
    let power : 2 ^ (8 * (byte + 1)) ≡ 2 ^ (8 * byte) * 256 = ap (λ n. 2 ^ n) next ∙ pow-add 2 (8 * byte) 8 in
    omega (arith, power, mul-add-lt above (2 ^ (8 * byte)) below 256 small least)

pub with_priorities-none : (vm : Interrupts) (core value first : ℕ) → with_priorities vm core value first 0 ≡ vm
unfolding with_priorities
with_priorities-none vm core value first = refl

pub with_priorities-more : (vm : Interrupts) (core value first count : ℕ) →
    with_priorities vm core value first (count + 1)
    ≡ changed (with_priorities vm core value first count) core (first + count)
    (λ state. record state { priority = value / 2 ^ (8 * count) % 256 })
unfolding with_priorities
with_priorities-more vm core value first count = rw add-one refl
