-- What holds of each count and of each VM of a generated workload.
use Rattle.std.proofs.Common.{◌≡◌, ℕ, zero, suc, ◌+◌, ◌%◌, ◌<◌, ◌≤◌, length, map, slice_get, Some, All, subst, sym, ap, ◌∙◌, arith}
use Rattle.std.specs.List.{range_with_len}
use Rattle.std.proofs.Math.Nat.{mod-lt}
use Rattle.std.proofs.lemmas.List.FromFn.{length-map-range_with_len, get_or-map-range_with_len}
use Rattle.schedule.specs.Workload.{core_count, for_each_below}

-- what holds of the counts 2, 3 and 4 holds of all
pub for_counts : (P : ℕ → Type 0) → P 2 → P 3 → P 4 → (n : ℕ) → P (core_count n)
for_counts P two three four n = by_rest (n % 3) (mod-lt n (omega arith))
  where
    by_rest : (rest : ℕ) → rest < 3 → P (2 + rest)
    by_rest zero low = two
    by_rest (suc zero) low = three
    by_rest (suc (suc zero)) low = four
    by_rest (suc (suc (suc rest))) low = absurd (omega arith)

pub count_bounds : (n : ℕ) → (2 ≤ core_count n) × (core_count n ≤ 4)
count_bounds n = let low : n % 3 < 3 = mod-lt n (omega arith) in (omega arith, omega arith)

-- what holds of the numbers below four holds of each
pub for_each : (P : ℕ → Type 0) → P 0 → P 1 → P 2 → P 3 → (v : ℕ) → v < 4 → P v
for_each P a b c d zero low = a
for_each P a b c d (suc zero) low = b
for_each P a b c d (suc (suc zero)) low = c
for_each P a b c d (suc (suc (suc zero))) low = d
for_each P a b c d (suc (suc (suc (suc v)))) low = absurd (omega arith)

-- a list of one element for each number has what each of them has
pub all_below : {A : Type 0} (P : A → Type 0) (element : ℕ → A) (count : ℕ) → ((v : ℕ) → v < count → P (element v))
    → All P (for_each_below count element)
all_below P element count each k d low =
    let below : k < count = omega (arith, length-map-range_with_len element 0 count) in
    subst P (sym (get_or-map-range_with_len element 0 count k k d below (omega arith))) (each k below)

-- what stands at a place is the element of its number
got_from : {A : Type 0} (element : ℕ → A) (low count v : ℕ) (x : A) → slice_get (map element (range_with_len low count)) v ≡ Some x
    → (v < count) × (element (low + v) ≡ x)
got_from element low zero v x got = cc
got_from element low (suc count) zero x got =
    let here : low + 0 ≡ low = omega arith in let same : element low ≡ x = cc in (omega arith, ap element here ∙ same)
got_from element low (suc count) (suc v) x got =
    let place : low + suc v ≡ low + 1 + v = omega arith in
    let rest = got_from element (low + 1) count v x got in
    let below = rest.0 in
    (omega arith, ap element place ∙ rest.1)

pub got_below : {A : Type 0} (element : ℕ → A) (count v : ℕ) (x : A) → slice_get (for_each_below count element) v ≡ Some x
    → (v < count) × (element v ≡ x)
got_below element count v x got =
    let found = got_from element 0 count v x got in let place : v ≡ 0 + v = omega arith in (found.0, ap element place ∙ found.1)

pub length_below : {A : Type 0} (element : ℕ → A) (count : ℕ) → length (for_each_below count element) ≡ count
length_below element count = length-map-range_with_len element 0 count
