-- The cores of a VM differ, so their bits fit a mask.
use Rattle.std.proofs.Common.{◌≡◌, ◌≢◌, ℕ, zero, suc, ◌^◌, ◌<◌, ◌≤◌, ◌==◌, ◌⊎◌, inl, inr, true, false, not, List, [], ◌∷◌, filter, get_or, slice_get, All, Some, sum_by, refl, sym, ap, ◌∙◌, arith, rules}
use Rattle.std.specs.List.{AllPairs}
use Rattle.std.proofs.Math.Nat.{pow-succ'}
use Rattle.std.proofs.lemmas.Bool.{cases_order, eq-eqb, eqb-true}
use Rattle.std.proofs.lemmas.Bool.Decides.{nat_tests}
use Rattle.std.proofs.lemmas.List.Elements.{All-filter, All-head, filter_passes}
use Rattle.std.proofs.lemmas.List.Filters.{sum_by-filter_both}
use Rattle.std.proofs.lemmas.List.Kept.{AllPairs-filter}
use Rattle.std.proofs.lemmas.List.Sums.{sum_by-cons}
use Rattle.std.proofs.lemmas.Option.{slice_get-get_or}
use Rattle.bao_config.specs.Data.{ConfigData, VmData}
use Rattle.bao_wellformed.specs.Break.{pairs}
use Rattle.bao_wellformed.specs.Claims.{claims, numbers_of}
use Rattle.bao_wellformed.specs.Laws.{IsVm}
use Rattle.bao_wellformed.specs.Rules.{are_one, rule_11}
use Rattle.bao_wellformed.proofs.Empty.{map_empty}
use Rattle.bao_wellformed.proofs.Once.{claim, claim_got}
use Rattle.vm_model.proofs.Banks.{pair_fails}

abbrev pub Differ : List ℕ → Type 0
Differ numbers = AllPairs (λ one other. one ≢ other) numbers

-- of numbers that differ one at most is this one
bit_of : (n : ℕ) (numbers : List ℕ) → Differ numbers → All (λ x. (x == n) ≡ true) numbers → sum_by (λ x. 2 ^ x) numbers ≤ 2 ^ n
bit_of n [] differ same = omega arith
bit_of n (x ∷ []) differ same =
    let e : x ≡ n = eqb-true x n (All-head (λ x. (x == n) ≡ true) x [] same) in
    omega (arith, sum_by-cons (λ x. 2 ^ x) x [], ap (λ x. 2 ^ x) e)
bit_of n (x ∷ y ∷ numbers) differ same =
    let first : x ≡ n = eqb-true x n (same 0 0 (omega arith)) in
    let second : y ≡ n = eqb-true y n (same 1 0 (omega arith)) in
    absurd (differ 0 1 0 (omega arith) (omega arith) (first ∙ sym second))

-- the bits of numbers below n that differ are together less than the next bit
pub bits_below : (n : ℕ) (numbers : List ℕ) → Differ numbers → All (λ x. x < n) numbers → sum_by (λ x. 2 ^ x) numbers < 2 ^ n
bits_below zero [] differ low = omega arith
bits_below zero (x ∷ numbers) differ low = absurd (let no : x < 0 = All-head (λ x. x < 0) x numbers low in omega (arith, no))
bits_below (suc n) numbers differ low =
    let here = filter (λ x. x == n) numbers in
    let rest = filter (λ x. not (x == n)) numbers in
    let one = bit_of n here (AllPairs-filter (λ one other. one ≢ other) (λ x. x == n) numbers differ) (filter_passes (λ x. x == n) numbers) in
    let others = bits_below n rest (AllPairs-filter (λ one other. one ≢ other) (λ x. not (x == n)) numbers differ) (all_lower rest
    (All-filter (λ x. not (x == n)) (λ x. x < suc n) numbers low) (filter_passes (λ x. not (x == n)) numbers)) in
    let both = sum_by-filter_both (λ x. x == n) (λ x. not (x == n)) (λ x. refl) (λ x. 2 ^ x) numbers in
    omega (arith, one, others, both, pow-succ' 2 n)
  where
    lower : (x : ℕ) → x < suc n → not (x == n) ≡ true → x < n
    lower x low other = grind (arith, nat_tests)

    all_lower : (xs : List ℕ) → All (λ x. x < suc n) xs → All (λ x. not (x == n) ≡ true) xs → All (λ x. x < n) xs
    all_lower xs low other k d within = lower (get_or xs k d) (low k d within) (other k d within)

not_one : {one other : ℕ} → (one == other) ≡ false → one ≡ other → ⊥
not_one {one} {other} fails same = let yes = eq-eqb one other same in let x : true ≡ false = sym yes ∙ fails in cc

-- what no two claims of a configuration share doesn't stand twice in a VM
numbers_differ : (claimed : _) (cfg : ConfigData) → filter (λ (one, other). are_one one other) (pairs (claims claimed cfg)) ≡ []
    → (v : ℕ) (vm : VmData) → IsVm cfg v vm → Differ (numbers_of claimed vm)
numbers_differ claimed cfg nothing v vm is i j d less low same =
    let numbers = numbers_of claimed vm in
    let first = claim_got cfg claimed v vm i (get_or numbers i d) is (slice_get-get_or numbers i d (omega (arith, less, low))) in
    let second = claim_got cfg claimed v vm j (get_or numbers j d) is (slice_get-get_or numbers j d low) in
    by_order first.0 second.0 first.1 second.1 (cases_order first.0 second.0)
  where
    by_order : (p q : ℕ) → slice_get (claims claimed cfg) p ≡ Some (claim cfg claimed v i (get_or (numbers_of claimed vm) i d))
        → slice_get (claims claimed cfg) q ≡ Some (claim cfg claimed v j (get_or (numbers_of claimed vm) j d)) → (p ≡ q) ⊎ ((p < q) ⊎ (q < p)) → ⊥
    by_order p q first second (inl at) =
        let e : Some (claim cfg claimed v i (get_or (numbers_of claimed vm) i d)) ≡ Some (claim cfg claimed v j (get_or (numbers_of claimed vm) j d)) =
        sym first ∙ ap (slice_get (claims claimed cfg)) at ∙ second in
        let c : claim cfg claimed v i (get_or (numbers_of claimed vm) i d) ≡ claim cfg claimed v j (get_or (numbers_of claimed vm) j d) = cc in
        let place : i ≡ j = ap (λ x. x.item) c in
        omega (arith, less, place)
    by_order p q first second (inr (inl before)) =
        not_one (pair_fails are_one (claims claimed cfg) nothing p q (claim cfg claimed v i (get_or (numbers_of claimed vm) i d))
        (claim cfg claimed v j (get_or (numbers_of claimed vm) j d)) first second before) same
    by_order p q first second (inr (inr after)) =
        not_one (pair_fails are_one (claims claimed cfg) nothing q p (claim cfg claimed v j (get_or (numbers_of claimed vm) j d))
        (claim cfg claimed v i (get_or (numbers_of claimed vm) i d)) second first after) (sym same)

-- no core stands twice in a VM
pub cores_differ : (cfg : ConfigData) → rule_11 cfg ≡ [] → (v : ℕ) (vm : VmData) → IsVm cfg v vm → Differ vm.cores
cores_differ cfg nothing v vm is = search (numbers_differ, map_empty, rules)
