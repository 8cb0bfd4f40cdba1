-- Which cores the line of a port reaches: those of the VM that is given the port.
use Rattle.std.proofs.Common.{◌≡◌, ◌≢◌, ℕ, zero, suc, ◌+◌, ◌/◌, ◌%◌, ◌^◌, ◌<◌, ◌==◌, Bool, true, false, cond, List, [], ◌∷◌, map, find, sum, slice_get, Option, Some, None, refl, sym, ap, subst, ◌∙◌, arith}
use Rattle.std.specs.Prelude.{IsTrue, ◌||◌}
use Rattle.std.specs.List.{list_any}
use Rattle.std.specs.Int.{bit_at}
use Rattle.std.proofs.Math.Nat.{pow-succ'}
use Rattle.std.proofs.lemmas.Bool.{both_ways, eq-eqb, eqb-true, false_from_ne_true}
use Rattle.std.proofs.lemmas.Bool.Decides.{nat_tests, same_from_decides}
use Rattle.std.proofs.lemmas.List.Sums.{sum_by-cons}
use Rattle.std.proofs.lemmas.Nat.Bits.{bit_at-lt, bit_at-suc, bit_at-zero, bit_at_lowest}
use Rattle.bao_config.specs.Data.{ConfigData, VmData}
use Rattle.bao_wellformed.specs.Laws.{IsVm}
use Rattle.bao_wellformed.specs.Map.{has_core, has_port}
use Rattle.bao_wellformed.specs.WellFormed.{IsWellFormed}
use Rattle.bao_wellformed.proofs.Empty.{any_got}
use Rattle.bao_wellformed.proofs.Once.{cores_apart, cores_once, ports_apart}
use Rattle.vm_model.proofs.Lists.{found_got}
use Rattle.hypervisor.specs.Shape.{core_mask}

-- a bit that a number lacks is added to it
bit_same : (x n : ℕ) → bit_at n x ≡ 0 → bit_at (2 ^ x + n) x ≡ 1
bit_same zero n none = bit_at_lowest (2 ^ 0 + n) ∙ omega (arith, none, bit_at_lowest n)
bit_same (suc x) n none =
    let half : (2 ^ suc x + n) / 2 ≡ 2 ^ x + n / 2 = omega (arith, pow-succ' 2 x) in
    bit_at-suc (2 ^ suc x + n) x ∙ ap (λ m. bit_at m x) half ∙ bit_same x (n / 2) (sym (bit_at-suc n x) ∙ none)

-- and all its other bits stay
bit_other : (x i n : ℕ) → i ≢ x → bit_at n x ≡ 0 → bit_at (2 ^ x + n) i ≡ bit_at n i
bit_other zero zero n differ none = absurd (differ refl)
bit_other zero (suc i) n differ none =
    let half : (2 ^ 0 + n) / 2 ≡ n / 2 = omega (arith, none, bit_at_lowest n) in
    bit_at-suc (2 ^ 0 + n) i ∙ ap (λ m. bit_at m i) half ∙ sym (bit_at-suc n i)
bit_other (suc x) zero n differ none =
    let even : (2 ^ suc x + n) % 2 ≡ n % 2 = omega (arith, pow-succ' 2 x) in
    bit_at_lowest (2 ^ suc x + n) ∙ even ∙ sym (bit_at_lowest n)
bit_other (suc x) (suc i) n differ none =
    let half : (2 ^ suc x + n) / 2 ≡ 2 ^ x + n / 2 = omega (arith, pow-succ' 2 x) in
    bit_at-suc (2 ^ suc x + n) i ∙ ap (λ m. bit_at m i) half
    ∙ bit_other x i (n / 2) (λ same. differ (ap suc same)) (sym (bit_at-suc n x) ∙ none) ∙ sym (bit_at-suc n i)

-- no number stands twice in a list
abbrev pub StandOnce : List ℕ → Type 0
StandOnce numbers = (i j number : ℕ) → slice_get numbers i ≡ Some number → slice_get numbers j ≡ Some number → i ≡ j

-- a mask of bits has those of these numbers
abbrev mask_of : List ℕ → ℕ
mask_of numbers = sum (map (λ number. 2 ^ number) numbers)

abbrev Masks : List ℕ → Type 0
Masks numbers = (number : ℕ) → (bit_at (mask_of numbers) number == 1) ≡ list_any (λ own. own == number) numbers

-- the sum of the bits of numbers that stand once does
pub mask_bit : (numbers : List ℕ) → StandOnce numbers → Masks numbers
mask_bit [] once number = ap (λ bit. bit == 1) (bit_at-zero number)
mask_bit (x ∷ xs) once number =
    ap (λ mask. bit_at mask number == 1) (sum_by-cons (λ n. n) (2 ^ x) (map (λ own. 2 ^ own) xs))
    ∙ by_test (λ other. mask_bit xs later other) (x == number) refl
  where
    later : StandOnce xs
    later i j other one two = let e = once (suc i) (suc j) other one two in omega (arith, e)

    absent : list_any (λ own. own == x) xs ≡ false
    absent = false_from_ne_true _ (λ is.
        let found = any_got (λ own. own == x) xs is in
        let e : 0 ≡ suc found.0 = once 0 (suc found.0) x refl (found.2 ∙ ap Some (eqb-true found.1 x found.3)) in omega (arith, e))

    lacks : (bit : ℕ) → bit < 2 → (bit == 1) ≡ false → bit ≡ 0
    lacks bit low fails = grind (arith, nat_tests)

    none : Masks xs → bit_at (mask_of xs) x ≡ 0
    none masked = lacks (bit_at (mask_of xs) x) (bit_at-lt (mask_of xs) x) (masked x ∙ absent)

    by_test : Masks xs → (b : Bool) → (x == number) ≡ b → (bit_at (2 ^ x + mask_of xs) number == 1) ≡ (b || list_any (λ own. own == number) xs)
    by_test masked true e =
        eq-eqb _ 1 (subst (λ n. bit_at (2 ^ x + mask_of xs) n ≡ 1) (eqb-true x number e) (bit_same x (mask_of xs) (none masked)))
    by_test masked false e =
        ap (λ bit. bit == 1)
        (bit_other x number (mask_of xs) (λ same. both_ways (x == number) e (eq-eqb x number (sym same))) (none masked))
        ∙ masked number

-- none is found where none passes, and none passes where none is found
pub found_none : {A : Type 0} (p : A → Bool) (xs : List A) → list_any p xs ≡ false → find p xs ≡ None
found_none p [] none = refl
found_none p (x ∷ xs) none = by_test (found_none p xs) (p x) none
  where
    by_test : (list_any p xs ≡ false → find p xs ≡ None) → (b : Bool) → (b || list_any p xs) ≡ false → cond b (Some x) (find p xs) ≡ None
    by_test later true none = cc
    by_test later false none = later none

pub none_found : {A : Type 0} (p : A → Bool) (xs : List A) → find p xs ≡ None → (k : ℕ) (x : A) → slice_get xs k ≡ Some x → p x ≡ false
none_found p [] none k x got = cc
none_found {A} p (y ∷ ys) none k x got = by_test (λ no j. none_found p ys no j x) (p y) refl none k got
  where
    by_test : (find p ys ≡ None → (j : ℕ) → slice_get ys j ≡ Some x → p x ≡ false) → (b : Bool) → p y ≡ b
        → cond b (Some y) (find p ys) ≡ None → (k : ℕ) → slice_get (y ∷ ys) k ≡ Some x → p x ≡ false
    by_test later true e none k got = cc
    by_test later false e none zero got = let same : y ≡ x = cc in ap p (sym same) ∙ e
    by_test later false e none (suc k) got = later none k got

-- two tests that follow from each other are one
pub same_tests : (a b : Bool) → (a ≡ true → b ≡ true) → (b ≡ true → a ≡ true) → a ≡ b
same_tests a b there back = same_from_decides {P = b ≡ true} a b (there, back) ((λ e. e), (λ e. e))

module _ (cfg : ConfigData) (well_formed : IsWellFormed cfg) (v core : ℕ) (vm : VmData) (place : IsVm cfg v vm) where
  -- a VM's mask has the bits of its cores
  pub core_mask_bit : (bit_at (core_mask (Some vm)) core == 1) ≡ has_core core vm
  core_mask_bit = mask_bit vm.cores (λ i j own one two. cores_once cfg v vm i j own well_formed place one two) core

module _ (cfg : ConfigData) (well_formed : IsWellFormed cfg) (v core : ℕ) (vm : VmData) (place : IsVm cfg v vm) (has : IsTrue (has_core core vm)) where
  -- the line of a port reaches a core of a VM exactly where this VM is given the port
  pub mask_given : (port : ℕ) → (bit_at (core_mask (find (has_port port) cfg.vms)) core == 1) ≡ has_port port vm
  mask_given port = by_found (find (has_port port) cfg.vms) refl
    where
      same_vm : (w : ℕ) (other : VmData) → IsVm cfg w other → v ≡ w → vm ≡ other
      same_vm w other there same = let e : Some vm ≡ Some other = sym place ∙ ap (slice_get cfg.vms) same ∙ there in cc

      by_found : (found : Option VmData) → find (has_port port) cfg.vms ≡ found → (bit_at (core_mask found) core == 1) ≡ has_port port vm
      by_found None is = ap (λ bit. bit == 1) (bit_at-zero core) ∙ sym (none_found (has_port port) cfg.vms is v vm place)
      by_found (Some other) is =
          let found = found_got (has_port port) cfg.vms other is in
          core_mask_bit cfg well_formed found.0 core other found.1
          ∙ same_tests (has_core core other) (has_port port vm)
          (λ has_too. ap (has_port port) (same_vm found.0 other found.1 (cores_apart cfg v found.0 vm other core well_formed place found.1 has has_too)) ∙ found.2)
          (λ given. ap (has_core core) (sym (same_vm found.0 other found.1 (ports_apart cfg v found.0 vm other port well_formed place found.1 given found.2))) ∙ has)
