-- The least byte that passes a test, which changes only at listed bytes, is 0 or one of these.
use Rattle.std.proofs.Common.{◌≡◌, ℕ, zero, suc, ◌<◌, ◌≤◌, ◌==◌, min, Bool, true, false, if◌then◌else◌, List, [], ◌∷◌, ◌++◌, fold, All, Option, None, Some, refl, sym, subst, ap, ◌∙◌, arith, append_assoc, ◌||◌, ◌⊎◌, inl, inr}
use Rattle.std.specs.List.{list_any}
use Rattle.std.proofs.lemmas.Bool.{eqb-true, cases_lt, false_from_ne_true}
use Rattle.std.proofs.lemmas.List.{append-nil}
use Rattle.std.proofs.lemmas.List.Elements.{All-nil, All-push, All-head, All-tail, All-weaker}
use Rattle.bao_wellformed.specs.ByteRules.{lesser, tried, least_of}
use Rattle.bao_wellformed.specs.Laws.{IsLeast}

abbrev pub is_listed : List ℕ → ℕ → Bool
is_listed bytes at = list_any (λ byte. byte == at) bytes

-- from one byte to the next it changes only where the next is listed
abbrev pub ChangesOnlyAt : {A : Type 0} → List ℕ → (ℕ → A) → Type 0
ChangesOnlyAt bytes f = (at : ℕ) → is_listed bytes (suc at) ≡ false → f (suc at) ≡ f at

listed_is : (P : ℕ → Type 0) (bytes : List ℕ) (at : ℕ) → All P bytes → is_listed bytes at ≡ true → P at
listed_is P [] at all h = cc
listed_is P (byte ∷ bytes) at all h = by_test (byte == at) refl h (listed_is P bytes at (All-tail P byte bytes all))
  where
    by_test : (b : Bool) → (byte == at) ≡ b → (b || is_listed bytes at) ≡ true → (is_listed bytes at ≡ true → P at) → P at
    by_test true e h rest = subst P (eqb-true byte at e) (All-head P byte bytes all)
    by_test false e h rest = rest h

module _ (test : ℕ → Bool) where
  -- what a walk has found: nothing where none passed, else the least that did
  abbrev Found : List ℕ → Option ℕ → Type 0
  Found bytes None = All (λ at. test at ≡ false) bytes
  Found bytes (Some least) = (test least ≡ true) × All (λ at. test at ≡ true → least ≤ at) bytes

  passed : (bytes : List ℕ) (at : ℕ) (found : Option ℕ) → test at ≡ true → Found bytes found → Found (bytes ++ at ∷ []) (Some (lesser at found))
  passed bytes at None e so_far = (
    e,
    All-push (λ byte. test byte ≡ true → at ≤ byte) bytes at
        (All-weaker (λ byte. test byte ≡ false) (λ byte. test byte ≡ true → at ≤ byte) (λ byte no yes. absurd (let x : true ≡ false = sym yes ∙ no in cc)) bytes so_far)
        (λ yes. omega arith),
  )
  passed bytes at (Some least) e (is, all) = (
    by_order (cases_lt at least),
    All-push (λ byte. test byte ≡ true → min at least ≤ byte) bytes at
        (All-weaker (λ byte. test byte ≡ true → least ≤ byte) (λ byte. test byte ≡ true → min at least ≤ byte) (λ byte lower yes. let l = lower yes in omega arith) bytes all)
        (λ yes. omega arith),
  )
    where
      by_order : (at < least) ⊎ (least ≤ at) → test (min at least) ≡ true
      by_order (inl low) = let m : min at least ≡ at = omega arith in ap test m ∙ e
      by_order (inr high) = let m : min at least ≡ least = omega arith in ap test m ∙ is

  not_passed : (bytes : List ℕ) (at : ℕ) (found : Option ℕ) → test at ≡ false → Found bytes found → Found (bytes ++ at ∷ []) found
  not_passed bytes at None e so_far = All-push (λ byte. test byte ≡ false) bytes at so_far e
  not_passed bytes at (Some least) e (is, all) =
      (is, All-push (λ byte. test byte ≡ true → least ≤ byte) bytes at all (λ yes. absurd (let x : true ≡ false = sym yes ∙ e in cc)))

  one_more : (bytes : List ℕ) (at : ℕ) (found : Option ℕ) → Found bytes found → Found (bytes ++ at ∷ []) (tried test found at)
  one_more bytes at found so_far = by_test (test at) refl
    where
      by_test : (b : Bool) → test at ≡ b → Found (bytes ++ at ∷ []) (if b then Some (lesser at found) else found)
      by_test true e = passed bytes at found e so_far
      by_test false e = not_passed bytes at found e so_far

  walk : (more bytes : List ℕ) (found : Option ℕ) → Found bytes found → Found (bytes ++ more) (fold (tried test) found more)
  walk [] bytes found so_far = subst (λ ys. Found ys found) (sym (append-nil bytes)) so_far
  walk (at ∷ more) bytes found so_far =
      subst (λ ys. Found ys (fold (tried test) (tried test found at) more)) (append_assoc bytes (at ∷ []) more)
      (walk more (bytes ++ at ∷ []) (tried test found at) (one_more bytes at found so_far))

  -- below a byte from which on all listed ones that pass lie, none passes
  none_below : (bytes : List ℕ) (least : ℕ) → ChangesOnlyAt bytes test → All (λ at. test at ≡ true → least ≤ at) (0 ∷ bytes)
      → (at : ℕ) → at < least → test at ≡ false
  none_below bytes least changes all zero low = by_test (test 0) refl
    where
      by_test : (b : Bool) → test 0 ≡ b → b ≡ false
      by_test false e = refl
      by_test true e = let zeroth = All-head (λ at. test at ≡ true → least ≤ at) 0 bytes all e in absurd (omega arith)
  none_below bytes least changes all (suc at) low =
      by_listed (is_listed bytes (suc at)) refl (none_below bytes least changes all at (omega arith))
    where
      passing : test (suc at) ≡ true → is_listed bytes (suc at) ≡ true → ⊥
      passing pass listed =
          let l = listed_is (λ byte. test byte ≡ true → least ≤ byte) bytes (suc at) (All-tail (λ byte. test byte ≡ true → least ≤ byte) 0 bytes all) listed pass in
          omega arith

      by_listed : (b : Bool) → is_listed bytes (suc at) ≡ b → test at ≡ false → test (suc at) ≡ false
      by_listed true listed before = false_from_ne_true (test (suc at)) (λ pass. passing pass listed)
      by_listed false unlisted before = changes at unlisted ∙ before

  none_at_all : (bytes : List ℕ) → ChangesOnlyAt bytes test → All (λ at. test at ≡ false) (0 ∷ bytes) → (at : ℕ) → test at ≡ false
  none_at_all bytes changes all zero = All-head (λ at. test at ≡ false) 0 bytes all
  none_at_all bytes changes all (suc at) = by_listed (is_listed bytes (suc at)) refl (none_at_all bytes changes all at)
    where
      by_listed : (b : Bool) → is_listed bytes (suc at) ≡ b → test at ≡ false → test (suc at) ≡ false
      by_listed true listed before = listed_is (λ byte. test byte ≡ false) bytes (suc at) (All-tail (λ byte. test byte ≡ false) 0 bytes all) listed
      by_listed false unlisted before = changes at unlisted ∙ before

  pub least_of_all : (bytes : List ℕ) → ChangesOnlyAt bytes test → IsLeast test (least_of test bytes)
  least_of_all bytes changes = by_found (least_of test bytes) (walk (0 ∷ bytes) [] None (All-nil (λ at. test at ≡ false)))
    where
      by_found : (found : Option ℕ) → Found (0 ∷ bytes) found → IsLeast test found
      by_found None none = none_at_all bytes changes none
      by_found (Some least) (is, all) = (is, none_below bytes least changes all)
