-- Each maximal run wants an enabled entry of its own: the one that begins where the run does.
use Rattle.std.proofs.Common.{◌≡◌, ◌≢◌, ℕ, zero, suc, ◌+◌, ◌-◌, ◌<◌, ◌≤◌, nat_le, ◌&&◌, Bool, true, false, cond, if◌then◌else◌, ◌⊎◌, inl, inr, List, [], ◌∷◌, filter, length, slice_get, Some, refl, sym, subst, ap, ◌∙◌, arith}
use Rattle.std.proofs.lemmas.Bool.{and_parts, cases_lt}
use Rattle.std.proofs.lemmas.Bool.Decides.{nat_tests}
use Rattle.bao_types.specs.declared.access.Class.{Class}
use Rattle.bao_types.specs.declared.access.Class.TheVariants.{Nothing, Hyp, Guest}
use Rattle.bao_types.specs.declared.region.Region.{Region}
use Rattle.bao_types.specs.ByteRange.{end}
use Rattle.bao_types.specs.Region.{covers, first_byte, is_enabled, is_match, last_byte, matching_regions}
use Rattle.bao_types.proofs.Ranges.{is_within-between}
use Rattle.region_list.specs.declared.run.Run.{Run}
use Rattle.region_list.specs.Runs.{AreRunsFrom, IsMaximalRun}
use Rattle.mpu_packer.specs.Packing.{HasBits, IsRealised, Realises, enabled_count}
use Rattle.mpu_packer.specs.Laws.{HasNoFewer}

-- the bits of an entry tell the class
abbrev number_if : Bool → ℕ → ℕ → ℕ
number_if b yes' no' = if b then yes' else no'

same_write : (one other : Bool) → number_if one 1 3 ≡ number_if other 1 3 → one ≡ other
same_write true true e = refl
same_write false false e = refl
same_write true false e = absurd (omega arith)
same_write false true e = absurd (omega arith)

same_exec : (one other : Bool) → number_if one 0 1 ≡ number_if other 0 1 → one ≡ other
same_exec true true e = refl
same_exec false false e = refl
same_exec true false e = absurd (omega arith)
same_exec false true e = absurd (omega arith)

same_port : (one other : Bool) → number_if one 1 0 ≡ number_if other 1 0 → one ≡ other
same_port true true e = refl
same_port false false e = refl
same_port true false e = absurd (omega arith)
same_port false true e = absurd (omega arith)

not_hyp : (write : Bool) → number_if write 1 3 ≡ 0 → ⊥
not_hyp true e = omega arith
not_hyp false e = omega arith

same_class : (one other : Class) (entry : Region) → one ≢ Nothing → other ≢ Nothing → HasBits entry one → HasBits entry other → one ≡ other
same_class Nothing other entry something also bits its = absurd (something refl)
same_class Hyp Nothing entry something also bits its = absurd (also refl)
same_class Hyp Hyp entry something also bits its = refl
same_class Hyp (Guest write exec port) entry something also bits its = absurd (not_hyp write (sym its.permission ∙ bits.permission))
same_class (Guest write exec port) Nothing entry something also bits its = absurd (also refl)
same_class (Guest write exec port) Hyp entry something also bits its = absurd (not_hyp write (sym bits.permission ∙ its.permission))
same_class (Guest write exec port) (Guest write' exec' port') entry something also bits its =
    let w = same_write write write' (sym bits.permission ∙ its.permission) in
    let x = same_exec exec exec' (sym bits.execute_never ∙ its.execute_never) in
    let p = same_port port port' (sym bits.attribute ∙ its.attribute) in
    λ t. Guest (w t) (x t) (p t)

realised_one : (class : Class) (matching : List Region) → class ≢ Nothing → IsRealised class matching
    → (entry : Region) × (matching ≡ entry ∷ []) × HasBits entry class
realised_one Nothing matching something realised = absurd (something refl)
realised_one Hyp matching something realised = realised
realised_one (Guest write exec port) matching something realised = realised

realised_something : (class : Class) (matching : List Region) (entry : Region) (more : List Region) → IsRealised class matching → matching ≡ entry ∷ more
    → class ≢ Nothing
realised_something Nothing matching entry more none one = λ same. let e : [] ≡ entry ∷ more = sym none ∙ one in cc
realised_something Hyp matching entry more realised one = λ same. cc
realised_something (Guest write exec port) matching entry more realised one = λ same. cc

-- the one that is kept stands in the list and passes
filter_got : {A : Type 0} (p : A → Bool) (xs : List A) (x : A) (more : List A) → filter p xs ≡ x ∷ more
    → (place : ℕ) × (slice_get xs place ≡ Some x) × (p x ≡ true)
filter_got p [] x more e = cc
filter_got {A} p (y ∷ ys) x more e = by_test (p y) refl e (filter_got p ys x more)
  where
    by_test : (b : Bool) → p y ≡ b → cond b (y ∷ filter p ys) (filter p ys) ≡ x ∷ more
        → (filter p ys ≡ x ∷ more → (place : ℕ) × (slice_get ys place ≡ Some x) × (p x ≡ true))
        → (place : ℕ) × (slice_get (y ∷ ys) place ≡ Some x) × (p x ≡ true)
    by_test true t e rest = let same : y ≡ x = cc in (0, ap Some same, ap p (sym same) ∙ t)
    by_test false t e rest = let r = rest e in (suc r.0, r.1, r.2)

-- what stands in the list and passes is kept
filter_keeps : {A : Type 0} (p : A → Bool) (xs : List A) (place : ℕ) (x : A) → slice_get xs place ≡ Some x → p x ≡ true
    → (at : ℕ) × (slice_get (filter p xs) at ≡ Some x)
filter_keeps p [] place x got pass = cc
filter_keeps {A} p (y ∷ ys) zero x got pass =
    let same : y ≡ x = cc in let t : p y ≡ true = ap p same ∙ pass in (0, rw t (ap Some same))
filter_keeps {A} p (y ∷ ys) (suc place) x got pass = by_test (p y) (filter_keeps p ys place x got pass)
  where
    by_test : (b : Bool) → (at : ℕ) × (slice_get (filter p ys) at ≡ Some x) → (at : ℕ) × (slice_get (cond b (y ∷ filter p ys) (filter p ys)) at ≡ Some x)
    by_test true (at, kept) = (suc at, kept)
    by_test false (at, kept) = (at, kept)

alone : {A : Type 0} (xs : List A) (at : ℕ) (x y : A) → xs ≡ y ∷ [] → slice_get xs at ≡ Some x → x ≡ y
alone xs zero x y one got = let e : Some y ≡ Some x = sym (ap (λ xs. slice_get xs 0) one) ∙ got in cc
alone xs (suc at) x y one got = let e : slice_get (y ∷ []) (suc at) ≡ Some x = sym (ap (λ xs. slice_get xs (suc at)) one) ∙ got in cc

-- how many enabled entries begin at a byte or after it
abbrev begins_from : ℕ → Region → Bool
begins_from low entry = is_enabled entry && nat_le low (first_byte entry)

abbrev count_from : ℕ → List Region → ℕ
count_from low entries = length (filter (begins_from low) entries)

fewer_one : (low high : ℕ) (on : Bool) (first : ℕ) (few many : List Region) (entry : Region) → low ≤ high → length few ≤ length many
    → length (cond (on && nat_le high first) (entry ∷ few) few) ≤ length (cond (on && nat_le low first) (entry ∷ many) many)
fewer_one low high false first few many entry order less = less
fewer_one low high true first few many entry order less = by_order (nat_le high first) (nat_le low first) refl refl
  where
    by_order : (h l : Bool) → nat_le high first ≡ h → nat_le low first ≡ l → length (cond h (entry ∷ few) few) ≤ length (cond l (entry ∷ many) many)
    by_order true true a b = omega arith
    by_order false true a b = omega arith
    by_order false false a b = less
    by_order true false a b = absurd (grind (arith, nat_tests))

fewer : (entries : List Region) (low high : ℕ) → low ≤ high → count_from high entries ≤ count_from low entries
fewer [] low high order = omega arith
fewer (entry ∷ entries) low high order =
    fewer_one low high (is_enabled entry) (first_byte entry) (filter (begins_from high) entries) (filter (begins_from low) entries) entry order
    (fewer entries low high order)

-- an entry that begins in between makes one more
one_fewer : (entries : List Region) (place : ℕ) (entry : Region) (low high : ℕ) → slice_get entries place ≡ Some entry → is_enabled entry ≡ true
    → low ≤ first_byte entry → first_byte entry < high → count_from high entries + 1 ≤ count_from low entries
one_fewer [] place entry low high got on from before = cc
one_fewer (other ∷ entries) zero entry low high got on from before =
    let same : other ≡ entry = cc in
    let out : begins_from high other ≡ false = ap (begins_from high) same ∙ (let f : nat_le high (first_byte entry) ≡ false = grind (arith, nat_tests) in rw (on, f) refl) in
    let into : begins_from low other ≡ true = ap (begins_from low) same ∙ (let t : nat_le low (first_byte entry) ≡ true = grind (arith, nat_tests) in rw (on, t) refl) in
    let rest = fewer entries low high (omega arith) in
    rw (out, into) (omega (arith, rest))
one_fewer (other ∷ entries) (suc place) entry low high got on from before =
    let rest = one_fewer entries place entry low high got on from before in
    by_test (begins_from high other) (begins_from low other) refl refl rest
  where
    by_test : (h l : Bool) → begins_from high other ≡ h → begins_from low other ≡ l → count_from high entries + 1 ≤ count_from low entries
        → length (cond h (other ∷ filter (begins_from high) entries) (filter (begins_from high) entries)) + 1
        ≤ length (cond l (other ∷ filter (begins_from low) entries) (filter (begins_from low) entries))
    by_test true true a b less = omega arith
    by_test false true a b less = omega arith
    by_test false false a b less = less
    by_test true false a b less =
        let parts = and_parts (is_enabled other) (nat_le high (first_byte other)) a in
        let on' = parts.0 in let high' = parts.1 in
        let l : nat_le low (first_byte other) ≡ true = grind (arith, nat_tests) in
        let x : true ≡ false = sym (rw (on', l) refl) ∙ b in cc

module _ (class_of : ℕ → Class) (entries : List Region) (realises : Realises entries class_of) where
  -- the entry that contains the first byte of a run begins there
  record BeginsAt (base : ℕ) : Type 0 where
    place : ℕ
    entry : Region
    got : slice_get entries place ≡ Some entry
    on : is_enabled entry ≡ true
    begins : first_byte entry ≡ base

  begins_at : (run : Run) → IsMaximalRun class_of run → BeginsAt run.range.base
  begins_at run maximal =
      record { place = kept.0; entry = one.0; got = kept.1; on = match.0; begins = by_order (cases_lt (first_byte one.0) run.range.base) }
    where
      own : class_of run.range.base ≡ run.class
      own = let more = maximal.not_empty in maximal.equal run.range.base (is_within-between run.range run.range.base (omega arith) (omega (arith, more)))

      something : class_of run.range.base ≢ Nothing
      something nothing = maximal.not_nothing (sym own ∙ nothing)

      one : (entry : Region) × (matching_regions entries run.range.base ≡ entry ∷ []) × HasBits entry (class_of run.range.base)
      one = realised_one (class_of run.range.base) (matching_regions entries run.range.base) something (realises run.range.base)

      kept : (place : ℕ) × (slice_get entries place ≡ Some one.0) × (is_match one.0 run.range.base ≡ true)
      kept = filter_got (λ region. is_match region run.range.base) entries one.0 [] one.1

      match : (is_enabled one.0 ≡ true) × (covers one.0 run.range.base ≡ true)
      match = and_parts (is_enabled one.0) (covers one.0 run.range.base) kept.2

      bounds : (nat_le (first_byte one.0) run.range.base ≡ true) × (nat_le run.range.base (last_byte one.0) ≡ true)
      bounds = and_parts (nat_le (first_byte one.0) run.range.base) (nat_le run.range.base (last_byte one.0)) match.1

      before_too : first_byte one.0 < run.range.base → is_match one.0 (run.range.base - 1) ≡ true
      before_too less =
          let upper = bounds.1 in
          let on = match.0 in
          let a : nat_le (first_byte one.0) (run.range.base - 1) ≡ true = grind (arith, nat_tests) in
          let b : nat_le (run.range.base - 1) (last_byte one.0) ≡ true = grind (arith, nat_tests) in
          rw (on, a, b) refl

      other : (class : Class) → class ≢ Nothing → class_of (run.range.base - 1) ≡ class
          → IsRealised (class_of (run.range.base - 1)) (matching_regions entries (run.range.base - 1))
          → (place : ℕ) × (slice_get (matching_regions entries (run.range.base - 1)) place ≡ Some one.0) → first_byte one.0 < run.range.base → ⊥
      other class also is realised (place, got) less =
          let there = realised_one (class_of (run.range.base - 1)) (matching_regions entries (run.range.base - 1)) (λ nothing. also (sym is ∙ nothing)) realised in
          let same = alone (matching_regions entries (run.range.base - 1)) place one.0 there.0 there.1 got in
          let bits = subst (λ entry. HasBits entry (class_of (run.range.base - 1))) (sym same) there.2 in
          maximal.before (run.range.base - 1) (omega arith)
          (same_class (class_of (run.range.base - 1)) (class_of run.range.base) one.0 (λ nothing. also (sym is ∙ nothing)) something bits one.2 ∙ own)

      not_earlier : first_byte one.0 < run.range.base → ⊥
      not_earlier less =
          let at : (place : ℕ) × (slice_get (matching_regions entries (run.range.base - 1)) place ≡ Some one.0) =
          filter_keeps (λ region. is_match region (run.range.base - 1)) entries kept.0 one.0 kept.1 (before_too less) in
          by_class (class_of (run.range.base - 1)) refl (realises (run.range.base - 1)) at less
        where
          by_class : (class : Class) → class_of (run.range.base - 1) ≡ class → IsRealised (class_of (run.range.base - 1)) (matching_regions entries (run.range.base - 1))
              → (place : ℕ) × (slice_get (matching_regions entries (run.range.base - 1)) place ≡ Some one.0) → first_byte one.0 < run.range.base → ⊥
          by_class Nothing is realised (place, got) less =
              let none : matching_regions entries (run.range.base - 1) ≡ [] = subst (λ class. IsRealised class (matching_regions entries (run.range.base - 1))) is realised in
              let e : slice_get [] place ≡ Some one.0 = sym (ap (λ xs. slice_get xs place) none) ∙ got in cc
          by_class Hyp is realised (place, got) less = other Hyp (λ e. cc) is realised (place, got) less
          by_class (Guest write exec port) is realised (place, got) less = other (Guest write exec port) (λ e. cc) is realised (place, got) less

      by_order : (first_byte one.0 < run.range.base) ⊎ (run.range.base ≤ first_byte one.0) → first_byte one.0 ≡ run.range.base
      by_order (inl less) = absurd (not_earlier less)
      by_order (inr high) = let lower = bounds.0 in let low : first_byte one.0 ≤ run.range.base = grind (arith, nat_tests) in omega arith

  no_fewer_from : (runs : List Run) (low : ℕ) → AreRunsFrom class_of low runs → length runs ≤ count_from low entries
  no_fewer_from [] low none = omega arith
  no_fewer_from (run ∷ runs) low (maximal, from, between, rest) =
      let b = begins_at run maximal in
      let more = maximal.not_empty in
      let begins = b.begins in
      let others = no_fewer_from runs (end run.range) rest in
      let one = one_fewer entries b.place b.entry low (end run.range) b.got b.on (omega arith) (omega arith) in
      omega arith

from_zero : (entries : List Region) → count_from 0 entries ≤ enabled_count entries
from_zero [] = omega arith
from_zero (entry ∷ entries) = by_test (is_enabled entry) (nat_le 0 (first_byte entry)) (from_zero entries)
  where
    by_test : (on from : Bool) → count_from 0 entries ≤ enabled_count entries
        → length (cond (on && from) (entry ∷ filter (begins_from 0) entries) (filter (begins_from 0) entries))
        ≤ length (cond on (entry ∷ filter is_enabled entries) (filter is_enabled entries))
    by_test true true less = omega arith
    by_test true false less = omega arith
    by_test false from less = less

pub has_no_fewer : HasNoFewer
has_no_fewer class_of runs entries maximal realises =
    let a = no_fewer_from class_of entries realises runs 0 maximal in let b = from_zero entries in omega arith
