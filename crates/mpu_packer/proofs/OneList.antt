-- There is one list of maximal runs.
use Rattle.std.proofs.Common.{◌≡◌, ◌≢◌, ℕ, zero, suc, ◌+◌, ◌-◌, ◌<◌, ◌≤◌, ◌==◌, ◌⊎◌, inl, inr, Bool, true, false, List, [], ◌∷◌, refl, sym, subst, ap, ◌∙◌, arith}
use Rattle.std.specs.Prelude.{◌&&◌, IsTrue}
use Rattle.std.proofs.lemmas.Bool.{cases_eq, cases_lt}
use Rattle.std.proofs.lemmas.Bool.Decides.{nat_tests}
use Rattle.bao_types.specs.declared.access.Class.{Class}
use Rattle.bao_types.specs.declared.access.Class.TheVariants.{Nothing, Hyp, Guest}
use Rattle.bao_types.specs.ByteRange.{address_space_end, end, is_within}
use Rattle.bao_types.proofs.Ranges.{is_within-between}
use Rattle.region_list.specs.declared.run.Run.{Run}
use Rattle.region_list.specs.Runs.{AreRunsFrom}
use Rattle.mpu_packer.specs.Laws.{HasOneList}
use Rattle.mpu_packer.specs.Runs.{is_bit, is_class, run_of, with_front, in_front, runs_from, all_runs}

bit_itself : (b : Bool) → is_bit b b ≡ true
bit_itself true = refl
bit_itself false = refl

pub class_itself : (class : Class) → is_class class class ≡ true
class_itself Nothing = refl
class_itself Hyp = refl
class_itself (Guest write exec port) = rw (bit_itself write, bit_itself exec, bit_itself port) refl

bit_same : (a b : Bool) → is_bit a b ≡ true → a ≡ b
bit_same true true e = refl
bit_same true false e = cc
bit_same false true e = cc
bit_same false false e = refl

three : (a b c : Bool) → (a && (b && c)) ≡ true → (a ≡ true) × ((b ≡ true) × (c ≡ true))
three true true true e = (refl, (refl, refl))
three true true false e = cc
three true false c e = cc
three false b c e = cc

pub class_same : (one other : Class) → is_class one other ≡ true → one ≡ other
class_same Nothing Nothing e = refl
class_same Nothing Hyp e = cc
class_same Nothing (Guest write exec port) e = cc
class_same Hyp Nothing e = cc
class_same Hyp Hyp e = refl
class_same Hyp (Guest write exec port) e = cc
class_same (Guest write exec port) Nothing e = cc
class_same (Guest write exec port) Hyp e = cc
class_same (Guest write exec port) (Guest writes executes ports) e =
    let parts = three (is_bit write writes) (is_bit exec executes) (is_bit port ports) e in
    rw (bit_same write writes parts.0, bit_same exec executes parts.1.0, bit_same port ports parts.1.1) refl

class_other : (one other : Class) → one ≢ other → is_class one other ≡ false
class_other one other differ = by_test (is_class one other) refl
  where
    by_test : (b : Bool) → is_class one other ≡ b → is_class one other ≡ false
    by_test true e = absurd (differ (class_same one other e))
    by_test false e = e

same_run : (run : Run) (base size : ℕ) (class : Class) → run.range.base ≡ base → run.range.size ≡ size → run.class ≡ class
    → run ≡ run_of base size class
same_run run base size class b s c = rw (sym b, sym s, sym c) refl

within_more : (run : Run) (at low : ℕ) → run.range.base ≡ low → 0 < run.range.size
    → IsTrue (is_within (record { base = low + 1; size = run.range.size - 1 }) at) → IsTrue (is_within run.range at)
within_more run at low here some within = grind (arith, nat_tests)

joined : (own class : Class) (low size : ℕ) (runs : List Run) → own ≡ class
    → with_front low class (run_of (low + 1) size own ∷ runs) ≡ run_of low (1 + size) class ∷ runs
joined own class low size runs same =
    let here : (low + 1 == low + 1) ≡ true = grind (arith, nat_tests) in
    let one : is_class own class ≡ true = ap (λ c. is_class c class) same ∙ class_itself class in
    rw (here, one) refl

module _ (classes : ℕ → Class) where
  -- a run of bytes of one class that ends where that class does; what stands before it isn't said
  pub record EndsRight (run : Run) : Type 0 where
    pub not_empty : 0 < run.range.size
    pub not_nothing : run.class ≢ Nothing
    pub equal : (at : ℕ) → IsTrue (is_within run.range at) → classes at ≡ run.class
    pub after : classes (end run.range) ≢ run.class

  abbrev pub Follow : ℕ → List Run → Type 0
  Follow low [] = (at : ℕ) → low ≤ at → classes at ≡ Nothing
  Follow low (run ∷ runs) =
      EndsRight run × (low ≤ run.range.base) × ((at : ℕ) → low ≤ at → at < run.range.base → classes at ≡ Nothing)
      × Follow (end run.range) runs

  follow : (low : ℕ) (runs : List Run) → AreRunsFrom classes low runs → Follow low runs
  follow low [] none = none
  follow low (run ∷ runs) (maximal, from, between, rest) = (
    record { not_empty = maximal.not_empty; not_nothing = maximal.not_nothing; equal = maximal.equal; after = maximal.after },
    from,
    between,
    follow (end run.range) runs rest,
  )

  -- the first byte of a run has its class
  pub at_base : (run : Run) → EndsRight run → classes run.range.base ≡ run.class
  at_base run right =
      let some = right.not_empty in right.equal run.range.base (is_within-between run.range run.range.base (omega arith) (omega arith))

  abbrev pub Beyond : ℕ → Type 0
  Beyond high = (at : ℕ) → high ≤ at → classes at ≡ Nothing

  -- no run is left beyond the last byte
  none_left : (low : ℕ) (runs : List Run) → Follow low runs → Beyond low → runs ≡ []
  none_left low [] follows beyond = refl
  none_left low (run ∷ runs) (right, from, between, rest) beyond =
      absurd (right.not_nothing (sym (at_base run right) ∙ beyond run.range.base from))

  -- a byte of class Nothing is in no run
  past_nothing : (low : ℕ) (runs : List Run) → Follow low runs → classes low ≡ Nothing → Follow (low + 1) runs
  past_nothing low [] none nothing = λ at above. none at (omega arith)
  past_nothing low (run ∷ runs) (right, from, between, rest) nothing =
      by_test (cases_eq run.range.base low)
    where
      by_test : (run.range.base ≡ low) ⊎ (run.range.base ≡ low → ⊥) → Follow (low + 1) (run ∷ runs)
      by_test (inl here) = absurd (right.not_nothing (sym (at_base run right) ∙ ap classes here ∙ nothing))
      by_test (inr later) = (right, omega arith, λ at above below. between at (omega arith) below, rest)

  -- a byte of another class begins the first run
  module _ (low : ℕ) (class : Class) (is : classes low ≡ class) (something : class ≢ Nothing) where
    begins : (run : Run) → EndsRight run → low ≤ run.range.base
        → ((at : ℕ) → low ≤ at → at < run.range.base → classes at ≡ Nothing) → run.range.base ≡ low
    begins run right from between = by_test (cases_lt low run.range.base)
      where
        by_test : (low < run.range.base) ⊎ (run.range.base ≤ low) → run.range.base ≡ low
        by_test (inl before) = absurd (something (sym is ∙ between low (omega arith) before))
        by_test (inr here) = omega arith

    -- the first run is this byte alone
    alone : (runs : List Run) → Follow (low + 1) runs → classes (low + 1) ≢ class → with_front low class runs ≡ run_of low 1 class ∷ runs
    alone [] follows other = refl
    alone (run ∷ runs) (right, from, between, rest) other = by_test (cases_eq run.range.base (low + 1))
      where
        by_test : (run.range.base ≡ low + 1) ⊎ (run.range.base ≡ low + 1 → ⊥) → with_front low class (run ∷ runs) ≡ run_of low 1 class ∷ run ∷ runs
        by_test (inl next) =
            let same : is_class run.class class ≡ false =
            class_other run.class class (λ e. other (ap classes (sym next) ∙ at_base run right ∙ e)) in
            let here : (run.range.base == low + 1) ≡ true = grind (arith, nat_tests) in
            rw (here, same) refl
        by_test (inr later) =
            let apart : (run.range.base == low + 1) ≡ false = grind (arith, nat_tests) in rw apart refl

    -- or the rest of it begins at the next byte
    module _ (count : ℕ) (next : (runs : List Run) → Follow (low + 1) runs → runs ≡ runs_from classes (low + 1) count) where
      first_run : (run : Run) (runs : List Run) → EndsRight run → run.range.base ≡ low → run.class ≡ class
          → Follow (end run.range) runs → (run.range.size ≡ 1) ⊎ (run.range.size ≡ 1 → ⊥)
          → run ∷ runs ≡ with_front low class (runs_from classes (low + 1) count)
      first_run run runs right here same rest (inl one) =
          let ends : end run.range ≡ low + 1 = omega arith in
          let from_next : Follow (low + 1) runs = subst (λ at. Follow at runs) ends rest in
          let other : classes (low + 1) ≢ class = λ e. right.after (ap classes ends ∙ e ∙ sym same) in
          ap (λ r. r ∷ runs) (same_run run low 1 class here one same)
          ∙ sym (alone runs from_next other) ∙ ap (with_front low class) (next runs from_next)
      first_run run runs right here same rest (inr more) =
          let some = right.not_empty in
          let left : Run = run_of (low + 1) (run.range.size - 1) run.class in
          let ends : end left.range ≡ end run.range = omega arith in
          let tail : EndsRight left = record {
            not_empty = omega arith;
            not_nothing = right.not_nothing;
            equal = λ at within. right.equal at (within_more run at low here some within);
            after = λ e. right.after (ap classes (sym ends) ∙ e);
          } in
          let follows : Follow (low + 1) (left ∷ runs) =
          (tail, omega arith, λ at above below. absurd (omega arith), subst (λ at. Follow at runs) (sym ends) rest) in
          let joins : with_front low class (left ∷ runs) ≡ run_of low (1 + (run.range.size - 1)) class ∷ runs =
          joined run.class class low (run.range.size - 1) runs same in
          let whole : 1 + (run.range.size - 1) ≡ run.range.size = omega arith in
          ap (λ r. r ∷ runs) (same_run run low run.range.size class here refl same)
          ∙ ap (λ size. run_of low size class ∷ runs) (sym whole)
          ∙ sym joins ∙ ap (with_front low class) (next (left ∷ runs) follows)

      some_class : (runs : List Run) → Follow low runs
          → runs ≡ with_front low class (runs_from classes (low + 1) count)
      some_class [] none = absurd (something (sym is ∙ none low (omega arith)))
      some_class (run ∷ runs) (right, from, between, rest) =
          let here = begins run right from between in
          first_run run runs right here (sym (at_base run right) ∙ ap classes here ∙ is) rest (cases_eq run.range.size 1)

  one_list_from : (count low : ℕ) (runs : List Run) → Follow low runs → Beyond (low + count) → runs ≡ runs_from classes low count
  unfolding runs_from
  one_list_from zero low runs follows beyond = none_left low runs follows (λ at above. beyond at (omega arith))
  one_list_from (suc count) low runs follows beyond =
      by_class (classes low) refl (λ runs follows. one_list_from count (low + 1) runs follows (λ at above. beyond at (omega arith)))
    where
      by_class : (class : Class) → classes low ≡ class
          → ((runs : List Run) → Follow (low + 1) runs → runs ≡ runs_from classes (low + 1) count)
          → runs ≡ in_front low class (runs_from classes (low + 1) count)
      by_class Nothing is next = next runs (past_nothing low runs follows is)
      by_class Hyp is next = some_class low Hyp is (λ e. cc) count next runs follows
      by_class (Guest write exec port) is next = some_class low (Guest write exec port) is (λ e. cc) count next runs follows

pub has_one_list : HasOneList
unfolding all_runs
has_one_list classes runs maximal beyond =
    one_list_from classes address_space_end 0 runs (follow classes 0 runs maximal) beyond
