-- The runs that are made from the last byte down are maximal, so the packing realises the map.
use Rattle.std.proofs.Common.{◌≡◌, ◌≢◌, ℕ, zero, suc, ◌+◌, ◌-◌, ◌<◌, ◌≤◌, ◌==◌, ◌⊎◌, inl, inr, Bool, true, false, List, [], ◌∷◌, refl, sym, subst, ap, ◌∙◌, arith}
use Rattle.std.specs.Prelude.{◌&&◌, IsTrue, if◌then◌else◌}
use Rattle.std.proofs.lemmas.Bool.{cases_eq, cases_lt}
use Rattle.std.proofs.lemmas.Bool.Decides.{nat_tests}
use Rattle.std.proofs.lemmas.List.Elements.{All-nil, All-cons}
use Rattle.bao_types.specs.declared.access.Class.{Class}
use Rattle.bao_types.specs.declared.access.Class.TheVariants.{Nothing, Hyp, Guest}
use Rattle.bao_types.specs.ByteRange.{address_space_end, end, is_within}
use Rattle.bao_types.proofs.Ranges.{is_within-between}
use Rattle.bao_wellformed.specs.Map.{class_of}
use Rattle.region_list.specs.declared.run.Run.{Run}
use Rattle.region_list.specs.Layers.{AreInSpace, IsInSpace}
use Rattle.region_list.specs.Runs.{AreMaximalRuns, AreRunsFrom}
use Rattle.mpu_packer.specs.Laws.{PackingRealises}
use Rattle.mpu_packer.specs.Runs.{is_class, run_of, with_front, in_front, runs_from, all_runs, core_runs}
use Rattle.mpu_packer.proofs.Exact.{beyond_space}
use Rattle.mpu_packer.proofs.OneList.{Beyond, EndsRight, Follow, at_base, class_itself, class_same}
use Rattle.mpu_packer.proofs.Owners.{class_granular}
use Rattle.mpu_packer.proofs.Realised.{realises_runs}

module _ (classes : ℕ → Class) where
  -- a byte of class Nothing in front is in no run
  behind_nothing : (low : ℕ) (runs : List Run) → classes low ≡ Nothing → Follow classes (low + 1) runs → Follow classes low runs
  behind_nothing low [] nothing none = λ at above. by_place at above (cases_eq at low)
    where
      by_place : (at : ℕ) → low ≤ at → (at ≡ low) ⊎ (at ≡ low → ⊥) → classes at ≡ Nothing
      by_place at above (inl here) = ap classes here ∙ nothing
      by_place at above (inr later) = none at (omega arith)
  behind_nothing low (run ∷ runs) nothing (right, from, between, rest) =
      (right, omega arith, λ at above below. by_place at above below (cases_eq at low), rest)
    where
      by_place : (at : ℕ) → low ≤ at → at < run.range.base → (at ≡ low) ⊎ (at ≡ low → ⊥) → classes at ≡ Nothing
      by_place at above below (inl here) = ap classes here ∙ nothing
      by_place at above below (inr later) = between at (omega arith) below

  -- a byte of another class begins a run
  module _ (low : ℕ) (class : Class) (is : classes low ≡ class) (something : class ≢ Nothing) where
    alone : (runs : List Run) → Follow classes (low + 1) runs → classes (low + 1) ≢ class
        → Follow classes low (run_of low 1 class ∷ runs)
    alone runs follows other = (
      record {
        not_empty = omega arith;
        not_nothing = something;
        equal = λ at within. let here : at ≡ low = grind (arith, nat_tests) in ap classes here ∙ is;
        after = other;
      },
      omega arith,
      λ at above below. absurd (omega arith),
      follows,
    )

    module _ (run : Run) (right : EndsRight classes run) (here : run.range.base ≡ low + 1) (same : run.class ≡ class) where
      in_longer : (at : ℕ) → IsTrue (is_within (record { base = low; size = 1 + run.range.size }) at)
          → (at ≡ low) ⊎ (at ≡ low → ⊥) → classes at ≡ class
      in_longer at within (inl first) = ap classes first ∙ is
      in_longer at within (inr later) =
          let inside : IsTrue (is_within run.range at) = grind (arith, nat_tests) in right.equal at inside ∙ same

      ends : low + (1 + run.range.size) ≡ end run.range
      ends = omega arith

      longer : EndsRight classes (run_of low (1 + run.range.size) class)
      longer = record {
        not_empty = omega arith;
        not_nothing = something;
        equal = λ at within. in_longer at within (cases_eq at low);
        after = λ e. right.after (ap classes (sym ends) ∙ e ∙ sym same);
      }

    begun : (runs : List Run) → Follow classes (low + 1) runs → Follow classes low (with_front low class runs)
    begun [] none = alone [] none (λ e. something (sym e ∙ none (low + 1) (omega arith)))
    begun (run ∷ runs) (right, from, between, rest) = by_test (run.range.base == low + 1) (is_class run.class class) refl refl
      where
        by_test : (next joins : Bool) → (run.range.base == low + 1) ≡ next → is_class run.class class ≡ joins
            → Follow classes low
            (if next && joins then run_of low (1 + run.range.size) class ∷ runs else run_of low 1 class ∷ run ∷ runs)
        by_test true true next joins =
            let here : run.range.base ≡ low + 1 = grind (arith, nat_tests) in let same = class_same run.class class joins in (
              longer run right here same,
              omega arith,
              λ at above below. absurd (omega arith),
              subst (λ at. Follow classes at runs) (sym (ends run right here same)) rest,
            )
        by_test true false next joins =
            let here : run.range.base ≡ low + 1 = grind (arith, nat_tests) in
            alone (run ∷ runs) (right, from, between, rest)
            (λ e. let joined : is_class run.class class ≡ true =
            ap (λ c. is_class c class) (sym (at_base classes run right) ∙ ap classes here ∙ e) ∙ class_itself class in
            let clash : true ≡ false = sym joined ∙ joins in cc)
        by_test false joins next any =
            let apart : run.range.base ≢ low + 1 = grind (arith, nat_tests) in
            alone (run ∷ runs) (right, from, between, rest)
            (λ e. something (sym e ∙ between (low + 1) (omega arith) (omega arith)))

  from_last : (count low : ℕ) → Beyond classes (low + count) → Follow classes low (runs_from classes low count)
  unfolding runs_from
  from_last zero low beyond = λ at above. beyond at (omega arith)
  from_last (suc count) low beyond = by_class (classes low) refl (from_last count (low + 1) (λ at above. beyond at (omega arith)))
    where
      by_class : (class : Class) → classes low ≡ class → Follow classes (low + 1) (runs_from classes (low + 1) count)
          → Follow classes low (in_front low class (runs_from classes (low + 1) count))
      by_class Nothing is rest = behind_nothing low (runs_from classes (low + 1) count) is rest
      by_class Hyp is rest = begun low Hyp is (λ e. cc) (runs_from classes (low + 1) count) rest
      by_class (Guest write exec port) is rest =
          begun low (Guest write exec port) is (λ e. cc) (runs_from classes (low + 1) count) rest

  -- so each of them is maximal, where the byte before the first has another class than the first
  maximal_from : (low : ℕ) (runs : List Run) → ((at : ℕ) → at + 1 ≡ low → classes at ≢ classes low)
      → Follow classes low runs → AreRunsFrom classes low runs
  maximal_from low [] border none = none
  maximal_from low (run ∷ runs) border (right, from, between, rest) = (
    record {
      not_empty = right.not_empty;
      not_nothing = right.not_nothing;
      equal = right.equal;
      before = λ at next. by_place at next (cases_lt low run.range.base);
      after = right.after;
    },
    from,
    between,
    maximal_from (end run.range) runs behind rest,
  )
    where
      by_place : (at : ℕ) → at + 1 ≡ run.range.base → (low < run.range.base) ⊎ (run.range.base ≤ low) → classes at ≢ run.class
      by_place at next (inl above) = λ e. right.not_nothing (sym e ∙ between at (omega arith) (omega arith))
      by_place at next (inr here) =
          let base : run.range.base ≡ low = omega arith in
          λ e. border at (omega arith) (e ∙ sym (at_base classes run right) ∙ ap classes base)

      behind : (at : ℕ) → at + 1 ≡ end run.range → classes at ≢ classes (end run.range)
      behind at next =
          let some = right.not_empty in
          λ e. right.after (sym e ∙ right.equal at (is_within-between run.range at (omega arith) (omega arith)))

  -- and ends in the address space
  in_space : (low : ℕ) (runs : List Run) → Follow classes low runs → Beyond classes address_space_end → AreInSpace runs
  in_space low [] none beyond = All-nil (λ run. IsInSpace run.range)
  in_space low (run ∷ runs) (right, from, between, rest) beyond =
      All-cons (λ run. IsInSpace run.range) run runs (by_end (cases_lt address_space_end (end run.range)))
      (in_space (end run.range) runs rest beyond)
    where
      by_end : (address_space_end < end run.range) ⊎ (end run.range ≤ address_space_end) → IsInSpace run.range
      by_end (inl above) =
          let some = right.not_empty in
          let last = run.range.base + run.range.size - 1 in
          absurd (right.not_nothing
          (sym (right.equal last (is_within-between run.range last (omega arith) (omega arith))) ∙ beyond last (omega arith)))
      by_end (inr within) = within

module _ (classes : ℕ → Class) (beyond : Beyond classes address_space_end) where
  all_follow : Follow classes 0 (all_runs classes)
  unfolding all_runs
  all_follow = from_last classes address_space_end 0 beyond

  all_maximal : AreMaximalRuns classes (all_runs classes)
  all_maximal = maximal_from classes 0 (all_runs classes) (λ at next. absurd (omega arith)) all_follow

pub packing_realises : PackingRealises
packing_realises cfg core well_formed fits =
    let beyond : Beyond (class_of cfg core) address_space_end = λ at above. beyond_space cfg core at well_formed above in
    realises_runs (class_of cfg core) (core_runs cfg core) (class_granular cfg core fits) (all_maximal (class_of cfg core) beyond)
    (in_space (class_of cfg core) 0 (core_runs cfg core) (all_follow (class_of cfg core) beyond) beyond)
