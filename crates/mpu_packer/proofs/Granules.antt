-- The runs of classes that don't change inside a granule of 64 bytes begin and end at granules.
use Rattle.std.proofs.Common.{◌≡◌, ℕ, ◌+◌, ◌-◌, ◌%◌, ◌<◌, ◌≤◌, ◌⊎◌, inl, inr, List, [], ◌∷◌, All, sym, ap, ◌∙◌, arith}
use Rattle.std.proofs.lemmas.Bool.{cases_eq}
use Rattle.std.proofs.lemmas.List.Elements.{All-cons, All-nil}
use Rattle.bao_types.specs.declared.access.Class.{Class}
use Rattle.bao_types.specs.ByteRange.{end}
use Rattle.bao_types.proofs.Ranges.{is_within-between}
use Rattle.region_list.specs.declared.run.Run.{Run}
use Rattle.region_list.specs.Runs.{AreRunsFrom, IsMaximalRun}

-- the run begins at a granule and is a number of them
pub record IsAligned (run : Run) : Type 0 where
  pub base : run.range.base % 64 ≡ 0
  pub size : run.range.size % 64 ≡ 0
  pub least : 64 ≤ run.range.size

module _ (class_of : ℕ → Class) (granular : (at k : ℕ) → at % 64 ≡ 0 → k < 64 → class_of (at + k) ≡ class_of at) where
  -- inside a granule a byte has the class of the one before
  same_before : (at : ℕ) → (at % 64 ≡ 0 → ⊥) → class_of at ≡ class_of (at - 1)
  same_before at inside =
      let first : (at - at % 64) % 64 ≡ 0 = omega arith in
      let here : at - at % 64 + at % 64 ≡ at = omega arith in
      let before : at - at % 64 + (at % 64 - 1) ≡ at - 1 = omega arith in
      let low : at % 64 < 64 = omega arith in
      let lower : at % 64 - 1 < 64 = omega arith in
      ap class_of (sym here) ∙ granular (at - at % 64) (at % 64) first low
      ∙ sym (granular (at - at % 64) (at % 64 - 1) first lower) ∙ ap class_of before

  module _ (run : Run) (maximal : IsMaximalRun class_of run) where
    more : 0 < run.range.size
    more = maximal.not_empty

    base_aligned : run.range.base % 64 ≡ 0
    base_aligned = by_test (cases_eq (run.range.base % 64) 0)
      where
        by_test : (run.range.base % 64 ≡ 0) ⊎ (run.range.base % 64 ≡ 0 → ⊥) → run.range.base % 64 ≡ 0
        by_test (inl yes') = yes'
        by_test (inr no') =
            let m = more in
            let before : run.range.base - 1 + 1 ≡ run.range.base = omega arith in
            absurd (maximal.before (run.range.base - 1) before
            (sym (same_before run.range.base no') ∙ maximal.equal run.range.base (is_within-between run.range run.range.base (omega arith) (omega arith))))

    end_aligned : end run.range % 64 ≡ 0
    end_aligned = by_test (cases_eq (end run.range % 64) 0)
      where
        by_test : (end run.range % 64 ≡ 0) ⊎ (end run.range % 64 ≡ 0 → ⊥) → end run.range % 64 ≡ 0
        by_test (inl yes') = yes'
        by_test (inr no') =
            let m = more in
            absurd (maximal.after
            (same_before (end run.range) no' ∙ maximal.equal (end run.range - 1) (is_within-between run.range (end run.range - 1) (omega arith) (omega arith))))

    pub aligned : IsAligned run
    aligned =
        let m = more in let b = base_aligned in let e = end_aligned in
        record { base = b; size = omega (arith, b, e); least = omega (arith, b, e, m) }

  pub all_aligned : (runs : List Run) (low : ℕ) → AreRunsFrom class_of low runs → All IsAligned runs
  all_aligned [] low none = All-nil IsAligned
  all_aligned (run ∷ runs) low (maximal, from, between, rest) = All-cons IsAligned run runs (aligned run maximal) (all_aligned runs (end run.range) rest)
