-- Lemmas on maximal runs: that there is one list of them, and how a walk in address order finds it.
use Rattle.std.proofs.Common.{◌≡◌, ◌≢◌, ℕ, ◌+◌, ◌-◌, ◌^◌, ◌<◌, ◌≤◌, List, [], ◌∷◌, ◌++◌, refl, sym, ◌∙◌, subst, arith, ◌⊎◌, inl, inr, suc, append_assoc}
use Rattle.std.proofs.lemmas.Bool.{cases_lt}
use Rattle.std.proofs.lemmas.List.{append-nil}
use Rattle.std.proofs.lemmas.List.Elements.{All-push, All-nil}
use Rattle.std.specs.Prelude.{Any, IsTrue}
use Rattle.bao_types.specs.declared.access.Class.{Class}
use Rattle.bao_types.specs.declared.access.Class.TheVariants.{Nothing}
use Rattle.bao_types.specs.ByteRange.{end, is_within}
use Rattle.bao_types.proofs.Ranges.{is_within-between, is_within-bounds}
use Rattle.region_list.specs.declared.run.Run.{Run}
use Rattle.region_list.specs.Layers.{AreInSpace, IsInSpace}
use Rattle.region_list.specs.Runs.{AreMaximalRuns, AreRunsFrom, IsMaximalRun}

module _ (class_of : ℕ → Class) where
  -- a run's first byte isn't Nothing
  something : (run : Run) → IsMaximalRun class_of run → class_of run.range.base ≢ Nothing
  something run maximal nothing =
      let more : 0 < run.range.size = maximal.not_empty in
      maximal.not_nothing (sym (maximal.equal run.range.base (is_within-between run.range run.range.base (omega arith) (omega arith))) ∙ nothing)

  -- after bytes of class Nothing no run begins later than another
  base_le : (low : ℕ) (run other : Run) → IsMaximalRun class_of run → low ≤ run.range.base →
      ((at : ℕ) → low ≤ at → at < other.range.base → class_of at ≡ Nothing) → other.range.base ≤ run.range.base
  base_le low run other maximal from nothing = by_order (cases_lt run.range.base other.range.base)
    where
      by_order : (run.range.base < other.range.base) ⊎ (other.range.base ≤ run.range.base) → other.range.base ≤ run.range.base
      by_order (inl earlier) = absurd (something run maximal (nothing run.range.base from earlier))
      by_order (inr later) = later

  -- of two runs with one base none is longer
  size_le : (run other : Run) → IsMaximalRun class_of run → IsMaximalRun class_of other →
      run.range.base ≡ other.range.base → run.class ≡ other.class → run.range.size ≤ other.range.size
  size_le run other maximal another base class = by_order (cases_lt other.range.size run.range.size)
    where
      by_order : (other.range.size < run.range.size) ⊎ (run.range.size ≤ other.range.size) → run.range.size ≤ other.range.size
      by_order (inl longer) =
          absurd (another.after (maximal.equal (end other.range) (is_within-between run.range (end other.range) (omega arith) (omega arith)) ∙ class))
      by_order (inr fits) = fits

  -- the runs after bytes of class Nothing are the only ones
  pub one_list : (runs others : List Run) (low : ℕ) → AreRunsFrom class_of low runs → AreRunsFrom class_of low others → runs ≡ others
  one_list [] [] low none nothing = refl
  one_list [] (other ∷ others) low none (maximal, from, nothing, rest) = absurd (something other maximal (none other.range.base from))
  one_list (run ∷ runs) [] low (maximal, from, nothing, rest) none = absurd (something run maximal (none run.range.base from))
  one_list (run ∷ runs) (other ∷ others) low (maximal, from, nothing, rest) (another, other_from, other_nothing, other_rest) =
      λ t. record { range = record { base = base t; size = size t }; class = class t } ∷ one_list runs others (end run.range) rest moved t
    where
      base : run.range.base ≡ other.range.base
      base = omega (arith, base_le low run other maximal from other_nothing, base_le low other run another other_from nothing)

      class : run.class ≡ other.class
      class =
          let more : 0 < run.range.size = maximal.not_empty in
          let others_more : 0 < other.range.size = another.not_empty in
          sym (maximal.equal run.range.base (is_within-between run.range run.range.base (omega arith) (omega arith))) ∙ another.equal run.range.base (is_within-between other.range run.range.base (omega (arith, base)) (omega (arith, base)))

      size : run.range.size ≡ other.range.size
      size = omega (arith, size_le run other maximal another base class, size_le other run another maximal (sym base) (sym class))

      moved : AreRunsFrom class_of (end run.range) others
      moved = subst (λ low. AreRunsFrom class_of low others) (sym (λ t. base t + size t)) other_rest

  -- a byte of a class other than Nothing is in a run
  pub in_a_run : (runs : List Run) (low at : ℕ) → AreRunsFrom class_of low runs → low ≤ at → class_of at ≢ Nothing → Any (λ run. IsTrue (is_within run.range at)) runs
  in_a_run [] low at none from something = absurd (something (none at from))
  in_a_run (run ∷ runs) low at (maximal, _, nothing, rest) from something =
      by_order (cases_lt at run.range.base) (cases_lt at (end run.range))
      (λ behind. in_a_run runs (end run.range) at rest behind something)
    where
      later : Any (λ one. IsTrue (is_within one.range at)) runs → Any (λ one. IsTrue (is_within one.range at)) (run ∷ runs)
      later (place, found, within, here, inside) = (suc place, found, omega arith, here, inside)

      by_order :
          (at < run.range.base) ⊎ (run.range.base ≤ at) → (at < end run.range) ⊎ (end run.range ≤ at) →
          (end run.range ≤ at → Any (λ one. IsTrue (is_within one.range at)) runs) → Any (λ one. IsTrue (is_within one.range at)) (run ∷ runs)
      by_order (inl before) _ _ = absurd (something (nothing at from before))
      by_order (inr begun) (inl inside) _ = (0, run, omega arith, refl, is_within-between run.range at begun inside)
      by_order (inr begun) (inr behind) among = later (among behind)

  -- bytes of class Nothing in front make no run
  AreRunsFrom-nothing : (low end : ℕ) (runs : List Run) → low ≤ end → ((at : ℕ) → low ≤ at → at < end → class_of at ≡ Nothing) →
      AreRunsFrom class_of end runs → AreRunsFrom class_of low runs
  AreRunsFrom-nothing low end [] order nothing none = all_nothing
    where
      all_nothing : (at : ℕ) → low ≤ at → class_of at ≡ Nothing
      all_nothing at above = by_order (cases_lt at end)
        where
          by_order : (at < end) ⊎ (end ≤ at) → class_of at ≡ Nothing
          by_order (inl early) = nothing at above early
          by_order (inr late) = none at late
  AreRunsFrom-nothing low end (run ∷ runs) order nothing (maximal, from, between, rest) = (maximal, omega arith, all_nothing, rest)
    where
      all_nothing : (at : ℕ) → low ≤ at → at < run.range.base → class_of at ≡ Nothing
      all_nothing at above before = by_order (cases_lt at end)
        where
          by_order : (at < end) ⊎ (end ≤ at) → class_of at ≡ Nothing
          by_order (inl early) = nothing at above early
          by_order (inr late) = between at late before

  -- the bytes from `at` up to `end` have one class, and the byte after them, if it is in the space, has another
  pub record IsStretch (at end : ℕ) : Type 0 where
    pub not_empty : at < end
    pub in_space : end ≤ 2 ^ 48
    pub equal : (byte : ℕ) → at ≤ byte → byte < end → class_of byte ≡ class_of at
    pub differs : end < 2 ^ 48 → class_of end ≢ class_of at

  -- a walk has come to `at`: whatever runs there are from there on, with those found they are all
  pub record HasFound (at : ℕ) (runs : List Run) : Type 0 where
    pub bound : at ≤ 2 ^ 48
    pub in_space : AreInSpace runs
    pub joined : (rest : List Run) → AreRunsFrom class_of at rest → AreMaximalRuns class_of (runs ++ rest)
    pub apart : at < 2 ^ 48 → (byte : ℕ) → byte + 1 ≡ at → class_of byte ≢ class_of at

  pub HasFound-start : HasFound 0 []
  HasFound-start =
      record {
        bound = omega arith;
        in_space = All-nil (λ run. IsInSpace run.range);
        joined = λ rest runs. runs;
        apart = λ within byte before same. omega arith;
      }

  -- a byte with the end of a stretch after it is in the stretch
  stretch_apart : (at end : ℕ) → IsStretch at end → end < 2 ^ 48 → (byte : ℕ) → byte + 1 ≡ end → class_of byte ≢ class_of end
  stretch_apart at end stretch within byte before same =
      let more : at < end = stretch.not_empty in
      stretch.differs within (sym same ∙ stretch.equal byte (omega arith) (omega arith))

  pub HasFound-nothing : (at end : ℕ) (runs : List Run) → HasFound at runs → IsStretch at end → class_of at ≡ Nothing → HasFound end runs
  HasFound-nothing at end runs found stretch nothing =
      record {
        bound = stretch.in_space;
        in_space = found.in_space;
        joined =
            λ rest behind. found.joined rest
            (let more : at < end = stretch.not_empty in
            AreRunsFrom-nothing at end rest (omega arith) (λ byte from before. stretch.equal byte from before ∙ nothing) behind);
        apart = stretch_apart at end stretch;
      }

  pub HasFound-run :
      (at end : ℕ) (runs : List Run) (class : Class) → at < 2 ^ 48 → HasFound at runs → IsStretch at end → class ≡ class_of at → class ≢ Nothing →
      ((byte : ℕ) → 2 ^ 48 ≤ byte → class_of byte ≡ Nothing) →
      HasFound end (runs ++ record { range = record { base = at; size = end - at }; class = class } ∷ [])
  HasFound-run at end runs class within found stretch is something beyond =
      record {
        bound = stretch.in_space;
        in_space = All-push (λ one. IsInSpace one.range) runs run found.in_space (let last : end ≤ 2 ^ 48 = stretch.in_space in omega arith);
        joined = λ rest behind. subst (AreMaximalRuns class_of) (sym (append_assoc runs (run ∷ []) rest)) (found.joined (run ∷ rest) (first rest behind));
        apart = stretch_apart at end stretch;
      }
    where
      run : Run
      run = record { range = record { base = at; size = end - at }; class = class }

      more : at < end
      more = stretch.not_empty

      ends : at + (end - at) ≡ end
      ends = omega arith

      differs : (end < 2 ^ 48) ⊎ (2 ^ 48 ≤ end) → class_of end ≢ class
      differs (inl inside) same = stretch.differs inside (same ∙ is)
      differs (inr outside) same = something (sym same ∙ beyond end outside)

      maximal : IsMaximalRun class_of run
      maximal =
          record {
            not_empty = omega arith;
            not_nothing = something;
            equal = λ byte inside. let bounds = is_within-bounds run.range byte inside in stretch.equal byte bounds.0 (omega (arith, bounds.1)) ∙ sym is;
            before = λ byte before same. found.apart within byte before (same ∙ is);
            after = subst (λ byte. class_of byte ≢ class) (sym ends) (differs (cases_lt end (2 ^ 48)));
          }

      first : (rest : List Run) → AreRunsFrom class_of end rest → AreRunsFrom class_of at (run ∷ rest)
      first rest behind =
          (maximal, omega arith, λ byte from before. absurd (omega arith), subst (λ low. AreRunsFrom class_of low rest) (sym ends) behind)

  pub HasFound-all :
      (at : ℕ) (runs : List Run) → HasFound at runs → 2 ^ 48 ≤ at → ((byte : ℕ) → 2 ^ 48 ≤ byte → class_of byte ≡ Nothing) → AreMaximalRuns class_of runs
  HasFound-all at runs found end beyond =
      subst (AreMaximalRuns class_of) (append-nil runs) (found.joined [] (λ byte from. beyond byte (omega arith)))
