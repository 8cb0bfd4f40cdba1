-- The maximal runs of bytes of one class. Bytes of class Nothing are in no run.
use Rattle.std.specs.Prelude.{◌≡◌, ◌≢◌, ℕ, ◌+◌, ◌<◌, ◌≤◌, IsTrue, List, [], ◌∷◌}
use Rattle.bao_types.specs.declared.access.Class.{Class}
use Rattle.bao_types.specs.declared.access.Class.TheVariants.{Nothing}
use Rattle.bao_types.specs.ByteRange.{end, is_within}
use Rattle.region_list.specs.declared.run.Run.{Run}

-- The run's bytes follow one another and all have its class, which isn't Nothing. The byte before, if there is one,
-- and the byte after have another.
pub record IsMaximalRun (class_of : ℕ → Class) (run : Run) : Type 0 where
  pub not_empty : 0 < run.range.size
  pub not_nothing : run.class ≢ Nothing
  pub equal : (at : ℕ) → IsTrue (is_within run.range at) → class_of at ≡ run.class
  pub before : (at : ℕ) → at + 1 ≡ run.range.base → class_of at ≢ run.class
  pub after : class_of (end run.range) ≢ run.class

-- The maximal runs of the bytes from `low` on, in address order: bytes of class Nothing up to the first run, then
-- that run, then the runs after it.
abbrev pub AreRunsFrom : (ℕ → Class) → ℕ → List Run → Type 0
AreRunsFrom class_of low [] = (at : ℕ) → low ≤ at → class_of at ≡ Nothing
AreRunsFrom class_of low (run ∷ runs) =
    IsMaximalRun class_of run × (low ≤ run.range.base) × ((at : ℕ) → low ≤ at → at < run.range.base → class_of at ≡ Nothing)
    × AreRunsFrom class_of (end run.range) runs

-- all maximal runs, in address order
abbrev pub AreMaximalRuns : (ℕ → Class) → List Run → Type 0
AreMaximalRuns class_of runs = AreRunsFrom class_of 0 runs
