-- What a contract sees of a `MemShelf`, and what its fetch does.
use Rattle.std.specs.Prelude.{ℕ, List, Result, Ok, Err, if◌then◌else◌}
use Rattle.outside.specs.Faults.{risen, next_call, is_listed}
use Rattle.outside.specs.FileList.{FileListData, content_of, answer_within}
use Rattle.outside.specs.declared.shelf.ShelfError.{ShelfError}
use Rattle.outside.specs.declared.shelf.ShelfError.TheVariants.{TooLong, Failed, OutOfMemory}

pub record MemShelfData : Type 0 where
  pub files : FileListData
  -- the numbers of the calls that fail
  pub failing : List ℕ
  pub calls : ℕ
  pub faults : ℕ
  pub culprit : List ℕ

-- what the next fetch answers, if memory suffices
abbrev pub next_answer : MemShelfData → List ℕ → ℕ → Result (List ℕ) ShelfError
next_answer shelf name limit =
    if is_listed shelf.failing (next_call shelf.calls) then Err Failed else answer_within (content_of shelf.files name) limit

-- the shelf after a fetch with this answer
abbrev pub after_fetch : {T : Type 0} → MemShelfData → List ℕ → Result T ShelfError → MemShelfData
after_fetch shelf name (Ok file) = record shelf { calls = next_call shelf.calls }
after_fetch shelf name (Err TooLong) = record shelf { calls = next_call shelf.calls }
after_fetch shelf name (Err Failed) =
    record shelf { calls = next_call shelf.calls; faults = risen shelf.faults; culprit = name }
after_fetch shelf name (Err OutOfMemory) = shelf
