-- What a fetch answers, and what it leaves.
use Rattle.std.specs.Prelude.{◌≡◌, ℕ, ◌<◌, ◌≤◌, List, length, ⊤, Vec, Option, None, Some, Result, Ok, Err, IsSomeAnd, codes}
use Rattle.std.specs.declared.alloc.Global.{Global}
use Rattle.outside.specs.Faults.{risen}
use Rattle.outside.specs.declared.shelf.ShelfError.{ShelfError}
use Rattle.outside.specs.declared.shelf.ShelfError.TheVariants.{TooLong, Failed, OutOfMemory}

-- the contents that a shelf tells, by name; none for a name that is missing
abbrev pub Files : Type 0
Files = List ℕ → Option (List ℕ)

-- a fact on the files, where the shelf tells them; nothing is asked where nothing is told
abbrev pub IfHeld : Option Files → (Files → Type 0) → Type 0
IfHeld None P = ⊤
IfHeld (Some files) P = P files

-- such a fact on what is told of one name, its content or that it is missing
abbrev pub IfTold : Option Files → List ℕ → (Option (List ℕ) → Type 0) → Type 0
IfTold held name P = IfHeld held (λ files. P (files name))

-- By the answer: the whole content, within the limit; a content above the limit; and two answers that may always come.
-- So a missing name has one of these two, and of a content its length decides.
abbrev pub IsFetched : Option Files → List ℕ → ℕ → Result (Vec ℕ Global) ShelfError → Type 0
IsFetched held name limit (Ok file) = (length file.items ≤ limit) × IfTold held name (λ content. content ≡ Some file.items)
IsFetched held name limit (Err TooLong) = IfTold held name (λ content. IsSomeAnd content (λ bytes. limit < length bytes))
IsFetched held name limit (Err Failed) = ⊤
IsFetched held name limit (Err OutOfMemory) = ⊤

-- how often a fetch has failed, and the name in the last one that did
pub record Blame : Type 0 where
  pub faults : ℕ
  pub culprit : List ℕ

abbrev pub IsSameBlame : Blame → Blame → Type 0
IsSameBlame old new = (new.faults ≡ old.faults) × (new.culprit ≡ old.culprit)

-- a failure is counted and keeps the name; any other answer leaves count and name
abbrev pub Blames : {T : Type 0} → Blame → Blame → List ℕ → Result T ShelfError → Type 0
Blames old new name (Ok _) = IsSameBlame old new
Blames old new name (Err TooLong) = IsSameBlame old new
Blames old new name (Err Failed) = (new.faults ≡ risen old.faults) × (new.culprit ≡ name)
Blames old new name (Err OutOfMemory) = IsSameBlame old new

-- how an error is shown
abbrev pub error_text : ShelfError → List ℕ
error_text TooLong = codes "file too long"
error_text Failed = codes "file not read"
error_text OutOfMemory = codes "out of memory"
