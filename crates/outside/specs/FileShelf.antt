-- What a contract sees of a `FileShelf`, what opening a file gives, and what reading it to a limit gives.
use Rattle.std.specs.Prelude.{◌≡◌, ℕ, ◌<◌, ◌≤◌, List, length, ⊤, Vec, Option, Result, Ok, Err, IsSome, IfSome}
use Rattle.std.specs.Io.KnownBytes.{Consumes}
use Rattle.std.specs.declared.alloc.Global.{Global}
use Rattle.outside.specs.Shelf.{Files, IfTold}
use Rattle.outside.specs.declared.shelf.ShelfError.{ShelfError}
use Rattle.outside.specs.declared.shelf.ShelfError.TheVariants.{TooLong, Failed, OutOfMemory}

pub record FileShelfData (O : Type 0) : Type 0 where
  pub opener : O
  pub faults : ℕ
  pub culprit : List ℕ

-- where contents are told, an opened file isn't missing, and all of its content is left to be read
abbrev pub IsOpened : Option Files → List ℕ → Option (List ℕ) → Type 0
IsOpened files name remaining = IfTold files name (λ content. IsSome content × (remaining ≡ content))

-- By the answer: all bytes that a reader had left, within the limit; more bytes than the limit; and two answers that may
-- always come. Nothing is asked of bytes that aren't known.
abbrev pub IsReadTo : ℕ → Option (List ℕ) → Result (Vec ℕ Global) ShelfError → Type 0
IsReadTo limit remaining (Ok file) = (length file.items ≤ limit) × IfSome remaining (λ bytes. file.items ≡ bytes)
IsReadTo limit remaining (Err TooLong) = IfSome remaining (λ bytes. limit < length bytes)
IsReadTo limit remaining (Err Failed) = ⊤
IsReadTo limit remaining (Err OutOfMemory) = ⊤

-- of the bytes that a reader had left it gave at most n
pub record GivesAtMost (n : ℕ) (old new : Option (List ℕ)) : Type 0 where
  pub given : List ℕ
  pub bound : length given ≤ n
  pub consumes : Consumes old new given
