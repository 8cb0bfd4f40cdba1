-- The words of the command line.
use Rattle.std.specs.Prelude.{◌≡◌, ℕ, List, [], ◌∷◌, if◌then◌else◌, codes}
use Rattle.std.specs.Str.{bytes_eq}

-- the words name a source to assemble, or an image to list, or nothing
pub data Command : Type 0 where
  Assemble : (file : List ℕ) → Command
  Show : (file : List ℕ) → Command
  Unknown : Command

-- by how many words there are, and the first
abbrev pub command_of : List (List ℕ) → Command
command_of [] = Unknown
command_of (verb ∷ []) = Unknown
command_of (verb ∷ file ∷ []) =
    if bytes_eq verb (codes "asm") then Assemble file else if bytes_eq verb (codes "list") then Show file else Unknown
command_of (verb ∷ file ∷ other ∷ rest) = Unknown

-- the words name a file, and it is this one
abbrev pub Names : Command → List ℕ → Type 0
Names (Assemble file) name = file ≡ name
Names (Show file) name = file ≡ name
Names Unknown name = ⊥
