-- Files in memory.
use Rattle.std.specs.Prelude.{◌≡◌, ℕ, Option, None, Some, Result, Ok, Err, List, [], ◌∷◌, length, map, Vec, String, string_bytes, ⊤, if◌then◌else◌, nat_lt}
use Rattle.std.specs.Str.{bytes_eq}
use Rattle.std.specs.declared.alloc.Global.{Global}
use Rattle.outside.specs.declared.shelf.ShelfError.{ShelfError}
use Rattle.outside.specs.declared.shelf.ShelfError.TheVariants.{TooLong, Failed, OutOfMemory}

-- Files with their names; a content has the place of its name.
pub record FileListData : Type 0 where
  pub names : List (List ℕ)
  pub contents : List (List ℕ)

-- the files of these names and contents
abbrev pub files_of : List (String Global) → List (Vec ℕ Global) → FileListData
files_of names contents = record {
  names = map (λ name. string_bytes name) names;
  contents = map (λ content. content.items) contents;
}

-- the content at the first place that has the name
abbrev pub first_content : List (List ℕ) → List (List ℕ) → List ℕ → Option (List ℕ)
first_content (known ∷ names) (content ∷ contents) name =
    if bytes_eq known name then Some content else first_content names contents name
first_content [] contents name = None
first_content (known ∷ names) [] name = None

-- the content of the file of this name, if there is one
abbrev pub content_of : FileListData → List ℕ → Option (List ℕ)
content_of files name = first_content files.names files.contents name

-- what a file of this content answers under a limit
abbrev pub answer_within : Option (List ℕ) → ℕ → Result (List ℕ) ShelfError
answer_within None limit = Err Failed
answer_within (Some content) limit = if nat_lt limit (length content) then Err TooLong else Ok content

-- the answer is the one that was due, or memory ran out
abbrev pub IsDue : Result (List ℕ) ShelfError → Result (Vec ℕ Global) ShelfError → Type 0
IsDue due (Ok file) = due ≡ Ok file.items
IsDue due (Err TooLong) = due ≡ Err TooLong
IsDue due (Err Failed) = due ≡ Err Failed
IsDue due (Err OutOfMemory) = ⊤
