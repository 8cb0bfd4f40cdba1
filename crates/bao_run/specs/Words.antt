-- The words of the command line.
use Rattle.std.specs.Prelude.{ℕ, ◌^◌, nat_lt, if◌then◌else◌, List, [], ◌∷◌, Option, None, Some, codes, ⊤}
use Rattle.std.specs.Str.{bytes_eq}
use Rattle.numerals.specs.Numeral.{number_of}

-- the words name a configuration and a schedule to run, or a configuration to check, or the number of a workload to run, or nothing
pub data Command : Type 0 where
  Run : (config schedule : List ℕ) → Command
  Check : (config : List ℕ) → Command
  Generate : (number : ℕ) → Command
  Unknown : Command

-- the words name something; the command reads files; it runs a board; it is a run of a schedule; it is a check
abbrev pub IsCommand : Command → Type 0
IsCommand (Run config schedule) = ⊤
IsCommand (Check config) = ⊤
IsCommand (Generate number) = ⊤
IsCommand Unknown = ⊥

abbrev pub Reads : Command → Type 0
Reads (Run config schedule) = ⊤
Reads (Check config) = ⊤
Reads (Generate number) = ⊥
Reads Unknown = ⊥

abbrev pub Plays : Command → Type 0
Plays (Run config schedule) = ⊤
Plays (Check config) = ⊥
Plays (Generate number) = ⊤
Plays Unknown = ⊥

abbrev pub IsRun : Command → Type 0
IsRun (Run config schedule) = ⊤
IsRun (Check config) = ⊥
IsRun (Generate number) = ⊥
IsRun Unknown = ⊥

abbrev pub IsCheck : Command → Type 0
IsCheck (Run config schedule) = ⊥
IsCheck (Check config) = ⊤
IsCheck (Generate number) = ⊥
IsCheck Unknown = ⊥

-- a number of 32 bits
abbrev pub word_number : Option ℕ → Option ℕ
word_number None = None
word_number (Some number) = if nat_lt number (2 ^ 32) then Some number else None

-- `gen` with a number
abbrev pub generated : Option ℕ → Command
generated None = Unknown
generated (Some number) = Generate number

-- by how many words there are: `check` has a configuration after it, `gen` a number, and `run` a configuration and a schedule
abbrev pub command_of : List (List ℕ) → Command
command_of [] = Unknown
command_of (verb ∷ []) = Unknown
command_of (verb ∷ word ∷ []) =
    if bytes_eq verb (codes "check") then Check word else if bytes_eq verb (codes "gen") then generated (word_number (number_of word)) else Unknown
command_of (verb ∷ config ∷ schedule ∷ []) = if bytes_eq verb (codes "run") then Run config schedule else Unknown
command_of (verb ∷ config ∷ schedule ∷ other ∷ rest) = Unknown
