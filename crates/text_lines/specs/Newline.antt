-- The end of a line.
use Rattle.std.specs.Prelude.{ℕ, List, codes}

-- LF
abbrev pub newline : List ℕ
newline = codes "\n"
