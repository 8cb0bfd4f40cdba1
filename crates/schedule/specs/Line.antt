-- What a line of a schedule says, before it is judged by a configuration.
use Rattle.std.specs.Prelude.{◌≡◌, ℕ, ◌==◌, ◌&&◌, nat_le, if◌then◌else◌, List, [], ◌∷◌, Option, None, Some, codes}
use Rattle.std.specs.Str.{bytes_eq}
use Rattle.text_lines.specs.Ascii.{line_feed, blank, number_sign}
use Rattle.text_lines.specs.Cut.{IsCut}
use Rattle.schedule.specs.Parts.{parts}
use Rattle.schedule.specs.Number.{number_of}
use Rattle.schedule.specs.declared.line.Line.{Line}
use Rattle.schedule.specs.declared.line.Line.TheVariants.{NoEvent, Step, Input, BadForm}

-- `s` is a step, and `i` an input, whose second number is a byte
abbrev pub entry_of : List ℕ → Option ℕ → Option ℕ → Line
entry_of kind None second = BadForm
entry_of kind (Some first) None = BadForm
entry_of kind (Some first) (Some second) =
    if bytes_eq kind (codes "s") then Step first second
    else if bytes_eq kind (codes "i") && nat_le second 255 then Input first second else BadForm

-- an entry has three parts
abbrev pub entry_in : List (List ℕ) → Line
entry_in [] = BadForm
entry_in (kind ∷ []) = BadForm
entry_in (kind ∷ first ∷ []) = BadForm
entry_in (kind ∷ first ∷ second ∷ []) = entry_of kind (number_of first) (number_of second)
entry_in (kind ∷ first ∷ second ∷ other ∷ others) = BadForm

-- the parts are those between the blanks
unfoldable pub parts_of : List ℕ → Line
parts_of text = entry_in (parts blank text)

-- an empty line is no event, and so is one that begins with `#`
unfoldable pub line_of : List ℕ → Line
line_of [] = NoEvent
line_of (first ∷ rest) = if first == number_sign then NoEvent else parts_of (first ∷ rest)

-- For private clauses: the first line of the text, which is ended by LF, says this, and this stands after that end.
pub record BeginsWithLine (text : List ℕ) (said : Line) (behind : List ℕ) : Type 0 where
  pub line : List ℕ
  pub cut : IsCut line_feed text line behind
  pub says : said ≡ line_of line
