-- Rows of the table of words: what is fixed in a word, and what its free fields make of it.
use Rattle.std.specs.Prelude.{ℕ, ◌-◌, Bool, true, ◌&&◌, ◌==◌, if◌then◌else◌, List, [], ◌∷◌}
use Rattle.bao_types.specs.Bits.{field}
use Rattle.a64_decode.specs.declared.instr.Instr.{Instr}
use Rattle.a64_decode.specs.declared.instr.Instr.TheVariants.{Undefined}

-- a part of a word: bits with a value, how many and which, or a free field of this many bits
pub data Part : Type 0 where
  Fixed : ℕ → ℕ → Part
  Free : ℕ → Part

-- the word has the fixed bits of these parts, the first of which ends below bit `top`
abbrev pub matches : ℕ → List Part → ℕ → Bool
matches top [] word = true
matches top (Fixed width value ∷ parts) word = (field word (top - 1) (top - width) == value) && matches (top - width) parts word
matches top (Free width ∷ parts) word = matches (top - width) parts word

-- the values of the free fields of these parts, in order
abbrev pub free_fields : ℕ → List Part → ℕ → List ℕ
free_fields top [] word = []
free_fields top (Fixed width value ∷ parts) word = free_fields (top - width) parts word
free_fields top (Free width ∷ parts) word = field word (top - 1) (top - width) ∷ free_fields (top - width) parts word

-- a row: its parts from bit 31 down, which values of its free fields are undefined, and what the others make
pub record Row : Type 0 where
  pub parts : List Part
  pub undefined : List ℕ → Bool
  pub variant : List ℕ → Instr

-- what a row makes of these values of its free fields
abbrev pub instr_of : Row → List ℕ → Instr
instr_of row fields = if row.undefined fields then Undefined else row.variant fields

-- what a row makes of a word that matches it
abbrev pub reading_of : Row → ℕ → Instr
reading_of row word = instr_of row (free_fields 32 row.parts word)

-- what the first row that the word matches makes of it
abbrev pub first_reading : List Row → ℕ → Instr
first_reading [] word = Undefined
first_reading (row ∷ rows) word = if matches 32 row.parts word then reading_of row word else first_reading rows word
