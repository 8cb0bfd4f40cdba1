-- What may stand in a configuration, and the faults of what does: all of them, in the order of the key table.
use Rattle.std.specs.Prelude.{◌≡◌, ℕ, suc, ◌+◌, Bool, true, ◌&&◌, nat_le, if◌then◌else◌, List, [], ◌∷◌, ◌++◌, Option, Some, None, option_and_then}
use Rattle.std.specs.List.{list_any}
use Rattle.std.specs.Str.{bytes_eq}
use Rattle.toml.specs.Data.{Data, Items, no_items, item, Members, no_members, member, get_member, as_integer, as_str, as_array, as_table}
use Rattle.bao_config.specs.declared.bounds.Bounds.{Bounds}
use Rattle.bao_config.specs.declared.error.Spot.{Spot}
use Rattle.bao_config.specs.declared.error.ConfigError.{ConfigError}
use Rattle.bao_config.specs.declared.error.ConfigError.TheVariants.{BadShape, BadValue, OutOfMemory}
use Rattle.bao_config.specs.Bounds.{is_in_bounds}

-- What may stand at a row of the key table.
mutual
  pub data Item : Type 0 where
    -- an integer within the bounds
    number : Bounds → Item
    -- a text that passes the test
    text : (List ℕ → Bool) → Item
    -- an array of at least and at most this many items, all at one row: the n-th is at the spot that the function makes
    list : (least most : ℕ) → (row : ℕ) → (ℕ → Spot → Spot) → Item → Item
    -- a table with these keys
    keyed : Keys → Item

  -- The keys of a table: each with its row, its name, and what may stand there.
  pub data Keys : Type 0 where
    no_keys : Keys
    required : (row : ℕ) → (name : List ℕ) → Item → Keys → Keys
    optional : (row : ℕ) → (name : List ℕ) → Item → Keys → Keys

-- an item's place in the outermost array, in the one inside it, and in the innermost
abbrev pub in_i : ℕ → Spot → Spot
in_i n spot = record spot { i = n }

abbrev pub in_j : ℕ → Spot → Spot
in_j n spot = record spot { j = n }

abbrev pub in_k : ℕ → Spot → Spot
in_k n spot = record spot { k = n }

abbrev pub at_row : ℕ → Spot → Spot
at_row row spot = record spot { row = row }

-- the text is among these
abbrev pub is_one_of : List (List ℕ) → List ℕ → Bool
is_one_of texts t = list_any (λ s. bytes_eq s t) texts

-- how many items there are
abbrev pub count : Items → ℕ
count no_items = 0
count (item d ds) = suc (count ds)

-- the length lies between the two, both included
abbrev pub is_length : ℕ → ℕ → ℕ → Bool
is_length least most n = nat_le least n && nat_le n most

-- every key of a table is among the names
abbrev pub all_known : List (List ℕ) → Members → Bool
all_known names no_members = true
all_known names (member key d ms) = is_one_of names key && all_known names ms

abbrev pub names_of : Keys → List (List ℕ)
names_of no_keys = []
names_of (required row name what keys) = name ∷ names_of keys
names_of (optional row name what keys) = name ∷ names_of keys

-- what passes the test
abbrev pub passing : {X : Type 0} → (X → Bool) → X → Option X
passing test x = if test x then Some x else None

-- the array that the item is, if it has at least and at most this many items
abbrev pub items_within : ℕ → ℕ → Data → Option Items
items_within least most d = option_and_then (passing (λ ds. is_length least most (count ds))) (as_array d)

-- what isn't there, or isn't of its row's kind, is the one fault of its spot
abbrev pub or_shape : {X : Type 0} → Spot → Option X → (X → List ConfigError) → List ConfigError
or_shape spot None faults_of = BadShape spot ∷ []
or_shape spot (Some x) faults_of = faults_of x

-- an absent optional key has no fault
abbrev pub or_none : {X : Type 0} → Option X → (X → List ConfigError) → List ConfigError
or_none None faults_of = []
or_none (Some x) faults_of = faults_of x

-- the faults of each item in order, counted from this place on
abbrev pub each : (ℕ → Data → List ConfigError) → ℕ → Items → List ConfigError
each faults_at n no_items = []
each faults_at n (item d ds) = faults_at n d ++ each faults_at (n + 1) ds

-- one fault of the table, however many of its keys are unknown
abbrev pub unknown_faults : List (List ℕ) → Spot → Members → List ConfigError
unknown_faults names spot ms = if all_known names ms then [] else BadShape spot ∷ []

-- The faults of an item at its spot. Where the row's own test fails, that is the one fault. Else they are those of an
-- array's items in order, or those of a table's keys in order and then the one for its unknown keys.
abbrev mutual
  pub faults : Item → Spot → Data → List ConfigError
  faults (number bounds) spot d = or_shape spot (as_integer d) (λ z. if is_in_bounds bounds z then [] else BadValue spot z ∷ [])
  faults (text test) spot d = or_shape spot (option_and_then (passing test) (as_str d)) (λ s. [])
  faults (list least most row place what) spot d =
      or_shape spot (items_within least most d) (each (λ n e. faults what (place n (at_row row spot)) e) 0)
  faults (keyed keys) spot d = or_shape spot (as_table d) (λ ms. table_faults keys (names_of keys) spot ms)

  -- the faults of these keys, and then the one for the keys that aren't among the names
  pub table_faults : Keys → List (List ℕ) → Spot → Members → List ConfigError
  table_faults no_keys names spot ms = unknown_faults names spot ms
  table_faults (required row name what keys) names spot ms =
      or_shape (at_row row spot) (get_member name ms) (λ d. faults what (at_row row spot) d) ++ table_faults keys names spot ms
  table_faults (optional row name what keys) names spot ms =
      or_none (get_member name ms) (λ d. faults what (at_row row spot) d) ++ table_faults keys names spot ms

abbrev pub first : List ConfigError → Option ConfigError
first [] = None
first (fault ∷ faults) = Some fault

-- the error is the first of the faults, unless memory ran out
abbrev pub IsFirst : ConfigError → List ConfigError → Type 0
IsFirst OutOfMemory faults = Unit {0}
IsFirst error faults = first faults ≡ Some error
