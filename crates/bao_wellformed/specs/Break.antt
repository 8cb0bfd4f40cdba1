-- The words in which the rules are said: breaks, and items with their places.
use Rattle.std.specs.Prelude.{ℕ, List, [], ◌∷◌, ◌++◌, map, flat_map, Option, slice_get}
use Rattle.std.specs.List.{enumerate_from}
use Rattle.bao_types.specs.declared.range.ByteRange.{ByteRange}
use Rattle.bao_config.specs.Data.{ConfigData, VmData}
use Rattle.bao_wellformed.specs.declared.ill.Ill.{Ill}

-- in the place of a VM or an item, where a rule names none
abbrev pub none : ℕ
none = 255

-- in the place of a range, where a rule names none
abbrev pub no_range : ByteRange
no_range = record { base = 0; size = 0 }

-- a break of the rule that names nothing
abbrev pub broken : ℕ → Ill
broken rule = record { rule = rule; vm = none; item = none; first = no_range; second = no_range }

-- the items of a list with their places
abbrev pub indexed : {A : Type 0} → List A → List (ℕ × A)
indexed items = enumerate_from 0 items

-- each two items of a list, the earlier one first: those with the first item, then those with the second, and so on
abbrev pub pairs : {A : Type 0} → List A → List (A × A)
pairs [] = []
pairs (one ∷ later) = map (λ other. (one, other)) later ++ pairs later

-- what a rule finds in each VM by itself
abbrev pub in_each_vm : (ℕ → VmData → List Ill) → ConfigData → List Ill
in_each_vm breaks cfg = flat_map (λ (v, vm). breaks v vm) (indexed cfg.vms)

-- what a rule finds in each two VMs, with their places
abbrev pub in_each_two_vms : (ℕ → VmData → ℕ → VmData → List Ill) → ConfigData → List Ill
in_each_two_vms breaks cfg = flat_map (λ (one, other). breaks one.0 one.1 other.0 other.1) (pairs (indexed cfg.vms))

-- the first of a list
abbrev pub first : {A : Type 0} → List A → Option A
first items = slice_get items 0
