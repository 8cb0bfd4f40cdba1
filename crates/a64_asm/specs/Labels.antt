-- The labels of a source, as a map has them. No public clause cites this module.
use Rattle.std.specs.Prelude.{ℕ, List, Option}
use Rattle.std.specs.Cmp.Lexicographic.{slice_cmp}
use Rattle.std.specs.Ordering.{nat_cmp}
use Rattle.std.specs.BTreeMap.{BTreeMap, get_by}
use denote.Ref.{Bor}
use Rattle.a64_asm.specs.declared.label.Definition.{Definition}

-- where a map says that a label is defined
abbrev pub looked_up : BTreeMap (Bor (List ℕ)) Definition → List ℕ → Option Definition
looked_up labels name = get_by (λ key. slice_cmp nat_cmp name key.now) labels
