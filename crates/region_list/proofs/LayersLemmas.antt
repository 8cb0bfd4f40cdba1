-- Lemmas on the class of a byte under layers.
use Rattle.std.proofs.Common.{◌≡◌, ℕ, ◌+◌, ◌^◌, ◌<◌, ◌≤◌, true, false, if◌then◌else◌, List, [], ◌∷◌, ◌++◌, length, get_or, take, refl, ◌∙◌, ap, arith}
use Rattle.std.proofs.lemmas.List.Sums.{fold_more, fold_push}
use Rattle.std.proofs.lemmas.List.Elements.{All-head, All-tail}
use Rattle.std.proofs.lemmas.Bool.Decides.{nat_tests}
use Rattle.bao_types.specs.declared.access.Class.{Class}
use Rattle.bao_types.specs.declared.access.Class.TheVariants.{Nothing}
use Rattle.bao_types.specs.declared.range.ByteRange.{ByteRange}
use Rattle.bao_types.specs.ByteRange.{end, is_within, lies_in}
use Rattle.region_list.specs.declared.run.Run.{Run}
use Rattle.region_list.specs.Layers.{AreInSpace, class_in, class_over, IsInSpace}

-- a byte after a range isn't in it
is_within-after : (range : ByteRange) (at : ℕ) → end range ≤ at → is_within range at ≡ false
is_within-after range at after = grind (arith, nat_tests)

-- a layer gives its class to its own bytes, and leaves the others
pub class_over-inside : (layer : Run) (at : ℕ) (below : Class) → is_within layer.range at ≡ true → class_over at below layer ≡ layer.class
class_over-inside layer at below inside = rw inside refl

pub class_over-outside : (layer : Run) (at : ℕ) (below : Class) → is_within layer.range at ≡ false → class_over at below layer ≡ below
class_over-outside layer at below outside = rw outside refl

-- one more layer
pub class_in_more :
    (layers : List Run) (i : ℕ) (default : Run) (at : ℕ) → i < length layers →
    class_in (take (i + 1) layers) at ≡ class_over at (class_in (take i layers) at) (get_or layers i default)
class_in_more layers i default at within = fold_more (class_over at) Nothing layers i default within

pub class_in-push : (layers : List Run) (top : Run) (at : ℕ) → class_in (layers ++ top ∷ []) at ≡ class_over at (class_in layers at) top
class_in-push layers top at = fold_push (class_over at) Nothing layers top

-- a layer that another covers whole gives no byte its class
pub is_within-covered :
    (range cover : ByteRange) (at : ℕ) → lies_in range cover ≡ true →
    is_within cover at ≡ false → is_within range at ≡ false
is_within-covered range cover at covered outside = grind (arith, nat_tests)

-- behind the address space every byte has class Nothing
pub class_in-beyond : (layers : List Run) (at : ℕ) → AreInSpace layers → 2 ^ 48 ≤ at → class_in layers at ≡ Nothing
class_in-beyond [] at in_space beyond = refl
class_in-beyond (layer ∷ layers) at in_space beyond =
    let ends : IsInSpace layer.range = All-head (λ run. IsInSpace run.range) layer layers in_space in
    let outside : is_within layer.range at ≡ false = is_within-after layer.range at (omega arith) in
    rw outside (class_in-beyond layers at (All-tail (λ run. IsInSpace run.range) layer layers in_space) beyond)

-- between two bytes with no edge of a layer between them the layer makes no difference
pub class_over-between :
    (layer : Run) (at byte : ℕ) (at_class byte_class : Class) → at ≤ byte → byte_class ≡ at_class →
    (at < layer.range.base → byte < layer.range.base) → (at < end layer.range → byte < end layer.range) →
    class_over byte byte_class layer ≡ class_over at at_class layer
class_over-between layer at byte at_class byte_class behind same base end =
    let test : is_within layer.range byte ≡ is_within layer.range at = grind (arith, nat_tests) in
    ap (λ below. class_over byte below layer) same ∙ ap (λ inside. if inside then layer.class else at_class) test
