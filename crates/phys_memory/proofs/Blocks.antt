-- The bytes of a block, all of them written, and a write of one of them.
use Rattle.std.proofs.Common.{◌≡◌, ℕ, zero, suc, ◌<◌, List, [], ◌∷◌, map, length, replicate, set, slice_get, slice_index, Some, refl, sym, ap, ◌∙◌, arith, length-set}
use Rattle.std.proofs.lemmas.List.{length-map}
use Rattle.phys_memory.specs.Block.{values}
use Rattle.phys_memory.specs.Phys.{bytes_of, IsPhys}
use Rattle.phys_memory.specs.declared.cells.Cells.{Cells}
use Rattle.phys_memory.specs.declared.phys.Phys.TheInside.{Inside}

pub values-map : (xs : List ℕ) → values (map Some xs) ≡ xs
values-map [] = refl
values-map (x ∷ xs) = ap (λ ys. x ∷ ys) (values-map xs)

pub replicate-map : (n x : ℕ) → replicate n (Some x) ≡ map Some (replicate n x)
replicate-map zero x = refl
replicate-map (suc n) x = ap (λ cs. Some x ∷ cs) (replicate-map n x)

pub slice_index-zeros : (n i : ℕ) → slice_index (replicate n 0) i ≡ 0
slice_index-zeros zero i = refl
slice_index-zeros (suc n) zero = refl
slice_index-zeros (suc n) (suc i) = slice_index-zeros n i

pub same_some : {x y : ℕ} → Some (Some x) ≡ Some (Some y) → x ≡ y
same_some e = cc

slice_get-map : (xs : List ℕ) (i : ℕ) → i < length xs → slice_get (map Some xs) i ≡ Some (Some (slice_index xs i))
slice_get-map [] i lt = absurd (omega (arith, lt))
slice_get-map (x ∷ xs) zero lt = refl
slice_get-map (x ∷ xs) (suc i) lt = slice_get-map xs i (omega (arith, lt))

set-map : (xs : List ℕ) (i x : ℕ) → set (map Some xs) i (Some x) ≡ map Some (set xs i x)
set-map [] i x = refl
set-map (y ∷ xs) zero x = refl
set-map (y ∷ xs) (suc i) x = ap (λ cs. Some y ∷ cs) (set-map xs i x)

module _ (p : Inside) (is : IsPhys p) where
  pub length-bytes_of : length (bytes_of p) ≡ p.len
  length-bytes_of = sym (length-map (bytes_of p) Some) ∙ sym (ap length is.written) ∙ is.block.bytes_count

  pub slot_at : (i : ℕ) → i < length (bytes_of p) → slice_get p.cells.slots i ≡ Some (Some (slice_index (bytes_of p) i))
  slot_at i lt = ap (λ cs. slice_get cs i) is.written ∙ slice_get-map (bytes_of p) i lt

  module _ (new : Cells) (i x : ℕ) (at : new.at ≡ p.cells.at) (slots : new.slots ≡ set p.cells.slots i (Some x)) where
    all : new.slots ≡ map Some (set (bytes_of p) i x)
    all = slots ∙ ap (λ cs. set cs i (Some x)) is.written ∙ set-map (bytes_of p) i x

    -- one byte was written
    pub bytes_of-write : bytes_of (record p { cells = new }) ≡ set (bytes_of p) i x
    bytes_of-write = ap values all ∙ values-map (set (bytes_of p) i x)

    pub IsPhys-write : IsPhys (record p { cells = new })
    IsPhys-write = record {
      block = record {
        bytes_begin = at ∙ is.block.bytes_begin;
        bytes_count = ap length slots ∙ length-set p.cells.slots i (Some x) ∙ is.block.bytes_count;
        deed_begin = is.block.deed_begin;
        deed_count = is.block.deed_count;
        giver = is.block.giver;
      };
      bound = is.bound;
      written = all ∙ ap (map Some) (sym bytes_of-write);
    }
