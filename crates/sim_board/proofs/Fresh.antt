-- List registers, newly made.
use Rattle.std.proofs.Common.{◌≡◌, List, [], ◌∷◌, length, map, replicate, refl, ap}
use Rattle.bao_types.specs.ListReg.{free_registers}
use Rattle.bao_types.specs.declared.shape.CorePlace.{CorePlace}

-- those of each core are free
pub free_all : (places : List CorePlace) → replicate (length places) free_registers ≡ map (λ place. free_registers) places
free_all [] = refl
free_all (place ∷ places) = ap (λ lists. free_registers ∷ lists) (free_all places)
