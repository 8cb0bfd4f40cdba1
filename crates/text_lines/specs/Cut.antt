-- A text, cut where a byte first stands in it.
use Rattle.std.specs.Prelude.{◌≡◌, ℕ, ◌==◌, false, List, ◌∷◌, ◌++◌}
use Rattle.std.specs.List.{All}

-- no such byte is there
abbrev pub IsWhole : ℕ → List ℕ → Type 0
IsWhole byte text = All (λ other. (other == byte) ≡ false) text

-- what stands before the first such byte, and after it
pub record IsCut (byte : ℕ) (text front after : List ℕ) : Type 0 where
  pub joined : text ≡ front ++ byte ∷ after
  pub first : IsWhole byte front
