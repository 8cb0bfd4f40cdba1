-- On the search for a file by its name.
use Rattle.std.proofs.Common.{◌≡◌, ℕ, ◌<◌, List, [], ◌∷◌, length, map, string_bytes, drop, get_or, false, refl, arith, Vec, zero, suc}
use Rattle.std.specs.Prelude.{String}
use Rattle.std.specs.declared.alloc.Global.{Global}
use Rattle.std.specs.Str.{bytes_eq}
use Rattle.outside.specs.FileList.{first_content}

-- a file of another name is passed over
pub passed_over : (names : List (String Global)) (contents : List (Vec ℕ Global)) (name : List ℕ) (i : ℕ) (known : String Global)
    → i < length names → length names ≡ length contents → bytes_eq (string_bytes (get_or names i known)) name ≡ false
    → first_content (map (λ n. string_bytes n) (drop (suc i) names)) (map (λ v. v.items) (drop (suc i) contents)) name
    ≡ first_content (map (λ n. string_bytes n) (drop i names)) (map (λ v. v.items) (drop i contents)) name
passed_over [] contents name i known inside long other = absurd (omega arith)
passed_over (n ∷ names) [] name i known inside long other = absurd (omega arith)
passed_over (n ∷ names) (v ∷ contents) name zero known inside long other = rw other refl
passed_over (n ∷ names) (v ∷ contents) name (suc i) known inside long other = passed_over names contents name i known (omega arith) (omega arith) other
