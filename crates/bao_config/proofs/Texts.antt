-- Texts that are told apart.
use Rattle.std.proofs.Common.{◌≡◌, ℕ, zero, suc, ◌<◌, ◌≤◌, length, get_or, arith, Bool, false, List, [], ◌∷◌, codes, map, Option, Some, None, Bor, refl, sym, inl, inr}
use Rattle.std.specs.List.{list_any}
use Rattle.std.specs.Prelude.{option_and_then, slice_get, unwrap_or}
use Rattle.std.specs.Str.{bytes_eq}
use Rattle.std.proofs.lemmas.Bool.{cases_Bool}
use Rattle.std.proofs.lemmas.Slice.Eq.{bytes_eq-Decides}
use Rattle.toml.specs.Data.{Data, as_str}
use Rattle.bao_config.specs.declared.error.Spot.{Spot}
use Rattle.bao_config.specs.declared.error.ConfigError.TheVariants.{BadShape}
use Rattle.bao_config.specs.Faults.{text, faults, or_shape, first, is_one_of}
use Rattle.bao_config.specs.Texts.{is_region_access, is_window_access}

pub bytes_eq-different : (s t : List ℕ) → (s ≡ t → ⊥) → bytes_eq s t ≡ false
bytes_eq-different s t different =
    elim (cases_Bool (bytes_eq s t)) [
      | inl e ↦ absurd (different ((bytes_eq-Decides s t).0 e))
      | inr e ↦ e
    ]

-- a search through borrowed texts
pub is_one_of-borrowed : (texts : List (Bor (List ℕ))) (t : List ℕ) → list_any (λ s. bytes_eq s.now t) texts ≡ is_one_of (map (λ s. s.now) texts) t
is_one_of-borrowed [] t = refl
is_one_of-borrowed (s ∷ texts) t = rw (is_one_of-borrowed texts t)

-- a text that is none of the accesses
pub is_region_access-other : (t : List ℕ) → (t ≡ codes "r" → ⊥) → (t ≡ codes "rx" → ⊥) → (t ≡ codes "rw" → ⊥) → (t ≡ codes "rwx" → ⊥) → is_region_access t ≡ false
is_region_access-other t not_r not_rx not_rw not_rwx =
    rw (bytes_eq-different (codes "r") t (λ e. not_r (sym e)), bytes_eq-different (codes "rx") t (λ e. not_rx (sym e)), bytes_eq-different (codes "rw") t (λ e. not_rw (sym e)), bytes_eq-different (codes "rwx") t (λ e. not_rwx (sym e)))

pub is_window_access-other : (t : List ℕ) → (t ≡ codes "r" → ⊥) → (t ≡ codes "rw" → ⊥) → is_window_access t ≡ false
is_window_access-other t not_r not_rw =
    rw (bytes_eq-different (codes "r") t (λ e. not_r (sym e)), bytes_eq-different (codes "rw") t (λ e. not_rw (sym e)))

-- a text that fails the test is the one fault of its key
pub text_refused : (test : List ℕ → Bool) (spot : Spot) (o : Option Data) (t : List ℕ) → option_and_then as_str o ≡ Some t → test t ≡ false
    → first (or_shape spot o (faults (text test) spot)) ≡ Some (BadShape spot)
text_refused test spot None t is fails = absurd cc
text_refused test spot (Some d) t is fails = rw (is, fails)

-- a text among borrowed ones, and none after them
pub text_at : (texts : List (Bor (List ℕ))) (i : ℕ) (d : Bor (List ℕ)) → i < length texts → (get_or texts i d).now ≡ unwrap_or (slice_get (map (λ s. s.now) texts) i) []
text_at [] i d h = absurd (omega arith)
text_at (t ∷ texts) zero d h = refl
text_at (t ∷ texts) (suc i) d h = text_at texts i d (omega arith)

pub text_past : (texts : List (Bor (List ℕ))) (i : ℕ) → length texts ≤ i → [] ≡ unwrap_or (slice_get (map (λ s. s.now) texts) i) []
text_past [] i h = refl
text_past (t ∷ texts) zero h = absurd (omega arith)
text_past (t ∷ texts) (suc i) h = text_past texts i (omega arith)
