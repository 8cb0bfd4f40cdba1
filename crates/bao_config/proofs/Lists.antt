-- An array that is read item by item.
use Rattle.std.proofs.Common.{◌≡◌, ℕ, suc, ◌+◌, ◌<◌, List, [], ◌∷◌, ◌++◌, length, get_or, drop, map, All, refl, sym, ap, ◌∙◌, append_assoc, arith}
use Rattle.std.specs.Prelude.{Some}
use Rattle.std.proofs.lemmas.List.{length-append, map-id}
use Rattle.std.proofs.lemmas.List.Elements.{All-push}
use Rattle.toml.specs.declared.value.Value.{Value}
use Rattle.toml.specs.Data.{Data}
use Rattle.toml.specs.View.{view, items_view}
use Rattle.toml.proofs.Views.{items_view-drop}
use Rattle.bao_config.specs.declared.error.ConfigError.{ConfigError}
use Rattle.bao_config.specs.declared.error.ConfigError.TheVariants.{BadToml, BadShape, BadValue, OutOfMemory}
use Rattle.bao_config.specs.Faults.{each, count, first, IsFirst}
use Rattle.bao_config.specs.Spelled.{each_of}

pub count_items_view : (vs : List Value) → count (items_view vs) ≡ length vs
count_items_view [] = refl
count_items_view (v ∷ vs) = ap suc (count_items_view vs)

first-append : (e : ConfigError) (xs ys : List ConfigError) → first xs ≡ Some e → first (xs ++ ys) ≡ Some e
first-append e [] ys h = absurd cc
first-append e (x ∷ xs) ys h = h

-- the first fault stays the first, whatever faults come after it
pub is_first_append : (e : ConfigError) (xs ys : List ConfigError) → IsFirst e xs → IsFirst e (xs ++ ys)
is_first_append OutOfMemory xs ys h = tt
is_first_append BadToml xs ys h = first-append BadToml xs ys h
is_first_append (BadShape s) xs ys h = first-append (BadShape s) xs ys h
is_first_append (BadValue s z) xs ys h = first-append (BadValue s z) xs ys h

module _ {Y : Type 0} (Fits : Y → Type 0) (faults_at : ℕ → Data → List ConfigError) (record_of : Data → Y) (vs : List Value) where
  -- the items before the i-th have no faults, and are read as ys
  pub record IsRead (i : ℕ) (ys : List Y) : Type 0 where
    pub clear : each faults_at i (items_view (drop i vs)) ≡ each faults_at 0 (items_view vs)
    pub records : ys ++ each_of record_of (items_view (drop i vs)) ≡ each_of record_of (items_view vs)
    pub fit : All Fits ys
    pub len : length ys ≡ i

  faults_from : (i : ℕ) (v : Value) → i < length vs → v ≡ get_or vs i v
      → each faults_at i (items_view (drop i vs)) ≡ faults_at i (view v) ++ each faults_at (i + 1) (items_view (drop (i + 1) vs))
  faults_from i v lt is = rw (items_view-drop vs i v lt) (ap (λ w. faults_at i (view w) ++ each faults_at (i + 1) (items_view (drop (i + 1) vs))) (sym is))

  records_from : (i : ℕ) (v : Value) → i < length vs → v ≡ get_or vs i v
      → each_of record_of (items_view (drop i vs)) ≡ record_of (view v) ∷ each_of record_of (items_view (drop (i + 1) vs))
  records_from i v lt is = rw (items_view-drop vs i v lt) (ap (λ w. record_of (view w) ∷ each_of record_of (items_view (drop (i + 1) vs))) (sym is))

  pub one_more : (i : ℕ) (ys : List Y) (v : Value) (y : Y) → IsRead i ys → i < length vs → v ≡ get_or vs i v
      → (faults_at i (view v) ≡ []) × (y ≡ record_of (view v)) × Fits y → IsRead (i + 1) (ys ++ y ∷ [])
  one_more i ys v y before lt is (clear, spelled, fits) =
      record {
        clear = sym (faults_from i v lt is ∙ rw clear) ∙ before.clear;
        records = simp append_assoc (ap (λ r. ys ++ r) (rw spelled (sym (records_from i v lt is))) ∙ before.records);
        fit = All-push Fits ys y before.fit fits;
        len = omega (arith, before.len, length-append ys (y ∷ []));
      }

-- items that are their own plain data
pub map_same : {X : Type 0} (xs : List X) → map (λ x. x) xs ≡ xs
map_same xs = map-id xs
