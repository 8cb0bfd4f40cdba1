-- How long a path is.
use Rattle.std.proofs.Common.{◌≡◌, ℕ, zero, suc, ◌+◌, ◌≤◌, ◌<◌, Bool, true, false, ◌&&◌, ◌||◌, if◌then◌else◌, List, [], ◌∷◌, ◌++◌, length, drop, get_or, refl, sym, arith, length-append, append_assoc, inl, inr}
use Rattle.std.specs.Prelude.{slice_get, unwrap_or, nat_le}
use Rattle.std.specs.List.{flat_map, list_all}
use Rattle.std.specs.Fmt.{decimal}
use Rattle.std.proofs.lemmas.Bool.{cases_Bool, leb-true}
use Rattle.std.proofs.lemmas.List.{drop_more}
use Rattle.std.proofs.lemmas.Fmt.{length-decimal-le}
use Rattle.bao_config.specs.declared.error.Spot.{Spot}
use Rattle.bao_config.specs.Path.{patterns, pattern_of, is_digit, filled, path_of}

-- the places of a spot are bytes
pub record HasBytePlaces (spot : Spot) : Type 0 where
  pub i : spot.i < 256
  pub j : spot.j < 256
  pub k : spot.k < 256

length-place : (n : ℕ) → n < 256 → length (decimal n) ≤ 3
length-place n high = length-decimal-le 3 n (omega arith) (omega arith) (omega arith)

-- the most bytes that stand for one of a pattern, and for a whole pattern
width : ℕ → ℕ
width byte = if is_digit 0 byte || is_digit 1 byte || is_digit 2 byte then 3 else 1

room : List ℕ → ℕ
room [] = 0
room (byte ∷ bytes) = width byte + room bytes

length-filled : (spot : Spot) (byte : ℕ) → HasBytePlaces spot → length (filled spot byte) ≤ width byte
unfolding width
length-filled spot byte places =
    elim (cases_Bool (is_digit 0 byte)) [
      | inl e ↦ rw e (length-place spot.i places.i)
      | inr e ↦ elim (cases_Bool (is_digit 1 byte)) [
        | inl f ↦ rw (e, f) (length-place spot.j places.j)
        | inr f ↦ elim (cases_Bool (is_digit 2 byte)) [
          | inl g ↦ rw (e, f, g) (length-place spot.k places.k)
          | inr g ↦ rw (e, f, g) (omega arith)
        ]
      ]
    ]

length-all_filled : (spot : Spot) (bytes : List ℕ) → HasBytePlaces spot → length (flat_map (filled spot) bytes) ≤ room bytes
unfolding room
length-all_filled spot [] places = omega arith
length-all_filled spot (byte ∷ bytes) places =
    omega (arith, length-append (filled spot byte) (flat_map (filled spot) bytes), length-filled spot byte places, length-all_filled spot bytes places)

is_short : List ℕ → Bool
is_short bytes = nat_le (room bytes) 27

all_short : list_all is_short patterns ≡ true
unfolding is_short room width
all_short = refl

both : (a b : Bool) → a && b ≡ true → (a ≡ true) × (b ≡ true)
both true b h = (refl, h)
both false b h = absurd cc

short-at : (texts : List (List ℕ)) (i : ℕ) → list_all is_short texts ≡ true → is_short (unwrap_or (slice_get texts i) []) ≡ true
unfolding is_short room
short-at [] i all = refl
short-at (text ∷ texts) zero all = (both (is_short text) (list_all is_short texts) all).0
short-at (text ∷ texts) (suc i) all = short-at texts i (both (is_short text) (list_all is_short texts) all).1

pub length-path : (spot : Spot) → HasBytePlaces spot → length (path_of spot) ≤ 27
unfolding path_of is_short room width
length-path spot places =
    let short : room (pattern_of spot.row) ≤ 27 = leb-true _ _ (short-at ([] ∷ patterns) spot.row refl) in
    omega (arith, length-all_filled spot (pattern_of spot.row) places, short)

-- one byte of the pattern more
pub one_more : (spot : Spot) (bytes : List ℕ) (i d : ℕ) (path : List ℕ) → i < length bytes
    → path ++ flat_map (filled spot) (drop i bytes) ≡ (path ++ filled spot (get_or bytes i d)) ++ flat_map (filled spot) (drop (i + 1) bytes)
one_more spot bytes i d path low =
    rw (drop_more bytes i d low) (sym (append_assoc path (filled spot (get_or bytes i d)) (flat_map (filled spot) (drop (i + 1) bytes))))
