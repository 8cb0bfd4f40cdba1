-- A number is read byte by byte from its last byte down, and written from its first byte up.
use Rattle.std.proofs.Common.{◌≡◌, ℕ, zero, suc, ◌+◌, ◌-◌, ◌*◌, ◌/◌, ◌%◌, ◌^◌, ◌<◌, ◌≤◌, List, [], ◌∷◌, ◌++◌, length, take, drop, set, get_or, slice_index, slice_range, refl, sym, ap, ◌∙◌, arith, append_assoc, length-append, length-take, drop-cons, lit<}
use Rattle.std.proofs.Math.Nat.{pow-suc, pow-le-pow_right}
use Rattle.std.proofs.Math.Seq.{set-append_seam}
use Rattle.bao_types.specs.Bytes.{little_endian, low_bytes}

-- one byte more in front
pub little_endian-more : (xs : List ℕ) (i j k v : ℕ) → j ≡ i + 1 → i < k → k ≤ length xs → v ≡ little_endian (slice_range xs j k) → v * 256 + slice_index xs i ≡ little_endian (slice_range xs i k)
little_endian-more xs i j k v next lt le is =
    let n = k - (i + 1) in
    let some : k - i ≡ suc n = omega arith in let up : j ≡ suc i = omega arith in
    let e : slice_range xs i k ≡ get_or xs i 0 ∷ take n (drop (suc i) xs) = ap (λ m. take m (drop i xs)) some ∙ ap (take (suc n)) (drop-cons xs i 0 (omega arith)) in
    let rest : slice_range xs j k ≡ take n (drop (suc i) xs) = ap (λ m. take (k - m) (drop m xs)) up ∙ ap (λ m. take m (drop (suc i) xs)) (omega arith) in
    let w : v ≡ little_endian (take n (drop (suc i) xs)) = is ∙ ap little_endian rest in
    omega (arith, ap little_endian e, w)

-- what is left of the value after this many bytes
abbrev pub shifted : ℕ → ℕ → ℕ
shifted zero value = value
shifted (suc n) value = shifted n (value / 256)

pub shifted-more : (n m value : ℕ) → m ≡ n + 1 → shifted n value / 256 ≡ shifted m value
shifted-more n m value e = let up : suc n ≡ m = omega arith in steps n value ∙ ap (λ k. shifted k value) up
  where
    steps : (n value : ℕ) → shifted n value / 256 ≡ shifted (suc n) value
    steps zero value = refl
    steps (suc n) value = steps n (value / 256)

pub low_bytes-more : (n m value : ℕ) → m ≡ n + 1 → low_bytes m value ≡ low_bytes n value ++ shifted n value % 256 ∷ []
low_bytes-more n m value e = let up : m ≡ suc n = omega arith in ap (λ k. low_bytes k value) up ∙ steps n value
  where
    steps : (n value : ℕ) → low_bytes (suc n) value ≡ low_bytes n value ++ shifted n value % 256 ∷ []
    steps zero value = refl
    steps (suc n) value = ap (λ ys. value % 256 ∷ ys) (steps n (value / 256))

pub length-low_bytes : (n value : ℕ) → length (low_bytes n value) ≡ n
length-low_bytes zero value = refl
length-low_bytes (suc n) value = ap suc (length-low_bytes n (value / 256))

-- the bytes ys lie over those of xs from the place at on, and the next one is written
pub spliced-more : (xs ys : List ℕ) (at n m v : ℕ) → length ys ≡ n → m ≡ n + 1 → at + n < length xs
    → set (take at xs ++ ys ++ drop (at + n) xs) (at + n) v ≡ take at xs ++ (ys ++ v ∷ []) ++ drop (at + m) xs
spliced-more xs ys at n m v long next lt =
    let front = take at xs ++ ys in let behind = drop (suc (at + n)) xs in
    let up : suc (at + n) ≡ at + m = omega arith in let place : at + n ≡ length front = omega (arith, length-append (take at xs) ys, length-take at xs) in
    ap (λ zs. set (front ++ zs) (at + n) v) (drop-cons xs (at + n) 0 lt) ∙ ap (λ i. set (front ++ get_or xs (at + n) 0 ∷ behind) i v) place
    ∙ set-append_seam front (get_or xs (at + n) 0) behind v ∙ sym (append_assoc front (v ∷ []) behind)
    ∙ ap (λ zs. zs ++ behind) (append_assoc (take at xs) ys (v ∷ [])) ∙ ap (λ i. take at xs ++ (ys ++ v ∷ []) ++ drop i xs) up

-- the same, as a loop has it: xs was there at first, old is there before the write and new after it
pub put_more : (xs old new ys zs : List ℕ) (at n m v : ℕ) → length ys ≡ n → m ≡ n + 1 → at + n < length xs → old ≡ take at xs ++ ys ++ drop (at + n) xs → new ≡ set old (at + n) v → zs ≡ ys ++ v ∷ []
    → new ≡ take at xs ++ zs ++ drop (at + m) xs
put_more xs old new ys zs at n m v long next lt was is more =
    is ∙ ap (λ l. set l (at + n) v) was ∙ spliced-more xs ys at n m v long next lt ∙ ap (λ l. take at xs ++ l ++ drop (at + m) xs) (sym more)

-- this many bytes make a number below this power
pub below-more : (v byte n m : ℕ) → m ≡ n + 1 → v < 256 ^ n → byte < 256 → v * 256 + byte < 256 ^ m
below-more v byte n m next lt small = let e : 256 ^ m ≡ 256 ^ n * 256 = (let up : m ≡ suc n = omega arith in ap (λ k. 256 ^ k) up ∙ pow-suc 256 n) in omega arith

pub below-word : (v n : ℕ) → n ≤ 8 → v < 256 ^ n → v < 2 ^ 64
below-word v n le lt = let up : 256 ^ n ≤ 256 ^ 8 = pow-le-pow_right (lit< tt) le in omega arith
