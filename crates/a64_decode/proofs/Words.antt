-- A word is the join of its parts.
use Rattle.std.proofs.Common.{◌≡◌, ◌<◌, ◌≤◌, ℕ, ◌+◌, ◌-◌, ◌*◌, ◌%◌, ◌^◌, Bool, true, false, ◌&&◌, List, [], ◌∷◌, refl, sym, ◌∙◌, ap, arith, eqb, leb, ltb}
use Rattle.std.proofs.lemmas.Nat.{mod-pow-add, pow_pos}
use Rattle.std.proofs.lemmas.Bool.{eqb-true, leb-true, ltb-true}
use Rattle.std.proofs.Math.Nat.{mod-lt, mod-eq_of_lt, mod-one}
use Rattle.bao_types.specs.Bits.{field}
use Rattle.a64_decode.specs.Pattern.{Part, matches, free_fields}
use Rattle.a64_decode.specs.Pattern.Part.{Fixed, Free}
use Rattle.a64_decode.specs.Word.{join}

-- the parts have `top` bits, and each has one at least
abbrev pub fills : ℕ → List Part → Bool
fills top [] = eqb top 0
fills top (Fixed width value ∷ parts) = ltb 0 width && (leb width top && fills (top - width) parts)
fills top (Free width ∷ parts) = ltb 0 width && (leb width top && fills (top - width) parts)

-- both sides of a conjunction
pub both : (a b : Bool) → (a && b) ≡ true → (a ≡ true) × (b ≡ true)
both true b h = (refl, h)
both false b h = absurd (cc)

pub field_below : (word high low : ℕ) → field word high low < 2 ^ (high + 1 - low)
field_below word high low = mod-lt _ (pow_pos (high + 1 - low))

-- the part at the top, and the rest
pub cut : (word top width : ℕ) → 0 < width → width ≤ top
    → field word (top - 1) (top - width) * 2 ^ (top - width) + word % 2 ^ (top - width) ≡ word % 2 ^ top
cut word top width some room =
    let high : top - 1 + 1 - (top - width) ≡ width = omega arith in
    let all : width + (top - width) ≡ top = omega arith in
    rw high (sym (mod-pow-add word width (top - width)) ∙ ap (λ n. word % 2 ^ n) all)

-- a word with the fixed bits of the parts is the join of its free fields
pub join-free_fields : (top : ℕ) (parts : List Part) (word : ℕ) → fills top parts ≡ true → matches top parts word ≡ true
    → join top parts (free_fields top parts word) ≡ word % 2 ^ top
join-free_fields top [] word whole found = rw (eqb-true top 0 whole) (sym (mod-one word))
join-free_fields top (Fixed width value ∷ parts) word whole found =
    let some = both (ltb 0 width) (leb width top && fills (top - width) parts) whole in
    let room = both (leb width top) (fills (top - width) parts) some.1 in
    let here = both (eqb (field word (top - 1) (top - width)) value) (matches (top - width) parts word) found in
    rw
    (join-free_fields (top - width) parts word room.1 here.1, ← eqb-true _ _ here.0)
    (cut word top width (ltb-true 0 width some.0) (leb-true width top room.0))
join-free_fields top (Free width ∷ parts) word whole found =
    let some = both (ltb 0 width) (leb width top && fills (top - width) parts) whole in
    let room = both (leb width top) (fills (top - width) parts) some.1 in
    rw
    (join-free_fields (top - width) parts word room.1 found)
    (cut word top width (ltb-true 0 width some.0) (leb-true width top room.0))

-- a whole word
pub join_whole : (parts : List Part) (word : ℕ) → word < 2 ^ 32 → fills 32 parts ≡ true → matches 32 parts word ≡ true
    → join 32 parts (free_fields 32 parts word) ≡ word
join_whole parts word below whole found = join-free_fields 32 parts word whole found ∙ mod-eq_of_lt below
