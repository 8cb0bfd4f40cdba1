-- A word that is joined from fields that fit is read as the row's instruction, where no earlier row has the same bits.
use Rattle.std.proofs.Common.{◌≡◌, ℕ, zero, suc, ◌+◌, ◌-◌, ◌*◌, ◌/◌, ◌%◌, ◌^◌, ◌<◌, ◌≤◌, Bool, true, false, not, ◌&&◌, ◌||◌, List, [], ◌∷◌, take, refl, sym, ap, subst, ◌∙◌, arith, eqb, leb, ltb}
use Rattle.std.specs.Prelude.{Option, None, Some, if◌then◌else◌, slice_get}
use Rattle.std.specs.List.{list_all}
use Rattle.std.proofs.lemmas.Nat.{mod-pow-add, pow_pos, pow-add, div-mul-add, mod-mul-add, mul-add-lt, field_of}
use Rattle.std.proofs.lemmas.Bool.{eqb-true, eq-eqb, leb-true, leb-false, ltb-true}
use Rattle.std.proofs.Math.Nat.{mod-lt, mod-eq_of_lt, div-div-eq-div-mul}
use Rattle.std.proofs.Math.Pow.{mod-mod-pow}
use Rattle.bao_types.specs.Bits.{field}
use Rattle.a64_decode.specs.declared.instr.Instr.{Instr}
use Rattle.a64_decode.specs.declared.instr.Instr.TheVariants.{Undefined}
use Rattle.a64_decode.specs.Pattern.{Part, Row, matches, free_fields, reading_of, first_reading}
use Rattle.a64_decode.specs.Pattern.Part.{Fixed, Free}
use Rattle.a64_decode.specs.Word.{join}

-- the parts have `top` bits, and each has one at least
abbrev pub fills : ℕ → List Part → Bool
fills top [] = eqb top 0
fills top (Fixed width value ∷ parts) = ltb 0 width && (leb width top && fills (top - width) parts)
fills top (Free width ∷ parts) = ltb 0 width && (leb width top && fills (top - width) parts)

pub both : (a b : Bool) → (a && b) ≡ true → (a ≡ true) × (b ≡ true)
both true b h = (refl, h)
both false b h = absurd (cc)

-- the values fit the parts
abbrev pub IsFit : List Part → List ℕ → Type 0
IsFit [] [] = Unit {0}
IsFit [] (value ∷ fields) = ⊥
IsFit (Fixed width value ∷ parts) fields = (value < 2 ^ width) × IsFit parts fields
IsFit (Free width ∷ parts) [] = ⊥
IsFit (Free width ∷ parts) (value ∷ fields) = (value < 2 ^ width) × IsFit parts fields

-- a part at the top, and the rest
placed_below : (top width value rest : ℕ) → width ≤ top → value < 2 ^ width → rest < 2 ^ (top - width)
    → value * 2 ^ (top - width) + rest < 2 ^ top
placed_below top width value rest room fit low =
    let all : top - width + width ≡ top = omega arith in
    let whole : 2 ^ (top - width) * 2 ^ width ≡ 2 ^ top = sym (pow-add 2 (top - width) width) ∙ ap (λ n. 2 ^ n) all in
    omega (arith, whole, mul-add-lt value (2 ^ (top - width)) rest (2 ^ width) fit low)

pub join_below : (top : ℕ) (parts : List Part) (fields : List ℕ) → fills top parts ≡ true → IsFit parts fields → join top parts fields < 2 ^ top
join_below top [] fields whole fit = pow_pos top
join_below top (Fixed width value ∷ parts) fields whole fit =
    let some = both (ltb 0 width) (leb width top && fills (top - width) parts) whole in
    let room = both (leb width top) (fills (top - width) parts) some.1 in
    placed_below top width value _ (leb-true width top room.0) fit.0 (join_below (top - width) parts fields room.1 fit.1)
join_below top (Free width ∷ parts) [] whole fit = absurd fit
join_below top (Free width ∷ parts) (value ∷ fields) whole fit =
    let some = both (ltb 0 width) (leb width top && fills (top - width) parts) whole in
    let room = both (leb width top) (fills (top - width) parts) some.1 in
    placed_below top width value _ (leb-true width top room.0) fit.0 (join_below (top - width) parts fields room.1 fit.1)

-- the part at the top of a word, and the rest of it
cut : (word top width : ℕ) → 0 < width → width ≤ top
    → field word (top - 1) (top - width) * 2 ^ (top - width) + word % 2 ^ (top - width) ≡ word % 2 ^ top
cut word top width some room =
    let high : top - 1 + 1 - (top - width) ≡ width = omega arith in
    let all : width + (top - width) ≡ top = omega arith in
    rw high (sym (mod-pow-add word width (top - width)) ∙ ap (λ n. word % 2 ^ n) all)

-- what is joined is taken apart in one way
apart : (a w b c d : ℕ) → b < w → d < w → a * w + b ≡ c * w + d → (a ≡ c) × (b ≡ d)
apart a w b c d b_low d_low e = (
  sym (div-mul-add a w b b_low) ∙ ap (λ n. n / w) e ∙ div-mul-add c w d d_low,
  sym (mod-mul-add a w b b_low) ∙ ap (λ n. n % w) e ∙ mod-mul-add c w d d_low,
)

-- the field at the top, and what the rest is
top_field : (word top width value rest : ℕ) → 0 < width → width ≤ top → rest < 2 ^ (top - width)
    → word % 2 ^ top ≡ value * 2 ^ (top - width) + rest
    → (field word (top - 1) (top - width) ≡ value) × (word % 2 ^ (top - width) ≡ rest)
top_field word top width value rest some room low e =
    apart (field word (top - 1) (top - width)) (2 ^ (top - width)) (word % 2 ^ (top - width)) value rest
    (mod-lt _ (pow_pos (top - width))) low (cut word top width some room ∙ e)

same_bits : (a b : ℕ) (rest : Bool) → a ≡ b → rest ≡ true → (eqb a b && rest) ≡ true
same_bits a b rest e h = rw (eq-eqb a b e, h) refl

-- a word with these low bits matches the parts, and has these fields
pub taken_apart : (top : ℕ) (parts : List Part) (fields : List ℕ) (word : ℕ) → fills top parts ≡ true → IsFit parts fields
    → word % 2 ^ top ≡ join top parts fields → (matches top parts word ≡ true) × (free_fields top parts word ≡ fields)
taken_apart top [] [] word whole fit e = (refl, refl)
taken_apart top [] (value ∷ fields) word whole fit e = absurd fit
taken_apart top (Fixed width value ∷ parts) fields word whole fit e =
    let some = both (ltb 0 width) (leb width top && fills (top - width) parts) whole in
    let room = both (leb width top) (fills (top - width) parts) some.1 in
    let here = top_field word top width value _ (ltb-true 0 width some.0) (leb-true width top room.0) (join_below (top - width) parts fields room.1 fit.1) e in
    let others = taken_apart (top - width) parts fields word room.1 fit.1 here.1 in
    (same_bits _ value _ here.0 others.0, others.1)
taken_apart top (Free width ∷ parts) [] word whole fit e = absurd fit
taken_apart top (Free width ∷ parts) (value ∷ fields) word whole fit e =
    let some = both (ltb 0 width) (leb width top && fills (top - width) parts) whole in
    let room = both (leb width top) (fills (top - width) parts) some.1 in
    let here = top_field word top width value _ (ltb-true 0 width some.0) (leb-true width top room.0) (join_below (top - width) parts fields room.1 fit.1) e in
    let others = taken_apart (top - width) parts fields word room.1 fit.1 here.1 in
    (others.0, ap (λ f. f ∷ free_fields (top - width) parts word) here.0 ∙ ap (λ fs. value ∷ fs) others.1)

-- a bit that the parts fix
abbrev pub bit_in : ℕ → List Part → ℕ → Option ℕ
bit_in top [] i = None
bit_in top (Fixed width value ∷ parts) i =
    if leb (top - width) i then Some (value / 2 ^ (i - (top - width)) % 2) else bit_in (top - width) parts i
bit_in top (Free width ∷ parts) i = if leb (top - width) i then None else bit_in (top - width) parts i

-- a bit of a field is one of the word
bit_of_field : (word low width i : ℕ) → low ≤ i → i < low + width → word / 2 ^ low % 2 ^ width / 2 ^ (i - low) % 2 ≡ word / 2 ^ i % 2
bit_of_field word low width i above below =
    let k = i - low in
    let j = width - k - 1 in
    let all : j + 1 + k ≡ width = omega arith in
    let place : low + k ≡ i = omega arith in
    ap (λ n. word / 2 ^ low % 2 ^ n / 2 ^ k % 2) (sym all)
    ∙ ap (λ n. n % 2) (field_of (word / 2 ^ low) (j + 1) k)
    ∙ mod-mod-pow (word / 2 ^ low / 2 ^ k) j 1
    ∙ ap (λ n. n % 2) (div-div-eq-div-mul word (2 ^ low) (2 ^ k))
    ∙ ap (λ n. word / n % 2) (sym (pow-add 2 low k) ∙ ap (λ n. 2 ^ n) place)

module _ (word i bit : ℕ) where
  at_fixed : (top width value : ℕ) (rest : Option ℕ) (here : Bool) → leb (top - width) i ≡ here → i < top → width ≤ top
      → field word (top - 1) (top - width) ≡ value → (leb (top - width) i ≡ false → rest ≡ Some bit → word / 2 ^ i % 2 ≡ bit)
      → (if here then Some (value / 2 ^ (i - (top - width)) % 2) else rest) ≡ Some bit → word / 2 ^ i % 2 ≡ bit
  at_fixed top width value rest true is below room same others e =
      let high : top - 1 + 1 - (top - width) ≡ width = omega arith in
      let above : top - width ≤ i = leb-true (top - width) i is in
      let told : value / 2 ^ (i - (top - width)) % 2 ≡ bit = cc in
      sym (bit_of_field word (top - width) width i above (omega arith))
      ∙ ap (λ n. word / 2 ^ (top - width) % 2 ^ n / 2 ^ (i - (top - width)) % 2) (sym high)
      ∙ ap (λ n. n / 2 ^ (i - (top - width)) % 2) same ∙ told
  at_fixed top width value rest false is below room same others e = others is e

  at_free : (top width : ℕ) (rest : Option ℕ) (here : Bool) → leb (top - width) i ≡ here
      → (leb (top - width) i ≡ false → rest ≡ Some bit → word / 2 ^ i % 2 ≡ bit)
      → (if here then None else rest) ≡ Some bit → word / 2 ^ i % 2 ≡ bit
  at_free top width rest true is others e = cc
  at_free top width rest false is others e = others is e

not_above : (low i : ℕ) → leb low i ≡ false → i < low
not_above low i h = grind (arith, leb-false)

pub bit_is : (top : ℕ) (parts : List Part) (word i bit : ℕ) → fills top parts ≡ true → i < top → matches top parts word ≡ true
    → bit_in top parts i ≡ Some bit → word / 2 ^ i % 2 ≡ bit
bit_is top [] word i bit whole below found e = cc
bit_is top (Fixed width value ∷ parts) word i bit whole below found e =
    let some = both (ltb 0 width) (leb width top && fills (top - width) parts) whole in
    let room = both (leb width top) (fills (top - width) parts) some.1 in
    let here = both (eqb (field word (top - 1) (top - width)) value) (matches (top - width) parts word) found in
    at_fixed word i bit top width value (bit_in (top - width) parts i) (leb (top - width) i) refl below (leb-true width top room.0)
    (eqb-true _ _ here.0)
    (λ under told. bit_is (top - width) parts word i bit room.1 (not_above (top - width) i under) here.1 told) e
bit_is top (Free width ∷ parts) word i bit whole below found e =
    let some = both (ltb 0 width) (leb width top && fills (top - width) parts) whole in
    let room = both (leb width top) (fills (top - width) parts) some.1 in
    at_free word i bit top width (bit_in (top - width) parts i) (leb (top - width) i) refl
    (λ under told. bit_is (top - width) parts word i bit room.1 (not_above (top - width) i under) found told) e

-- two fixed bits are not the same
abbrev pub is_other : Option ℕ → Option ℕ → Bool
is_other None b = false
is_other (Some a) None = false
is_other (Some a) (Some b) = not (eqb a b)

-- the parts differ in a bit below this one
abbrev pub differ_below : ℕ → List Part → List Part → Bool
differ_below zero p q = false
differ_below (suc i) p q = is_other (bit_in 32 p i) (bit_in 32 q i) || differ_below i p q

other_bits : (a b : Option ℕ) (bit : ℕ) → ((x : ℕ) → a ≡ Some x → bit ≡ x) → ((x : ℕ) → b ≡ Some x → bit ≡ x) → is_other a b ≡ true → ⊥
other_bits None b bit one other h = cc
other_bits (Some x) None bit one other h = cc
other_bits (Some x) (Some y) bit one other h =
    let same : x ≡ y = sym (one x refl) ∙ other y refl in
    let e : eqb x y ≡ true = eq-eqb x y same in
    unlike (eqb x y) e h
  where
    unlike : (b : Bool) → b ≡ true → not b ≡ true → ⊥
    unlike true e h = cc
    unlike false e h = cc

-- a word that matches both has the same bits
no_difference : (n : ℕ) (p q : List Part) (word : ℕ) → n ≤ 32 → fills 32 p ≡ true → fills 32 q ≡ true
    → matches 32 p word ≡ true → matches 32 q word ≡ true → differ_below n p q ≡ true → ⊥
no_difference zero p q word low p_whole q_whole p_found q_found h = cc
no_difference (suc i) p q word low p_whole q_whole p_found q_found h =
    by_bit (is_other (bit_in 32 p i) (bit_in 32 q i)) refl h
    (no_difference i p q word (omega arith) p_whole q_whole p_found q_found)
    (other_bits (bit_in 32 p i) (bit_in 32 q i) (word / 2 ^ i % 2)
    (λ x e. bit_is 32 p word i x p_whole (omega arith) p_found e)
    (λ x e. bit_is 32 q word i x q_whole (omega arith) q_found e))
  where
    by_bit : (b : Bool) → is_other (bit_in 32 p i) (bit_in 32 q i) ≡ b → (b || differ_below i p q) ≡ true
        → (differ_below i p q ≡ true → ⊥) → (is_other (bit_in 32 p i) (bit_in 32 q i) ≡ true → ⊥) → ⊥
    by_bit true e h below here = here e
    by_bit false e h below here = below h

-- the row has other bits than this one
abbrev pub is_apart : List Part → Row → Bool
is_apart parts row = fills 32 row.parts && differ_below 32 parts row.parts

passed : (parts : List Part) (row : Row) (word : ℕ) → fills 32 parts ≡ true → matches 32 parts word ≡ true → is_apart parts row ≡ true
    → matches 32 row.parts word ≡ false
passed parts row word whole found other = by_match (matches 32 row.parts word) refl
  where
    by_match : (b : Bool) → matches 32 row.parts word ≡ b → b ≡ false
    by_match true e =
        let facts = both (fills 32 row.parts) (differ_below 32 parts row.parts) other in
        absurd (no_difference 32 parts row.parts word (omega arith) whole facts.0 found e facts.1)
    by_match false e = refl

-- such rows are passed over
pub read_at : (k : ℕ) (rows : List Row) (row : Row) (word : ℕ) → slice_get rows k ≡ Some row → list_all (is_apart row.parts) (take k rows) ≡ true
    → fills 32 row.parts ≡ true → matches 32 row.parts word ≡ true → first_reading rows word ≡ reading_of row word
read_at k [] row word at others whole found = cc
read_at zero (first ∷ rows) row word at others whole found =
    let same : first ≡ row = cc in
    subst (λ r. (if matches 32 r.parts word then reading_of r word else first_reading rows word) ≡ reading_of row word) (sym same)
    (rw found refl)
read_at (suc k) (first ∷ rows) row word at others whole found =
    let facts = both (is_apart row.parts first) (list_all (is_apart row.parts) (take k rows)) others in
    rw (passed row.parts first word whole found facts.0) (read_at k rows row word at facts.1 whole found)

-- the word of these fields, in a row of the table
pub record IsReadAs (word : ℕ) (rows : List Row) (instr : Instr) : Type 0 where
  pub below : word < 2 ^ 32
  pub read : first_reading rows word ≡ instr

pub read_as : (k : ℕ) (rows : List Row) (row : Row) (fields : List ℕ) (instr : Instr) → slice_get rows k ≡ Some row
    → list_all (is_apart row.parts) (take k rows) ≡ true → fills 32 row.parts ≡ true → IsFit row.parts fields
    → row.undefined fields ≡ false → row.variant fields ≡ instr → IsReadAs (join 32 row.parts fields) rows instr
read_as k rows row fields instr at others whole fit lawful is =
    let low = join_below 32 row.parts fields whole fit in
    let facts = taken_apart 32 row.parts fields (join 32 row.parts fields) whole fit (mod-eq_of_lt low) in
    record {
      below = low;
      read =
          read_at k rows row (join 32 row.parts fields) at others whole facts.0
          ∙ ap (λ fs. if row.undefined fs then Undefined else row.variant fs) facts.1
          ∙ ap (λ b. if b then Undefined else row.variant fields) lawful ∙ is;
    }
