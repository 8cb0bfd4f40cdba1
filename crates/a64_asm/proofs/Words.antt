-- The words of an image, one by one.
use Rattle.std.proofs.Common.{◌≡◌, ℕ, ◌<◌, ◌≤◌, List, [], ◌∷◌, ◌++◌, length, take, drop, refl, sym, ap, ◌∙◌, arith, append_assoc, append-nil}
use Rattle.bao_types.specs.Bytes.{little_endian}
use Rattle.a64_asm.specs.Listing.{words_of, line_of_word, listing}

-- the first word
pub listing_more : (rest : List ℕ) → 4 ≤ length rest
    → listing rest ≡ line_of_word (little_endian (take 4 rest)) ++ listing (drop 4 rest)
unfolding listing words_of
listing_more [] some = absurd (omega arith)
listing_more (a ∷ []) some = absurd (omega arith)
listing_more (a ∷ b ∷ []) some = absurd (omega arith)
listing_more (a ∷ b ∷ c ∷ []) some = absurd (omega arith)
listing_more (a ∷ b ∷ c ∷ d ∷ rest) some = refl

-- after the last word nothing is left
pub listing_none : (rest : List ℕ) → length rest < 4 → listing rest ≡ []
unfolding listing words_of
listing_none [] few = refl
listing_none (a ∷ []) few = refl
listing_none (a ∷ b ∷ []) few = refl
listing_none (a ∷ b ∷ c ∷ []) few = refl
listing_none (a ∷ b ∷ c ∷ d ∷ rest) few = absurd (omega arith)

-- one line more
pub one_more : (image rest front others old new : List ℕ) (word : ℕ) → old ++ listing rest ≡ listing image → 4 ≤ length rest
    → front ≡ take 4 rest → others ≡ drop 4 rest → word ≡ little_endian front → new ≡ old ++ line_of_word word
    → new ++ listing others ≡ listing image
one_more image rest front others old new word so_far some front_is others_is is pushed =
    ap (λ n. n ++ listing others) pushed
    ∙ append_assoc old (line_of_word word) (listing others)
    ∙ ap (λ w. old ++ (line_of_word w ++ listing others)) (is ∙ ap little_endian front_is)
    ∙ ap (λ o. old ++ (line_of_word (little_endian (take 4 rest)) ++ listing o)) others_is
    ∙ ap (λ l. old ++ l) (sym (listing_more rest some))
    ∙ so_far

-- nothing is left
pub all_listed : (image rest old : List ℕ) → old ++ listing rest ≡ listing image → length rest < 4 → old ≡ listing image
all_listed image rest old so_far few = sym (append-nil old) ∙ ap (λ l. old ++ l) (sym (listing_none rest few)) ∙ so_far
