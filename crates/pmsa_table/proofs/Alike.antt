-- Between two edges of the entries the second stage says the same of each byte.
use Rattle.std.proofs.Common.{◌≡◌, ℕ, ◌-◌, ◌≤◌, Bool, true, false, ◌&&◌, nat_le, cond, List, [], ◌∷◌, ◌++◌, All, refl, ap, sym, ◌∙◌, arith}
use Rattle.std.proofs.lemmas.Bool.Decides.{nat_tests}
use Rattle.std.proofs.lemmas.List.Elements.{All-head, All-tail}
use Rattle.bao_types.specs.declared.access.Access.{Access}
use Rattle.bao_types.specs.declared.access.Access.TheVariants.{Read, Write, Exec}
use Rattle.bao_types.specs.declared.region.Region.{Region}
use Rattle.bao_types.specs.Region.{first_byte, last_byte, is_enabled, covers, matching_regions}
use Rattle.bao_types.specs.RegionMatch.{match_of}
use Rattle.pmsa_stage2.specs.Stage2.{match_verdict, stage2}
use Rattle.pmsa_table.specs.declared.span.Span.{Span}
use Rattle.pmsa_table.specs.Span.{IsSpan}
use Rattle.pmsa_table.specs.Edges.{all_edges, IsBeside}

-- the edges of an entry that is on or off
abbrev edges_where : Bool → Region → List ℕ
edges_where on entry = cond on ((first_byte entry - 1) ∷ last_byte entry ∷ []) []

-- a range into which no edge falls has all of its bytes in the entry, or none
covers_alike :
    (low high first last at : ℕ) → IsBeside first last (low - 1) → IsBeside first last high → first ≤ at → at ≤ last →
    (nat_le low at && nat_le at high) ≡ (nat_le low last && nat_le last high)
covers_alike low high first last at below above from to = grind (arith, nat_tests)

rest_beside :
    (on : Bool) (entry : Region) (rest : List ℕ) (first last : ℕ) → All (IsBeside first last) (edges_where on entry ++ rest) →
    All (IsBeside first last) rest
rest_beside false entry rest first last beside = beside
rest_beside true entry rest first last beside =
    All-tail (IsBeside first last) (last_byte entry) rest
    (All-tail (IsBeside first last) (first_byte entry - 1) (last_byte entry ∷ rest) beside)

match_alike :
    (on : Bool) (entry : Region) (rest : List ℕ) (first last at : ℕ) → All (IsBeside first last) (edges_where on entry ++ rest) →
    first ≤ at → at ≤ last → (on && covers entry at) ≡ (on && covers entry last)
match_alike false entry rest first last at beside from to = refl
match_alike true entry rest first last at beside from to =
    covers_alike (first_byte entry) (last_byte entry) first last at
    (All-head (IsBeside first last) (first_byte entry - 1) (last_byte entry ∷ rest) beside)
    (All-head (IsBeside first last) (last_byte entry) rest
    (All-tail (IsBeside first last) (first_byte entry - 1) (last_byte entry ∷ rest) beside))
    from to

joined :
    (one other : Bool) (entry : Region) (these those : List Region) → one ≡ other → these ≡ those →
    cond one (entry ∷ these) these ≡ cond other (entry ∷ those) those
joined one other entry these those same rest = cc

-- so the same entries match each of its bytes
regions_alike :
    (entries : List Region) (first last at : ℕ) → All (IsBeside first last) (all_edges entries) → first ≤ at → at ≤ last →
    matching_regions entries at ≡ matching_regions entries last
regions_alike [] first last at beside from to = refl
regions_alike (entry ∷ entries) first last at beside from to =
    joined (is_enabled entry && covers entry at) (is_enabled entry && covers entry last) entry
    (matching_regions entries at) (matching_regions entries last)
    (match_alike (is_enabled entry) entry (all_edges entries) first last at beside from to)
    (regions_alike entries first last at (rest_beside (is_enabled entry) entry (all_edges entries) first last beside) from to)

-- and the second stage says of each what it says of the last
pub stage2_alike :
    (entries : List Region) (access : Access) (first last at : ℕ) → All (IsBeside first last) (all_edges entries) → first ≤ at →
    at ≤ last → stage2 entries access last ≡ stage2 entries access at
unfolding stage2
stage2_alike entries access first last at beside from to =
    ap (λ matching. match_verdict (match_of matching) access) (sym (regions_alike entries first last at beside from to))

-- so a span that is judged at its last byte is right, if no edge falls into it
pub judged_is_span :
    (entries : List Region) (span : Span) → All (IsBeside span.first span.last) (all_edges entries)
    → span.read ≡ stage2 entries Read span.last → span.write ≡ stage2 entries Write span.last
    → span.exec ≡ stage2 entries Exec span.last → IsSpan entries span
judged_is_span entries span beside read write exec at Read from to =
    read ∙ stage2_alike entries Read span.first span.last at beside from to
judged_is_span entries span beside read write exec at Write from to =
    write ∙ stage2_alike entries Write span.first span.last at beside from to
judged_is_span entries span beside read write exec at Exec from to =
    exec ∙ stage2_alike entries Exec span.first span.last at beside from to
