-- The pages of a directory, as its pointers have them.
use Rattle.std.proofs.Common.{◌≡◌, ℕ, ◌+◌, ◌<◌, List, [], ◌∷◌, ◌++◌, Option, Some, None, length, map, take, replicate, set, get_or, refl, sym, ap, ◌∙◌, arith}
use Rattle.std.proofs.lemmas.List.{map-set, get_or-map, take_more_set, replicate_more, length-map}
use Rattle.phys_bank.specs.declared.page.Page.{Page}
use Rattle.phys_bank.specs.Directory.{page_at}

pub same_page : {x y : List ℕ} → Some x ≡ Some y → x ≡ y
same_page e = cc

-- the pages of these pointers
abbrev pub held_by_all : List Page → List (Option (List ℕ))
held_by_all pointers = map (λ page. page.held) pointers

pub length-held : (pointers : List Page) → length (held_by_all pointers) ≡ length pointers
length-held pointers = length-map pointers (λ page. page.held)

-- a pointer that is put in a place brings its page
pub pages-put : (old new : List Page) (place : ℕ) (pointer : Page) (held : Option (List ℕ)) (pages : List (Option (List ℕ)))
    → new ≡ set old place pointer → pointer.held ≡ held → held_by_all old ≡ pages → held_by_all new ≡ set pages place held
pages-put old new place pointer held pages put has were =
    ap held_by_all put ∙ map-set (λ page. page.held) old place pointer ∙ ap (λ h. set (held_by_all old) place h) has ∙ ap (λ ps. set ps place held) were

-- the pointer in a place has the place's page
pub page-taken : (pointers : List Page) (place : ℕ) (pointer : Page) (pages : List (Option (List ℕ)))
    → place < length pointers → pointer ≡ get_or pointers place pointer → held_by_all pointers ≡ pages → page_at pages place ≡ pointer.held
page-taken pointers place pointer pages lt taken are =
    ap (λ ps. page_at ps place) (sym are) ∙ get_or-map (λ page. page.held) pointers place pointer None lt ∙ ap (λ page. page.held) (sym taken)

-- one more pointer to no page
pub nulls-more : (old new : List Page) (count : ℕ) (pointer : Page) → count < length old → new ≡ set old count pointer → pointer.held ≡ None
    → take count (held_by_all old) ≡ replicate count None → take (count + 1) (held_by_all new) ≡ replicate (count + 1) None
nulls-more old new count pointer lt put has were =
    let long : count < length (held_by_all old) = omega (arith, length-held old) in
    ap (take (count + 1)) (pages-put old new count pointer None (held_by_all old) put has refl) ∙ take_more_set (held_by_all old) count None long
    ∙ ap (λ ps. ps ++ None ∷ []) were ∙ replicate_more count None
