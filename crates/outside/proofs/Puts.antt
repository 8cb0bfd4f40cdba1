-- For this crate and its callers: a text that is put out in parts.
--
-- A function that puts one part after the other, each with `?`, and promises `Takes` of the parts joined by `++` to the
-- right, mostly needs no proof file under `#[tactic(auto, using(outside::proofs::Puts::in_parts))]`. A loop keeps
-- `Reached`: it goes from `begun` by `further` to `finished`, and leaves by `stopped` where a put fails.
use Rattle.std.proofs.Common.{◌≡◌, ℕ, List, [], ◌++◌, refl, sym, ap, ◌∙◌, append_assoc, append-nil, subst, ◌+◌, ◌<◌, suc, length, get_or, drop, drop-cons, add-one}
use Rattle.std.specs.List.{flat_map}
use Rattle.std.specs.Prelude.{Option, None, Some}
use Rattle.outside.specs.Sink.{grown, TakesPart}

-- what a sink tells that told its bytes
pub grown-Some : (taken bytes : List ℕ) → grown (Some taken) bytes ≡ Some (taken ++ bytes)
unfolding grown
grown-Some taken bytes = refl

-- nothing more leaves what was told
pub grown-nil : (old : Option (List ℕ)) → grown old [] ≡ old
unfolding grown
grown-nil None = refl
grown-nil (Some taken) = ap Some (append-nil taken)

-- one text after another
pub grown-grown : (old : Option (List ℕ)) (first second : List ℕ) → grown (grown old first) second ≡ grown old (first ++ second)
unfolding grown
grown-grown None first second = refl
grown-grown (Some taken) first second = ap Some (append_assoc taken first second)

-- both parts were taken
pub grows_on : (old now new : Option (List ℕ)) (first second : List ℕ)
    → now ≡ grown old first → new ≡ grown now second → new ≡ grown old (first ++ second)
grows_on old now new first second one two = two ∙ ap (λ o. grown o second) one ∙ grown-grown old first second

-- nothing was taken
pub part_none : (old new : Option (List ℕ)) (bytes : List ℕ) → new ≡ old → TakesPart old new bytes
part_none old new bytes same = record { part = []; left = bytes; splits = refl; grows = same ∙ sym (grown-nil old) }

-- some of the first part was taken
pub part_first : (old new : Option (List ℕ)) (first second : List ℕ)
    → TakesPart old new first → TakesPart old new (first ++ second)
part_first old new first second part = record {
  part = part.part;
  left = part.left ++ second;
  splits = ap (λ p. p ++ second) part.splits ∙ append_assoc part.part part.left second;
  grows = part.grows;
}

-- the first part was taken, and some of the second
pub part_second : (old now new : Option (List ℕ)) (first second : List ℕ)
    → now ≡ grown old first → TakesPart now new second → TakesPart old new (first ++ second)
part_second old now new first second one part = record {
  part = first ++ part.part;
  left = part.left;
  splits = ap (λ p. first ++ p) part.splits ∙ sym (append_assoc first part.part part.left);
  grows = grows_on old now new first part.part one part.grows;
}

-- two parts, one after the other
pub ruleset in_parts = (grows_on, part_first, part_second)

-- Of a text, all but `left` is taken: what a loop over the parts keeps.
pub record Reached (old now : Option (List ℕ)) (text left : List ℕ) : Type 0 where
  pub done : List ℕ
  pub splits : text ≡ done ++ left
  pub grows : now ≡ grown old done

-- before the first part
pub begun : (old : Option (List ℕ)) (text : List ℕ) → Reached old old text text
begun old text = record { done = []; splits = refl; grows = sym (grown-nil old) }

-- after one more part
pub further : (old now new : Option (List ℕ)) (text piece left : List ℕ)
    → Reached old now text (piece ++ left) → new ≡ grown now piece → Reached old new text left
further old now new text piece left reached grew = record {
  done = reached.done ++ piece;
  splits = reached.splits ∙ sym (append_assoc reached.done piece left);
  grows = grows_on old now new reached.done piece reached.grows grew;
}

-- after the last part
pub finished : (old now : Option (List ℕ)) (text : List ℕ) → Reached old now text [] → now ≡ grown old text
finished old now text reached = reached.grows ∙ ap (grown old) (sym (reached.splits ∙ append-nil reached.done))

-- in the middle of a part
pub stopped : (old now new : Option (List ℕ)) (text piece left : List ℕ)
    → Reached old now text (piece ++ left) → TakesPart now new piece → TakesPart old new text
stopped old now new text piece left reached part =
    let whole : TakesPart old new (reached.done ++ (piece ++ left)) =
    part_second old now new reached.done (piece ++ left) reached.grows (part_first now new piece left part)
    in subst (TakesPart old new) (sym reached.splits) whole

-- what is left before a part and after it, where a text is that of the elements of a list
pub flat_map-drop : {X : Type 0} (f : X → List ℕ) (xs : List X) (i : ℕ) (x : X) → i < length xs → x ≡ get_or xs i x
    → flat_map f (drop i xs) ≡ f x ++ flat_map f (drop (i + 1) xs)
flat_map-drop f xs i x inside at =
    rw add-one (ap (flat_map f) (drop-cons xs i x inside) ∙ ap (λ b. f b ++ flat_map f (drop (suc i) xs)) (sym at))
