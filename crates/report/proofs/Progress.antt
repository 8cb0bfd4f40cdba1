-- A text that a loop puts out piece by piece.
use Rattle.std.proofs.Common.{◌≡◌, ℕ, List, [], ◌++◌, refl, sym, ap, ◌∙◌, append_assoc, append-nil}
use Rattle.std.specs.Prelude.{Option, Result, Ok, Err}
use Rattle.outside.specs.Sink.{grown, Takes, TakesPart}
use Rattle.outside.proofs.Puts.{grown-nil, grows_on, part_second}

-- from start to now the first part of a whole text was taken; so much is left
pub record IsUnderWay (start now : Option (List ℕ)) (whole left : List ℕ) : Type 0 where
  pub done : List ℕ
  pub splits : whole ≡ done ++ left
  pub grows : now ≡ grown start done

-- nothing was taken yet
pub under_way : (start : Option (List ℕ)) (whole : List ℕ) → IsUnderWay start start whole whole
under_way start whole = record { done = []; splits = refl; grows = sym (grown-nil start) }

-- one piece more was taken
pub goes_on : (start now new : Option (List ℕ)) (whole piece left : List ℕ)
    → IsUnderWay start now whole (piece ++ left) → new ≡ grown now piece → IsUnderWay start new whole left
goes_on start now new whole piece left way put = record {
  done = way.done ++ piece;
  splits = way.splits ∙ sym (append_assoc way.done piece left);
  grows = grows_on start now new way.done piece way.grows put;
}

-- the next piece was taken in part
pub stops : (start now new : Option (List ℕ)) (whole piece left : List ℕ)
    → IsUnderWay start now whole (piece ++ left) → TakesPart now new piece → TakesPart start new whole
stops start now new whole piece left way part = record {
  part = way.done ++ part.part;
  left = part.left ++ left;
  splits = way.splits ∙ ap (λ t. way.done ++ t) (ap (λ t. t ++ left) part.splits ∙ append_assoc part.part part.left left)
      ∙ sym (append_assoc way.done part.part (part.left ++ left));
  grows = grows_on start now new way.done part.part way.grows part.grows;
}

-- all was taken
pub all_taken : (start now : Option (List ℕ)) (whole : List ℕ) → IsUnderWay start now whole [] → now ≡ grown start whole
all_taken start now whole way = way.grows ∙ ap (grown start) (sym (way.splits ∙ append-nil way.done))

-- nothing is to be put out
pub nothing_taken : (old : Option (List ℕ)) (text : List ℕ) → text ≡ [] → old ≡ grown old text
nothing_taken old text empty = sym (ap (grown old) empty ∙ grown-nil old)

-- after a text that was taken
pub takes_behind : {T E : Type 0} (old now new : Option (List ℕ)) (first second : List ℕ) (result : Result T E) → now ≡ grown old first
    → Takes now new second result → Takes old new (first ++ second) result
takes_behind old now new first second (Ok value) one two = grows_on old now new first second one two
takes_behind old now new first second (Err error) one two = part_second old now new first second one two
