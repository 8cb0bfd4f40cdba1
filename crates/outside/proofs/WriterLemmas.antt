-- From what std tells of a writer to what a sink tells.
use Rattle.std.proofs.Common.{◌≡◌, ℕ, List, ◌++◌, ◌-◌, length, refl, sym, ap, ◌∙◌, append_assoc, take, drop, take-append-drop}
use Rattle.std.proofs.lemmas.Bool.{false≢true}
use Rattle.std.proofs.lemmas.List.{take_rest}
use Rattle.std.specs.Prelude.{Option, None, Some, Bool, true, false, IsTrue, IsSome}
use Rattle.std.specs.Io.KnownBytes.{Appends}
use Rattle.outside.specs.Sink.{grown, TakesPart}
use Rattle.outside.specs.OutSink.{AppendsPart, told_bytes}

-- what a sink tells grows with its writer
pub told_grows : (tells : Bool) (old new : Option (List ℕ)) (bytes : List ℕ)
    → (IsTrue tells → IsSome old) → Appends old new bytes → told_bytes tells new ≡ grown (told_bytes tells old) bytes
unfolding grown
told_grows false old new bytes known appends = refl
told_grows true None new bytes known appends = absurd (false≢true (known refl))
told_grows true (Some taken) None bytes known appends = absurd appends
told_grows true (Some taken) (Some now) bytes known appends = ap Some appends

pub told_grows_part : (tells : Bool) (old new : Option (List ℕ)) (bytes : List ℕ)
    → (IsTrue tells → IsSome old) → AppendsPart old new bytes → TakesPart (told_bytes tells old) (told_bytes tells new) bytes
told_grows_part tells old new bytes known part = record {
  part = part.part;
  left = part.left;
  splits = part.splits;
  grows = told_grows tells old new part.part known part.appends;
}

-- known bytes that grow twice
pub appends_on : (old now new : Option (List ℕ)) (first second : List ℕ)
    → Appends old now first → Appends now new second → Appends old new (first ++ second)
appends_on None now new first second one two = tt
appends_on (Some xs) None new first second one two = absurd one
appends_on (Some xs) (Some ys) None first second one two = absurd two
appends_on (Some xs) (Some ys) (Some zs) first second one two = two ∙ ap (λ front. front ++ second) one ∙ append_assoc xs first second

-- Of the bytes, all but `rest` are written.
pub record Written (old now : Option (List ℕ)) (bytes rest : List ℕ) : Type 0 where
  pub done : List ℕ
  pub splits : bytes ≡ done ++ rest
  pub appends : Appends old now done

-- one more write took n bytes
pub written_on : (old now new : Option (List ℕ)) (bytes rest : List ℕ) (n : ℕ)
    → Written old now bytes rest → Appends now new (take n rest) → Written old new bytes (take (length rest - n) (drop n rest))
written_on old now new bytes rest n written appends = rw take_rest (record {
  done = written.done ++ take n rest;
  splits = written.splits ∙ ap (λ r. written.done ++ r) (sym (take-append-drop n rest)) ∙ sym (append_assoc written.done (take n rest) (drop n rest));
  appends = appends_on old now new written.done (take n rest) written.appends appends;
})
