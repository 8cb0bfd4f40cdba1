-- From what std tells of one read to what is told of a whole file.
use Rattle.std.proofs.Common.{ℕ, ◌≤◌, ◌+◌, List, ◌++◌, length, length-append, ap, ◌∙◌, sym, append_assoc}
use Rattle.std.specs.Prelude.{Option, None, Some}
use Rattle.std.specs.Io.KnownBytes.{Consumes}
use Rattle.outside.specs.FileShelf.{GivesAtMost}

-- known bytes that are read in two parts
consumes_on : (old now new : Option (List ℕ)) (first second : List ℕ)
    → Consumes old now first → Consumes now new second → Consumes old new (first ++ second)
consumes_on None now new first second one two = tt
consumes_on (Some xs) None new first second one two = absurd one
consumes_on (Some xs) (Some ys) None first second one two = absurd two
consumes_on (Some xs) (Some ys) (Some zs) first second one two =
    one ∙ ap (λ rest. first ++ rest) two ∙ sym (append_assoc first second zs)

-- two reads gave at most this many bytes together
pub gives_twice : (n : ℕ) (old now new : Option (List ℕ)) (first second : List ℕ)
    → Consumes old now first → Consumes now new second → length first + length second ≤ n → GivesAtMost n old new
gives_twice n old now new first second one two bound = record {
  given = first ++ second;
  bound = rw length-append bound;
  consumes = consumes_on old now new first second one two;
}
