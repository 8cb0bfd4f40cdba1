-- The first fault of an access is of its first refused byte.
use Rattle.std.proofs.Common.{◌≡◌, ℕ, zero, suc, Bool, true, false, refl, sym, ap, ◌∙◌, arith}
use Rattle.std.specs.Prelude.{IsTrue, IsFalse, ◌&&◌, Option, None, Some}
use Rattle.bao_types.specs.Bytes.{next_address}
use Rattle.bao_types.specs.declared.access.Access.{Access}
use Rattle.bao_types.specs.declared.access.Verdict.{Verdict}
use Rattle.bao_types.specs.declared.access.Verdict.TheVariants.{Allow, Translation, Permission}
use Rattle.board.specs.declared.judged.Fault.{Fault}
use Rattle.board.specs.Stage.{Stage, is_allowed, both}
use Rattle.board.specs.Judge.{all_from, fault_or, first_fault}
use Rattle.board.specs.First.{AccessedBytes, IsFirstFault, Judges, FaultsAreFirst, refusing}

-- bytes by their parts
abbrev pub run : Access → ℕ → ℕ → AccessedBytes
run access at n = record { access = access; at = at; count = n }

module _ (one two : Stage) (access : Access) (at n : ℕ) where
  -- a fault of the byte at the start
  here : (stage2 : Bool) (verdict : Verdict) → verdict ≡ refusing one two stage2 access at → IsFalse (is_allowed verdict)
      → (IsTrue stage2 → IsTrue (is_allowed (one access at)))
      → IsFirstFault one two (run access at (suc n)) (record { stage2 = stage2; verdict = verdict; at = at })
  here stage2 verdict is refused first = record {
    number = 0;
    within = omega arith;
    address = refl;
    before = refl;
    verdict = is;
    refused = refused;
    after_first = first;
  }

  -- both stages allow it
  allowed : one access at ≡ Allow → two access at ≡ Allow → IsTrue (is_allowed (both one two access at))
  allowed first second = rw (first, second) refl

  join : (b rest : Bool) → IsTrue b → IsTrue rest → IsTrue (b && rest)
  join true rest first second = second
  join false rest first second = cc

  -- what is said of the bytes after it is then said of all
  later : (rest : Option Fault) → one access at ≡ Allow → two access at ≡ Allow → Judges one two (run access (next_address at) n) rest
      → Judges one two (run access at (suc n)) rest
  later None first second all =
      join (is_allowed (both one two access at)) (all_from (λ byte. is_allowed (both one two access byte)) (next_address at) n)
      (allowed first second) all
  later (Some fault) first second is = record {
    number = suc is.number;
    within = omega (arith, is.within);
    address = is.address;
    before =
        join (is_allowed (both one two access at))
        (all_from (λ byte. is_allowed (both one two access byte)) (next_address at) is.number) (allowed first second) is.before;
    verdict = is.verdict;
    refused = is.refused;
    after_first = is.after_first;
  }

  by_second : (v w : Verdict) → one access at ≡ v → two access at ≡ w → v ≡ Allow → (rest : Option Fault)
      → Judges one two (run access (next_address at) n) rest → Judges one two (run access at (suc n)) (fault_or true w at rest)
  by_second v Allow first second is rest judged = later rest (first ∙ is) second judged
  by_second v Translation first second is rest judged =
      here true Translation (sym second) refl (λ any. ap is_allowed (first ∙ is))
  by_second v Permission first second is rest judged =
      here true Permission (sym second) refl (λ any. ap is_allowed (first ∙ is))

  by_first : (v w : Verdict) → one access at ≡ v → two access at ≡ w → (rest : Option Fault)
      → Judges one two (run access (next_address at) n) rest
      → Judges one two (run access at (suc n)) (fault_or false v at (fault_or true w at rest))
  by_first Allow w first second rest judged = by_second Allow w first second refl rest judged
  by_first Translation w first second rest judged = here false Translation (sym first) refl (λ is. cc)
  by_first Permission w first second rest judged = here false Permission (sym first) refl (λ is. cc)

judges : (one two : Stage) (access : Access) (at n : ℕ) → Judges one two (run access at n) (first_fault one two access at n)
judges one two access at zero = refl
judges one two access at (suc n) =
    by_first one two access at n (one access at) (two access at) refl refl (first_fault one two access (next_address at) n)
    (judges one two access (next_address at) n)

pub faults_are_first : FaultsAreFirst
faults_are_first one two bytes = judges one two bytes.access bytes.at bytes.count
