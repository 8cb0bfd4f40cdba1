-- What the first fault of an access is, in the words of the whole access: a law of `first_fault`.
use Rattle.std.specs.Prelude.{◌≡◌, ℕ, ◌<◌, Bool, true, false, IsTrue, IsFalse, Option, None, Some}
use Rattle.bao_types.specs.declared.access.Access.{Access}
use Rattle.board.specs.declared.judged.Fault.{Fault}
use Rattle.board.specs.Stage.{Stage, is_allowed, both}
use Rattle.board.specs.Ports.{address_from}
use Rattle.board.specs.Judge.{all_from, first_fault}

-- the bytes of an access, this many from an address on, and its kind
pub record AccessedBytes : Type 0 where
  pub access : Access
  pub at : ℕ
  pub count : ℕ

-- the first of them, this many, are allowed by both stages
abbrev pub AreAllowed : Stage → Stage → AccessedBytes → ℕ → Type 0
AreAllowed one two bytes number = IsTrue (all_from (λ byte. is_allowed (both one two bytes.access byte)) bytes.at number)

-- the verdict of the stage that refuses
abbrev pub refusing : Stage → Stage → Bool → Stage
refusing one two true = two
refusing one two false = one

-- A byte of the access has this fault: those before it are allowed, the stage gives it the verdict, which refuses it, and the
-- first stage allows it where the second refuses it.
pub record IsFirstFault (one two : Stage) (bytes : AccessedBytes) (fault : Fault) : Type 0 where
  pub number : ℕ
  pub within : number < bytes.count
  pub address : fault.at ≡ address_from bytes.at number
  pub before : AreAllowed one two bytes number
  pub verdict : fault.verdict ≡ refusing one two fault.stage2 bytes.access fault.at
  pub refused : IsFalse (is_allowed fault.verdict)
  pub after_first : IsTrue fault.stage2 → IsTrue (is_allowed (one bytes.access fault.at))

-- no fault comes exactly where both stages allow every byte, and one that comes is of the first byte that isn't
abbrev pub Judges : Stage → Stage → AccessedBytes → Option Fault → Type 0
Judges one two bytes None = AreAllowed one two bytes bytes.count
Judges one two bytes (Some fault) = IsFirstFault one two bytes fault

abbrev pub FaultsAreFirst : Type 0
FaultsAreFirst =
    (one two : Stage) (bytes : AccessedBytes) → Judges one two bytes (first_fault one two bytes.access bytes.at bytes.count)
