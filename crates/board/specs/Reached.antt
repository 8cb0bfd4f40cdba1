-- What a step can disturb and what it can observe: laws of `step_effect`, by which machine and model make each step.
use Rattle.std.specs.Prelude.{◌≡◌, ℕ, ◌⊎◌, ◌||◌, IsTrue, IsFalse, Some}
use Rattle.bao_types.specs.declared.access.Access.TheVariants.{Read, Write, Exec}
use Rattle.a64_state.specs.Core.{CoreData}
use Rattle.a64_sysreg.specs.declared.moment.Moment.{Moment}
use Rattle.board.specs.Stage.{Stage, both, is_allowed}
use Rattle.board.specs.Ports.{Places, PortStates, all_accessed, raises_line}
use Rattle.board.specs.Judge.{reach_of}
use Rattle.board.specs.Attempt.{Effect, step_effect}
use Rattle.board.specs.Machine.{written}

-- a stage lets its core read or write a byte of the port
pub record ReachesPort (stage : Stage) (places : Places) (port : ℕ) : Type 0 where
  pub at : ℕ
  pub offset : ℕ
  pub allowed : IsTrue (is_allowed (stage Read at) || is_allowed (stage Write at))
  pub place : places at ≡ Some (record { port = port; offset = offset })

-- an effect leaves each byte of memory that the stage doesn't let its core write, and each port of which it lets it neither read
-- nor write a byte, whose line it doesn't raise either
pub record LeavesTheRest (stage : Stage) (places : Places) (states : PortStates) (bytes : ℕ → ℕ) (effect : Effect) : Type 0 where
  pub memory : (at : ℕ) → IsFalse (is_allowed (stage Write at)) → written effect.stored bytes at ≡ bytes at
  pub ports : (port : ℕ) → (ReachesPort stage places port → ⊥) → all_accessed effect.touched states port ≡ states port
  pub lines : (port : ℕ) → (ReachesPort stage places port → ⊥) → IsFalse (raises_line effect.touched states port)

-- so does a step, by both stages
abbrev pub DisturbsNothingElse : Type 0
DisturbsNothingElse =
    (one two : Stage) (places : Places) (states : PortStates) (bytes : ℕ → ℕ) (core : CoreData) (moment : Moment)
    → LeavesTheRest (both one two) places states bytes (step_effect (reach_of one two places states bytes) core moment)

-- two memories are equal at each byte that a core may read or execute
abbrev pub AreAlike : Stage → (ℕ → ℕ) → (ℕ → ℕ) → Type 0
AreAlike stage left right =
    (at : ℕ) → IsTrue (is_allowed (stage Read at)) ⊎ IsTrue (is_allowed (stage Exec at)) → left at ≡ right at

-- and the ports of two machines, where it may read or write a byte of them
abbrev pub ArePortsAlike : Stage → Places → PortStates → PortStates → Type 0
ArePortsAlike stage places left right = (port : ℕ) → ReachesPort stage places port → left port ≡ right port

-- A step over such memories and ports does the same: it shows nothing of the bytes that one of both stages lets its core neither
-- read nor execute, and nothing of the ports of which they let it neither read nor write a byte.
abbrev pub ObservesNothingElse : Type 0
ObservesNothingElse =
    (one two : Stage) (places : Places) (states others : PortStates) (left right : ℕ → ℕ) (core : CoreData) (moment : Moment)
    → ArePortsAlike (both one two) places states others → AreAlike (both one two) left right
    → step_effect (reach_of one two places states left) core moment ≡ step_effect (reach_of one two places others right) core moment
