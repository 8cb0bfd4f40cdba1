-- The parts of PSTATE, and what a write of one of them leaves of the others.
use Rattle.std.specs.Prelude.{◌≡◌, ℕ, ◌<◌, Bool}
use Rattle.a64_state.specs.Pstate.{flags, illegal_state, daif, mode, with_flags, with_illegal_state, with_daif}
use Rattle.a64_state.specs.Mode.{number_of, with_mode}
use Rattle.a64_state.specs.declared.mode.Mode.{Mode}

pub record Parts : Type 0 where
  pub flags : ℕ
  pub illegal_state : Bool
  pub daif : ℕ
  pub mode : ℕ

abbrev pub parts_of : ℕ → Parts
parts_of pstate =
    record { flags = flags pstate; illegal_state = illegal_state pstate; daif = daif pstate; mode = mode pstate }

-- a part that is written reads as what was written, and all other parts stay
pub record ArePartsApart : Type 0 where
  pub flags : (p to : ℕ) → to < 16 → parts_of (with_flags p to) ≡ record (parts_of p) { flags = to }
  pub illegal_state : (p : ℕ) (to : Bool)
      → parts_of (with_illegal_state p to) ≡ record (parts_of p) { illegal_state = to }
  pub daif : (p to : ℕ) → to < 16 → parts_of (with_daif p to) ≡ record (parts_of p) { daif = to }
  pub mode : (p : ℕ) (to : Mode) → parts_of (with_mode p to) ≡ record (parts_of p) { mode = number_of to }
