-- What a call that reads a shelf and writes to a sink finds them telling, and leaves.
use Rattle.std.specs.Prelude.{◌≡◌, ℕ, ◌-◌, ◌^◌, ◌⊎◌, List, Option}
use Rattle.outside.specs.Faults.{risen}
use Rattle.outside.specs.Shelf.{Files, Blame}
use Rattle.outside.specs.Sink.{grown, TakesPart}

-- the last value of a count of faults
abbrev pub last_count : ℕ
last_count = 2 ^ 64 - 1

-- what the shelf tells, and its faults before and after
pub record ShelfUse : Type 0 where
  pub held : Option Files
  pub before : Blame
  pub after : Blame

-- what the sink tells and its count of faults, before and after
pub record SinkUse : Type 0 where
  pub taken_before : Option (List ℕ)
  pub taken_after : Option (List ℕ)
  pub faults_before : ℕ
  pub faults_after : ℕ

-- a shelf that tells so of its files, its faults and the last name, from an old state to a new one
abbrev pub shelf_use : {S : Type 0} → (S → Option Files) → (S → ℕ) → (S → List ℕ) → S → S → ShelfUse
shelf_use held faults culprit old new = record {
  held = held old;
  before = record { faults = faults old; culprit = culprit old };
  after = record { faults = faults new; culprit = culprit new };
}

-- a sink that tells so of what it has taken and of its faults, from an old state to a new one
abbrev pub sink_use : {K : Type 0} → (K → Option (List ℕ)) → (K → ℕ) → K → K → SinkUse
sink_use taken faults old new = record {
  taken_before = taken old;
  taken_after = taken new;
  faults_before = faults old;
  faults_after = faults new;
}

-- the shelf didn't fail
abbrev pub IsFaultless : ShelfUse → Type 0
IsFaultless shelf = shelf.after.faults ≡ shelf.before.faults

-- the shelf failed, at this name
abbrev pub HasFailed : ShelfUse → List ℕ → Type 0
HasFailed shelf name = (shelf.after.faults ≡ risen shelf.before.faults) × (shelf.after.culprit ≡ name)

-- a text was put out whole
abbrev pub IsTaken : SinkUse → List ℕ → Type 0
IsTaken sink text = (sink.taken_after ≡ grown sink.taken_before text) × (sink.faults_after ≡ sink.faults_before)

-- a text was cut short by a fault of the sink
abbrev pub IsCut : SinkUse → List ℕ → Type 0
IsCut sink text = TakesPart sink.taken_before sink.taken_after text × (sink.faults_after ≡ risen sink.faults_before)

-- one of the two
abbrev pub IsPut : SinkUse → List ℕ → Type 0
IsPut sink text = IsTaken sink text ⊎ IsCut sink text
