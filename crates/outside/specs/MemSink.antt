-- What a contract sees of a `MemSink`, and what its put does.
use Rattle.std.specs.Prelude.{ℕ, ◌+◌, Bool, List, [], ◌∷◌, ◌++◌, length, false, ◌||◌, nat_lt, Result, Ok, Err}
use Rattle.outside.specs.Faults.{risen, next_call, is_listed}

pub record MemSinkData : Type 0 where
  pub taken : List ℕ
  -- for how many bytes the sink was made
  pub room : ℕ
  -- the numbers of the calls that fail
  pub failing : List ℕ
  pub calls : ℕ
  pub faults : ℕ

-- The next put fails: it has bytes, and its call is listed, or there are more of them than are left of the room.
abbrev pub will_fail : MemSinkData → List ℕ → Bool
will_fail sink [] = false
will_fail sink (byte ∷ bytes) =
    is_listed sink.failing (next_call sink.calls) || nat_lt sink.room (length sink.taken + length (byte ∷ bytes))

-- the sink after a put of these bytes with this answer
abbrev pub after_put : {T E : Type 0} → MemSinkData → List ℕ → Result T E → MemSinkData
after_put sink bytes (Ok _) = record sink { taken = sink.taken ++ bytes; calls = next_call sink.calls }
after_put sink bytes (Err _) = record sink { calls = next_call sink.calls; faults = risen sink.faults }
