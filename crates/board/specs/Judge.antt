-- One access judged: its bytes in address order, each by the first stage and then by the second. The first that is refused
-- decides stage, verdict and address, and nothing of the access is carried out (DDI 0600, "Protected Memory System
-- Architecture"). That each byte is judged by itself is our own choice.
use Rattle.std.specs.Prelude.{ℕ, zero, suc, ◌*◌, Bool, true, false, not, ◌&&◌, if◌then◌else◌, Option, None, Some}
use Rattle.bao_types.specs.Bytes.{next_address}
use Rattle.bao_types.specs.declared.access.Access.{Access}
use Rattle.bao_types.specs.declared.access.Access.TheVariants.{Read, Write, Exec}
use Rattle.bao_types.specs.declared.access.Verdict.{Verdict}
use Rattle.bao_types.specs.declared.access.Verdict.TheVariants.{Allow, Translation, Permission}
use Rattle.board.specs.Ports.{Places, PortStates, is_port, number_at, elements_value}
use Rattle.board.specs.Stage.{Stage}
use Rattle.board.specs.declared.judged.Fault.{Fault}
use Rattle.board.specs.declared.judged.Judged.{Judged}
use Rattle.board.specs.declared.judged.Judged.TheVariants.{Memory, Port, Refused}

-- each of this many addresses from one on passes a test
abbrev pub all_from : (ℕ → Bool) → ℕ → ℕ → Bool
all_from test at zero = true
all_from test at (suc n) = test at && all_from test (next_address at) n

-- a verdict that refuses a byte decides, else what is said later does
abbrev pub fault_or : Bool → Verdict → ℕ → Option Fault → Option Fault
fault_or stage2 Allow at later = later
fault_or stage2 Translation at later = Some (record { stage2 = stage2; verdict = Translation; at = at })
fault_or stage2 Permission at later = Some (record { stage2 = stage2; verdict = Permission; at = at })

-- the first refused one of this many bytes from an address on, by these two stages
abbrev pub first_fault : Stage → Stage → Access → ℕ → ℕ → Option Fault
first_fault one two access at zero = None
first_fault one two access at (suc n) =
    fault_or false (one access at) at (fault_or true (two access at) at (first_fault one two access (next_address at) n))

-- an access comes to its first fault, and to this if there is none
abbrev pub fault_else : Option Fault → Judged → Judged
fault_else None allowed = allowed
fault_else (Some fault) allowed = Refused fault

-- none of this many bytes from an address on is a port's
abbrev pub has_no_port : Places → ℕ → ℕ → Bool
has_no_port places at n = all_from (λ byte. not (is_port places byte)) at n

-- What a core reaches of the world: the word at an address, a multiple of 4; the number that this many elements of a width from
-- an address on are; whether it may store to this many, where the number means nothing; and where the ports stand.
pub record Reach : Type 0 where
  pub fetched : ℕ → Judged
  pub loaded : (at width count : ℕ) → Judged
  pub storable : (at width count : ℕ) → Judged
  pub places : Places

-- over memory and ports, by two stages; nothing is executed from a port, whose memory is empty
abbrev pub reach_of : Stage → Stage → Places → PortStates → (ℕ → ℕ) → Reach
reach_of one two places states bytes =
    record {
      fetched = λ at. fault_else (first_fault one two Exec at 4) (Memory (number_at bytes at 4));
      loaded = λ at width count. fault_else (first_fault one two Read at (width * count))
          (if has_no_port places at (width * count) then Memory (number_at bytes at (width * count))
          else Port (elements_value (record { places = places; states = states; bytes = bytes }) at width count));
      storable = λ at width count. fault_else (first_fault one two Write at (width * count))
          (if has_no_port places at (width * count) then Memory 0 else Port 0);
      places = places;
    }
