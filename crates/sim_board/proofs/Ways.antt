-- What the way of an access tells of how it is judged.
use Rattle.std.proofs.Common.{◌≡◌, ℕ, Bool, true, false, List, refl}
use Rattle.std.specs.Prelude.{IsTrue, if◌then◌else◌, Option, None, Some}
use Rattle.std.specs.Bool.{OnTrue}
use Rattle.board.specs.declared.judged.Fault.{Fault}
use Rattle.board.specs.declared.judged.Judged.{Judged}
use Rattle.board.specs.declared.judged.Judged.TheVariants.{Refused}
use Rattle.board.specs.Judge.{all_from, fault_else, first_fault, has_no_port}
use Rattle.board.specs.Machine.{port_places}
use Rattle.board.specs.Stage.{Stage, is_allowed}
use Rattle.bao_types.specs.declared.access.Access.TheVariants.{Write}
use Rattle.bao_types.specs.declared.shape.PortSpot.{PortSpot}
use Rattle.sim_board.specs.Devices.{is_backed}
use Rattle.sim_board.proofs.Confined.{backed_all}
use Rattle.sim_board.proofs.Weaker.{kept_if_free}
use Rattle.sim_board.specs.declared.access.Way.TheVariants as way
use Rattle.sim_board.specs.Step.{way_of}

pub not_at_all : (fault : Option Fault) (free : Bool) (memory port : Judged) (refused : Fault) → way.Refused refused ≡ way_of fault free
    → Refused refused ≡ fault_else fault (if free then memory else port)
not_at_all None true memory port refused is = cc
not_at_all None false memory port refused is = cc
not_at_all (Some fault) free memory port refused is = cc

pub in_ports : (fault : Option Fault) (free : Bool) (memory port : Judged) → way.Port ≡ way_of fault free
    → port ≡ fault_else fault (if free then memory else port)
in_ports None true memory port is = cc
in_ports None false memory port is = refl
in_ports (Some fault) free memory port is = cc

-- an access that is carried out has no fault, and one in memory has no port's byte
pub no_fault_memory : (fault : Option Fault) (free : Bool) → way.Memory ≡ way_of fault free → fault ≡ None
no_fault_memory None free is = refl
no_fault_memory (Some fault) free is = cc

pub no_fault_ports : (fault : Option Fault) (free : Bool) → way.Port ≡ way_of fault free → fault ≡ None
no_fault_ports None free is = refl
no_fault_ports (Some fault) free is = cc

pub free_memory : (fault : Option Fault) (free : Bool) → way.Memory ≡ way_of fault free → free ≡ true
free_memory None true is = refl
free_memory None false is = cc
free_memory (Some fault) free is = cc

-- an access without a fault, of whose bytes none is a port's, is carried out in memory
pub plain : (fault : Option Fault) (free : Bool) → fault ≡ None → OnTrue free (way.Memory ≡ way_of fault free)
plain None true is = refl
plain None false is = tt
plain (Some fault) free is = cc

-- all bytes of a store that is carried out in memory are kept, where what may be stored to is a port's or is kept
pub kept_in_memory : (one two : Stage) (spots : List PortSpot) (kept : ℕ → Bool)
    → ((at : ℕ) → IsTrue (is_allowed (two Write at)) → IsTrue (is_backed spots kept at)) → (at n : ℕ)
    → way.Memory ≡ way_of (first_fault one two Write at n) (has_no_port (port_places spots) at n) → IsTrue (all_from kept at n)
kept_in_memory one two spots kept contained at n is =
    kept_if_free spots kept at n (free_memory _ _ is) (backed_all one two spots kept contained at n (no_fault_memory _ _ is))
