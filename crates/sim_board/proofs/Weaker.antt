-- Tests of the bytes of an access, one after the other from an address on.
use Rattle.std.proofs.Common.{ℕ, zero, suc, Bool, true, false, List, refl}
use Rattle.std.specs.Prelude.{IsTrue, ◌&&◌, ◌||◌, not}
use Rattle.bao_types.specs.declared.shape.PortSpot.{PortSpot}
use Rattle.bao_types.specs.Bytes.{next_address}
use Rattle.board.specs.Judge.{all_from, has_no_port}
use Rattle.board.specs.Machine.{port_places}
use Rattle.board.specs.Ports.{is_port}
use Rattle.sim_board.specs.Devices.{is_backed}

-- what passes one test passes a weaker one
and_weaker : (b c d e : Bool) → (IsTrue b → IsTrue c) → (IsTrue d → IsTrue e) → IsTrue (b && d) → IsTrue (c && e)
and_weaker true c d e first rest both = rw (first refl) (rest both)
and_weaker false c d e first rest both = cc

pub all_from-weaker : (p q : ℕ → Bool) → ((a : ℕ) → IsTrue (p a) → IsTrue (q a)) → (at n : ℕ)
    → IsTrue (all_from p at n) → IsTrue (all_from q at n)
all_from-weaker p q weaker at zero all = refl
all_from-weaker p q weaker at (suc n) all =
    and_weaker (p at) (q at) (all_from p (next_address at) n) (all_from q (next_address at) n) (weaker at)
    (all_from-weaker p q weaker (next_address at) n) all

-- where each byte is backed and none is a port's, all are kept
kept_one : (port kept : Bool) (free rest all : Bool) → IsTrue (not port && free) → IsTrue ((port || kept) && all)
    → (IsTrue free → IsTrue all → IsTrue rest) → IsTrue (kept && rest)
kept_one true kept free rest all f b step = cc
kept_one false true free rest all f b step = step f b
kept_one false false free rest all f b step = cc

pub kept_if_free : (spots : List PortSpot) (kept : ℕ → Bool) (at n : ℕ) → IsTrue (has_no_port (port_places spots) at n)
    → IsTrue (all_from (is_backed spots kept) at n) → IsTrue (all_from kept at n)
kept_if_free spots kept at zero free backed = refl
kept_if_free spots kept at (suc n) free backed =
    kept_one (is_port (port_places spots) at) (kept at) (has_no_port (port_places spots) (next_address at) n) (all_from kept (next_address at) n)
    (all_from (is_backed spots kept) (next_address at) n) free backed (kept_if_free spots kept (next_address at) n)
