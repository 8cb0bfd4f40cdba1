-- What the VMs of a configuration keep.
use Rattle.std.proofs.Common.{ℕ, ◌≤◌, List, length, arith}
use Rattle.std.specs.Prelude.{IsTrue}
use Rattle.std.proofs.lemmas.Bool.Decides.{nat_tests}
use Rattle.bao_config.specs.Texts.{is_name}

-- a name has 16 bytes at most
pub short_name : (name : List ℕ) → IsTrue (is_name name) → length name ≤ 16
short_name name h = grind (arith, nat_tests)
