-- When two flat machines are the same to a VM.
use Rattle.std.specs.Prelude.{◌≡◌, ℕ, IsTrue, length, slice_get}
use Rattle.bao_config.specs.Data.{ConfigData, VmData}
use Rattle.bao_wellformed.specs.Map.{kind_at, has_core, has_port}
use Rattle.board.specs.Machine.{core_at}
use Rattle.vm_model.specs.Flat.{Flat}
pub use Rattle.bao_wellformed.specs.ByteRules.{is_present}

-- the byte is in the VM's map
abbrev pub IsInMap : ConfigData → VmData → ℕ → Type 0
IsInMap cfg vm at = IsTrue (is_present (kind_at cfg vm at))

-- Equal are all bytes of the VM's map, the registers and the power of each of its cores, its interrupts, what each of its ports
-- keeps, and which of the lines of its cores' timers and of its ports are raised. In the one it stands at place v among the VMs,
-- in the other it is the first.
pub record Agree (cfg : ConfigData) (v : ℕ) (vm : VmData) (one other : Flat) : Type 0 where
  pub bytes : (at : ℕ) → IsInMap cfg vm at → one.bytes at ≡ other.bytes at
  pub cores : (core : ℕ) → IsTrue (has_core core vm) → core_at one.cores core ≡ core_at other.cores core
  pub powers : (core : ℕ) → IsTrue (has_core core vm) → slice_get one.powers core ≡ slice_get other.powers core
  pub core_count : length one.cores ≡ length other.cores
  pub table : one.tables v ≡ other.tables 0
  pub ports : (port : ℕ) → IsTrue (has_port port vm) → one.ports port ≡ other.ports port
  pub timer_lines : (core : ℕ) → IsTrue (has_core core vm) → one.timer_lines core ≡ other.timer_lines core
  pub port_lines : (port : ℕ) → IsTrue (has_port port vm) → one.port_lines port ≡ other.port_lines port
