-- What a contract sees of a `Core`.
use Rattle.std.specs.Prelude.{◌≡◌, ℕ, List, All, length}
use Rattle.bao_types.specs.Bits.{field}
use Rattle.bao_types.specs.Region.{IsWithinMasks}
use Rattle.bao_types.specs.declared.interface.TimerRegs.{TimerRegs}
use Rattle.bao_types.specs.RegionFile.{RegionFileData}
use Rattle.bao_types.specs.IfaceRegs.{IfaceData}
use Rattle.a64_state.specs.declared.registers.SysRegs.{SysRegs}
use Rattle.a64_state.specs.Pstate.{IsPstate}

pub record CoreData : Type 0 where
  pub x : List ℕ
  pub sp0 : ℕ
  pub sp1 : ℕ
  pub pc : ℕ
  pub pstate : ℕ
  pub sys : SysRegs
  pub regions : RegionFileData
  pub timer : TimerRegs
  pub iface : IfaceData
  pub affinity : ℕ

-- no register has a bit that it doesn't keep; a register that isn't named keeps all bits, or its own type sees to it
pub record IsCore (core : CoreData) : Type 0 where
  pub general : length core.x ≡ 31
  pub pstate : IsPstate core.pstate
  pub spsr : field core.sys.spsr 63 32 ≡ 0
  pub vbar : field core.sys.vbar 10 0 ≡ 0
  pub regions : All IsWithinMasks core.regions.regions
  pub timer : field core.timer.ctl 63 2 ≡ 0
