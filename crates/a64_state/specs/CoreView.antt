-- The fields of a `Core` and what a contract sees of them are the same. No public clause cites this module.
use Rattle.a64_state.specs.Core.{CoreData}
use Rattle.a64_state.specs.declared.registers.Core.TheInside.{Inside}

-- what a contract sees
abbrev pub data_of : Inside → CoreData
data_of core =
    record {
      x = core.x;
      sp0 = core.sp0;
      sp1 = core.sp1;
      pc = core.pc;
      pstate = core.pstate;
      sys = core.sys;
      regions = core.regions;
      timer = core.timer;
      iface = core.iface;
      affinity = core.affinity;
    }

-- the fields
abbrev pub core_of : CoreData → Inside
core_of seen =
    record {
      x = seen.x;
      sp0 = seen.sp0;
      sp1 = seen.sp1;
      pc = seen.pc;
      pstate = seen.pstate;
      sys = seen.sys;
      regions = seen.regions;
      timer = seen.timer;
      iface = seen.iface;
      affinity = seen.affinity;
    }
