-- The registers of a core that a report shows.
use Rattle.a64_state.specs.Core.{CoreData}
use Rattle.board.specs.declared.view.CoreView.{CoreView}

abbrev pub view_of : CoreData → CoreView
view_of core =
    record {
      pc = core.pc;
      pstate = core.pstate;
      sp0 = core.sp0;
      sp1 = core.sp1;
      x = core.x;
      elr = core.sys.elr;
      spsr = core.sys.spsr;
      esr = core.sys.esr;
      far = core.sys.far;
      vbar = core.sys.vbar;
      sctlr = core.sys.sctlr;
    }
