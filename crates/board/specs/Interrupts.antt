-- Interrupts on the board: the timer's line, what ports make of their lines, and what a step changes of the interrupt interface
-- and of the list registers. The interface is the core's, and the registers stand beside it.
use Rattle.std.specs.Prelude.{ℕ, Bool, if◌then◌else◌, List, [], ◌∷◌, is_some}
use Rattle.bao_types.specs.IfaceRegs.{IfaceData}
use Rattle.bao_types.specs.ListReg.{ListRegData}
use Rattle.a64_state.specs.Core.{CoreData}
use Rattle.ports.specs.Registers.{line_of_input}
use Rattle.generic_timer.specs.Timer.{rises, with_level}
use Rattle.gic_core.specs.Lines.{LinesData, least_raised, with_port, with_ppi}
use Rattle.vgic_iface.specs.Interface.{acknowledged, ended, is_unlisted, lists_acknowledged, lists_ended}
use Rattle.board.specs.declared.board.Exit.{Exit}
use Rattle.board.specs.declared.board.Exit.TheVariants as exit
use Rattle.board.specs.Ports.{PortAccess, PortStates, accessed, port_of, raises}
use Rattle.board.specs.Attempt.{Effect, Outcome, Ran, Acknowledged, Ended, Leave}

-- the core once its timer's line is looked at, at a count
abbrev pub timed : CoreData → ℕ → CoreData
timed core count = record core { timer = with_level core.timer count }

-- the lines once a core's timer is looked at: PPI 27 is raised where the level rises
abbrev pub lines_timed : LinesData → ℕ → CoreData → ℕ → LinesData
lines_timed lines number core count = if rises core.timer count then with_ppi lines number else lines

-- a line is raised for the core
abbrev pub is_raised : LinesData → ℕ → Bool
is_raised lines core = is_some (least_raised lines core)

-- the line of a port is raised, or all stay
abbrev pub with_port_if : Bool → ℕ → LinesData → LinesData
with_port_if raised port lines = if raised then with_port lines port else lines

-- the lines after these accesses to ports, in order
abbrev pub lines_accessed : List PortAccess → PortStates → LinesData → LinesData
lines_accessed [] states lines = lines
lines_accessed (access ∷ accesses) states lines =
    lines_accessed accesses (accessed access states) (with_port_if (raises access states) (port_of access) lines)

-- and after a port is given a byte
abbrev pub lines_given : PortStates → ℕ → LinesData → LinesData
lines_given states port lines = with_port_if (line_of_input (states port)) port lines

-- the interface after a step that came to this, where the best interrupt has this rank
abbrev pub interface_after : Outcome → ℕ → IfaceData → IfaceData
interface_after Ran best iface = iface
interface_after Acknowledged best iface = acknowledged iface best
interface_after (Ended id) best iface = ended iface id
interface_after (Leave esr far) best iface = iface

-- the core after a step that does this
abbrev pub core_after : Effect → ℕ → CoreData
core_after effect best = record effect.core { iface = interface_after effect.outcome best effect.core.iface }

-- the list registers after a step that came to this, with this interface
abbrev pub lists_after : Outcome → IfaceData → List ListRegData → List ListRegData
lists_after Ran iface lists = lists
lists_after Acknowledged iface lists = lists_acknowledged iface lists
lists_after (Ended id) iface lists = lists_ended lists id
lists_after (Leave esr far) iface lists = lists

-- what a step tells of what it comes to; an end that no register holds is left to EL2
abbrev pub exit_of : Outcome → List ListRegData → Exit
exit_of Ran lists = exit.Ran
exit_of Acknowledged lists = exit.Ran
exit_of (Ended id) lists = if is_unlisted lists id then exit.End id else exit.Ran
exit_of (Leave esr far) lists = exit.Sync esr far
