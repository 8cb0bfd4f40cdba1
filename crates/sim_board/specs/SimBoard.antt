-- What a `SimBoard` is to the trait `Board`, by what its ports keep and the room that each of them has.
use Rattle.std.specs.Prelude.{ℕ, ◌-◌, ◌*◌, ◌&&◌, nat_le, is_some}
use Rattle.bao_types.specs.Shape.{shape_data}
use Rattle.board.specs.Machine.{Machine}
use Rattle.board.specs.Ports.{PortStates}
use Rattle.sim_board.specs.declared.machine.SimBoard.{SimBoard}
use Rattle.sim_board.specs.Memory.{held_bytes}

-- room for two writes or inputs of each event that is left
abbrev pub room_left : ℕ → ℕ → ℕ
room_left events spent = 2 * (events - spent)

-- of any ports, as the board knows nothing of theirs
abbrev pub state_of : {Port : Type 0} {Held : Port → Type 0} → PortStates → ℕ → SimBoard Port Held → Machine
state_of states room board =
    record {
      fitted = is_some board.memory && nat_le (room_left board.shape.events board.spent) room;
      shape = shape_data board.shape;
      bytes = held_bytes board.memory;
      cores = board.cores.items;
      lists = board.lists.items;
      entries = board.tables.items;
      ports = states;
      lines = board.devices.lines;
      entered = board.entered;
      spent = board.spent;
    }
