use Rattle.std.proofs.Common.{◌≡◌, ◌+◌, ◌≤◌, ◌++◌, length, map, take, filter_map}
use Rattle.bao_config.specs.Config.{config_data}
use Rattle.bao_config.specs.Data.{ipc_data}
use Rattle.bao_wellformed.specs.Map.{ipc_entry}
use Rattle.bao_wellformed.proofs.map.push_ipcs.Given as goal

abbrev pub invariant-loop-ipc : goal.invariant-loop-ipc
invariant-loop-ipc l =
    record {
      items : l.entries.items ≡ l.initial.entries.items ++ filter_map (ipc_entry (config_data l.config)) (map ipc_data (take l.ipc-index l.ipcs));
      room : length l.entries.items ≤ length l.initial.entries.items + l.ipc-index;
    }
