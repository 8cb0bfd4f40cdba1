use Rattle.std.proofs.Common.{◌≡◌, ◌+◌, ◌≤◌, ◌++◌, length, map, take, filter_map}
use Rattle.bao_config.specs.declared.config.Dev.{Dev}
use Rattle.bao_config.specs.Config.{config_data}
use Rattle.bao_wellformed.specs.Map.{dev_entry}
use Rattle.bao_wellformed.proofs.map.push_devs.Given as goal

abbrev pub invariant-loop-dev : goal.invariant-loop-dev
invariant-loop-dev l =
    record {
      items : l.entries.items ≡ l.initial.entries.items ++ filter_map (dev_entry (config_data l.config)) (map (λ (dev : Dev). dev) (take l.dev-index l.devs));
      room : length l.entries.items ≤ length l.initial.entries.items + l.dev-index;
    }
