use Rattle.std.proofs.Common.{arith}
use Rattle.bao_config.specs.Config.{config_data}
use Rattle.bao_config.specs.Data.{ipc_data}
use Rattle.bao_wellformed.specs.Map.{ipc_entry}
use Rattle.bao_wellformed.proofs.MapLemmas.{one_picked}
use Rattle.bao_wellformed.proofs.map.push_ipcs.Goals as goal

pub loop-ipc-preserved : goal.loop-ipc-preserved
loop-ipc-preserved c =
    record {
      items =
          one_picked (ipc_entry (config_data c.args.config.now)) ipc_data c.args.ipcs.now c.loop-ipc.ipc-index c.ipc-item.result c.ipc-item.result
          c.args.entries.now.items c.loop-ipc.entries.items c.push_some.new.entries.items c.ipc_entry.result c.loop-ipc-test.true c.ipc-item.is
          c.ipc_entry.ensures c.loop-ipc.invariant.items c.push_some.ensures.items;
      room = omega arith;
    }
