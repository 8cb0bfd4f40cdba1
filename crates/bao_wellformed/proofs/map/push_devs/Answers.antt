use Rattle.std.proofs.Common.{◌++◌, take, filter_map, refl, ap, ◌∙◌, arith}
use Rattle.std.proofs.lemmas.List.{map-id, take_all}
use Rattle.bao_config.specs.declared.config.Dev.{Dev}
use Rattle.bao_config.specs.Config.{config_data}
use Rattle.bao_wellformed.specs.Map.{dev_entry}
use Rattle.bao_wellformed.proofs.MapLemmas.{one_picked}
use Rattle.bao_wellformed.proofs.map.push_devs.Goals as goal

pub loop-dev-preserved : goal.loop-dev-preserved
loop-dev-preserved c =
    let pick = dev_entry (config_data c.args.config.now) in
    record {
      items =
          one_picked pick (λ (dev : Dev). dev) c.args.devs.now c.loop-dev.dev-index _ (record { port = 0; irq = 0 }) c.args.entries.now.items
          c.loop-dev.entries.items c.push_some.new.entries.items c.dev_entry.result c.loop-dev-test.true refl c.dev_entry.ensures
          c.loop-dev.invariant.items c.push_some.ensures.items;
      room = omega arith;
    }

pub returns-clause-items : goal.returns-clause-items
returns-clause-items c =
    c.loop-dev.invariant.items
    ∙ ap (λ devs. c.args.entries.now.items ++ filter_map (dev_entry (config_data c.args.config.now)) devs)
    (map-id (take c.loop-dev.dev-index c.args.devs.now) ∙ take_all c.loop-dev.dev-index c.args.devs.now c.loop-dev-test.false)
