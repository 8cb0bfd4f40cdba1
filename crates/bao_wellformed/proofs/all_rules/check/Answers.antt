use Rattle.std.proofs.Common.{sym, ◌∙◌}
use Rattle.bao_config.specs.Config.{config_data}
use Rattle.bao_wellformed.specs.WellFormed.{breaks}
use Rattle.bao_wellformed.proofs.Firsts.{empty_without_first}
use Rattle.bao_wellformed.proofs.all_rules.check.Goals as goal

pub invariant_of-result : goal.invariant_of-result
invariant_of-result c =
    record { well_formed = empty_without_first (breaks (config_data c.args.config)) (sym c.in-Ok-None.field-0-is ∙ c.in-Ok-None.ensures) }
