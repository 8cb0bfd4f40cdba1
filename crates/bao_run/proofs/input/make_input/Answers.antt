use Rattle.std.proofs.Common.{subst, ◌∙◌}
use Rattle.bao_config.specs.Config.{config_data}
use Rattle.bao_wellformed.specs.Checked.{TellsFirst, checked_data}
use Rattle.bao_run.specs.Reading.{IsOverfull}
use Rattle.bao_run.proofs.Generated.{breaks_none, is_workload, packs_all}
use Rattle.bao_run.proofs.input.make_input.Goals as goal

pub unreachable-requires : goal.unreachable-requires
unreachable-requires c =
    breaks_none c.args.number (config_data c.in_ok-config.field-0.config) c.in-Err-Ill.field-0-0
    c.in_ok-config.ensures.config
    (subst (TellsFirst (config_data c.in_ok-config.field-0.config)) c.in-Err-Ill.field-0-is c.in-Err-Ill.ensures.refused)

pub unreachable-requires-in-Err-default-TooMany : goal.unreachable-requires-in-Err-default-TooMany
unreachable-requires-in-Err-default-TooMany c =
    let e = c.in-Err-default-TooMany in
    packs_all c.args.number (checked_data c.in-Ok.checked) e.field-0-0 e.field-0-1-0 e.field-0-1-1
    (c.in-Ok.ensures.ok ∙ c.in_ok-config.ensures.config)
    (subst (IsOverfull (checked_data c.in-Ok.checked) e.field-0-0) e.field-0-1-is e.ensures.overfull)

pub returns-in-Ok-pack_all : goal.returns-in-Ok-pack_all
returns-in-Ok-pack_all c =
    is_workload c.args.number _ (c.in-Ok.ensures.ok ∙ c.in_ok-config.ensures.config) c.in_ok-config.ensures.images
    c.in_ok-config.ensures.events c.in-Ok-pack_all.ensures.plans
