use Rattle.std.proofs.Common.{◌∙◌}
use Rattle.bao_config.proofs.Texts.{is_one_of-borrowed}
use Rattle.bao_config.proofs.fields.is_listed.Goals as goal

pub returns : goal.returns
returns c = c.contains.ensures.value ∙ is_one_of-borrowed c.args.names.now c.args.key.now
