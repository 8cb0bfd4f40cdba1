use Rattle.bao_config.proofs.Texts.{text_at, text_past}
use Rattle.bao_config.proofs.error.text_at.Goals as goal

pub returns-then-i-texts : goal.returns-then-i-texts
returns-then-i-texts c = text_at c.args.texts.now c.args.i _ c.if-i-texts.true

pub returns-else-i-texts : goal.returns-else-i-texts
returns-else-i-texts c = text_past c.args.texts.now c.args.i c.if-i-texts.false
