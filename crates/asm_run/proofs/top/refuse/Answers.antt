use Rattle.asm_run.specs.Status.{refusal_text}
use Rattle.asm_run.proofs.Making.{put_by}
use Rattle.asm_run.proofs.top.refuse.Goals as goal

pub returns-clause-put : goal.returns-clause-put
returns-clause-put g c = put_by _ (refusal_text c.args.status) _ c.put_refusal-put.ensures.taken c.put_refusal-put.ensures.cause
