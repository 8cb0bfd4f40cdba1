use Rattle.std.proofs.Common.{sym, refl}
use Rattle.bao_run.proofs.Outcomes.{unknown_words}
use Rattle.bao_run.proofs.top.carry_out.Goals as goal

pub returns-in-Unknown : goal.returns-in-Unknown
returns-in-Unknown g c =
    rw c.refuse-in-Unknown.ensures.status
    (unknown_words _ refl (sym c.in-Unknown.ensures) refl c.refuse-in-Unknown.ensures.line)
