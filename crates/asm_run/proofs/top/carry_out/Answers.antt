use Rattle.std.proofs.Common.{rules}
use Rattle.asm_run.proofs.Making.{shown, refused}
use Rattle.asm_run.proofs.top.carry_out.Goals as goal

pub returns-in-Ok : goal.returns-in-Ok
returns-in-Ok g c = search (rules, shown)

pub returns-in-Err : goal.returns-in-Err
returns-in-Err g c = search (rules, refused)
