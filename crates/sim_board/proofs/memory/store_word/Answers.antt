use Rattle.std.proofs.Common.{◌+◌, ◌-◌, ◌^◌, ◌<◌, arith}
use Rattle.phys_bank.specs.Banks.{is_kept}
use Rattle.phys_bank.proofs.Kept.{kept-below}
use Rattle.sim_board.proofs.Stored.{kept_run, stored}
use Rattle.sim_board.proofs.memory.store_word.Goals as goal

pub write_le-requires-clause-kept : goal.write_le-requires-clause-kept
write_le-requires-clause-kept c =
    kept_run (is_kept c.args.memory.now) (kept-below c.args.memory.now) c.args.at c.args.width c.requires.used

pub returns-clause-bytes : goal.returns-clause-bytes
returns-clause-bytes c =
    let memory = c.args.memory.now in let at = c.args.at in let n = c.args.width in
    let w = c.requires.width in
    let kept = kept_run (is_kept memory) (kept-below memory) at n c.requires.used in
    let last = kept-below memory (at + (n - 1)) (kept (n - 1) (omega arith)) in
    let low : at + n < 2 ^ 64 = omega (arith, last) in
    stored memory c.write_le.new.self at n c.args.value low c.write_le.ensures
