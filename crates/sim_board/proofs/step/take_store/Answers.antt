use Rattle.std.proofs.Common.{subst, sym}
use Rattle.std.specs.Prelude.{IsTrue}
use Rattle.std.proofs.lemmas.Bool.{OnTrue_at}
use Rattle.a64_execute.specs.Want.{bytes_of}
use Rattle.phys_bank.specs.Banks.{is_kept}
use Rattle.board.specs.Judge.{all_from}
use Rattle.board.specs.Stage.{by_entries, by_regions}
use Rattle.sim_board.proofs.Ways.{kept_in_memory}
use Rattle.sim_board.proofs.step.take_store.Goals as goal

pub store-requires-clause-used : goal.store-requires-clause-used
store-requires-clause-used g c =
    let shape = c.args.request.now.shape.now in let kept = is_kept c.args.memory.now in
    subst (λ n. IsTrue (all_from kept shape.at n)) (sym c.byte_count.ensures.value)
    (kept_in_memory (by_regions c.args.core.now) (by_entries c.args.table.now) (g.D.Devices.view c.args.devices.now).spots kept
    c.requires.contained shape.at (bytes_of shape) (OnTrue_at c.if-is_plain.true c.is_plain.ensures))
