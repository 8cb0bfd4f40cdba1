use Rattle.std.proofs.Common.{◌+◌, ap, sym, ◌∙◌, arith}
use Rattle.board.specs.Machine.{with_byte}
use Rattle.phys_bank.specs.Banks.{byte_at}
use Rattle.sim_board.proofs.Placed.{over-more}
use Rattle.phys_bank.proofs.Kept.{kept-below}
use Rattle.sim_board.proofs.memory.copy_in.Goals as goal

pub overflow_add-at : goal.overflow_add-at
overflow_add-at c =
    let at = c.args.at in let k = c.loop-k.k in let memory = c.args.memory.now in
    let low = kept-below memory (at + k) (c.requires (at + k) (omega arith) (omega arith)) in
    record { fits = omega (arith, low) }

pub loop-k-preserved : goal.loop-k-preserved
loop-k-preserved c =
    let at = c.args.at in let k = c.loop-k.k in let i = c.loop-k.invariant in
    record {
      kept = c.set.ensures.kept ∙ i.kept;
      bytes =
          c.set.ensures.bytes ∙ ap (with_byte (at + k) _) i.bytes
          ∙ sym (over-more at k c.args.bytes.now (byte_at c.args.memory.now) (omega arith));
    }

pub set-requires : goal.set-requires
set-requires c =
    let at = c.args.at + c.loop-k.k in ap (λ kept. kept at) c.loop-k.invariant.kept ∙ c.requires at (omega arith) (omega arith)
