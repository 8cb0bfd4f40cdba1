use Rattle.std.proofs.Common.{rules, ◌∙◌, arith}
use Rattle.phys_bank.proofs.Pages.{nulls-more}
use Rattle.core.specs.Mem.Slots.{slots_items}
use Rattle.phys_bank.proofs.directory.clear.Goals as goal

pub loop-index-preserved : goal.loop-index-preserved
loop-index-preserved c =
    let i = c.loop-index.invariant in (
      c.put.ensures.places.start ∙ i.0,
      c.put.ensures.places.count ∙ i.1,
      search rules,
      nulls-more (slots_items c.loop-index.slots) (slots_items c.put.new.self) c.loop-index.index c.none.result (omega arith) c.put.ensures.items c.none.ensures i.3,
    )
