use Rattle.std.proofs.Common.{Some, ap, ◌∙◌}
use Rattle.core.specs.Mem.Slots.{slots_items}
use Rattle.phys_bank.proofs.Pages.{held_by_all, pages-put}
use Rattle.phys_bank.proofs.directory.Directory.insert.Goals as goal

pub returns : goal.returns
returns c =
    pages-put (slots_items c.take.new.self) (slots_items c.put.new.self) c.args.entry c.of-2.result (Some c.args.page.value) c.args.self.now c.put.ensures.items
    (c.of-2.ensures ∙ ap Some c.of.ensures) (ap held_by_all c.take.ensures.items ∙ c.self.view_is)
