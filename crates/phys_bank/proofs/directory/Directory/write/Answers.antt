use Rattle.std.proofs.Common.{◌≡◌, ◌+◌, ◌++◌, Some, length, take, drop, sym, ap, ◌∙◌, arith}
use Rattle.core.specs.Mem.Slots.{slots_items}
use Rattle.bao_types.specs.Bytes.{low_bytes}
use Rattle.phys_bank.proofs.Pages.{held_by_all, length-held, pages-put, page-taken, same_page}
use Rattle.phys_bank.proofs.directory.Directory.write.Goals as goal

pub returns : goal.returns
returns c = λ bytes there.
    let pages = ap held_by_all c.take.ensures.items ∙ c.self.view_is in let at = c.args.at in let width = c.args.width in
    let old = slots_items c.self.inside.slots in
    let was : bytes ≡ c.in-Some.loose.value = same_page (sym there ∙ page-taken old c.args.entry c.take.result c.args.self.now (omega (arith, c.requires.entry, ap length c.self.view_is, length-held old)) c.take.ensures.value c.self.view_is ∙ c.in-Some.ensures) in
    pages-put (slots_items c.take.new.self) (slots_items c.put.new.self) c.args.entry c.of-2.result (Some (take at bytes ++ low_bytes width c.args.value ++ drop (at + width) bytes)) c.args.self.now c.put.ensures.items
    (c.of-2.ensures ∙ ap Some (c.of.ensures ∙ c.write_le.ensures ∙ ap (λ bs. take at bs ++ low_bytes width c.args.value ++ drop (at + width) bs) (c.deref_mut.ensures.value ∙ c.into_box-page.ensures ∙ sym was))) pages
