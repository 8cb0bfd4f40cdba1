use Rattle.std.proofs.Common.{sym, subst}
use Rattle.std.specs.Prelude.{Err}
use Rattle.outside.specs.Use.{ShelfUse, shelf_use}
use Rattle.asm_run.specs.Words.{Assemble}
use Rattle.asm_run.specs.Made.{IsMade, IsGiven}
use Rattle.asm_run.proofs.Making.{made_image, no_image}
use Rattle.asm_run.proofs.made.make_image.Goals as goal

pub returns-in-Ok : goal.returns-in-Ok
returns-in-Ok g c =
    let use_of : ShelfUse = shelf_use g.S.Shelf.held g.S.Shelf.faults g.S.Shelf.culprit c.args.shelf.now c.fetch.new.self in
    let given : IsGiven (Assemble c.args.file.now) c.in-Ok.source.items c.image_of.result =
    subst (λ s. IsGiven (Assemble c.args.file.now) s c.image_of.result) c.deref.ensures.value c.image_of.ensures in
    made_image use_of c.args.file.now c.in-Ok.source.items c.image_of.result c.in-Ok.ensures.content.1 c.in-Ok.ensures.cause.0 given

pub returns-in-Err : goal.returns-in-Err
returns-in-Err g c =
    let use_of : ShelfUse = shelf_use g.S.Shelf.held g.S.Shelf.faults g.S.Shelf.culprit c.args.shelf.now c.fetch.new.self in
    subst (λ s. IsMade (Assemble c.args.file.now) use_of (Err s)) (sym c.unread.ensures)
    (no_image use_of c.args.file.now c.in-Err.error c.in-Err.ensures.content c.in-Err.ensures.cause)
