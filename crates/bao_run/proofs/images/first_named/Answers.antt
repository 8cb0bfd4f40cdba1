use Rattle.std.proofs.Common.{sym, ap, ◌∙◌}
use Rattle.bao_wellformed.specs.Checked.{checked_data}
use Rattle.bao_run.proofs.Fetches.{at_place, first_of_images}
use Rattle.bao_run.proofs.images.first_named.Goals as goal

pub returns-in-Some : goal.returns-in-Some
returns-in-Some c =
    ap (at_place c.args.name.now c.args.schedule.now) (c.in-Some.ensures)
    ∙ sym (first_of_images c.args.name.now c.args.schedule.now c.args.config.now (checked_data c.args.checked.now) (sym c.eq.ensures ∙ c.if-eq.false))

pub returns-in-None : goal.returns-in-None
returns-in-None c =
    ap (at_place c.args.name.now c.args.schedule.now) (c.in-None.ensures)
    ∙ sym (first_of_images c.args.name.now c.args.schedule.now c.args.config.now (checked_data c.args.checked.now) (sym c.eq.ensures ∙ c.if-eq.false))
