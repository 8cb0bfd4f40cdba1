use Rattle.std.proofs.Common.{subst}
use Rattle.bao_wellformed.specs.Checked.{checked_data}
use Rattle.hypervisor.specs.Change.{Change}
use Rattle.hypervisor.specs.Taken.{IsAfter}
use Rattle.hypervisor.proofs.Events.{modelled}
use Rattle.hypervisor.proofs.hyp.Hyp.event.Goals as goal

pub returns : goal.returns
returns g c =
    let checked = c.args.checked.now in
    let change : Change = record { old = c.args.self.now; new = c.take.new.self; before = g.B.Board.state c.args.board.now; after = g.B.Board.state c.take.new.board } in
    let model =
    modelled (checked_data checked) checked.well_formed checked.config.fits change c.args.event.now c.requires.tidy
    c.requires.placed (subst (λ cfg. IsAfter cfg change c.args.event.now) c.config.ensures c.take.ensures) in
    record {
      tidy = model.tidy;
      state = model.state;
      entered = model.entered;
      spent = model.spent;
      shape = model.shape;
      entries = model.entries;
      quiet = model.quiet;
      best = model.best;
    }
