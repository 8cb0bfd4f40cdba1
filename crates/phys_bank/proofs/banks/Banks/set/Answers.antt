use Rattle.std.proofs.Common.{sym, ap, ◌∙◌}
use Rattle.phys_bank.specs.Places.{spot_of}
use Rattle.phys_bank.proofs.Spots.{spot-inside}
use Rattle.phys_bank.proofs.banks.Banks.set.Goals as goal

pub write_within-requires-clause-room : goal.write_within-requires-clause-room
write_within-requires-clause-room c =
    (spot-inside c.self.inside.places.items c.args.at c.in-Some.spot (ap (λ ps. spot_of ps c.args.at) (sym c.deref.ensures.0) ∙ sym c.find.ensures ∙ c.in-Some.is)).1
