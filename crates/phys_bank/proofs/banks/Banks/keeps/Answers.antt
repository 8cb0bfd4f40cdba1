use Rattle.std.proofs.Common.{sym, ap, ◌∙◌, arith}
use Rattle.phys_bank.specs.Places.{spot_of}
use Rattle.phys_bank.proofs.Spots.{spot-places}
use Rattle.phys_bank.proofs.banks.Banks.keeps.Goals as goal

pub get-requires : goal.get-requires
get-requires c =
    let i = c.self.invariant in let p = spot-places c.self.inside.places.items 0 c.args.at c.in-Some.spot i.laid (ap (λ ps. spot_of ps c.args.at) (sym c.deref.ensures.0) ∙ sym c.find.ensures ∙ c.in-Some.is) in omega (arith, p.1, i.total)
