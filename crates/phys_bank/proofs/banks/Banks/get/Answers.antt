use Rattle.std.proofs.Common.{sym, ap, ◌∙◌, arith}
use Rattle.phys_bank.specs.Places.{spot_of}
use Rattle.phys_bank.proofs.Spots.{spot-places, spot-inside}
use Rattle.phys_bank.proofs.Kept.{whole-at}
use Rattle.phys_bank.proofs.banks.Banks.get.Goals as goal

pub get-requires : goal.get-requires
get-requires c =
    let i = c.self.invariant in let p = spot-places c.self.inside.places.items 0 c.args.at c.in-Some.spot i.laid (ap (λ ps. spot_of ps c.args.at) (sym c.deref.ensures.0) ∙ sym c.find.ensures ∙ c.in-Some.is) in omega (arith, p.1, i.total)

pub get-requires-in-Some-get : goal.get-requires-in-Some-get
get-requires-in-Some-get c =
    let i = c.self.invariant in let p = spot-inside c.self.inside.places.items c.args.at c.in-Some.spot (ap (λ ps. spot_of ps c.args.at) (sym c.deref.ensures.0) ∙ sym c.find.ensures ∙ c.in-Some.is) in
    omega (arith, p.0, p.1, whole-at c.self.inside.directory c.in-Some.spot.entry c.in-Some-get.page.now i.whole c.in-Some-get.ensures)
