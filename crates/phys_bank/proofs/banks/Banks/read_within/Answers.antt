use Rattle.std.proofs.Common.{ap, ◌∙◌, arith}
use Rattle.bao_types.specs.Bytes.{bytes_from, little_endian}
use Rattle.phys_bank.specs.Banks.{byte_at}
use Rattle.phys_bank.specs.Places.{spot_of}
use Rattle.phys_bank.proofs.Spots.{spot-places, spot-inside}
use Rattle.phys_bank.proofs.Kept.{whole-at, number-in_page, number-of_none}
use Rattle.phys_bank.proofs.banks.Banks.read_within.Goals as goal

pub get-requires : goal.get-requires
get-requires c = let i = c.self.invariant in let p = spot-places c.self.inside.places.items 0 c.args._at c.args.spot i.laid (ap (λ b. spot_of b.places c.args._at) c.self.view_is ∙ c.requires.spot) in omega (arith, p.1, i.total)

pub read_le-requires-clause-range : goal.read_le-requires-clause-range
read_le-requires-clause-range c =
    let i = c.self.invariant in let p = spot-inside c.self.inside.places.items c.args._at c.args.spot (ap (λ b. spot_of b.places c.args._at) c.self.view_is ∙ c.requires.spot) in
    omega (arith, p.0, c.requires.room, whole-at c.self.inside.directory c.args.spot.entry c.in-Some.page.now i.whole c.in-Some.ensures)

pub returns-in-Some-clause-value : goal.returns-in-Some-clause-value
returns-in-Some-clause-value c =
    let i = c.self.invariant in let n = c.args.width in let s = c.args.spot in let spot = ap (λ b. spot_of b.places c.args._at) c.self.view_is ∙ c.requires.spot in
    let p = spot-inside c.self.inside.places.items c.args._at s spot in let long = whole-at c.self.inside.directory s.entry c.in-Some.page.now i.whole c.in-Some.ensures in
    c.read_le.ensures.value ∙ number-in_page (record { places = c.self.inside.places.items; pages = c.self.inside.directory }) c.args._at n s i.apart spot c.requires.room c.in-Some.page.now c.in-Some.ensures (omega (arith, p.0, c.requires.room, long))
    ∙ ap (λ b. little_endian (bytes_from (byte_at b) c.args._at n)) c.self.view_is

pub returns-in-None-clause-value : goal.returns-in-None-clause-value
returns-in-None-clause-value c =
    let i = c.self.invariant in let n = c.args.width in let spot = ap (λ b. spot_of b.places c.args._at) c.self.view_is ∙ c.requires.spot in
    number-of_none (record { places = c.self.inside.places.items; pages = c.self.inside.directory }) c.args._at n c.args.spot i.apart spot c.requires.room c.in-None.ensures
    ∙ ap (λ b. little_endian (bytes_from (byte_at b) c.args._at n)) c.self.view_is
