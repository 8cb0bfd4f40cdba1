use Rattle.std.proofs.Common.{ℕ, ◌+◌, ◌<◌, ◌≤◌, List, Option, length, sym, ap, ◌∙◌, subst, arith, length-set}
use Rattle.bao_types.specs.Bytes.{low_bytes}
use Rattle.phys_memory.proofs.Numbers.{length-low_bytes}
use Rattle.phys_bank.specs.Banks.{BanksData, IsWritten}
use Rattle.phys_bank.specs.Directory.{is_page}
use Rattle.phys_bank.specs.Places.{spot_of}
use Rattle.phys_bank.proofs.Spots.{spot-places, spot-inside}
use Rattle.phys_bank.proofs.Kept.{AreWhole, there, whole-at, whole-after, is-written, length-new_page}
use Rattle.phys_bank.proofs.banks.Banks.write_within.Goals as goal

pub write-requires-clause-page : goal.write-requires-clause-page
write-requires-clause-page c =
    let i = c.self.invariant in let s = c.args.spot in let spot = ap (λ b. spot_of b.places c.args._at) c.self.view_is ∙ c.requires.spot in
    let page = there _ (ap (λ b. is_page b.pages s.entry) c.self.view_is ∙ c.requires.page) in let p = spot-inside c.self.inside.places.items c.args._at s spot in
    (page.0, page.1, omega (arith, p.0, c.requires.room, whole-at c.self.inside.directory s.entry page.0 i.whole page.1))

pub invariant_of-self : goal.invariant_of-self
invariant_of-self c =
    let i = c.self.invariant in let s = c.args.spot in let n = c.args.width in let ys = low_bytes n c.args.value in let places = c.self.inside.places.items in let pages = c.self.inside.directory in
    let spot = ap (λ b. spot_of b.places c.args._at) c.self.view_is ∙ c.requires.spot in let page = there _ (ap (λ b. is_page b.pages s.entry) c.self.view_is ∙ c.requires.page) in
    let p = spot-inside places c.args._at s spot in let long = whole-at pages s.entry page.0 i.whole page.1 in let q = spot-places places 0 c.args._at s i.laid spot in
    let now = c.write.ensures page.0 page.1 in let within : s.offset + n ≤ length page.0 = omega (arith, p.0, c.requires.room, long) in let lt : s.entry < length pages = omega (arith, q.1, i.total) in
    record {
      laid = i.laid;
      apart = i.apart;
      total = i.total ∙ sym (ap length now ∙ length-set pages s.entry _);
      whole = subst AreWhole (sym now) (whole-after pages s.entry page.0 _ lt page.1 i.whole (length-new_page places pages c.args._at n s page.0 ys i.laid i.apart spot c.requires.room within lt page.1 (length-low_bytes n c.args.value) ∙ long));
    }

pub returns : goal.returns
returns c =
    let i = c.self.invariant in let s = c.args.spot in let n = c.args.width in let ys = low_bytes n c.args.value in let places = c.self.inside.places.items in let pages = c.self.inside.directory in
    let spot = ap (λ b. spot_of b.places c.args._at) c.self.view_is ∙ c.requires.spot in let page = there _ (ap (λ b. is_page b.pages s.entry) c.self.view_is ∙ c.requires.page) in
    let p = spot-inside places c.args._at s spot in let long = whole-at pages s.entry page.0 i.whole page.1 in let q = spot-places places 0 c.args._at s i.laid spot in
    let now = c.write.ensures page.0 page.1 in
    let within : s.offset + n ≤ length page.0 = omega (arith, p.0, c.requires.room, long) in let lt : s.entry < length pages = omega (arith, q.1, i.total) in
    let Is : BanksData → List (Option (List ℕ)) → Type 0 = λ old new. IsWritten old (record { places = places; pages = new }) c.args._at ys in
    subst (λ old. Is old c.write.new.self) c.self.view_is (subst (Is (record { places = places; pages = pages })) (sym now) (is-written places pages c.args._at n s page.0 ys i.laid i.apart spot c.requires.room within lt page.1 (length-low_bytes n c.args.value)))
