use Rattle.std.proofs.Common.{◌≡◌, ℕ, ◌<◌, List, [], ◌∷◌, length, take, drop, slice_set, suc, drop-cons, add-one, arith, refl, sym, ap, ◌∙◌}
use Rattle.outside.proofs.tests.DripRead.read.Goals as goal

-- what stands at the head of a buffer after a write there
first : (buf : List ℕ) (byte : ℕ) → 0 < length buf → take 1 (slice_set buf 0 byte) ≡ byte ∷ []
first [] byte some = absurd (omega arith)
first (b ∷ buf) byte some = refl

pub returns-clause-bytes : goal.returns-clause-bytes
returns-clause-bytes c =
    let some : 0 < length c.args.buf.now = grind arith in
    let inside : c.args.self.now.at < length c.args.self.now.bytes.items = grind arith in (
      rw (first _ _ some, add-one)
          (drop-cons c.args.self.now.bytes.items c.args.self.now.at c.index.result.now inside
          ∙ ap (λ byte. byte ∷ drop (suc c.args.self.now.at) c.args.self.now.bytes.items) (sym c.index.ensures)),
      λ e. absurd (omega arith),
    )
