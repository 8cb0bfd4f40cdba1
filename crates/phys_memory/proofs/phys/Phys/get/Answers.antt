use Rattle.std.proofs.Common.{◌<◌, List, ℕ, length, slice_index, sym, ap, ◌∙◌, subst}
use Rattle.phys_memory.proofs.Blocks.{slot_at, same_some}
use Rattle.phys_memory.proofs.phys.Phys.get.Goals as goal

pub get-requires : goal.get-requires
get-requires c =
    let within = subst (λ (xs : List ℕ). c.args.at < length xs) (sym c.self.view_is) c.requires in
    record { place = sym c.self.invariant.block.bytes_begin; written = (_, slot_at c.self.inside c.self.invariant c.args.at within) }

pub returns : goal.returns
returns c =
    let within = subst (λ (xs : List ℕ). c.args.at < length xs) (sym c.self.view_is) c.requires in
    same_some (sym c.get.ensures ∙ slot_at c.self.inside c.self.invariant c.args.at within) ∙ ap (λ (xs : List ℕ). slice_index xs c.args.at) c.self.view_is
