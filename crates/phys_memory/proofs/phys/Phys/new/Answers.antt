use Rattle.std.proofs.Common.{map, length, replicate, slice_index, Some, sym, ap, ◌∙◌}
use Rattle.std.proofs.lemmas.List.{length-replicate}
use Rattle.phys_memory.specs.Block.{values}
use Rattle.phys_memory.proofs.Blocks.{replicate-map, values-map, slice_index-zeros}
use Rattle.phys_memory.proofs.phys.Phys.new.Goals as goal

pub invariant_of-result : goal.invariant_of-result
invariant_of-result c =
    let made = c.in_ok-base.ensures.block in let n = c.args.len in let zeros = c.clear.ensures.slots ∙ replicate-map n 0 in
    record {
      block = record { bytes_begin = c.clear.ensures.place ∙ made.bytes_begin; bytes_count = ap length c.clear.ensures.slots ∙ length-replicate n (Some 0); deed_begin = made.deed_begin; deed_count = made.deed_count; giver = made.giver };
      bound = c.requires;
      written = zeros ∙ ap (map Some) (sym (ap values zeros ∙ values-map (replicate n 0)));
    }

pub returns : goal.returns
returns c =
    let n = c.args.len in let zeros = ap values (c.clear.ensures.slots ∙ replicate-map n 0) ∙ values-map (replicate n 0) in
    record {
      size = ap length zeros ∙ length-replicate n 0;
      zero = λ at. ap (λ xs. slice_index xs at) zeros ∙ slice_index-zeros n at;
    }
