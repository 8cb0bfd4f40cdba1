use Rattle.std.proofs.Common.{◌≡◌, ◌≤◌, ◌∙◌, List, Some, All, length, map, get_or, subst, sym, ap, arith}
use Rattle.std.proofs.lemmas.List.Elements.{All-weaker}
use Rattle.bao_types.specs.declared.region.Region.{Region}
use Rattle.bao_wellformed.specs.Checked.{checked_data}
use Rattle.bao_wellformed.specs.Map.{class_of}
use Rattle.region_list.specs.declared.run.Run.{Run}
use Rattle.mpu_packer.specs.Packing.{Realises, entry_of}
use Rattle.mpu_packer.proofs.Exact.{packing_is, count_is}
use Rattle.mpu_packer.proofs.Granules.{IsAligned, all_aligned}
use Rattle.mpu_packer.proofs.Owners.{class_granular, entries_of_core}
use Rattle.mpu_packer.proofs.Realised.{realises_runs}
use Rattle.mpu_packer.proofs.packing.pack.Goals as goal

pub plan_of-requires-clause-sizes : goal.plan_of-requires-clause-sizes
plan_of-requires-clause-sizes c =
    let cfg = checked_data c.args.checked.now in
    subst (λ (runs : List Run). All (λ run. 64 ≤ run.range.size) runs) (sym c.as_slice.ensures.value)
    (All-weaker IsAligned (λ run. 64 ≤ run.range.size) (λ run aligned. aligned.least) c.in-Ok.runs.items
    (all_aligned (class_of cfg c.args.core) (class_granular cfg c.args.core c.args.checked.now.config.fits) c.in-Ok.runs.items 0 c.in-Ok.ensures.maximal))

pub returns-then-len-from-clause-packing : goal.returns-then-len-from-clause-packing
returns-then-len-from-clause-packing c =
    record {
      runs = c.in-Ok.runs.items;
      maximal = c.in-Ok.ensures.maximal;
      of_core = c.plan_of.ensures.core;
      entries = c.plan_of.ensures.entries ∙ ap (map entry_of) c.as_slice.ensures.value;
      starts = c.plan_of.ensures.starts ∙ ap (λ (runs : List Run). map (λ (run : Run). run.range.base) runs) c.as_slice.ensures.value;
      most = get_or c.deref.result.now c.from.result 0;
      of_platform =
          entries_of_core (checked_data c.args.checked.now) c.config.result.now c.deref.result.now c.args.core c.config.ensures c.deref.ensures.0
          c.requires
          ∙ ap (λ i. Some (get_or c.deref.result.now i 0)) (sym c.from.ensures);
      fits = omega arith;
    }

pub returns-then-len-from-clause-entries : goal.returns-then-len-from-clause-entries
returns-then-len-from-clause-entries c =
    packing_is (checked_data c.args.checked.now) c.args.core c.args.checked.now.well_formed c.plan_of.result
    (returns-then-len-from-clause-packing c)

pub returns-then-len-from-clause-realises : goal.returns-then-len-from-clause-realises
returns-then-len-from-clause-realises c =
    let cfg = checked_data c.args.checked.now in
    subst (λ (entries : List Region). Realises entries (class_of cfg c.args.core))
    (sym (c.plan_of.ensures.entries ∙ ap (map entry_of) c.as_slice.ensures.value))
    (realises_runs (class_of cfg c.args.core) c.in-Ok.runs.items (class_granular cfg c.args.core c.args.checked.now.config.fits)
    c.in-Ok.ensures.maximal c.in-Ok.ensures.in_space)

pub returns-in-Ok-try_from-clause-refused : goal.returns-in-Ok-try_from-clause-refused
returns-in-Ok-try_from-clause-refused c =
    let counted : length c.in-Ok.runs.items ≡ c.in-Ok-try_from.runs = omega (arith, c.in-Ok-try_from.ensures.1) in
    record {
      runs = c.in-Ok.runs.items;
      maximal = c.in-Ok.ensures.maximal;
      counted = counted;
      of_platform =
          entries_of_core (checked_data c.args.checked.now) c.config.result.now c.deref.result.now c.args.core c.config.ensures c.deref.ensures.0
          c.requires
          ∙ ap (λ i. Some (get_or c.deref.result.now i 0)) (sym c.from.ensures);
      too_many = omega (arith, counted);
    }

pub returns-in-Ok-try_from-clause-counted : goal.returns-in-Ok-try_from-clause-counted
returns-in-Ok-try_from-clause-counted c =
    count_is (checked_data c.args.checked.now) c.args.core c.args.checked.now.well_formed _ _
    (returns-in-Ok-try_from-clause-refused c)
