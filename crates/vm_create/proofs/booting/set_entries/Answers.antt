use Rattle.std.proofs.Common.{◌+◌, [], length, map, replicate, set, refl, sym, ap, ◌∙◌, arith}
use Rattle.std.proofs.lemmas.List.{length-map}
use Rattle.std.proofs.lemmas.Option.{slice_get_read}
use Rattle.bao_types.specs.Region.{no_region}
use Rattle.bao_types.specs.Shape.{ShapeData}
use Rattle.bao_wellformed.specs.Checked.{checked_data}
use Rattle.bao_wellformed.proofs.Empty.{map_got}
use Rattle.board.specs.Machine.{Machine, entries_at}
use Rattle.mpu_packer.specs.declared.entries.Plan.{Plan}
use Rattle.mpu_packer.specs.Packing.{entry_of}
use Rattle.hypervisor.specs.Packed.{filled}
use Rattle.vm_create.specs.Boot.{packings_of}
use Rattle.vm_create.proofs.Filled.{entries_within, next_count, next_filled, next_none, none_filled, whole_filled, with_entries}
use Rattle.vm_create.proofs.booting.set_entries.Goals as goal

pub loop-core-init : goal.loop-core-init
loop-core-init g c =
    let old = g.B.Board.state c.args.board.now in let cfg = checked_data c.args.checked.now in
    ap (with_entries old)
    (c.requires.zero
    ∙ ap (λ (shape : ShapeData). map (λ place. replicate place.entries no_region) shape.cores) c.requires.shape
    ∙ none_filled cfg cfg.platform.cores 0)

pub set_core_entries-requires-clause-core : goal.set_core_entries-requires-clause-core
set_core_entries-requires-clause-core g c =
    let cfg = checked_data c.args.checked.now in let own = c.requires.plans.each c.loop-core.core c.index-plans-core.result
    (slice_get_read c.args.plans.now (length c.args.plans.now) c.loop-core.core c.index-plans-core.result refl c.loop-core-test.true c.index-plans-core.is) in
    entries_within cfg.platform.cores (packings_of c.args.plans.now) (g.B.Board.state c.loop-core.board).entries c.loop-core.core
    (ap (λ (m : Machine). m.entries) c.loop-core.invariant) own.packing.most own.packing.of_platform

pub set_core_entries-requires-clause-plan : goal.set_core_entries-requires-clause-plan
set_core_entries-requires-clause-plan g c =
    c.requires.plans.each c.loop-core.core c.index-plans-core.result
    (slice_get_read c.args.plans.now (length c.args.plans.now) c.loop-core.core c.index-plans-core.result refl c.loop-core-test.true c.index-plans-core.is)

pub set_core_entries-requires-clause-zero : goal.set_core_entries-requires-clause-zero
set_core_entries-requires-clause-zero g c =
    let cfg = checked_data c.args.checked.now in let own = c.requires.plans.each c.loop-core.core c.index-plans-core.result
    (slice_get_read c.args.plans.now (length c.args.plans.now) c.loop-core.core c.index-plans-core.result refl c.loop-core-test.true c.index-plans-core.is) in
    let is = ap (λ (m : Machine). m.entries) c.loop-core.invariant in
    let now = g.B.Board.state c.loop-core.board in
    next_none cfg.platform.cores (packings_of c.args.plans.now) now.entries c.loop-core.core is own.packing.most own.packing.of_platform
    ∙ ap (λ n. filled n [])
    (sym (next_count cfg.platform.cores (packings_of c.args.plans.now) now.entries c.loop-core.core is own.packing.most own.packing.of_platform))

pub set_core_entries-requires-clause-room : goal.set_core_entries-requires-clause-room
set_core_entries-requires-clause-room g c =
    let cfg = checked_data c.args.checked.now in let own = c.requires.plans.each c.loop-core.core c.index-plans-core.result
    (slice_get_read c.args.plans.now (length c.args.plans.now) c.loop-core.core c.index-plans-core.result refl c.loop-core-test.true c.index-plans-core.is) in
    let is = ap (λ (m : Machine). m.entries) c.loop-core.invariant in
    let now = g.B.Board.state c.loop-core.board in
    omega (
      arith,
      next_count cfg.platform.cores (packings_of c.args.plans.now) now.entries c.loop-core.core is own.packing.most own.packing.of_platform,
      own.packing.fits,
      ap length own.packing.entries,
      length-map own.packing.runs entry_of,
    )

pub loop-core-preserved : goal.loop-core-preserved
loop-core-preserved g c =
    let old = g.B.Board.state c.args.board.now in let now = g.B.Board.state c.loop-core.board in
    let cfg = checked_data c.args.checked.now in let plan = c.index-plans-core.result in
    let got = slice_get_read c.args.plans.now (length c.args.plans.now) c.loop-core.core plan refl c.loop-core-test.true c.index-plans-core.is in
    let own = c.requires.plans.each c.loop-core.core plan got in
    c.set_core_entries.ensures
    ∙ ap (λ (m : Machine). with_entries m (set now.entries c.loop-core.core (filled (length (entries_at now.entries c.loop-core.core)) plan.entries.items)))
    c.loop-core.invariant
    ∙ ap (with_entries old)
    (next_filled cfg.platform.cores (packings_of c.args.plans.now) now.entries c.loop-core.core (ap (λ (m : Machine). m.entries) c.loop-core.invariant)
    own.packing.most own.packing.of_platform (c.loop-core.core + 1) plan.entries.items
    (map_got (λ (plan : Plan). plan.entries.items) c.args.plans.now c.loop-core.core plan got) (omega arith))

pub returns : goal.returns
returns g c =
    let old = g.B.Board.state c.args.board.now in let now = g.B.Board.state c.loop-core.board in
    let cfg = checked_data c.args.checked.now in
    c.loop-core.invariant
    ∙ ap (with_entries old)
    (sym (ap (λ (m : Machine). m.entries) c.loop-core.invariant)
    ∙ whole_filled cfg.platform.cores (packings_of c.args.plans.now) now.entries c.loop-core.core (ap (λ (m : Machine). m.entries) c.loop-core.invariant)
    (omega (arith, c.loop-core-test.false, c.loop-core.auto.core-end, c.requires.plans.count)))
