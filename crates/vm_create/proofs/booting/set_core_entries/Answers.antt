use Rattle.std.proofs.Common.{◌<◌, ◌+◌, [], All, length, set, get_or, slice_get, sym, subst, ap, ◌∙◌, arith}
use Rattle.std.proofs.lemmas.List.{set-get_or}
use Rattle.std.proofs.lemmas.Option.{slice_get-get_or}
use Rattle.bao_types.specs.Region.{IsWithinMasks, no_region}
use Rattle.bao_types.specs.Shape.{ShapeData}
use Rattle.bao_wellformed.specs.Checked.{checked_data}
use Rattle.board.specs.Machine.{IsSafeEntry, Machine, entries_at}
use Rattle.hypervisor.specs.Packed.{filled}
use Rattle.hypervisor.specs.Shape.{shape_of}
use Rattle.vm_create.proofs.Filled.{core_within, index_within, own_more, take_whole, with_entries}
use Rattle.vm_create.proofs.Safe.{plan_is_safe, plan_within_masks}
use Rattle.vm_create.proofs.booting.set_core_entries.Goals as goal

pub loop-index-init : goal.loop-index-init
loop-index-init g c =
    let old = g.B.Board.state c.args.board.now in
    ap (with_entries old)
    (sym (ap (λ own. set old.entries c.args.core own) (sym c.requires.zero) ∙ set-get_or old.entries c.args.core []))

pub set_entry-requires-clause-fitted : goal.set_entry-requires-clause-fitted
set_entry-requires-clause-fitted g c = ap (λ (m : Machine). m.fitted) c.loop-index.invariant ∙ c.requires.fitted

pub set_entry-requires-clause-at_rest : goal.set_entry-requires-clause-at_rest
set_entry-requires-clause-at_rest g c = ap (λ (m : Machine). m.entered) c.loop-index.invariant ∙ c.requires.at_rest

pub set_entry-requires-clause-core : goal.set_entry-requires-clause-core
set_entry-requires-clause-core g c =
    let old = g.B.Board.state c.args.board.now in let cfg = checked_data c.args.checked.now in
    let shape = ap (λ (m : Machine). m.shape) c.loop-index.invariant ∙ c.requires.shape in
    subst (λ (shape : ShapeData). c.args.core < length shape.cores) (sym shape)
    (core_within cfg old.shape.events c.args.core c.requires.plan.packing.most c.requires.plan.packing.of_platform)

pub set_entry-requires-clause-index : goal.set_entry-requires-clause-index
set_entry-requires-clause-index g c =
    let old = g.B.Board.state c.args.board.now in let now = g.B.Board.state c.loop-index.board in
    index_within old.entries now.entries c.args.core (length (entries_at old.entries c.args.core)) c.loop-index.index c.args.plan.now.entries.items
    c.requires.core c.requires.room (ap (λ (m : Machine). m.entries) c.loop-index.invariant)
    (omega (arith, c.loop-index-test.true, ap length c.deref-entry-items.ensures.0))

pub set_entry-requires-clause-bits : goal.set_entry-requires-clause-bits
set_entry-requires-clause-bits g c =
    let cfg = checked_data c.args.checked.now in
    subst (All IsWithinMasks) (sym c.deref-entry-items.ensures.0)
    (plan_within_masks cfg c.args.core c.args.checked.now.well_formed c.args.plan.now c.args.checked.now.config.fits c.requires.plan.packing)
    c.loop-index.index no_region c.loop-index-test.true

pub set_entry-requires-clause-safe : goal.set_entry-requires-clause-safe
set_entry-requires-clause-safe g c =
    let old = g.B.Board.state c.args.board.now in let cfg = checked_data c.args.checked.now in
    let shape = ap (λ (m : Machine). m.shape) c.loop-index.invariant ∙ c.requires.shape in
    subst (λ shape. IsSafeEntry shape (get_or c.deref-entry-items.result.now c.loop-index.index no_region)) (sym shape)
    (subst (All (IsSafeEntry (shape_of cfg old.shape.events))) (sym c.deref-entry-items.ensures.0)
    (plan_is_safe cfg c.args.core old.shape.events c.args.plan.now.entries.items c.requires.plan.realises)
    c.loop-index.index no_region c.loop-index-test.true)

pub loop-index-preserved : goal.loop-index-preserved
loop-index-preserved g c =
    let old = g.B.Board.state c.args.board.now in let now = g.B.Board.state c.loop-index.board in
    let entry = get_or c.deref-entry-items.result.now c.loop-index.index no_region in
    let packed = c.args.plan.now.entries.items in
    let got = ap (λ entries. slice_get entries c.loop-index.index) (sym c.deref-entry-items.ensures.0)
    ∙ slice_get-get_or c.deref-entry-items.result.now c.loop-index.index no_region c.loop-index-test.true in
    c.set_entry.ensures
    ∙ ap (λ (m : Machine). with_entries m (set now.entries c.args.core (set (get_or now.entries c.args.core []) c.loop-index.index entry)))
    c.loop-index.invariant
    ∙ ap (with_entries old)
    (own_more old.entries now.entries c.args.core (length (entries_at old.entries c.args.core)) c.loop-index.index packed c.requires.core
    c.requires.room (ap (λ (m : Machine). m.entries) c.loop-index.invariant) (c.loop-index.index + 1) entry got (omega arith))

pub returns : goal.returns
returns g c =
    let old = g.B.Board.state c.args.board.now in
    c.loop-index.invariant
    ∙ ap (λ packed. with_entries old (set old.entries c.args.core (filled (length (entries_at old.entries c.args.core)) packed)))
    (take_whole c.args.plan.now.entries.items c.loop-index.index
    (omega (arith, c.loop-index-test.false, c.loop-index.auto.index-end, ap length c.deref-entry-items.ensures.0)))
