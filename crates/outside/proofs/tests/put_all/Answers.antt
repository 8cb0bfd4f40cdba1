use Rattle.std.proofs.Common.{rules, refl}
use Rattle.std.specs.List.{flat_map}
use Rattle.outside.specs.Sink.{TakesPart}
use Rattle.outside.proofs.Puts.{begun, further, stopped, flat_map-drop}
use Rattle.outside.proofs.tests.put_all.Goals as goal

pub loop-text-init : goal.loop-text-init
loop-text-init g c = record { faults = refl; reached = begun _ _ }

pub returns-in_err-put-clause-taken : goal.returns-in_err-put-clause-taken
returns-in_err-put-clause-taken g c =
    let left = flat_map-drop (λ t. t.items) _ _ _ c.loop-text-test.true c.text-item.is in
    let part : TakesPart (g.K.Sink.taken c.args.sink.now) (g.K.Sink.taken c.put.new.self) (flat_map (λ t. t.items) c.args.texts.now) =
    stopped _ _ _ _ _ _ (rw left at c.loop-text.invariant.reached) (rw c.deref.ensures.value at c.in_err-put.ensures.taken) in
    search rules

pub loop-text-preserved : goal.loop-text-preserved
loop-text-preserved g c =
    let left = flat_map-drop (λ t. t.items) _ _ _ c.loop-text-test.true c.text-item.is in
    record {
      faults = search rules;
      reached = further _ _ _ _ _ _ (rw left at c.loop-text.invariant.reached) (rw c.deref.ensures.value at c.in_ok-put.ensures.taken);
    }
