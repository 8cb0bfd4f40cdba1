use Rattle.std.proofs.Common.{◌≡◌, ◌∙◌, ap, subst}
use Rattle.bao_wellformed.specs.Checked.{checked_data}
use Rattle.outside.specs.Sink.{grown, TakesPart}
use Rattle.report.specs.Packing.{packing_text}
use Rattle.vm_create.specs.Boot.{packings_of}
use Rattle.hypervisor.specs.Packed.{packings}
use Rattle.vm_create.proofs.Tidied.{packings_are}
use Rattle.bao_run.proofs.top.show.Goals as goal

pub returns-in-Ok : goal.returns-in-Ok
returns-in-Ok g c =
    let cfg = checked_data c.args.packed.now.checked in
    let same : packings_of c.deref.result.now ≡ packings cfg =
    ap packings_of c.deref.ensures.value ∙ packings_are cfg c.args.packed.now.plans.items c.args.packed.now.checked.well_formed c.requires in (
      c.in-Ok.ensures.taken ∙ ap (λ packed. grown (g.K.Sink.taken c.args.sink.now) (packing_text cfg packed)) same,
      c.in-Ok.ensures.cause,
    )

pub returns-in-Err : goal.returns-in-Err
returns-in-Err g c =
    let cfg = checked_data c.args.packed.now.checked in
    let same : packings_of c.deref.result.now ≡ packings cfg =
    ap packings_of c.deref.ensures.value ∙ packings_are cfg c.args.packed.now.plans.items c.args.packed.now.checked.well_formed c.requires in (
      subst (λ packed. TakesPart (g.K.Sink.taken c.args.sink.now) (g.K.Sink.taken c.write_packing.new.sink) (packing_text cfg packed)) same
          c.in-Err.ensures.taken,
      c.in-Err.ensures.cause,
    )
