use Rattle.std.proofs.Common.{◌≡◌, rules, sym, subst}
use Rattle.bao_types.specs.Shape.{shape_data}
use Rattle.bao_wellformed.specs.Checked.{checked_data}
use Rattle.board.specs.Machine.{IsFittable}
use Rattle.hypervisor.specs.Shape.{shape_of}
use Rattle.vm_create.proofs.Fittable.{shape_fits}
use Rattle.vm_create.proofs.shape.shape_for.Goals as goal

pub returns-clause-fittable : goal.returns-clause-fittable
returns-clause-fittable c =
    let checked = c.args.checked.now in
    let cfg = checked_data checked in
    let same : shape_data (record {
      banks = c.banks.result;
      cores = c.core_places.result;
      ports = c.port_spots.result;
      used = c.used_ranges.result;
      events = c.args.events;
    }) ≡ shape_of cfg c.args.events = search rules in
    subst IsFittable (sym same) (shape_fits cfg c.args.events checked.well_formed checked.config.fits c.requires)
