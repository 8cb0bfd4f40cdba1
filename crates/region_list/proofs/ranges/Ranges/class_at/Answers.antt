use Rattle.std.proofs.Common.{◌∙◌, ap}
use Rattle.region_list.specs.Layers.{class_in}
use Rattle.region_list.proofs.LayersLemmas.{class_in-beyond}
use Rattle.region_list.proofs.ranges.Ranges.class_at.Goals as goal

pub returns-clause-beyond : goal.returns-clause-beyond
returns-clause-beyond c =
    λ beyond. c.class_at.ensures ∙ ap (λ layers. class_in layers c.args.at) c.deref.ensures.value ∙ class_in-beyond c.self.inside.layers.items c.args.at c.self.invariant beyond
