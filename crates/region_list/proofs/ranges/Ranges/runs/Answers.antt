use Rattle.std.proofs.Common.{◌≡◌, ◌∙◌, List, ap, subst}
use Rattle.std.specs.Prelude.{IfOk}
use Rattle.region_list.specs.declared.run.Run.{Run}
use Rattle.region_list.specs.Layers.{class_in}
use Rattle.region_list.specs.Ranges.{RangesData}
use Rattle.region_list.specs.Runs.{AreMaximalRuns}
use Rattle.region_list.proofs.ranges.Ranges.runs.Goals as goal

pub returns-clause-maximal : goal.returns-clause-maximal
returns-clause-maximal c =
    let same : c.deref.result.now ≡ c.args.self.now.layers = c.deref.ensures.value ∙ ap (λ (ranges : RangesData). ranges.layers) c.self.view_is in
    subst (λ (layers : List Run). IfOk c.runs.result (λ runs. AreMaximalRuns (class_in layers) runs.items)) same c.runs.ensures.maximal
