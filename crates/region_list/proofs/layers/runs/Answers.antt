use Rattle.std.proofs.Common.{◌≡◌, ◌≢◌, ◌-◌, ◌∙◌, [], ◌∷◌, ◌++◌, arith, subst, sym}
use Rattle.std.proofs.lemmas.Grind.{common_steps}
use Rattle.bao_types.specs.declared.access.Class.TheVariants.{Nothing}
use Rattle.region_list.specs.declared.run.Run.{Run}
use Rattle.region_list.specs.Layers.{class_in}
use Rattle.region_list.proofs.LayersLemmas.{class_in-beyond}
use Rattle.region_list.proofs.RunsLemmas.{HasFound, HasFound-all, HasFound-nothing, HasFound-run, IsStretch}
use Rattle.region_list.proofs.layers.runs.Goals as goal

pub loop-at-preserved-in_ok-map_err : goal.loop-at-preserved-in_ok-map_err
loop-at-preserved-in_ok-map_err c =
    let run : Run = record { range = record { base = c.loop-at.at; size = c.run_end-end.result - c.loop-at.at }; class = c.class_at-class.result } in
    let pushed : c.push.new.self.items ≡ c.loop-at.runs.items ++ run ∷ [] = grind (arith, common_steps) in
    let something : c.class_at-class.result ≢ Nothing = grind (arith, common_steps) in
    let classes = class_in c.args.layers.now in
    let stretch : IsStretch classes c.loop-at.at c.run_end-end.result =
    record {
      not_empty = c.run_end-end.ensures.above;
      in_space = c.run_end-end.ensures.in_space;
      equal = c.run_end-end.ensures.equal;
      differs = c.run_end-end.ensures.differs;
    }
    in
    subst (HasFound classes c.run_end-end.result) (sym pushed)
    (HasFound-run classes c.loop-at.at c.run_end-end.result c.loop-at.runs.items c.class_at-class.result c.loop-at-test.true c.loop-at.invariant stretch c.class_at-class.ensures something (λ byte. class_in-beyond c.args.layers.now byte c.requires))

pub loop-at-preserved : goal.loop-at-preserved
loop-at-preserved c =
    let nothing : c.class_at-class.result ≡ Nothing = grind (arith, common_steps) in
    let classes = class_in c.args.layers.now in
    HasFound-nothing classes c.loop-at.at c.run_end-end.result c.loop-at.runs.items c.loop-at.invariant
    (record {
      not_empty = c.run_end-end.ensures.above;
      in_space = c.run_end-end.ensures.in_space;
      equal = c.run_end-end.ensures.equal;
      differs = c.run_end-end.ensures.differs;
    })
    (sym c.class_at-class.ensures ∙ nothing)

pub returns-clause-maximal : goal.returns-clause-maximal
returns-clause-maximal c =
    HasFound-all _ c.loop-at.at c.loop-at.runs.items c.loop-at.invariant c.loop-at-test.false (λ byte. class_in-beyond c.args.layers.now byte c.requires)
