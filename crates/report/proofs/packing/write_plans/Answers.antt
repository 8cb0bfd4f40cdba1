use Rattle.std.proofs.Common.{◌≡◌, ◌++◌, ◌+◌, ◌≤◌, List, map, drop, length, rules, ap, ◌∙◌, arith}
use Rattle.std.specs.Prelude.{IsErr}
use Rattle.std.proofs.lemmas.Result.{MatchResult-from_err}
use Rattle.bao_types.specs.declared.region.Region.{Region}
use Rattle.bao_config.specs.Config.{config_data}
use Rattle.report.specs.Packing.{cores_packed, packed_text}
use Rattle.report.proofs.Lists.{entries_of, goes_past, stops_within, ends_whole, packed_next, packed_none}
use Rattle.report.proofs.packing.write_plans.Goals as goal

pub returns-in_err-write_plan-clause-taken : goal.returns-in_err-write_plan-clause-taken
returns-in_err-write_plan-clause-taken g c =
    let cfg = config_data c.args.config.now in let core = c.loop-core.core in let plans = c.args.plans.now in
    let failed : IsErr c.from_residual.result = search rules in
    let here : c.index-plans-core.result.entries.items ≡ c.deref.result.now = search rules in
    MatchResult-from_err c.from_residual.result _ _ failed
    (λ _. stops_within _ _ _ _ c.loop-core.invariant.text (g.K.Sink.taken c.write_plan.new.sink) _ _
    (packed_next cfg plans core c.index-plans-core.result (omega arith) c.index-plans-core.is
    ∙ ap (λ (e : List Region). packed_text cfg core e ++ cores_packed cfg (core + 1) (map entries_of (drop (core + 1) plans))) here)
    c.in_err-write_plan.ensures.taken)

pub loop-core-preserved : goal.loop-core-preserved
loop-core-preserved g c =
    let cfg = config_data c.args.config.now in let core = c.loop-core.core in let plans = c.args.plans.now in
    let here : c.index-plans-core.result.entries.items ≡ c.deref.result.now = search rules in
    record {
      text =
          goes_past _ _ _ _ c.loop-core.invariant.text (g.K.Sink.taken c.write_plan.new.sink) _ _
          (packed_next cfg plans core c.index-plans-core.result (omega arith) c.index-plans-core.is
          ∙ ap (λ (e : List Region). packed_text cfg core e ++ cores_packed cfg (core + 1) (map entries_of (drop (core + 1) plans))) here)
          c.in_ok-write_plan.ensures.taken;
      faults = search rules;
    }

pub returns-clause-taken : goal.returns-clause-taken
returns-clause-taken g c =
    let all : length c.args.plans.now ≤ c.loop-core.core = omega arith in
    ends_whole _ _ _ _ c.loop-core.invariant.text (packed_none (config_data c.args.config.now) c.args.plans.now c.loop-core.core all)
