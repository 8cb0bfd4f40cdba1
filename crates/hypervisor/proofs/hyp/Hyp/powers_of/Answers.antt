use Rattle.std.proofs.Common.{◌<◌, length-set, ap, ◌∙◌, arith, rules}
use Rattle.std.specs.Prelude.{unwrap_or}
use Rattle.hypercalls.specs.declared.power.Power.TheVariants.{Off}
use Rattle.hypervisor.proofs.Calls.{one_more_power}
use Rattle.hypervisor.proofs.hyp.Hyp.powers_of.Goals as goal

pub loop-number-preserved : goal.loop-number-preserved
loop-number-preserved c =
    let low : c.loop-number.number < 8 = search rules in
    let room = c.loop-number.invariant.room in
    record {
      powers = one_more_power c.args.vm.now.cores.items _ c.args.self.now.powers c.loop-number.own c.loop-number.number _ c.unwrap_or.result
          c.as_slice-core-items.ensures.value c.loop-number-test.true (omega (arith, low, room))
          (c.unwrap_or.ensures ∙ ap (λ o. unwrap_or o Off) c.power_of_core.ensures) c.loop-number.invariant.powers;
      room = length-set c.loop-number.own c.loop-number.number c.unwrap_or.result ∙ room;
    }
