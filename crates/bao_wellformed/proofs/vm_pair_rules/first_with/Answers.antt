use Rattle.std.proofs.Common.{◌<◌, ◌∙◌, length, sym, arith}
use Rattle.bao_config.specs.Config.{config_data}
use Rattle.bao_config.specs.Data.{vm_data}
use Rattle.bao_config.specs.Fits.{VmFits}
use Rattle.bao_wellformed.proofs.Firsts.{found_here, found_later}
use Rattle.bao_wellformed.proofs.Fits.{viewed_fits}
use Rattle.bao_wellformed.proofs.vm_pair_rules.first_with.Goals as goal

pub first_break-found-requires-clause-other : goal.first_break-found-requires-clause-other
first_break-found-requires-clause-other g c =
    let low : c.loop-later.later < length c.args.config.now.vms.items = omega arith in
    viewed_fits VmFits vm_data c.args.config.now.vms.items c.loop-later.later c.index.result.now low c.index.ensures c.args.config.now.fits.vms.each

pub returns-then-is_some : goal.returns-then-is_some
returns-then-is_some g c =
    let low : c.loop-later.later < length c.args.config.now.vms.items = omega arith in
    found_here vm_data (g.R.VmPairRule.breaks (config_data c.args.config.now) c.args.place (vm_data c.args.vm.now)) c.args.config.now.vms.items
    c.loop-later.later c.loop-later.later c.index.result.now c.first_break-found.result low c.index.ensures c.first_break-found.ensures
    (sym c.is_some.ensures ∙ c.if-is_some.true) ∙ c.loop-later.invariant.rest

pub loop-later-preserved : goal.loop-later-preserved
loop-later-preserved g c =
    let low : c.loop-later.later < length c.args.config.now.vms.items = omega arith in
    record {
      low = omega arith;
      rest =
          found_later vm_data (g.R.VmPairRule.breaks (config_data c.args.config.now) c.args.place (vm_data c.args.vm.now)) c.args.config.now.vms.items
          c.loop-later.later c.loop-later.later c.index.result.now c.first_break-found.result low c.index.ensures c.first_break-found.ensures
          (sym c.is_some.ensures ∙ c.if-is_some.false) ∙ c.loop-later.invariant.rest;
    }
