use Rattle.std.proofs.Common.{◌^◌, ◌<◌, ◌∙◌, List, All, subst, sym}
use Rattle.bao_types.specs.ByteRange.{end}
use Rattle.bao_config.specs.Config.{config_data}
use Rattle.bao_config.specs.Data.{vm_data}
use Rattle.bao_wellformed.specs.declared.map.MapEntry.{MapEntry}
use Rattle.bao_wellformed.proofs.Fits.{map_ends}
use Rattle.bao_wellformed.proofs.byte_rules.PlaceIsRamVmRule.first_break.Goals as goal

pub least_lacking-requires-clause-entries : goal.least_lacking-requires-clause-entries
least_lacking-requires-clause-entries c =
    subst (λ (entries : List MapEntry). All (λ entry. end entry.range < 2 ^ 64) entries) (sym (c.as_slice.ensures.value ∙ c.map_of-entries.ensures))
    (map_ends (config_data c.args.config.now) (vm_data c.args.vm.now) c.args.config.now.fits c.requires)
