use Rattle.std.proofs.Common.{◌^◌, ◌<◌, ◌∙◌, List, All, subst, sym}
use Rattle.bao_types.specs.ByteRange.{end}
use Rattle.bao_config.specs.Config.{config_data}
use Rattle.bao_config.specs.Data.{vm_data}
use Rattle.bao_wellformed.specs.declared.map.MapEntry.{MapEntry}
use Rattle.bao_wellformed.proofs.Fits.{map_ends}
use Rattle.bao_wellformed.proofs.byte_rules.MapsApartVmPairRule.first_break.Goals as goal

pub least_clash-requires-clause-ones : goal.least_clash-requires-clause-ones
least_clash-requires-clause-ones c =
    subst (λ (entries : List MapEntry). All (λ entry. end entry.range < 2 ^ 64) entries) (sym (c.as_slice.ensures.value ∙ c.map_of-ones.ensures))
    (map_ends (config_data c.args.config.now) (vm_data c.args.vm.now) c.args.config.now.fits c.requires.vm)

pub least_clash-requires-clause-others : goal.least_clash-requires-clause-others
least_clash-requires-clause-others c =
    subst (λ (entries : List MapEntry). All (λ entry. end entry.range < 2 ^ 64) entries) (sym (c.as_slice-2.ensures.value ∙ c.map_of-others.ensures))
    (map_ends (config_data c.args.config.now) (vm_data c.args.other.now) c.args.config.now.fits c.requires.other)
