-- What a contract sees of a `Config`.
use Rattle.std.specs.Prelude.{map}
use Rattle.bao_config.specs.declared.config.Config.{Config}
use Rattle.bao_config.specs.Data.{ConfigData, platform_data, vm_data}

abbrev pub config_data : Config → ConfigData
config_data config =
    record {
      version = config.version;
      platform = platform_data config.platform;
      hyp = config.hyp;
      shmems = config.shmems.items;
      vms = map vm_data config.vms.items;
    }
