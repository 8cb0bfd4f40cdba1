use Rattle.bao_config.specs.Config.{config_data}
use Rattle.shared_windows.specs.Windows.{is_member}
use Rattle.shared_windows.proofs.Masks.{IsMask}
use Rattle.shared_windows.proofs.windows.members.Given as goal

abbrev pub invariant-loop-v : goal.invariant-loop-v
invariant-loop-v l = IsMask (is_member (config_data l.config) l.shmem l.caller) l.v l.mask
