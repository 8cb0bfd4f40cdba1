-- The configuration of a generated workload breaks no rule.
use Rattle.std.proofs.Common.{ℕ, refl}
use Rattle.bao_wellformed.specs.WellFormed.{IsWellFormed, breaks}
use Rattle.schedule.specs.Workload.{config_of, workload_config}
use Rattle.schedule.proofs.Counts.{for_counts}

pub well_formed : (n : ℕ) → IsWellFormed (workload_config n)
unfolding breaks workload_config
well_formed = for_counts (λ count. IsWellFormed (config_of count)) refl refl refl
