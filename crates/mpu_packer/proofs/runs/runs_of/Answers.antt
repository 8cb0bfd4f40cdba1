use Rattle.std.proofs.Common.{◌≤◌, ℕ, IfOk, subst, sym, ap}
use Rattle.bao_types.specs.declared.access.Class.{Class}
use Rattle.bao_types.specs.declared.range.ByteRange.{ByteRange}
use Rattle.bao_types.specs.ByteRange.{address_space_end, end}
use Rattle.bao_config.specs.Data.{ConfigData}
use Rattle.bao_wellformed.specs.Checked.{checked_data}
use Rattle.bao_wellformed.proofs.Places.{hypervisor_in_space}
use Rattle.region_list.specs.Runs.{AreMaximalRuns}
use Rattle.mpu_packer.proofs.Owners.{laid_is}
use Rattle.mpu_packer.proofs.runs.runs_of.Goals as goal

pub insert-requires : goal.insert-requires
insert-requires c =
    subst (λ (range : ByteRange). end range ≤ address_space_end) (sym (ap (λ (cfg : ConfigData). cfg.hyp) c.config.ensures))
    (hypervisor_in_space (checked_data c.args.checked.now) c.args.checked.now.well_formed)

pub returns-clause-maximal : goal.returns-clause-maximal
returns-clause-maximal c =
    let same =
    laid_is (checked_data c.args.checked.now) c.args.core c.insert_guest.new.ranges c.insert.new.self c.config.result.now.hyp
    c.in_ok-insert.ensures.ok (ap (λ (cfg : ConfigData). cfg.hyp) c.config.ensures) c.in_ok-insert_guest.ensures in
    subst (λ (classes : ℕ → Class). IfOk c.runs.result (λ runs. AreMaximalRuns classes runs.items)) (λ i at. same at i) c.runs.ensures.maximal
