use Rattle.schedule.proofs.WorkloadEvents.{lawful}
use Rattle.schedule.proofs.WorkloadFits.{workload_fits}
use Rattle.schedule.proofs.WorkloadRooms.{rooms}
use Rattle.schedule.proofs.WorkloadRules.{well_formed}
use Rattle.schedule.proofs.WorkloadRuns.{few_runs, packs}
use Rattle.schedule.proofs.law.laws_of_workloads.Goals as goal

pub returns-clause-well_formed : goal.returns-clause-well_formed
returns-clause-well_formed c = well_formed

pub returns-clause-fits : goal.returns-clause-fits
returns-clause-fits c = workload_fits

pub returns-clause-runs : goal.returns-clause-runs
returns-clause-runs c = few_runs

pub returns-clause-packs : goal.returns-clause-packs
returns-clause-packs c = packs

pub returns-clause-rooms : goal.returns-clause-rooms
returns-clause-rooms c = rooms

pub returns-clause-lawful : goal.returns-clause-lawful
returns-clause-lawful c = lawful
