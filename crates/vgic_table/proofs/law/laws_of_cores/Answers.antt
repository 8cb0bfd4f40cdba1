use Rattle.vgic_table.specs.declared.id_state.IdState.{IdState}
use Rattle.std.proofs.Common.{true, false}
use Rattle.vgic_table.proofs.CoresLemmas.{all_free, core-acknowledges, core-changes, core-collects, core-ends, core-refills, shared-change}
use Rattle.vgic_table.proofs.law.laws_of_cores.Goals as goal

pub returns-clause-acknowledge : goal.returns-clause-acknowledge
returns-clause-acknowledge c vm all core iface is listed = core-acknowledges vm all core is iface listed

pub returns-clause-end : goal.returns-clause-end
returns-clause-end c vm all core id is owned = core-ends vm all core is id owned

pub returns-clause-collect : goal.returns-clause-collect
returns-clause-collect c vm all core is = core-collects vm all core is

pub returns-clause-refill : goal.returns-clause-refill
returns-clause-refill c vm all core is = core-refills vm all core is

pub returns-clause-pend : goal.returns-clause-pend
returns-clause-pend c vm all core id is within owned none = core-changes vm all core is id (λ state. record state { pending = true }) within owned none

pub returns-clause-drop : goal.returns-clause-drop
returns-clause-drop c vm all core id is within owned none = core-changes vm all core is id (λ state. record state { active = false }) within owned none

pub returns-clause-free : goal.returns-clause-free
returns-clause-free c vm count = let both = all_free count 0 vm in record { same = both.0; tidy = both.1 }

pub returns-clause-shared : goal.returns-clause-shared
returns-clause-shared c vm core id shared = (
  shared-change vm core id (λ (state : IdState). record state { pending = true }) shared,
  shared-change vm core id (λ (state : IdState). record state { active = false }) shared,
)
