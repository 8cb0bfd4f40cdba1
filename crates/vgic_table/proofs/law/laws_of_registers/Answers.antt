use Rattle.vgic_table.proofs.FillLemmas.{best-all, joined-all, tidy-all}
use Rattle.vgic_table.proofs.JoinedLemmas.{best-joined}
use Rattle.vgic_table.proofs.LawLemmas.{acknowledges, best-listed, ends, refills}
use Rattle.vgic_table.proofs.law.laws_of_registers.Goals as goal

pub returns-clause-fill : goal.returns-clause-fill
returns-clause-fill c vm core below shaped =
    record { same = joined-all core below 4 vm shaped; tidy = tidy-all core below 4 vm shaped; signals = best-all core below 3 vm shaped }

pub returns-clause-best : goal.returns-clause-best
returns-clause-best c vm core lists below shaped tidy = best-joined vm core lists below shaped tidy

pub returns-clause-listed : goal.returns-clause-listed
returns-clause-listed c vm core lists below shaped tidy listed = best-listed vm core below shaped lists tidy listed

pub returns-clause-acknowledge : goal.returns-clause-acknowledge
returns-clause-acknowledge c vm core iface lists below shaped tidy listed = acknowledges vm core below shaped lists tidy iface listed

pub returns-clause-end : goal.returns-clause-end
returns-clause-end c vm core id lists below shaped tidy = ends vm core below shaped lists tidy id

pub returns-clause-refill : goal.returns-clause-refill
returns-clause-refill c vm core lists below shaped tidy = refills vm core below shaped lists tidy
