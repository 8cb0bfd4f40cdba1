use Rattle.std.proofs.Common.{◌<◌, refl, sym, subst}
use Rattle.vgic_table.specs.Interrupts.{place}
use Rattle.vgic_table.proofs.StateLemmas.{place-within}
use Rattle.vgic_table.proofs.PendedLemmas.{made_pending-at, pended-both, pended-none, pended-same, shaped-pended}
use Rattle.vgic_table.proofs.law.laws_of_pending.Goals as goal

pub returns-clause-one : goal.returns-clause-one
returns-clause-one c vm core id below within shaped =
    made_pending-at vm core id (subst (λ n. place core id < n) (sym shaped) (place-within core id below within))

pub returns-clause-both : goal.returns-clause-both
returns-clause-both c = pended-both

pub returns-clause-same : goal.returns-clause-same
returns-clause-same c = pended-same

pub returns-clause-none : goal.returns-clause-none
returns-clause-none c vm = pended-none vm _ (λ p. refl)

pub returns-clause-shaped : goal.returns-clause-shaped
returns-clause-shaped c = shaped-pended
