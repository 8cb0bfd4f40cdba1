use Rattle.std.proofs.Common.{arith, ◌≡◌, ◌<◌, ◌∙◌, ap, ◌%◌}
use Rattle.vgic_iface.specs.Rank.{no_rank, id_of}
use Rattle.vgic_table.specs.Interrupts.{best, state_of}
use Rattle.vgic_table.proofs.RankLemmas.{IsBest, best-found, register_for-is}
use Rattle.vgic_table.proofs.table.IrqTable.take_best.Goals as goal

pub place-requires-clause-id : goal.place-requires-clause-id
place-requires-clause-id c =
    let some : best c.args.self.now c.args.core < no_rank = omega (arith, c.best-best.ensures.value) in
    let is : IsBest c.args.self.now c.args.core (id_of (best c.args.self.now c.args.core)) (best c.args.self.now c.args.core) = best-found c.args.self.now c.args.core some in
    rw c.best-best.ensures.value is.within

pub priority-priority-requires-clause-id : goal.priority-priority-requires-clause-id
priority-priority-requires-clause-id c =
    let some : best c.args.self.now c.args.core < no_rank = omega (arith, c.best-best.ensures.value) in
    let is : IsBest c.args.self.now c.args.core (id_of (best c.args.self.now c.args.core)) (best c.args.self.now c.args.core) = best-found c.args.self.now c.args.core some in
    rw c.best-best.ensures.value is.within

pub returns-clause-list : goal.returns-clause-list
returns-clause-list c =
    let vm = c.args.self.now in
    let some : best vm c.args.core < no_rank = omega (arith, c.best-best.ensures.value) in
    let is : IsBest vm c.args.core (id_of (best vm c.args.core)) (best vm c.args.core) = best-found vm c.args.core some in
    let same_id : c.best-best.result % 128 ≡ id_of (best vm c.args.core) = ap id_of c.best-best.ensures.value in
    register_for-is (best vm c.args.core) (c.best-best.result % 128) c.priority-priority.result some same_id
    (c.priority-priority.ensures.value ∙ ap (λ n. (state_of vm c.args.core n).priority) same_id ∙ is.priority)
