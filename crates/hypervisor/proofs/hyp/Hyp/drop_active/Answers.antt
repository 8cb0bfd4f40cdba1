use Rattle.std.proofs.Common.{◌<◌, ap, sym, subst, ◌∙◌}
use Rattle.std.specs.Prelude.{slice_set}
use Rattle.vgic_table.specs.Changes.{made_inactive}
use Rattle.vgic_table.specs.Interrupts.{tables_of}
use Rattle.hypervisor.specs.Hyp.{HypData}
use Rattle.hypervisor.proofs.Back.{changed_back, own_back}
use Rattle.hypervisor.proofs.hyp.Hyp.drop_active.Goals as goal

pub drop_active-requires-clause-own : goal.drop_active-requires-clause-own
drop_active-requires-clause-own g c =
    let tables = c.args.self.now.tables in let seat = c.args.seat in
    subst (λ ts. seat.own < (tables_of ts seat.vm).cores)
    (sym (ap (λ (hyp : HypData). hyp.tables) c.self.view_is ∙ c.take_back.ensures.tables))
    (own_back tables (g.B.Board.state c.args.board.now).lists seat c.requires.vm c.requires.own)

pub returns-clause-tables : goal.returns-clause-tables
returns-clause-tables g c =
    let tables = c.args.self.now.tables in let seat = c.args.seat in
    c.drop_active.ensures
    ∙ ap (λ ts. slice_set ts seat.vm (made_inactive (tables_of ts seat.vm) seat.own c.args.id))
    (ap (λ (hyp : HypData). hyp.tables) c.self.view_is ∙ c.take_back.ensures.tables)
    ∙ changed_back tables (g.B.Board.state c.args.board.now).lists seat c.requires.vm (λ table. made_inactive table seat.own c.args.id)
