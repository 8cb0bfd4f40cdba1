use Rattle.std.proofs.Common.{◌<◌, length, refl, ap, sym, subst, ◌∙◌}
use Rattle.std.specs.Prelude.{slice_set}
use Rattle.std.proofs.lemmas.Option.{slice_get_within}
use Rattle.bao_config.specs.Config.{config_data}
use Rattle.vgic_table.specs.Interrupts.{tables_of}
use Rattle.vgic_emul.specs.Registers.{after, answer}
use Rattle.hypervisor.specs.Access.{access_of}
use Rattle.hypervisor.specs.Hyp.{HypData}
use Rattle.hypervisor.specs.Taken.{guests_of}
use Rattle.hypervisor.proofs.Answered.{left_answered}
use Rattle.hypervisor.proofs.Left.{left_tidy}
use Rattle.hypervisor.proofs.Seats.{has_table, on_board}
use Rattle.hypervisor.proofs.hyp.Hyp.answer_access.Goals as goal

pub stored_value-write-requires-clause-core : goal.stored_value-write-requires-clause-core
stored_value-write-requires-clause-core g c =
    let cfg = config_data c.args.config.now in let old = c.args.self.now in let m = g.B.Board.state c.args.board.now in
    let mid = c.take_all_back.new.self in let between = g.B.Board.state c.take_all_back.new.board in
    on_board cfg mid between c.requires.well_formed
    (left_tidy cfg old mid m between (guests_of cfg old m) c.requires.tidy c.take_all_back.ensures.left refl) c.args.seat c.requires.seat

pub emulate_at-value-requires-clause-vm : goal.emulate_at-value-requires-clause-vm
emulate_at-value-requires-clause-vm g c =
    let cfg = config_data c.args.config.now in let old = c.args.self.now in let m = g.B.Board.state c.args.board.now in
    let mid = c.take_all_back.new.self in let between = g.B.Board.state c.take_all_back.new.board in
    subst (λ (hyp : HypData). c.args.seat.vm < length hyp.tables) (sym c.self.view_is)
    (has_table cfg mid between c.requires.well_formed
    (left_tidy cfg old mid m between (guests_of cfg old m) c.requires.tidy c.take_all_back.ensures.left refl) c.args.seat c.requires.seat)

pub finish-requires-clause-core : goal.finish-requires-clause-core
finish-requires-clause-core g c =
    let cfg = config_data c.args.config.now in let old = c.args.self.now in let m = g.B.Board.state c.args.board.now in
    let mid = c.take_all_back.new.self in let between = g.B.Board.state c.take_all_back.new.board in
    on_board cfg mid between c.requires.well_formed
    (left_tidy cfg old mid m between (guests_of cfg old m) c.requires.tidy c.take_all_back.ensures.left refl) c.args.seat c.requires.seat

pub returns : goal.returns
returns g c =
    let cfg = config_data c.args.config.now in let old = c.args.self.now in let m = g.B.Board.state c.args.board.now in
    let mid = c.take_all_back.new.self in let between = g.B.Board.state c.take_all_back.new.board in
    let v = c.args.seat.vm in let access = c.args.access in let write = c.stored_value-write.result in
    left_answered cfg old mid m between v (slice_get_within cfg.vms v c.requires.seat.vm c.requires.seat.place)
    c.take_all_back.ensures.left c.take_all_back.ensures.free (access_of access) c.args.seat.core write
    c.stored_value-write.ensures _ (g.B.Board.state c.finish.new.board) c.emulate_at-value.result
    (ap (λ (hyp : HypData). hyp.powers) c.self.view_is)
    (c.emulate_at-value.ensures.tables
    ∙ ap (λ (hyp : HypData). slice_set hyp.tables v (after (tables_of hyp.tables v) access.place access.width write)) c.self.view_is)
    (c.emulate_at-value.ensures.value
    ∙ ap (λ (hyp : HypData). answer (tables_of hyp.tables v) access.place access.width write) c.self.view_is)
    c.finish.ensures
