use Rattle.std.proofs.Common.{sym, subst}
use Rattle.bao_config.specs.Config.{config_data}
use Rattle.hypervisor.specs.Taken.{IsEndOfId, IsSettled}
use Rattle.hypervisor.proofs.Settled.{settled_end}
use Rattle.hypervisor.proofs.hyp.Hyp.settle.Goals as goal

pub end-requires-clause-id : goal.end-requires-clause-id
end-requires-clause-id g c = subst IsEndOfId c.in-End.is c.requires.id

pub returns-in-End : goal.returns-in-End
returns-in-End g c =
    let cfg = config_data c.args.config.now in let old = c.args.self.now in let m = g.B.Board.state c.args.board.now in
    subst
    (λ e. IsSettled cfg c.args.seat.core e
    (record { old = old; new = c.end.new.self; before = m; after = g.B.Board.state c.end.new.board })) (sym c.in-End.is)
    (settled_end cfg c.args.seat.core c.in-End.id
    (record { old = old; new = c.end.new.self; before = m; after = g.B.Board.state c.end.new.board }) c.args.seat c.requires.seat
    c.end.ensures)

pub returns-in-Sync : goal.returns-in-Sync
returns-in-Sync g c =
    let cfg = config_data c.args.config.now in let old = c.args.self.now in let m = g.B.Board.state c.args.board.now in
    subst
    (λ e. IsSettled cfg c.args.seat.core e
    (record { old = old; new = c.leave.new.self; before = m; after = g.B.Board.state c.leave.new.board })) (sym c.in-Sync.is)
    c.leave.ensures
