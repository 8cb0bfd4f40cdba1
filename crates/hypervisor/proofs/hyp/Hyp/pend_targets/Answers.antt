use Rattle.std.proofs.Common.{◌≡◌, ◌+◌, length, refl, ap, sym, subst, ◌∙◌, rules}
use Rattle.std.specs.Prelude.{Some}
use Rattle.std.proofs.lemmas.Option.{slice_get_within}
use Rattle.bao_config.specs.Config.{config_data}
use Rattle.bao_config.specs.Data.{VmData, vm_data}
use Rattle.hypervisor.proofs.Seats.{has_own, has_table, on_board}
use Rattle.hypervisor.proofs.Targets.{IsSentBelow, sent_all, sent_next, sent_none, sent_skip, sent_tidy}
use Rattle.hypervisor.proofs.hyp.Hyp.pend_targets.Goals as goal
use Rattle.hypervisor.proofs.hyp.Hyp.pend_targets.Goals.{then-is_target, else-is_target}

pub loop-core-init : goal.loop-core-init
loop-core-init g c =
    sent_none (config_data c.args.config.now) c.args.seat.vm c.args.seat.own c.args.value c.args.self.now (g.B.Board.state c.args.board.now)
    c.requires.tidy

pub seat_at-requires-clause-vm : goal.seat_at-requires-clause-vm
seat_at-requires-clause-vm g c =
    slice_get_within (config_data c.args.config.now).vms c.args.seat.vm c.requires.seat.vm c.requires.seat.place

pub pend-requires-clause-core : goal.pend-requires-clause-core
pend-requires-clause-core g c =
    let cfg = config_data c.args.config.now in let mid = c.loop-core.self in let between = g.B.Board.state c.loop-core.board in
    on_board cfg mid between c.requires.well_formed
    (sent_tidy cfg c.args.seat.vm c.args.seat.own c.args.value c.args.self.now (g.B.Board.state c.args.board.now) c.requires.tidy
    c.loop-core.core mid between c.loop-core.invariant) c.seat_at.result c.seat_at.ensures.seat

pub pend-requires-clause-vm : goal.pend-requires-clause-vm
pend-requires-clause-vm g c =
    let cfg = config_data c.args.config.now in let mid = c.loop-core.self in let between = g.B.Board.state c.loop-core.board in
    has_table cfg mid between c.requires.well_formed
    (sent_tidy cfg c.args.seat.vm c.args.seat.own c.args.value c.args.self.now (g.B.Board.state c.args.board.now) c.requires.tidy
    c.loop-core.core mid between c.loop-core.invariant) c.seat_at.result c.seat_at.ensures.seat

pub pend-requires-clause-own : goal.pend-requires-clause-own
pend-requires-clause-own g c =
    let cfg = config_data c.args.config.now in let mid = c.loop-core.self in let between = g.B.Board.state c.loop-core.board in
    has_own cfg mid between c.requires.well_formed
    (sent_tidy cfg c.args.seat.vm c.args.seat.own c.args.value c.args.self.now (g.B.Board.state c.args.board.now) c.requires.tidy
    c.loop-core.core mid between c.loop-core.invariant) c.seat_at.result c.seat_at.ensures.seat

pub loop-core-preserved : goal.loop-core-preserved
loop-core-preserved g c =
    let cfg = config_data c.args.config.now in let old = c.args.self.now in let m = g.B.Board.state c.args.board.now in
    let n = c.loop-core.core in let mid = c.loop-core.self in let between = g.B.Board.state c.loop-core.board in
    let v = c.args.seat.vm in let own = c.args.seat.own in
    elim c.if-is_target.branch [
      | then-is_target w ↦
          subst (λ h. IsSentBelow cfg v own c.args.value old m (n + 1) h (g.B.Board.state c.if-is_target.board)) (sym w.self-is)
          (subst (λ b. IsSentBelow cfg v own c.args.value old m (n + 1) w.pend.new.self (g.B.Board.state b)) (sym w.board-is)
          (sent_next cfg v own c.args.value old m c.requires.tidy n mid between c.loop-core.invariant c.requires.well_formed
          c.args.config.now.fits (sym c.is_target.ensures ∙ w.if-is_target.true) w.seat_at.result w.seat_at.ensures.seat w.seat_at.ensures.vm
          w.seat_at.ensures.own c.sent_id-id.result c.sent_id-id.ensures.value c.sent_id-id.ensures.bound w.pend.new.self
          (g.B.Board.state w.pend.new.board) w.pend.ensures.state w.pend.ensures.powers w.pend.ensures.tables))
      | else-is_target w ↦
          subst (λ h. IsSentBelow cfg v own c.args.value old m (n + 1) h (g.B.Board.state c.if-is_target.board)) (sym w.self-is)
          (subst (λ b. IsSentBelow cfg v own c.args.value old m (n + 1) mid (g.B.Board.state b)) (sym w.board-is)
          (sent_skip cfg v own c.args.value old m c.requires.tidy n mid between c.loop-core.invariant
          (sym c.is_target.ensures ∙ w.if-is_target.false)))
    ]

pub returns : goal.returns
returns g c =
    let cfg = config_data c.args.config.now in let is = c.requires.seat in
    let same : Some (vm_data c.vm_at.result.now) ≡ Some is.vm = sym c.vm_at.ensures ∙ is.place in
    let vm : vm_data c.vm_at.result.now ≡ is.vm = cc in
    let all : c.loop-core.core ≡ length (vm_data c.vm_at.result.now).cores = search rules in
    sent_all cfg c.args.seat.vm c.args.seat.own c.args.value c.args.self.now (g.B.Board.state c.args.board.now) c.requires.tidy
    c.requires.well_formed c.args.seat is refl c.loop-core.core (all ∙ ap (λ (vm : VmData). length vm.cores) vm) c.loop-core.self
    (g.B.Board.state c.loop-core.board) c.loop-core.invariant
