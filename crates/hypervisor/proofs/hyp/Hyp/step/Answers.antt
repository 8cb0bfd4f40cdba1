use Rattle.std.proofs.Common.{◌≡◌, sym, subst, ◌∙◌, rules, refl}
use Rattle.std.specs.Prelude.{true}
use Rattle.bao_config.specs.Config.{config_data}
use Rattle.vm_model.specs.Flat.{runs}
use Rattle.hypervisor.specs.Hyp.{stands_for}
use Rattle.hypervisor.specs.Seat.{IsSeatOf}
use Rattle.hypervisor.specs.Taken.{IsStepped}
use Rattle.hypervisor.proofs.Settled.{entered_id, entered_tidy, not_on, not_owned, owned_on, runs_on, waits}
use Rattle.hypervisor.proofs.hyp.Hyp.step.Goals as goal

pub returns-in_default : goal.returns-in_default
returns-in_default g c =
    let cfg = config_data c.args.config.now in let old = c.args.self.now in let m = g.B.Board.state c.args.board.now in
    record { after = waits cfg old m c.args.core c.args.count (not_owned cfg old m c.args.core (search rules)) }

pub returns-then-not-is_on : goal.returns-then-not-is_on
returns-then-not-is_on g c =
    let cfg = config_data c.args.config.now in let old = c.args.self.now in let m = g.B.Board.state c.args.board.now in
    record { after = waits cfg old m c.args.core c.args.count (not_on cfg old m c.args.core (sym c.is_on.ensures ∙ c.if-not-is_on.true)) }

pub settle-requires-clause-tidy : goal.settle-requires-clause-tidy
settle-requires-clause-tidy g c =
    let cfg = config_data c.args.config.now in let seat = c.in-Some.ensures.seat in
    entered_tidy cfg
    (record { old = c.args.self.now; new = c.enter-exit.new.self; before = g.B.Board.state c.args.board.now; after = g.B.Board.state c.enter-exit.new.board })
    c.in-Some.seat.core c.args.count c.enter-exit.result c.enter-exit.ensures c.requires.well_formed c.args.config.now.fits c.in-Some.seat refl
    (subst (λ n. IsSeatOf cfg n c.in-Some.seat) (sym seat.core) seat)

pub settle-requires-clause-seat : goal.settle-requires-clause-seat
settle-requires-clause-seat g c =
    let cfg = config_data c.args.config.now in let seat = c.in-Some.ensures.seat in
    subst (λ n. IsSeatOf cfg n c.in-Some.seat) (sym seat.core) seat

pub settle-requires-clause-id : goal.settle-requires-clause-id
settle-requires-clause-id g c =
    entered_id (config_data c.args.config.now)
    (record { old = c.args.self.now; new = c.enter-exit.new.self; before = g.B.Board.state c.args.board.now; after = g.B.Board.state c.enter-exit.new.board })
    c.in-Some.seat.core c.args.count c.enter-exit.result c.enter-exit.ensures

pub returns : goal.returns
returns g c =
    let cfg = config_data c.args.config.now in let old = c.args.self.now in let m = g.B.Board.state c.args.board.now in
    let mid = c.enter-exit.new.self in let new = c.settle.new.self in
    let between = g.B.Board.state c.enter-exit.new.board in let after = g.B.Board.state c.settle.new.board in
    let here = c.in-Some.ensures.seat.core in
    record {
      after = subst (λ n. IsStepped cfg (record { old = old; new = new; before = m; after = after }) n c.args.count) here
          (runs_on cfg old mid new m between after c.in-Some.seat.core c.args.count c.enter-exit.result
          (subst (λ n. runs cfg (stands_for cfg old m) n ≡ true) (sym here)
          (owned_on cfg old m c.args.core (sym c.in-Some.ensures.there) (sym c.is_on.ensures ∙ c.if-not-is_on.false)))
          c.enter-exit.ensures c.settle.ensures);
    }
