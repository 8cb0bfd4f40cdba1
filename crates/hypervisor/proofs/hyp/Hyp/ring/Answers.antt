use Rattle.std.proofs.Common.{◌+◌, ◌≤◌, length, sym, subst, ◌∙◌, rules}
use Rattle.std.proofs.lemmas.List.{length-map}
use Rattle.bao_config.specs.Config.{config_data}
use Rattle.bao_config.specs.Data.{vm_data}
use Rattle.hypervisor.proofs.Left.{IsRung, rung_all, rung_next, rung_none, rung_skip, rung_tidy}
use Rattle.hypervisor.proofs.hyp.Hyp.ring.Goals as goal
use Rattle.hypervisor.proofs.hyp.Hyp.ring.Goals.{then-is_member, else-is_member}

pub loop-vm-init : goal.loop-vm-init
loop-vm-init g c =
    rung_none (config_data c.args.config.now) c.args.caller c.args.shmem c.args.event c.args.self.now (g.B.Board.state c.args.board.now)
    c.requires.tidy

pub hear-requires-clause-tidy : goal.hear-requires-clause-tidy
hear-requires-clause-tidy g c =
    rung_tidy (config_data c.args.config.now) c.args.caller c.args.shmem c.args.event c.args.self.now (g.B.Board.state c.args.board.now)
    c.loop-vm.vm c.loop-vm.self (g.B.Board.state c.loop-vm.board) c.requires.tidy c.loop-vm.invariant

pub loop-vm-preserved : goal.loop-vm-preserved
loop-vm-preserved g c =
    let cfg = config_data c.args.config.now in let old = c.args.self.now in let m = g.B.Board.state c.args.board.now in
    let n = c.loop-vm.vm in let mid = c.loop-vm.self in let between = g.B.Board.state c.loop-vm.board in
    elim c.if-is_member.branch [
      | then-is_member w ↦
          subst (λ h. IsRung cfg c.args.caller c.args.shmem c.args.event old m (n + 1) h (g.B.Board.state c.if-is_member.board)) (sym w.self-is)
          (subst (λ b. IsRung cfg c.args.caller c.args.shmem c.args.event old m (n + 1) w.hear.new.self (g.B.Board.state b)) (sym w.board-is)
          (rung_next cfg c.args.caller c.args.shmem c.args.event old m n mid w.hear.new.self between (g.B.Board.state w.hear.new.board)
          c.loop-vm.invariant (sym c.is_member.ensures ∙ w.if-is_member.true) w.hear.ensures))
      | else-is_member w ↦
          subst (λ h. IsRung cfg c.args.caller c.args.shmem c.args.event old m (n + 1) h (g.B.Board.state c.if-is_member.board)) (sym w.self-is)
          (subst (λ b. IsRung cfg c.args.caller c.args.shmem c.args.event old m (n + 1) mid (g.B.Board.state b)) (sym w.board-is)
          (rung_skip cfg c.args.caller c.args.shmem c.args.event old m n mid between c.loop-vm.invariant
          (sym c.is_member.ensures ∙ w.if-is_member.false)))
    ]

pub returns : goal.returns
returns g c =
    let cfg = config_data c.args.config.now in
    let count = length-map c.args.config.now.vms.items vm_data in
    let all : length cfg.vms ≤ c.loop-vm.vm = search rules in
    rung_all cfg c.args.caller c.args.shmem c.args.event c.args.self.now (g.B.Board.state c.args.board.now) c.loop-vm.vm c.loop-vm.self
    (g.B.Board.state c.loop-vm.board) all c.loop-vm.invariant
