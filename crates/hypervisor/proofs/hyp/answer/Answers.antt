use Rattle.std.proofs.Common.{◌∙◌, sym, ap}
use Rattle.std.specs.Prelude.{Some}
use Rattle.a64_state.specs.Registers.{reset_core, with_x}
use Rattle.a64_execute.specs.Branch.{advanced}
use Rattle.board.specs.Machine.{core_at, with_core}
use Rattle.vm_model.specs.Duty.{answered}
use Rattle.hypervisor.specs.Taken.{with_cores}
use Rattle.hypervisor.proofs.Calls.{set_twice}
use Rattle.hypervisor.proofs.hyp.answer.Goals as goal

pub returns-then-smc : goal.returns-then-smc
returns-then-smc g c =
    let m = g.B.Board.state c.args.board.now in let core = c.args.core in let value = c.in-Some.value in
    c.skip.ensures ∙ ap (λ s. with_core s core (advanced (core_at s.cores core))) c.set_gpr.ensures
    ∙ ap (with_cores m) (set_twice m.cores core (reset_core 0) (λ x. with_x x 0 value) advanced)
    ∙ sym
    (ap (λ a. with_core m core (answered c.args.smc a (core_at m.cores core))) c.in-Some.is
    ∙ ap (λ b. with_core m core (answered b (Some value) (core_at m.cores core))) c.if-smc.true)
