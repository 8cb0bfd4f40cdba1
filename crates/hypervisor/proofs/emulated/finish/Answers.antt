use Rattle.std.proofs.Common.{◌*◌, ◌∙◌, sym, ap}
use Rattle.std.specs.Prelude.{if◌then◌else◌}
use Rattle.a64_state.specs.Registers.{reset_core, with_x}
use Rattle.a64_decode.specs.Operands.{loaded}
use Rattle.a64_execute.specs.Branch.{advanced}
use Rattle.board.specs.Machine.{core_at, with_core}
use Rattle.hypervisor.specs.Taken.{with_cores}
use Rattle.hypervisor.proofs.Calls.{set_twice}
use Rattle.hypervisor.proofs.emulated.finish.Goals as goal

pub returns : goal.returns
returns g c =
    let m = g.B.Board.state c.args.board.now in let core = c.args.core in let access = c.args.access in
    let whole = loaded access.signed access.wide (8 * access.width) c.args.value in
    c.skip-2.ensures ∙ ap (λ s. with_core s core (advanced (core_at s.cores core))) c.set_register.ensures
    ∙ ap (λ v. with_core (with_core m core (with_x (core_at m.cores core) access.register v)) core
    (advanced (core_at (with_core m core (with_x (core_at m.cores core) access.register v)).cores core))) c.loaded-whole.ensures
    ∙ ap (with_cores m) (set_twice m.cores core (reset_core 0) (λ x. with_x x access.register whole) advanced)
    ∙ sym
    (ap
    (λ b. with_core m core
    (if b then advanced (core_at m.cores core) else advanced (with_x (core_at m.cores core) access.register whole))) c.if-access.false)
