use Rattle.std.proofs.Common.{ap}
use Rattle.std.specs.List.{find}
use Rattle.a64_sysreg.specs.Table.{row, register_of}
use Rattle.a64_sysreg.proofs.register.register_of.Goals as goal

pub loop-register-init : goal.loop-register-init
unfolding register_of
loop-register-init c =
    ap (find (λ register. (row register).number c.args.id)) c.as_slice-register-items.ensures
