use Rattle.std.proofs.Common.{◌≡◌, drop}
use Rattle.std.specs.List.{find}
use Rattle.a64_sysreg.specs.Table.{row, register_of}
use Rattle.a64_sysreg.proofs.register.register_of.Given as goal

abbrev pub invariant-loop-register : goal.invariant-loop-register
invariant-loop-register l =
    find (λ register. (row register).number l.id) (drop l.register-index l.register-items) ≡ register_of l.id
