use Rattle.std.proofs.Common.{arith, rules}
use Rattle.a64_asm.proofs.Hex.{hex_push}
use Rattle.a64_asm.proofs.write.+push_hex.Goals as goal

pub returns : goal.returns
returns t c =
    hex_push c.args.out.now.items c.push_hex.new.out.items c.push.new.self.items c.args.digits c.args.number c.hex_digit.result
    (omega arith) (search rules) (search rules) (search rules)
