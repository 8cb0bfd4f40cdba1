use Rattle.std.proofs.Common.{length, ◌-◌, ◌/◌, ap, arith, rules, length-append}
use Rattle.numerals.proofs.Hex.{length_hex}
use Rattle.text_lines.proofs.build.+push_hex.Goals as goal

pub push-requires : goal.push-requires
push-requires g t c = (
  search rules,
  omega (
    arith,
    simp length-append at (ap length c.push_hex.ensures.text),
    length_hex (c.args.digits - 1) (c.args.number / 16),
  ),
)
