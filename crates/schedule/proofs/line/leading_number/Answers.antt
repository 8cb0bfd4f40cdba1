use Rattle.std.proofs.Common.{◌≡◌, ◌+◌, ◌*◌, ◌^◌, ◌<◌, get_or, arith}
use Rattle.std.proofs.lemmas.Bool.Decides.{nat_tests}
use Rattle.schedule.proofs.Begins.{one_digit, one_more}
use Rattle.schedule.proofs.line.leading_number.Goals as goal

pub returns-then-n-eq0 : goal.returns-then-n-eq0
returns-then-n-eq0 c =
    let first : get_or c.args.text.now 0 0 ≡ 48 + 0 = grind (arith, nat_tests) in
    one_digit c.args.text.now 0 (omega (arith, c.in-len1-up.len_at_least)) first (omega arith)

pub loop-rest-init : goal.loop-rest-init
loop-rest-init c =
    let first : get_or c.args.text.now 0 0 ≡ 48 + c.from-n.result = grind (arith, nat_tests) in
    let low : c.from-n.result < 10 = grind (arith, nat_tests) in
    record {
      some = omega arith;
      begins = one_digit c.args.text.now c.from-n.result (omega (arith, c.in-len1-up.len_at_least)) first low;
    }

pub loop-rest-preserved : goal.loop-rest-preserved
loop-rest-preserved c =
    let first : get_or c.loop-rest.rest.now 0 0 ≡ 48 + c.from.result = grind (arith, nat_tests) in
    let low : c.from.result < 10 = grind (arith, nat_tests) in
    let value : c.in_ok-n.n ≡ c.loop-rest.n * 10 + c.from.result = omega (arith, c.in_ok-n.ensures.1, c.in_ok-checked_mul.ensures.1) in
    let fits : c.in_ok-n.n < 2 ^ 64 = omega (arith, c.in_ok-n.ensures.0, c.in_ok-n.ensures.1) in
    record {
      some = omega (arith, c.loop-rest.invariant.some);
      begins =
          one_more c.args.text.now c.loop-rest.rest.now c.loop-rest.n c.from.result c.in_ok-n.n c.loop-rest.invariant.begins
          (omega (arith, c.in-len1-up-rest.len_at_least)) c.loop-rest.invariant.some first low value fits;
    }
