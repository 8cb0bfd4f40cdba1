use Rattle.std.proofs.Common.{◌≡◌, ◌^◌, ◌<◌, true, length, get_or, Some, sym, ap, ◌∙◌, arith}
use Rattle.std.specs.List.{list_all}
use Rattle.std.specs.Char.{is_ascii_digit, digit_value}
use Rattle.std.specs.Str.Parse.{digits_value}
use Rattle.std.proofs.lemmas.List.{take_all}
use Rattle.std.proofs.lemmas.Bool.{and_left, and_right, and_from, lt-ltb, cond-true}
use Rattle.std.proofs.lemmas.Bool.Decides.{nat_tests}
use Rattle.std.proofs.lemmas.Int.Digits.{digits_value_more}
use Rattle.schedule.specs.Number.{is_numeral}
use Rattle.schedule.proofs.Digits.{no_numeral, too_large, list_all_more, list_all_fails}
use Rattle.schedule.proofs.number.digits.Goals as goal

pub returns-then-not-is_ascii_digit : goal.returns-then-not-is_ascii_digit
returns-then-not-is_ascii_digit c =
    let fails = list_all_fails is_ascii_digit c.args.text.now c.loop-b.b-index 0 c.loop-b-test.true (sym c.if-not-is_ascii_digit.ensures.value) in
    no_numeral c.args.text.now (and_right _ _ (and_left _ _ fails))

pub returns-in_err-checked_mul : goal.returns-in_err-checked_mul
returns-in_err-checked_mul c =
    c.from_residual.ensures
    ∙ no_numeral c.args.text.now
    (too_large _ _ c.loop-b-test.true (omega (arith, c.in_err-checked_mul.ensures, c.loop-b.invariant.value)))

pub returns-in_err-n : goal.returns-in_err-n
returns-in_err-n c =
    let digit : digit_value (get_or c.args.text.now c.loop-b.b-index 0) ≡ c.from.result = grind (arith, nat_tests) in
    c.from_residual-in_err-n.ensures
    ∙ no_numeral c.args.text.now
    (too_large _ _ c.loop-b-test.true
    (omega (arith, c.in_err-n.ensures, c.in_ok-checked_mul.ensures.1, c.loop-b.invariant.value)))

pub loop-b-preserved : goal.loop-b-preserved
loop-b-preserved c =
    let digit : digit_value (get_or c.args.text.now c.loop-b.b-index 0) ≡ c.from.result = grind (arith, nat_tests) in
    record {
      value =
          omega (
            arith,
            digits_value_more 10 c.args.text.now _ c.loop-b-test.true,
            c.in_ok-n.ensures.1,
            c.in_ok-checked_mul.ensures.1,
            c.loop-b.invariant.value,
          );
      digits =
          list_all_more is_ascii_digit _ _ 0 c.loop-b-test.true c.loop-b.invariant.digits (sym c.if-not-is_ascii_digit.ensures.value);
      low = omega (arith, c.in_ok-n.ensures.0, c.in_ok-n.ensures.1);
    }

pub returns : goal.returns
returns c =
    let text = c.args.text.now in
    let all = take_all c.loop-b.b-index text c.loop-b-test.false in
    let value : c.loop-b.n ≡ digits_value 10 text = c.loop-b.invariant.value ∙ ap (digits_value 10) all in
    let digits : list_all is_ascii_digit text ≡ true = sym (ap (list_all is_ascii_digit) all) ∙ c.loop-b.invariant.digits in
    let some : 0 < length text = grind (arith, nat_tests) in
    let numeral : is_numeral text ≡ true =
    and_from _ _ (lt-ltb _ _ some) (and_from _ _ digits (lt-ltb (digits_value 10 text) (2 ^ 64) (omega arith))) in
    ap Some value ∙ sym (cond-true _ _ _ numeral)
