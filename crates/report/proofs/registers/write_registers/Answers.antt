use Rattle.std.proofs.Common.{◌≡◌, ap, ◌∙◌, rules}
use Rattle.std.specs.Prelude.{IsErr, codes}
use Rattle.std.proofs.lemmas.Result.{MatchResult-from_err}
use Rattle.outside.specs.Sink.{grown}
use Rattle.outside.proofs.Puts.{part_first, part_second}
use Rattle.report.specs.Lines.{register_line}
use Rattle.report.specs.Registers.{registers_text}
use Rattle.report.proofs.Progress.{takes_behind}
use Rattle.report.proofs.registers.write_registers.Goals as goal

pub returns-in_err-write_nonzero-clause-taken : goal.returns-in_err-write_nonzero-clause-taken
unfolding registers_text
returns-in_err-write_nonzero-clause-taken g c =
    let wide : c.from.result ≡ c.args.view.now.pstate = search rules in
    let second =
    c.in_ok-put_register-2.ensures.taken
    ∙ ap (λ n. grown (g.K.Sink.taken c.put_register.new.sink) (register_line (codes "pstate") 8 n)) wide in
    let failed : IsErr c.from_residual-in_err-write_nonzero.result = search rules in
    MatchResult-from_err c.from_residual-in_err-write_nonzero.result _ _ failed
    (λ _. part_second _ _ _ _ _ c.in_ok-put_register.ensures.taken
    (part_second _ _ _ _ _ second (part_first _ _ _ _ c.in_err-write_nonzero.ensures.taken)))

pub returns-in_err-write_general-clause-taken : goal.returns-in_err-write_general-clause-taken
unfolding registers_text
returns-in_err-write_general-clause-taken g c =
    let wide : c.from.result ≡ c.args.view.now.pstate = search rules in
    let second =
    c.in_ok-put_register-2.ensures.taken
    ∙ ap (λ n. grown (g.K.Sink.taken c.put_register.new.sink) (register_line (codes "pstate") 8 n)) wide in
    let failed : IsErr c.from_residual-in_err-write_general.result = search rules in
    MatchResult-from_err c.from_residual-in_err-write_general.result _ _ failed
    (λ _. part_second _ _ _ _ _ c.in_ok-put_register.ensures.taken
    (part_second _ _ _ _ _ second
    (part_second _ _ _ _ _ c.in_ok-write_nonzero.ensures.taken (part_first _ _ _ _ c.in_err-write_general.ensures.taken))))

pub returns-clause-taken : goal.returns-clause-taken
unfolding registers_text
returns-clause-taken g c =
    let wide : c.from.result ≡ c.args.view.now.pstate = search rules in
    let second =
    c.in_ok-put_register-2.ensures.taken
    ∙ ap (λ n. grown (g.K.Sink.taken c.put_register.new.sink) (register_line (codes "pstate") 8 n)) wide in
    let result = c.write_nonzero-2.result in
    takes_behind _ _ _ _ _ result c.in_ok-put_register.ensures.taken
    (takes_behind _ _ _ _ _ result second
    (takes_behind _ _ _ _ _ result c.in_ok-write_nonzero.ensures.taken
    (takes_behind _ _ _ _ _ result c.in_ok-write_general.ensures.taken c.write_nonzero-2.ensures.taken)))
