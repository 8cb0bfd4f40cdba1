use Rattle.std.proofs.Common.{◌≡◌, ap, subst, ◌∙◌, rules}
use Rattle.std.specs.Prelude.{IsErr}
use Rattle.std.proofs.lemmas.Result.{MatchResult-from_err}
use Rattle.bao_config.specs.Config.{config_data}
use Rattle.bao_config.specs.Data.{vm_data}
use Rattle.bao_wellformed.specs.ByteRules.{kind_in}
use Rattle.bao_wellformed.specs.Map.{map_of}
use Rattle.outside.specs.Sink.{grown, Takes, TakesPart}
use Rattle.outside.proofs.Puts.{part_first, part_second}
use Rattle.board.specs.Ports.{outputs}
use Rattle.report.specs.Lines.{vm_line, end_line}
use Rattle.report.specs.Section.{vm_text, cores_text, consoles_text, memory_text, all_groups}
use Rattle.report.proofs.Progress.{takes_behind}
use Rattle.report.proofs.section.write_section.Goals as goal

pub returns-in_err-write_consoles-clause-taken : goal.returns-in_err-write_consoles-clause-taken
unfolding vm_text
returns-in_err-write_consoles-clause-taken g c =
    let name : c.as_bytes-name.result.now ≡ c.args.vm.now.name = c.as_bytes-name.ensures.value ∙ c.as_str.ensures in
    let cores : c.deref.result.now ≡ c.args.vm.now.cores.items = search rules in
    let devs : c.deref-2.result.now ≡ c.args.vm.now.devs.items = search rules in
    let m = g.B.Board.state c.args.board.now in
    let named = c.in_ok-put_vm.ensures.taken ∙ ap (λ n. grown (g.K.Sink.taken c.args.sink.now) (vm_line n)) name in
    let cored =
    c.in_ok-write_cores.ensures.taken
    ∙ ap (λ cs. grown (g.K.Sink.taken c.put_vm.new.sink) (cores_text c.args.hyp.now.powers m.cores 0 cs)) cores in
    let failed : IsErr c.from_residual-in_err-write_consoles.result = search rules in
    MatchResult-from_err c.from_residual-in_err-write_consoles.result _ _ failed
    (λ _. part_second _ _ _ _ _ named
    (part_second _ _ _ _ _ cored
    (part_first _ _ _ _
    (subst (λ ds. TakesPart (g.K.Sink.taken c.write_cores.new.sink) (g.K.Sink.taken c.write_consoles.new.sink)
    (consoles_text (outputs m.ports) ds)) devs
    c.in_err-write_consoles.ensures.taken))))

pub returns-in_err-write_memory-clause-taken : goal.returns-in_err-write_memory-clause-taken
unfolding vm_text
returns-in_err-write_memory-clause-taken g c =
    let name : c.as_bytes-name.result.now ≡ c.args.vm.now.name = c.as_bytes-name.ensures.value ∙ c.as_str.ensures in
    let cores : c.deref.result.now ≡ c.args.vm.now.cores.items = search rules in
    let devs : c.deref-2.result.now ≡ c.args.vm.now.devs.items = search rules in
    let entries : c.deref-3.result.now ≡ map_of (config_data c.args.config.now) (vm_data c.args.vm.now) = search rules in
    let m = g.B.Board.state c.args.board.now in
    let named = c.in_ok-put_vm.ensures.taken ∙ ap (λ n. grown (g.K.Sink.taken c.args.sink.now) (vm_line n)) name in
    let cored =
    c.in_ok-write_cores.ensures.taken
    ∙ ap (λ cs. grown (g.K.Sink.taken c.put_vm.new.sink) (cores_text c.args.hyp.now.powers m.cores 0 cs)) cores in
    let shown =
    c.in_ok-write_consoles.ensures.taken ∙ ap (λ ds. grown (g.K.Sink.taken c.write_cores.new.sink) (consoles_text (outputs m.ports) ds)) devs in
    let failed : IsErr c.from_residual-in_err-write_memory.result = search rules in
    MatchResult-from_err c.from_residual-in_err-write_memory.result _ _ failed
    (λ _. part_second _ _ _ _ _ named
    (part_second _ _ _ _ _ cored
    (part_second _ _ _ _ _ shown
    (part_first _ _ _ _
    (subst (λ es. TakesPart (g.K.Sink.taken c.write_consoles.new.sink) (g.K.Sink.taken c.write_memory.new.sink)
    (memory_text (kind_in es) m.bytes all_groups 0)) entries c.in_err-write_memory.ensures.taken)))))

pub returns-clause-taken : goal.returns-clause-taken
unfolding vm_text
returns-clause-taken g c =
    let name : c.as_bytes-name.result.now ≡ c.args.vm.now.name = c.as_bytes-name.ensures.value ∙ c.as_str.ensures in
    let cores : c.deref.result.now ≡ c.args.vm.now.cores.items = search rules in
    let devs : c.deref-2.result.now ≡ c.args.vm.now.devs.items = search rules in
    let entries : c.deref-3.result.now ≡ map_of (config_data c.args.config.now) (vm_data c.args.vm.now) = search rules in
    let m = g.B.Board.state c.args.board.now in
    let named = c.in_ok-put_vm.ensures.taken ∙ ap (λ n. grown (g.K.Sink.taken c.args.sink.now) (vm_line n)) name in
    let cored =
    c.in_ok-write_cores.ensures.taken
    ∙ ap (λ cs. grown (g.K.Sink.taken c.put_vm.new.sink) (cores_text c.args.hyp.now.powers m.cores 0 cs)) cores in
    let shown =
    c.in_ok-write_consoles.ensures.taken ∙ ap (λ ds. grown (g.K.Sink.taken c.write_cores.new.sink) (consoles_text (outputs m.ports) ds)) devs in
    let held =
    c.in_ok-write_memory.ensures.taken
    ∙ ap (λ es. grown (g.K.Sink.taken c.write_consoles.new.sink) (memory_text (kind_in es) m.bytes all_groups 0)) entries in
    let ended =
    subst (λ n. Takes (g.K.Sink.taken c.write_memory.new.sink) (g.K.Sink.taken c.put_end.new.sink) (end_line n) c.put_end.result) name
    c.put_end.ensures.taken in
    takes_behind _ _ _ _ _ c.put_end.result named
    (takes_behind _ _ _ _ _ c.put_end.result cored
    (takes_behind _ _ _ _ _ c.put_end.result shown (takes_behind _ _ _ _ _ c.put_end.result held ended)))
