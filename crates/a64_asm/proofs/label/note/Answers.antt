use Rattle.std.proofs.Common.{◌≡◌, rules, ap, ◌∙◌, sym}
use Rattle.std.specs.Prelude.{None, Some}
use Rattle.std.specs.Option.{option_or}
use Rattle.std.specs.Cmp.Lexicographic.{slice_cmp}
use Rattle.std.specs.Ordering.{nat_cmp}
use Rattle.std.specs.BTreeMap.{UpdatesBy}
use Rattle.a64_asm.specs.Labels.{looked_up}
use Rattle.a64_asm.specs.Source.{label_of, definition_at}
use Rattle.a64_asm.proofs.Labelled.{added}
use Rattle.a64_asm.proofs.label.note.Goals as goal

pub returns : goal.returns
returns c = λ name.
    let absent : looked_up c.args.labels.now c.in-Some.name.now ≡ None = search rules in
    let updates : UpdatesBy (λ x y. slice_cmp nat_cmp x.now y.now) (λ key. slice_cmp nat_cmp c.in-Some.name.now key.now) c.args.labels.now c.insert.new.self (Some c.args.here) = search rules in
    let same : label_of c.args.line.now ≡ Some c.in-Some.name.now = search rules in
    added c.args.labels.now c.insert.new.self c.in-Some.name.now name c.args.here absent updates
    ∙ ap (λ l. option_or (looked_up c.args.labels.now name) (definition_at c.args.here l name)) (sym same)
