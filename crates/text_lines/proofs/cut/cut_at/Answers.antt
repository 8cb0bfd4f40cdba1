use Rattle.std.proofs.Common.{ℕ, ◌==◌, length, drop, ap, ◌∙◌, arith, rules, drop-drop}
use Rattle.std.proofs.lemmas.List.Sums.{position_or_len_is}
use Rattle.text_lines.proofs.Cuts.{cut_first, whole}
use Rattle.text_lines.proofs.cut.cut_at.Goals as goal

pub returns-in-Some : goal.returns-in-Some
returns-in-Some c =
    let text = c.args.text.now in
    let found = position_or_len_is (λ (other : ℕ). other == c.args.byte) text c.in-Some.at 0 (search rules) (search rules) (search rules) in
    cut_first c.args.byte text c.split_at.result.0.now c.split_at-in-Some.result.1.now c.in-Some.at found (search rules)
    c.split_at.ensures.front
    (c.split_at-in-Some.ensures.back ∙ ap (drop 1) c.split_at.ensures.back ∙ drop-drop 1 c.in-Some.at text)

pub returns-in-None : goal.returns-in-None
returns-in-None c =
    let text = c.args.text.now in
    whole c.args.byte text
    (position_or_len_is (λ (other : ℕ). other == c.args.byte) text (length text) 0 (omega arith) (search rules) (search rules))
