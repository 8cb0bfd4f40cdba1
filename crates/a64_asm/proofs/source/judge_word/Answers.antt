use Rattle.std.proofs.Common.{◌≡◌, rules, Ok}
use Rattle.a64_asm.specs.Labels.{looked_up}
use Rattle.a64_asm.specs.Reading.{said_of}
use Rattle.a64_asm.proofs.Sayable.{sayable}
use Rattle.a64_asm.proofs.source.judge_word.Goals as goal

pub word_of-word-requires : goal.word_of-word-requires
word_of-word-requires c =
    let e : said_of (looked_up c.args.labels.now) c.args.place c.args.line.now ≡ Ok c.in-Ok.said = search rules in
    sayable (looked_up c.args.labels.now) c.args.place c.args.line.now c.in-Ok.said e
