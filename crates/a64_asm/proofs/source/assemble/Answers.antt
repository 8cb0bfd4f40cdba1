use Rattle.std.proofs.Common.{◌≡◌, ℕ, List, arith, rules}
use Rattle.a64_asm.specs.Text.{Parts, cut_of}
use Rattle.a64_asm.specs.Labels.{looked_up}
use Rattle.a64_asm.specs.Source.{definitions}
use Rattle.a64_asm.specs.Progress.{TakesLine}
use Rattle.a64_asm.proofs.Lines.{first_line}
use Rattle.a64_asm.proofs.Assembling.{goes_on}
use Rattle.a64_asm.proofs.source.assemble.Goals as goal

pub take-requires-clause-line : goal.take-requires-clause-line
take-requires-clause-line c =
    let cut : cut_of 10 c.loop-line.rest.now ≡ Parts c.in-Some.line.now c.in-Some.others.now = search rules in
    omega (arith, c.requires, c.loop-line.invariant.lines, (first_line c.loop-line.rest.now c.in-Some.line.now c.in-Some.others.now cut).fewer)

pub take-requires-clause-place : goal.take-requires-clause-place
take-requires-clause-place c =
    let cut : cut_of 10 c.loop-line.rest.now ≡ Parts c.in-Some.line.now c.in-Some.others.now = search rules in
    omega (arith, c.requires, c.loop-line.invariant.lines, c.loop-line.invariant.place, (first_line c.loop-line.rest.now c.in-Some.line.now c.in-Some.others.now cut).fewer)

pub loop-line-smaller : goal.loop-line-smaller
loop-line-smaller c =
    let cut : cut_of 10 c.loop-line.rest.now ≡ Parts c.in-Some.line.now c.in-Some.others.now = search rules in
    (first_line c.loop-line.rest.now c.in-Some.line.now c.in-Some.others.now cut).fewer

pub loop-line-preserved : goal.loop-line-preserved
loop-line-preserved c =
    let cut : cut_of 10 c.loop-line.rest.now ≡ Parts c.in-Some.line.now c.in-Some.others.now = search rules in
    let takes : TakesLine (looked_up c.in_ok-labels.labels) c.loop-line.progress c.in-Some.line.now c.take.new.self = search rules in
    let same : (name : List ℕ) → looked_up c.in_ok-labels.labels name ≡ definitions c.args.text.now name = search rules in
    goes_on c.args.text.now c.loop-line.progress c.loop-line.rest.now c.in-Some.line.now c.in-Some.others.now c.loop-line.invariant cut
    (looked_up c.in_ok-labels.labels) c.take.new.self takes same
