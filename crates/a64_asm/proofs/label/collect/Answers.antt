use Rattle.std.proofs.Common.{◌≡◌, arith, rules}
use Rattle.a64_asm.specs.Text.{Whole, Parts, cut_of}
use Rattle.a64_asm.proofs.Lines.{first_line}
use Rattle.a64_asm.proofs.Labelled.{goes_on, ended}
use Rattle.a64_asm.proofs.label.collect.Goals as goal

pub next-here-requires-clause-line : goal.next-here-requires-clause-line
next-here-requires-clause-line c =
    let cut : cut_of 10 c.loop-line.rest.now ≡ Parts c.in-Some.line.now c.in-Some.others.now = search rules in
    omega (arith, c.requires, c.loop-line.invariant.lines, (first_line c.loop-line.rest.now c.in-Some.line.now c.in-Some.others.now cut).fewer)

pub next-here-requires-clause-place : goal.next-here-requires-clause-place
next-here-requires-clause-place c =
    let cut : cut_of 10 c.loop-line.rest.now ≡ Parts c.in-Some.line.now c.in-Some.others.now = search rules in
    omega (arith, c.requires, c.loop-line.invariant.lines, c.loop-line.invariant.place, (first_line c.loop-line.rest.now c.in-Some.line.now c.in-Some.others.now cut).fewer)

pub loop-line-smaller : goal.loop-line-smaller
loop-line-smaller c =
    let cut : cut_of 10 c.loop-line.rest.now ≡ Parts c.in-Some.line.now c.in-Some.others.now = search rules in
    (first_line c.loop-line.rest.now c.in-Some.line.now c.in-Some.others.now cut).fewer

pub loop-line-preserved : goal.loop-line-preserved
loop-line-preserved c =
    let cut : cut_of 10 c.loop-line.rest.now ≡ Parts c.in-Some.line.now c.in-Some.others.now = search rules in
    rw c.next-here.ensures
    (goes_on c.args.text.now c.loop-line.labels c.note.new.labels c.loop-line.here c.loop-line.rest.now c.in-Some.line.now
    c.in-Some.others.now c.loop-line.invariant cut (λ name. search rules))

pub returns : goal.returns
returns c =
    let whole : cut_of 10 c.loop-line.rest.now ≡ Whole = search rules in
    ended c.args.text.now c.loop-line.labels c.loop-line.here c.loop-line.rest.now c.loop-line.invariant whole
