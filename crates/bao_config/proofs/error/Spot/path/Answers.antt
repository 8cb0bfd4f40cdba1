use Rattle.std.proofs.Common.{rules, arith, length, get_or, length-append, ap, sym, refl, ◌∙◌}
use Rattle.std.proofs.lemmas.List.{drop_all, append-nil}
use Rattle.bao_config.specs.Path.{path_of}
use Rattle.bao_config.proofs.Paths.{one_more, length-path, HasBytePlaces}
use Rattle.bao_config.proofs.error.Spot.path.Goals as goal

pub loop-i-init : goal.loop-i-init
unfolding path_of
loop-i-init c = rw (c.new-path.ensures, c.as_bytes-pattern.ensures.value, c.pattern.ensures) refl

pub push_part-requires : goal.push_part-requires
push_part-requires c =
    let bytes = c.as_bytes-pattern.result.now in
    let byte = get_or bytes c.loop-i.i 0 in
    let more = sym (one_more c.args.self bytes c.loop-i.i 0 c.loop-i.path.items c.loop-i-test.true) ∙ c.loop-i.invariant in
    let places : HasBytePlaces c.args.self = record { i = search rules; j = search rules; k = search rules } in
    omega (arith, simp length-append at (ap length more), length-path c.args.self places)

pub loop-i-preserved : goal.loop-i-preserved
loop-i-preserved c =
    rw c.push_part.ensures (sym (one_more c.args.self c.as_bytes-pattern.result.now c.loop-i.i 0 c.loop-i.path.items c.loop-i-test.true) ∙ c.loop-i.invariant)

pub returns : goal.returns
returns c =
    rw (drop_all c.loop-i.i c.as_bytes-pattern.result.now c.loop-i-test.false, append-nil c.loop-i.path.items) at c.loop-i.invariant
