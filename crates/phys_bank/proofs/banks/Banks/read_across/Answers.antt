use Rattle.std.proofs.Common.{◌+◌, ◌-◌, ◌*◌, ◌∙◌, refl, arith}
use Rattle.phys_memory.proofs.Numbers.{below-more, below-word}
use Rattle.phys_bank.specs.Banks.{byte_at}
use Rattle.phys_bank.proofs.Kept.{number-more}
use Rattle.phys_bank.proofs.banks.Banks.read_across.Goals as goal

pub overflow_mul-value : goal.overflow_mul-value
overflow_mul-value c =
    let w = c.requires in let i = c.loop-k.invariant in let le = c.loop-k.auto.k in let n = c.args.width - c.loop-k.k in
    let big = below-word (c.loop-k.value * 256 + 0) (n + 1) (omega arith) (below-more c.loop-k.value 0 n (n + 1) refl i.1 (omega arith)) in
    record { fits = omega arith }

pub overflow_add-value : goal.overflow_add-value
overflow_add-value c =
    let w = c.requires in let i = c.loop-k.invariant in let le = c.loop-k.auto.k in let n = c.args.width - c.loop-k.k in
    record { fits = below-word (c.loop-k.value * 256 + c.from.result) (n + 1) (omega arith) (below-more c.loop-k.value c.from.result n (n + 1) refl i.1 (omega (arith, c.from.ensures, c.get.type_inv))) }

pub loop-k-preserved : goal.loop-k-preserved
loop-k-preserved c =
    let some = c.loop-k-test.true in let i = c.loop-k.invariant in let le = c.loop-k.auto.k in
    let at = c.args.at in let k = c.loop-k.k in let v = c.loop-k.value in let w = c.args.width in (
      number-more (byte_at c.args.self.now) at k w v c.from.result some (omega arith) (c.from.ensures ∙ c.get.ensures) i.0,
      below-more v c.from.result (w - k) (w - (k - 1)) (omega arith) i.1 (omega (arith, c.from.ensures, c.get.type_inv)),
    )
