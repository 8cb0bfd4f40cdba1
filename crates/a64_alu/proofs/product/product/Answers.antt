use Rattle.std.proofs.Common.{◌*◌, ◌∙◌, sym}
use Rattle.a64_alu.specs.Products.{product_of}
use Rattle.a64_alu.proofs.Bits.{sum_shorter}
use Rattle.a64_alu.proofs.Signs.{modulo_difference}
use Rattle.a64_alu.proofs.product.product.Goals as goal

pub returns-in-Madd : goal.returns-in-Madd
unfolding product_of
returns-in-Madd c =
    rw c.in-Madd.is
    (c.low.ensures.value ∙ sum_shorter c.args.a (c.args.n * c.args.m) c.args.width c.requires)

pub returns-in-Msub : goal.returns-in-Msub
unfolding product_of
returns-in-Msub c =
    rw c.in-Msub.is
    (c.low-in-Msub.ensures.value ∙ sym (modulo_difference c.args.width c.args.a (c.args.n * c.args.m) c.requires))
