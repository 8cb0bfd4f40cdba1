-- The offsets of branches are small, and accesses have bytes.
use Rattle.std.proofs.Common.{ℕ, ◌<◌, ◌^◌, inl, inr, arith}
use Rattle.a64_decode.specs.Lawful.{IsSigned}
use Rattle.a64_asm.specs.Number.{IsOffset}
use Rattle.a64_decode.specs.Access.{scale_of}
use Rattle.a64_decode.specs.declared.operand.Size.{Size}
use Rattle.a64_decode.specs.declared.operand.Size.TheVariants as size

pub of_26 : (offset : ℕ) → IsSigned 26 offset → IsOffset offset
of_26 offset (inl low) = inl (omega arith)
of_26 offset (inr high) = inr (omega arith, omega arith)

pub of_19 : (offset : ℕ) → IsSigned 19 offset → IsOffset offset
of_19 offset (inl low) = inl (omega arith)
of_19 offset (inr high) = inr (omega arith, omega arith)

-- an access has one byte or more
pub some_width : (size : Size) → 0 < 2 ^ scale_of size
some_width size.Byte = omega arith
some_width size.Half = omega arith
some_width size.Word = omega arith
some_width size.Double = omega arith
