-- A shape is that of the access that the word says.
use Rattle.std.specs.Prelude.{Bool, true, false, Some, None, if◌then◌else◌}
use Rattle.std.proofs.Common.{refl}
use Rattle.a64_state.specs.Core.{CoreData}
use Rattle.a64_decode.specs.Lawful.{is_prefetch}
use Rattle.a64_decode.specs.Access.{is_literal_prefetch, access_of}
use Rattle.a64_decode.specs.declared.access.MemAccess.{MemAccess}
use Rattle.a64_decode.specs.declared.instr.Instr.{Instr}
use Rattle.a64_decode.specs.declared.instr.Instr.TheVariants.{LoadLiteral, Pair, LoadStoreUnsigned, LoadStoreIndexed, LoadStoreRegister}
use Rattle.a64_address.specs.declared.shape.MemShape.{MemShape}
use Rattle.a64_address.specs.Shape.{IsShapeOf, Agree, memory_shape}

-- neither of a prefetch, or both
both_or_none : (prefetch : Bool) (access : MemAccess) (shape : MemShape) → IsShapeOf access shape
    → Agree (if prefetch then None else Some access) (if prefetch then None else Some shape)
both_or_none true access shape same = tt
both_or_none false access shape same = same

pub agree : (core : CoreData) (instr : Instr) → Agree (access_of instr) (memory_shape core instr)
unfolding access_of memory_shape
agree core (LoadLiteral kind offset rt) =
    both_or_none (is_literal_prefetch kind) _ _ (record { width = refl; store = refl; isv = refl })
agree core (Pair kind mode load offset rt2 rn rt) = record { width = refl; store = refl; isv = refl }
agree core (LoadStoreUnsigned size transfer imm12 rn rt) =
    both_or_none (is_prefetch size transfer) _ _ (record { width = refl; store = refl; isv = refl })
agree core (LoadStoreIndexed size transfer offset mode rn rt) =
    both_or_none (is_prefetch size transfer) _ _ (record { width = refl; store = refl; isv = refl })
agree core (LoadStoreRegister size transfer rm extend scaled rn rt) =
    both_or_none (is_prefetch size transfer) _ _ (record { width = refl; store = refl; isv = refl })
agree core _ = tt
