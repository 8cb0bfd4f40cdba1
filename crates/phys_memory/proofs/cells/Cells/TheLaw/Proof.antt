-- A `&` to the bytes reaches each of them.
use denote.Builtin.{u8}
use denote.Param.Shared.{copy_shared}
use denote.Struct.Laws.{field_copy}
use denote.Struct.Lending.{of_Lends}
use Rattle.core.specs.contracts.marker.PhantomData as marker
use Rattle.phys_memory.specs.contracts.cells.Cells as C
use Rattle.phys_memory.proofs.cells.Cells.TheLaw.Statement.{statement}
use Rattle.phys_memory.proofs.Sharing.{cells_lent_laws, Lends-cells}

pub shares : statement
shares = of_Lends C.struct (C.the_codes (marker.the_row u8).coded) C.the_heap C.the_lent
    (λ d p. cells_lent_laws d.at d.slots) (copy_shared (marker.the_field u8) (field_copy (marker.the_type u8) tt), tt)
    (λ M 𝓤 𝓛 d p. Lends-cells 𝓛 C.the_row.lives (λ a m. m) d.at d.slots)
