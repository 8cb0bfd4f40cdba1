-- A `&` to a pointer of the directory reaches the page behind it, where there is one.
use Rattle.std.specs.Prelude.{ℕ, List, Option, Some, None}
use seplogic.Ra.Ura.{Ura}
use mir.Raw.{raw as bare}
use base.Fraction.{full_share}
use base.Fml.{ftrue}
use types.Logic.{Logic}
use denote.Memory.{lone}
use denote.Param.Shared.{copy_shared}
use denote.RawPtr.{Ptr, lies_at}
use denote.Shares.{Shares-less}
use denote.Sharing.{ShrLaws}
use denote.SharingLaws.{nothing_shr_laws}
use denote.Struct.Field.{RawPtr-field}
use denote.Struct.Laws.{RawPtr-copy}
use denote.Struct.Lending.{of_Lends, lent_at, lent_at_shr_laws, Lends, Lends-first, Lends-lies, Lends-nothing}
use Rattle.phys_memory.proofs.phys.Phys.TheLaws.{the_row_laws}
use Rattle.phys_bank.specs.Ownership.{Block, heap_token, page_owns, page_lent}
use Rattle.phys_bank.specs.contracts.page.Page as C
use Rattle.phys_bank.proofs.page.Page.TheLaw.Statement.{statement}

lent_laws : (at : Ptr) (held : Option (List ℕ)) → ShrLaws (page_lent at held)
lent_laws at None = nothing_shr_laws
lent_laws at (Some bytes) = lent_at_shr_laws Block the_row_laws.shr_laws at bytes

module _ {M : Type 1} {𝓤 : Ura M} (𝓛 : Logic 𝓤) where
  lends : (at : Ptr) (held : Option (List ℕ)) → Lends 𝓛 (page_owns at held) (page_lent at held) C.the_row.lives
  lends at None = Lends-nothing 𝓛 ftrue C.the_row.lives
  lends at (Some bytes) =
      Lends-first 𝓛 (lies_at Block full_share at bytes) (heap_token (bare (lone Block.mir)) at) (lent_at Block at bytes) C.the_row.lives
      (Lends-lies 𝓛 Block C.the_row.lives at bytes (Shares-less 𝓛 Block Block.lives C.the_row.lives (λ a m. m) (the_row_laws.shares 𝓛) bytes))

pub shares : statement
shares = of_Lends C.struct C.the_codes C.the_heap C.the_lent (λ d p. lent_laws d.at d.held) (copy_shared RawPtr-field RawPtr-copy, tt) (λ M 𝓤 𝓛 d p. lends 𝓛 d.at d.held)
