-- What a pointer of the directory owns and lends. No public clause cites this module.
use Rattle.std.specs.Prelude.{ℕ, List, Option, Some, None}
use base.Fml.{Lft, Fml, ftrue}
use denote.RattleType.{RattleType}
use denote.RawPtr.{Ptr}
use denote.Sharing.{nothing}
use denote.Struct.Lending.{lent_at}
use mir.Syntax.{Ty}
use Rattle.std.specs.contracts.impls.GlobalAllocator.TheImpl.{ghosts}
use Rattle.std_alloc.specs.Box.Ownership.{box_owns}
use Rattle.phys_memory.specs.contracts.phys.Phys.{the_row}

-- the right to free a block of the heap, whose handle is one value
abbrev pub heap_token : Ty → Ptr → Fml
heap_token = ghosts.dealloc_token (record { memory = record { seal = tt } })

-- a page as it lies in memory; a contract sees it as the list of its bytes
abbrev pub Block : RattleType
Block = the_row

-- the page at the address, and the right to free it
abbrev pub page_owns : Ptr → Option (List ℕ) → Fml
page_owns at None = ftrue
page_owns at (Some bytes) = box_owns heap_token Block at bytes

-- what a `&` to it reaches
abbrev pub page_lent : Ptr → Option (List ℕ) → Lft → Fml
page_lent at None = nothing
page_lent at (Some bytes) = lent_at Block at bytes
