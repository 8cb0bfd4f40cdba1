-- What a contract sees of a `Directory`, and what each keeps. No public clause cites this module.
use Rattle.std.specs.Prelude.{◌≡◌, ℕ, List, Bool, Option, None, is_some, map, slice_index_or}
use Rattle.core.specs.Mem.Slots.{slots_items, slots_ptr, slots_len, lease_ptr, lease_len, lease_heap, IsFull}
use Rattle.phys_bank.specs.declared.directory.Directory.TheInside.{Inside as Directory}

-- the bytes of each page, and none where there is no page
abbrev pub pages_of : Directory → List (Option (List ℕ))
pages_of directory = map (λ page. page.held) (slots_items directory.slots)

-- the page at a place; there is none past the last place
abbrev pub page_at : List (Option (List ℕ)) → ℕ → Option (List ℕ)
page_at pages entry = slice_index_or pages entry None

-- the place has a page
abbrev pub is_page : List (Option (List ℕ)) → ℕ → Bool
is_page pages entry = is_some (page_at pages entry)

-- each place of the block has its pointer, and the block is the allocator's
pub record IsDirectory (directory : Directory) : Type 0 where
  pub full : IsFull directory.slots
  pub block : lease_ptr directory.lease ≡ slots_ptr directory.slots
  pub count : lease_len directory.lease ≡ slots_len directory.slots
  pub giver : lease_heap directory.lease ≡ directory.alloc
