-- The texts of a configuration that pass.
use Rattle.std.specs.Prelude.{ℕ, ◌==◌, Bool, false, ◌&&◌, ◌||◌, nat_le, List, [], ◌∷◌, length, codes}
use Rattle.std.specs.List.{list_all, list_any}
use Rattle.bao_config.specs.Faults.{is_one_of, is_length}

-- the byte is one of those from the first to the second, both included
abbrev pub is_from_to : List ℕ → ℕ → Bool
is_from_to (first ∷ last ∷ []) byte = nat_le first byte && nat_le byte last
is_from_to others byte = false

-- a letter, a digit or one of two marks
abbrev pub is_name_byte : ℕ → Bool
is_name_byte byte = is_from_to (codes "az") byte || is_from_to (codes "09") byte || list_any (λ c. byte == c) (codes "_-")

-- the name of a VM: 1 to 16 such bytes
abbrev pub is_name : List ℕ → Bool
is_name bytes = is_length 1 16 (length bytes) && list_all is_name_byte bytes

-- the name of a file: 1 to 255 bytes
abbrev pub is_file_name : List ℕ → Bool
is_file_name bytes = is_length 1 255 (length bytes)

-- what a VM may do with a region: it may always read
abbrev pub is_region_access : List ℕ → Bool
is_region_access = is_one_of (codes "r" ∷ codes "rx" ∷ codes "rw" ∷ codes "rwx" ∷ [])

-- what a VM may do with a window: it never executes
abbrev pub is_window_access : List ℕ → Bool
is_window_access = is_one_of (codes "r" ∷ codes "rw" ∷ [])
