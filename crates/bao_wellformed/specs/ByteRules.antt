-- The rules that are said of bytes, by the map of each VM.
--
-- A map changes only where one of its entries begins or ends, so the least byte of a kind is 0 or one of these bounds. That
-- the byte so found is the least of all is a law of this crate.
use Rattle.std.specs.Prelude.{ℕ, ◌==◌, Bool, true, false, not, ◌&&◌, ◌||◌, if◌then◌else◌, min, List, [], ◌∷◌, ◌++◌, map, fold, flat_map, reverse, find, Option, None, Some, option_to_list}
use Rattle.bao_types.specs.declared.range.ByteRange.{ByteRange}
use Rattle.bao_config.specs.Data.{ConfigData, VmData}
use Rattle.bao_wellformed.specs.declared.ill.Ill.{Ill}
use Rattle.bao_types.specs.ByteRange.{is_within, end}
use Rattle.bao_wellformed.specs.Break.{broken, no_range, in_each_vm, in_each_two_vms}
use Rattle.bao_wellformed.specs.declared.map.Kind.{Kind}
use Rattle.bao_wellformed.specs.declared.map.Kind.TheVariants.{Ram, Port, Window, Hole}
use Rattle.bao_wellformed.specs.declared.map.MapEntry.{MapEntry}
use Rattle.bao_wellformed.specs.Map.{map_of, kind_of}

abbrev pub lesser : ℕ → Option ℕ → ℕ
lesser at None = at
lesser at (Some found) = min at found

abbrev pub tried : (ℕ → Bool) → Option ℕ → ℕ → Option ℕ
tried test found at = if test at then Some (lesser at found) else found

-- the least of 0 and these bytes that passes the test
abbrev pub least_of : (ℕ → Bool) → List ℕ → Option ℕ
least_of test bytes = fold (tried test) None (0 ∷ bytes)

abbrev pub bounds_of : List MapEntry → List ℕ
bounds_of entries = flat_map (λ entry. entry.range.base ∷ end entry.range ∷ []) entries

-- the last entry that contains the byte
abbrev pub cover : List MapEntry → ℕ → Option MapEntry
cover entries at = find (λ entry. is_within entry.range at) (reverse entries)

abbrev pub kind_in : List MapEntry → ℕ → Kind
kind_in entries at = kind_of (cover entries at)

-- memory of the VM's own, which may be executed if that is asked
abbrev pub is_ram : (executable : Bool) → Kind → Bool
is_ram executable (Ram write exec) = exec || not executable
is_ram executable (Port id) = false
is_ram executable (Window shmem write) = false
is_ram executable Hole = false

-- the byte is in the range, but isn't such memory
abbrev pub is_lacking : (executable : Bool) → ByteRange → List MapEntry → ℕ → Bool
is_lacking executable range entries at = is_within range at && not (is_ram executable (kind_in entries at))

abbrev pub least_lacking : (executable : Bool) → ByteRange → List MapEntry → Option ℕ
least_lacking executable range entries =
    least_of (is_lacking executable range entries) (range.base ∷ end range ∷ bounds_of entries)

abbrev pub one_byte : ℕ → ByteRange
one_byte at = record { base = at; size = 1 }

-- 20: the place of a VM is RAM in its map
abbrev pub place_not_ram : ConfigData → ℕ → VmData → List Ill
place_not_ram cfg v vm =
    map (λ at. record (broken 20) { vm = v; first = vm.place; second = one_byte at })
    (option_to_list (least_lacking false vm.place (map_of cfg vm)))

abbrev pub rule_20 : ConfigData → List Ill
rule_20 cfg = in_each_vm (place_not_ram cfg) cfg

-- the four bytes of the first instruction
abbrev pub first_instruction : VmData → ByteRange
first_instruction vm = record { base = vm.start; size = 4 }

-- 21: the first instruction of a VM is executable RAM in its map
abbrev pub start_not_executable : ConfigData → ℕ → VmData → List Ill
start_not_executable cfg v vm =
    map (λ at. record (broken 21) { vm = v; second = one_byte at })
    (option_to_list (least_lacking true (first_instruction vm) (map_of cfg vm)))

abbrev pub rule_21 : ConfigData → List Ill
rule_21 cfg = in_each_vm (start_not_executable cfg) cfg

abbrev pub is_present : Kind → Bool
is_present (Ram write exec) = true
is_present (Port id) = true
is_present (Window shmem write) = true
is_present Hole = false

abbrev pub shmem_of : Kind → Option ℕ
shmem_of (Ram write exec) = None
shmem_of (Port id) = None
shmem_of (Window shmem write) = Some shmem
shmem_of Hole = None

abbrev pub is_one_shmem : Option ℕ → Option ℕ → Bool
is_one_shmem None other = false
is_one_shmem (Some one) None = false
is_one_shmem (Some one) (Some other) = one == other

-- two VMs have the byte, and not both as a window on one shared memory
abbrev pub is_clash : Kind → Kind → Bool
is_clash one other = is_present one && is_present other && not (is_one_shmem (shmem_of one) (shmem_of other))

abbrev pub least_clash : List MapEntry → List MapEntry → Option ℕ
least_clash ones others =
    least_of (λ at. is_clash (kind_in ones at) (kind_in others at)) (bounds_of ones ++ bounds_of others)

abbrev pub range_of : Option MapEntry → ByteRange
range_of None = no_range
range_of (Some entry) = entry.range

-- 22: what two VMs both have is a window on one shared memory; the entries that cover the byte are named
abbrev pub clashes : ConfigData → ℕ → VmData → ℕ → VmData → List Ill
clashes cfg v vm w other =
    map (λ at. record (broken 22) {
      vm = w;
      item = v;
      first = range_of (cover (map_of cfg vm) at);
      second = range_of (cover (map_of cfg other) at);
    })
    (option_to_list (least_clash (map_of cfg vm) (map_of cfg other)))

abbrev pub rule_22 : ConfigData → List Ill
rule_22 cfg = in_each_two_vms (clashes cfg) cfg
