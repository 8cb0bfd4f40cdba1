-- The text of a packing: each core with its entries, then `ok`.
use Rattle.std.specs.Prelude.{ℕ, ◌+◌, List, [], ◌∷◌, ◌++◌, Option, None, Some, codes, length, slice_index_or}
use Rattle.std.specs.Fmt.{decimal}
use Rattle.numerals.specs.Hex.{hex}
use Rattle.bao_types.specs.declared.region.Region.{Region}
use Rattle.bao_config.specs.Data.{ConfigData, VmData}
use Rattle.bao_wellformed.specs.Map.{owner}
use Rattle.text_lines.specs.Newline.{newline}

-- the name of a core's VM, `-` where it has none
abbrev pub owner_name : Option VmData → List ℕ
owner_name None = codes "-"
owner_name (Some vm) = vm.name

-- `core C vm NAME runs R entries N`: a core has one entry for each of its runs, out of the number that it could have
unfoldable pub packed_name : ℕ → List ℕ → List ℕ
packed_name core name = codes "core " ++ (decimal core ++ (codes " vm " ++ name))

unfoldable pub packed_counts : ℕ → ℕ → List ℕ
packed_counts runs most = codes " runs " ++ (decimal runs ++ (codes " entries " ++ (decimal most ++ newline)))

abbrev pub packed_line : ℕ → List ℕ → ℕ → ℕ → List ℕ
packed_line core name runs most = packed_name core name ++ packed_counts runs most

-- `entry I H H`: base and limit
unfoldable pub entry_line : ℕ → Region → List ℕ
entry_line i entry =
    codes "entry " ++ (decimal i ++ (codes " " ++ (hex 16 entry.base ++ (codes " " ++ (hex 16 entry.limit ++ newline)))))

-- the entries of a core from a number on
unfoldable pub entries_text : ℕ → List Region → List ℕ
entries_text i [] = []
entries_text i (entry ∷ entries) = entry_line i entry ++ entries_text (i + 1) entries

unfoldable pub packed_text : ConfigData → ℕ → List Region → List ℕ
packed_text cfg core entries =
    packed_line core (owner_name (owner cfg core)) (length entries) (slice_index_or cfg.platform.cores core 0)
    ++ entries_text 0 entries

-- the cores from a number on
unfoldable pub cores_packed : ConfigData → ℕ → List (List Region) → List ℕ
cores_packed cfg core [] = []
cores_packed cfg core (entries ∷ others) = packed_text cfg core entries ++ cores_packed cfg (core + 1) others

unfoldable pub ok_line : List ℕ
ok_line = codes "ok\n"

-- of the cores in order, each with its entries
abbrev pub packing_text : ConfigData → List (List Region) → List ℕ
packing_text cfg packed = cores_packed cfg 0 packed ++ ok_line
