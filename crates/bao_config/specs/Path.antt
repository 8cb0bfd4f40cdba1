-- The path of a spot, as `vm[0].regions[2].size`, which a refusal tells.
use Rattle.std.specs.Prelude.{ℕ, Bool, false, ◌==◌, if◌then◌else◌, List, [], ◌∷◌, slice_get, unwrap_or, codes}
use Rattle.std.specs.List.{flat_map}
use Rattle.std.specs.Fmt.{decimal, digit_glyph}
use Rattle.bao_config.specs.declared.error.Spot.{Spot}

-- the paths of the rows from row 1 on, with the digits 0, 1 and 2 for the places i, j and k
abbrev pub patterns : List (List ℕ)
patterns =
    codes "document"
    ∷ codes "version"
    ∷ codes "platform"
    ∷ codes "platform.banks"
    ∷ codes "platform.banks[0]"
    ∷ codes "platform.banks[0].base"
    ∷ codes "platform.banks[0].size"
    ∷ codes "platform.cores"
    ∷ codes "platform.cores[0]"
    ∷ codes "platform.gicd"
    ∷ codes "platform.gicr"
    ∷ codes "platform.ports"
    ∷ codes "platform.ports[0]"
    ∷ codes "platform.ports[0].id"
    ∷ codes "platform.ports[0].base"
    ∷ codes "platform.ports[0].spi"
    ∷ codes "hypervisor"
    ∷ codes "hypervisor.base"
    ∷ codes "hypervisor.size"
    ∷ codes "shmem"
    ∷ codes "shmem[0]"
    ∷ codes "shmem[0].base"
    ∷ codes "shmem[0].size"
    ∷ codes "shmem[0].events"
    ∷ codes "vm"
    ∷ codes "vm[0]"
    ∷ codes "vm[0].name"
    ∷ codes "vm[0].image"
    ∷ codes "vm[0].load"
    ∷ codes "vm[0].room"
    ∷ codes "vm[0].entry"
    ∷ codes "vm[0].cores"
    ∷ codes "vm[0].cores[1]"
    ∷ codes "vm[0].regions"
    ∷ codes "vm[0].regions[1]"
    ∷ codes "vm[0].regions[1].base"
    ∷ codes "vm[0].regions[1].size"
    ∷ codes "vm[0].regions[1].access"
    ∷ codes "vm[0].devs"
    ∷ codes "vm[0].devs[1]"
    ∷ codes "vm[0].devs[1].port"
    ∷ codes "vm[0].devs[1].irq"
    ∷ codes "vm[0].ipcs"
    ∷ codes "vm[0].ipcs[1]"
    ∷ codes "vm[0].ipcs[1].shmem"
    ∷ codes "vm[0].ipcs[1].access"
    ∷ codes "vm[0].ipcs[1].irqs"
    ∷ codes "vm[0].ipcs[1].irqs[2]"
    ∷ codes "vm[0].guards"
    ∷ codes "vm[0].guards[1]"
    ∷ codes "vm[0].guards[1].base"
    ∷ codes "vm[0].guards[1].size"
    ∷ []

-- a row that isn't in the key table has none
abbrev pub pattern_of : ℕ → List ℕ
pattern_of row = unwrap_or (slice_get ([] ∷ patterns) row) []

-- the byte is this digit
abbrev pub is_digit : ℕ → ℕ → Bool
is_digit n byte = byte == digit_glyph false n

-- a digit stands for its place, and every other byte for itself
abbrev pub filled : Spot → ℕ → List ℕ
filled spot byte =
    if is_digit 0 byte then decimal spot.i
    else if is_digit 1 byte then decimal spot.j
    else if is_digit 2 byte then decimal spot.k
    else byte ∷ []

unfoldable pub path_of : Spot → List ℕ
path_of spot = flat_map (filled spot) (pattern_of spot.row)
