-- What a contract sees of a `ByteRange`: its bytes are those from its base up to its end, which isn't among them.
use Rattle.std.specs.Prelude.{ℕ, ◌+◌, nat_le, nat_lt, Bool, ◌&&◌, List, min, max}
use Rattle.std.specs.List.{list_any}
use Rattle.bao_types.specs.declared.range.ByteRange.{ByteRange}

-- no address of a byte is as high as 2^48
abbrev pub address_space_end : ℕ
address_space_end = 0x1000000000000

-- the first byte after the range
abbrev pub end : ByteRange → ℕ
end range = range.base + range.size

-- the byte is in the range
abbrev pub is_within : ByteRange → ℕ → Bool
is_within range at = nat_le range.base at && nat_lt at (end range)

-- the byte is in the range of one of these
abbrev pub is_in_one : {A : Type 0} → (A → ByteRange) → List A → ℕ → Bool
is_in_one range_of items at = list_any (λ item. is_within (range_of item) at) items

-- some byte is in both ranges: the higher base is below the lower end
abbrev pub overlaps : ByteRange → ByteRange → Bool
overlaps one other = nat_lt (max one.base other.base) (min (end one) (end other))

-- the inner range begins and ends between the ends of the outer one, which so has all its bytes
abbrev pub lies_in : ByteRange → ByteRange → Bool
lies_in inner outer = nat_le outer.base inner.base && nat_le (end inner) (end outer)
