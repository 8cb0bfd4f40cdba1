use Rattle.std.specs.Prelude.{ℕ, List, [], ◌∷◌}
use Rattle.vm_model.specs.Flat.{FlatEvent, Step}

-- `movz x0, #5` and a branch to itself
abbrev pub image : List ℕ
image = 0xa0 ∷ 0 ∷ 0x80 ∷ 0xd2 ∷ 0 ∷ 0 ∷ 0 ∷ 0x14 ∷ []

-- `movz x1, #0x8000`, `movk x1, #0x10, lsl #16`, `movz x0, #0x1234`, `strh w0, [x1, #2]` and `ldrb w2, [x1, #3]`
abbrev pub storing_image : List ℕ
storing_image =
    0x01 ∷ 0x00 ∷ 0x90 ∷ 0xd2 ∷ 0x01 ∷ 0x02 ∷ 0xa0 ∷ 0xf2 ∷ 0x80 ∷ 0x46 ∷ 0x82 ∷ 0xd2
    ∷ 0x20 ∷ 0x04 ∷ 0x00 ∷ 0x79 ∷ 0x22 ∷ 0x0c ∷ 0x40 ∷ 0x39 ∷ []

abbrev pub steps : List FlatEvent
steps = Step 0 0 ∷ Step 0 1 ∷ Step 0 2 ∷ []

abbrev pub two_more : List FlatEvent
two_more = Step 0 3 ∷ Step 0 4 ∷ []
