-- The machine on which the tests of interrupts run.
use Rattle.std.specs.Prelude.{◌≡◌, true, [], ◌∷◌, map, replicate}
use Rattle.bao_types.specs.Shape.{ShapeData}
use Rattle.bao_types.specs.Region.{no_region}
use Rattle.board.specs.Machine.{Machine}

-- Cores 0 and 1 are one VM's, and core 2 is another's. The first VM has a console and a ticker, the second a console, and a
-- third console is no VM's.
abbrev pub bench_shape : ShapeData
bench_shape =
    record {
      banks = record { base = 0; size = 0x200000 } ∷ [];
      cores = record { entries = 2; affinity = 0 } ∷ record { entries = 2; affinity = 1 } ∷ record { entries = 2; affinity = 0 } ∷ [];
      ports =
          record { id = 0; base = 0x9c090000; spi = 32; cores = 3 }
          ∷ record { id = 12; base = 0x9c090040; spi = 33; cores = 3 }
          ∷ record { id = 1; base = 0x9c090080; spi = 34; cores = 4 }
          ∷ record { id = 2; base = 0x9c0900c0; spi = 35; cores = 0 }
          ∷ [];
      used = record { base = 0x100000; size = 0x10000 } ∷ [];
      events = 100000;
    }

-- a fitted board of this shape
pub record IsReady (m : Machine) : Type 0 where
  pub fitted : m.fitted ≡ true
  pub shape : m.shape ≡ bench_shape

-- and one whose entries are zero and that has taken no event
pub record IsBare (m : Machine) : Type 0 where
  pub ready : IsReady m
  pub entered : m.entered ≡ 0
  pub spent : m.spent ≡ 0
  pub entries : m.entries ≡ map (λ place. replicate place.entries no_region) bench_shape.cores
