-- What every `SimBoard` keeps.
use Rattle.std.specs.Prelude.{◌≡◌, ℕ, ◌≤◌, List, All, ◌||◌, length, IsTrue, Option, Some}
use Rattle.bao_types.specs.declared.region.Region.{Region}
use Rattle.bao_types.specs.declared.shape.PortSpot.{PortSpot}
use Rattle.bao_types.specs.declared.shape.Shape.{Shape}
use Rattle.bao_types.specs.Shape.{ShapeData, event_limit, shape_data}
use Rattle.bao_types.specs.declared.access.Access.TheVariants.{Write}
use Rattle.bao_types.specs.Region.{is_match}
use Rattle.pmsa_stage2.specs.Stage2.{gives_guest}
use Rattle.board.specs.Machine.{is_used, port_places}
use Rattle.board.specs.Ports.{is_port}
use Rattle.phys_bank.specs.Banks.{BanksData, is_kept}

-- the entry lets a guest store to memory in use and to ports alone
abbrev pub IsConfined : ShapeData → Region → Type 0
IsConfined shape entry =
    (at : ℕ) → IsTrue (is_match entry at) → IsTrue (gives_guest entry Write)
    → IsTrue (is_used shape at || is_port (port_places shape.ports) at)

-- where there is memory, that in use is kept; each core of the shape, of eight at most, has its registers, its list registers and
-- its entries, each of them confined; the ports stand where the shape says; and no more steps were taken than events were spent,
-- of a million at most
pub record IsSound (shape : Shape) (memory : Option BanksData) (cores_len lists_len : ℕ) (entries : List (List Region)) (places : List PortSpot)
    (entered spent : ℕ) : Type 0 where
  pub used : (banks : BanksData) → memory ≡ Some banks → (at : ℕ) → IsTrue (is_used (shape_data shape) at) → IsTrue (is_kept banks at)
  pub few : length shape.cores.items ≤ 8
  pub cores : cores_len ≡ length shape.cores.items
  pub lists : lists_len ≡ length shape.cores.items
  pub entries_len : length entries ≡ length shape.cores.items
  pub confined : All (All (IsConfined (shape_data shape))) entries
  pub spots : places ≡ shape.ports.items
  pub within : entered ≤ spent
  pub events : shape.events ≤ event_limit
