-- Where a run ends for each VM.
use Rattle.std.specs.Prelude.{◌≡◌, ℕ, List, Some, slice_get}
use Rattle.bao_config.specs.Data.{ConfigData, VmData}
use Rattle.vm_model.specs.Flat.{Flat, FlatEvent}
use Rattle.vm_model.specs.Boot.{boot}
use Rattle.vm_model.specs.Lone.{lone}
use Rattle.vm_model.specs.Agree.{Agree}
use Rattle.vm_model.specs.Apart.{FitRooms}

-- Where the run began at the boot with images that fit their rooms, its end agrees for each VM with the end of the VM's own
-- run, alone on the machine.
abbrev pub EndsAsAlone : ConfigData → Flat → List FlatEvent → Flat → Type 0
EndsAsAlone cfg start events end =
    (images : List (List ℕ)) (v : ℕ) (vm : VmData) → start ≡ boot cfg images → FitRooms cfg images
    → slice_get cfg.vms v ≡ Some vm → Agree cfg v vm end (lone cfg images events v)
