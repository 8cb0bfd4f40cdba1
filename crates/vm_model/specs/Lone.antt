-- A VM alone: its own configuration, what it sees of a run, and its own run over that.
use Rattle.std.specs.Prelude.{ℕ, Bool, true, false, if◌then◌else◌, List, [], ◌∷◌, ◌++◌, filter, Option, None, Some, slice_get, option_to_list}
use Rattle.bao_config.specs.Data.{ConfigData, VmData}
use Rattle.bao_wellformed.specs.declared.map.Kind.{Kind}
use Rattle.bao_wellformed.specs.declared.map.Kind.TheVariants.{Ram, Port, Window, Hole}
use Rattle.bao_wellformed.specs.Map.{kind_at}
use Rattle.shared_windows.specs.Windows.{lists}
use Rattle.vm_model.specs.Cores.{is_place, place_of}
use Rattle.vm_model.specs.Duty.{ring_of}
use Rattle.vm_model.specs.Flat.{Flat, FlatEvent, Step, Input, Wrote, Rang, has_dev, runs, flat_effect, flat_duty, flat_ready, flat_step, flat_run}
use Rattle.vm_model.specs.Boot.{boot}

-- the configuration with this VM as its only one; the platform, the hypervisor's range and the shared memories stay
abbrev pub only : ConfigData → ℕ → ConfigData
only cfg v = record cfg { vms = option_to_list (slice_get cfg.vms v) }

abbrev pub is_window : Kind → Bool
is_window (Ram write exec) = false
is_window (Port id) = false
is_window (Window shmem write) = true
is_window Hole = false

-- the byte is a window in the VM, where there is such a VM
abbrev pub is_in_window : ConfigData → Option VmData → ℕ → Bool
is_in_window cfg None at = false
is_in_window cfg (Some vm) at = is_window (kind_at cfg vm at)

-- the writes as an event of the lone run; none at all is no event
abbrev pub as_event : List (ℕ × ℕ) → List FlatEvent
as_event [] = []
as_event (store ∷ stores) = Wrote (store ∷ stores) ∷ []

-- the event as one of the lone run, where the VM lists the shared memory
abbrev pub as_ring : ConfigData → ℕ → Option (ℕ × ℕ) → List FlatEvent
as_ring cfg v None = []
as_ring cfg v (Some (shmem, event)) = if lists cfg v shmem then Rang shmem event ∷ [] else []

-- the bytes that a step stores, each with its address, in order, and the event of a shared memory that it rings
abbrev pub stored : ConfigData → Flat → ℕ → ℕ → List (ℕ × ℕ)
stored cfg f core count = (flat_effect cfg (flat_ready cfg f core count) core count).stored

abbrev pub rings : ConfigData → Flat → ℕ → ℕ → Option (ℕ × ℕ)
rings cfg f core count = ring_of (flat_duty cfg (flat_ready cfg f core count) core count)

-- what an event of another brings into the VM's run: the bytes that it stores in the VM's windows, then the event that it rings
-- of a shared memory that the VM lists
abbrev pub emitted : ConfigData → Flat → ℕ → FlatEvent → List FlatEvent
emitted cfg f v (Step core count) =
    if runs cfg f core
    then as_event (filter (λ store. is_in_window cfg (slice_get cfg.vms v) store.0) (stored cfg f core count))
    ++ as_ring cfg v (rings cfg f core count)
    else []
emitted cfg f v (Input port byte) = []
emitted cfg f v (Wrote stores) = []
emitted cfg f v (Rang shmem event) = []

-- the core is one of the VM's
abbrev pub is_core_of : ConfigData → ℕ → ℕ → Bool
is_core_of cfg v core = is_place v (place_of cfg core)

-- the port is among the VM's devs
abbrev pub is_dev_of : ConfigData → ℕ → ℕ → Bool
is_dev_of cfg v port = has_dev port (slice_get cfg.vms v)

-- What an event is in the VM's own run: a step of its own core stays, and so does an input to its own port; of any other event
-- what it emits.
abbrev pub seen : ConfigData → Flat → ℕ → FlatEvent → List FlatEvent
seen cfg f v (Step core now) =
    if is_core_of cfg v core then Step core now ∷ [] else emitted cfg f v (Step core now)
seen cfg f v (Input port byte) =
    if is_dev_of cfg v port then Input port byte ∷ [] else emitted cfg f v (Input port byte)
seen cfg f v (Wrote stores) = []
seen cfg f v (Rang shmem event) = []

-- the events of the VM's own run, from a state of the whole machine on
abbrev pub view : ConfigData → Flat → ℕ → List FlatEvent → List FlatEvent
view cfg f v [] = []
view cfg f v (event ∷ events) = seen cfg f v event ++ view cfg (flat_step cfg f event) v events

-- where the VM is after its own run, alone on the machine
abbrev pub lone : ConfigData → List (List ℕ) → List FlatEvent → ℕ → Flat
lone cfg images events v =
    flat_run (only cfg v) (boot (only cfg v) (option_to_list (slice_get images v)))
    (view cfg (boot cfg images) v events)
