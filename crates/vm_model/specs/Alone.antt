-- What an event and a whole run are to a VM that the configuration keeps apart from the others.
use Rattle.std.specs.Prelude.{◌≡◌, ℕ, IsTrue, IsFalse, List, All, Some, slice_get, ⊤}
use Rattle.bao_config.specs.Data.{ConfigData, VmData}
use Rattle.shared_windows.specs.Windows.{lists}
use Rattle.vm_model.specs.Flat.{Flat, FlatEvent, Step, Input, Wrote, Rang, flat_step, flat_run}
use Rattle.vm_model.specs.Boot.{boot}
use Rattle.vm_model.specs.Lone.{only, is_core_of, is_dev_of, is_in_window, emitted, seen, view, lone}
use Rattle.vm_model.specs.Agree.{Agree}
use Rattle.vm_model.specs.Apart.{IsApart}

-- the whole machine and the VM alone on it, where they agree on a VM that is apart, do so after the same step of a core of it
abbrev pub OwnStepsAgree : Type 0
OwnStepsAgree =
    (cfg : ConfigData) (images : List (List ℕ)) (v : ℕ) (vm : VmData) (core now : ℕ) (f g : Flat)
    → IsApart cfg images v vm → IsTrue (is_core_of cfg v core) → Agree cfg v vm f g
    → Agree cfg v vm (flat_step cfg f (Step core now)) (flat_step (only cfg v) g (Step core now))

-- they do so after a step of any other core in the whole machine, where the VM alone takes what that step emits
abbrev pub OtherStepsAgree : Type 0
OtherStepsAgree =
    (cfg : ConfigData) (images : List (List ℕ)) (v : ℕ) (vm : VmData) (core now : ℕ) (f g : Flat)
    → IsApart cfg images v vm → IsFalse (is_core_of cfg v core) → Agree cfg v vm f g
    → Agree cfg v vm (flat_step cfg f (Step core now)) (flat_run (only cfg v) g (emitted cfg f v (Step core now)))

-- they do so after a byte is given to a port, which the VM alone is given too where the port is its own
abbrev pub InputsAgree : Type 0
InputsAgree =
    (cfg : ConfigData) (v : ℕ) (vm : VmData) (port byte : ℕ) (f g : Flat)
    → slice_get cfg.vms v ≡ Some vm → Agree cfg v vm f g
    → Agree cfg v vm (flat_step cfg f (Input port byte)) (flat_run (only cfg v) g (seen cfg f v (Input port byte)))

-- an event of a schedule
abbrev pub IsOfSchedule : FlatEvent → Type 0
IsOfSchedule (Step core count) = ⊤
IsOfSchedule (Input port byte) = ⊤
IsOfSchedule (Wrote stores) = ⊥
IsOfSchedule (Rang shmem event) = ⊥

-- After every schedule, whatever the other VMs do in it, a VM that is apart from them is where it is after its own run: alone
-- on the machine, over its own steps, its own inputs, what the others stored in its windows, and the events of its shared
-- memories that they rang.
abbrev pub RunsAsIfAlone : Type 0
RunsAsIfAlone =
    (cfg : ConfigData) (images : List (List ℕ)) (events : List FlatEvent) (v : ℕ) (vm : VmData)
    → IsApart cfg images v vm → All IsOfSchedule events
    → Agree cfg v vm (flat_run cfg (boot cfg images) events) (lone cfg images events v)

-- the event is a step of a core of the VM, an input to a port of it, writes bytes of its windows alone, or rings an event of a
-- shared memory that it lists
abbrev pub IsItsOwn : ConfigData → ℕ → FlatEvent → Type 0
IsItsOwn cfg v (Step core count) = IsTrue (is_core_of cfg v core)
IsItsOwn cfg v (Input port byte) = IsTrue (is_dev_of cfg v port)
IsItsOwn cfg v (Wrote stores) = All (λ store. IsTrue (is_in_window cfg (slice_get cfg.vms v) store.0)) stores
IsItsOwn cfg v (Rang shmem event) = IsTrue (lists cfg v shmem)

-- a view has such events alone: it brings in nothing private of the others
abbrev pub SeesItsOwn : Type 0
SeesItsOwn =
    (cfg : ConfigData) (f : Flat) (v : ℕ) (events : List FlatEvent) → All (IsItsOwn cfg v) (view cfg f v events)
