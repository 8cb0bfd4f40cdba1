-- Going over a VM's windows.
use Rattle.std.proofs.Common.{◌≡◌, ℕ, ◌+◌, ◌<◌, Bool, true, List, ◌∷◌, map, sym, find, length, get_or, drop, Some, slice_get, refl, arith, ap, ◌∙◌}
use Rattle.std.proofs.lemmas.List.{drop_more, length-map}
use Rattle.std.proofs.lemmas.Option.{slice_get-map, slice_get_read}
use Rattle.std.specs.Option.{option_map}
use Rattle.bao_config.specs.declared.config.Ipc.{Ipc}
use Rattle.bao_config.specs.declared.config.Vm.{Vm}
use Rattle.bao_config.specs.Data.{IpcData, ipc_data, vm_data}

-- the window at which a walk stops is found
pub found_here : (test : IpcData → Bool) (windows : List Ipc) (i : ℕ) (window : Ipc) → i < length windows
    → window ≡ get_or windows i window → test (ipc_data window) ≡ true
    → find test (map ipc_data (drop i windows)) ≡ Some (ipc_data window)
found_here test windows i window low is passes =
    ap (λ rest. find test (map ipc_data rest)) (drop_more windows i window low)
    ∙ ap (λ first. find test (ipc_data first ∷ map ipc_data (drop (i + 1) windows))) (sym is) ∙ rw passes refl

-- the VM that is read at a place is the one of the plain data there
pub vm_at : (vms : List Vm) (v : ℕ) (vm : Vm) → v < length (map vm_data vms) → vm ≡ get_or vms v vm
    → slice_get (map vm_data vms) v ≡ Some (vm_data vm)
vm_at vms v vm low is =
    let count = length-map vms vm_data in
    slice_get-map vm_data vms v
    ∙ ap (option_map vm_data) (slice_get_read vms (length vms) v vm refl (omega (arith, count, low)) is)
