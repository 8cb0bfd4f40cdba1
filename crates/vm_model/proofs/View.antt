-- What a view is made of.
use Rattle.std.proofs.Common.{◌≡◌, ℕ, Bool, true, false, List, [], ◌∷◌, ◌++◌, All, refl}
use Rattle.std.specs.Prelude.{IsTrue, if◌then◌else◌, filter, Option, None, Some, slice_get}
use Rattle.std.proofs.lemmas.List.Elements.{All-nil, All-cons, All-append, filter_passes}
use Rattle.bao_config.specs.Data.{ConfigData}
use Rattle.shared_windows.specs.Windows.{lists}
use Rattle.vm_model.specs.Flat.{Flat, FlatEvent, Step, Input, Wrote, Rang, runs, flat_step}
use Rattle.vm_model.specs.Lone.{is_core_of, is_dev_of, is_in_window, as_event, as_ring, stored, rings, emitted, seen, view}
use Rattle.vm_model.specs.Alone.{IsItsOwn, SeesItsOwn}

module _ (cfg : ConfigData) (v : ℕ) where
  abbrev in_window : ℕ × ℕ → Type 0
  in_window store = IsTrue (is_in_window cfg (slice_get cfg.vms v) store.0)

  of_writes : (stores : List (ℕ × ℕ)) → All in_window stores → All (IsItsOwn cfg v) (as_event stores)
  of_writes [] all = All-nil (IsItsOwn cfg v)
  of_writes (store ∷ stores) all = All-cons (IsItsOwn cfg v) (Wrote (store ∷ stores)) [] all (All-nil (IsItsOwn cfg v))

  of_ring : (ring : Option (ℕ × ℕ)) → All (IsItsOwn cfg v) (as_ring cfg v ring)
  of_ring None = All-nil (IsItsOwn cfg v)
  of_ring (Some (shmem, event)) = by_lists (lists cfg v shmem) refl
    where
      by_lists : (b : Bool) → lists cfg v shmem ≡ b → All (IsItsOwn cfg v) (if b then Rang shmem event ∷ [] else [])
      by_lists true e = All-cons (IsItsOwn cfg v) (Rang shmem event) [] e (All-nil (IsItsOwn cfg v))
      by_lists false e = All-nil (IsItsOwn cfg v)

  module _ (f : Flat) where
    of_others : (r : Bool) (stores : List (ℕ × ℕ)) (ring : Option (ℕ × ℕ))
        → All (IsItsOwn cfg v)
        (if r then as_event (filter (λ store. is_in_window cfg (slice_get cfg.vms v) store.0) stores) ++ as_ring cfg v ring else [])
    of_others true stores ring =
        All-append (IsItsOwn cfg v) _ _
        (of_writes _ (filter_passes (λ store. is_in_window cfg (slice_get cfg.vms v) store.0) stores)) (of_ring ring)
    of_others false stores ring = All-nil (IsItsOwn cfg v)

    of_core : (core now : ℕ) (own : Bool) → is_core_of cfg v core ≡ own
        → All (IsItsOwn cfg v) (if own then Step core now ∷ [] else emitted cfg f v (Step core now))
    of_core core now true own = All-cons (IsItsOwn cfg v) (Step core now) [] own (All-nil (IsItsOwn cfg v))
    of_core core now false own = of_others (runs cfg f core) (stored cfg f core now) (rings cfg f core now)

    of_port : (port byte : ℕ) (own : Bool) → is_dev_of cfg v port ≡ own
        → All (IsItsOwn cfg v) (if own then Input port byte ∷ [] else emitted cfg f v (Input port byte))
    of_port port byte true own = All-cons (IsItsOwn cfg v) (Input port byte) [] own (All-nil (IsItsOwn cfg v))
    of_port port byte false own = All-nil (IsItsOwn cfg v)

    of_event : (event : FlatEvent) → All (IsItsOwn cfg v) (seen cfg f v event)
    of_event (Step core now) = of_core core now (is_core_of cfg v core) refl
    of_event (Input port byte) = of_port port byte (is_dev_of cfg v port) refl
    of_event (Wrote stores) = All-nil (IsItsOwn cfg v)
    of_event (Rang shmem event) = All-nil (IsItsOwn cfg v)

-- each event of a view is the VM's own
pub sees_its_own : SeesItsOwn
sees_its_own cfg f v [] = All-nil (IsItsOwn cfg v)
sees_its_own cfg f v (event ∷ events) =
    All-append (IsItsOwn cfg v) (seen cfg f v event) (view cfg (flat_step cfg f event) v events) (of_event cfg v f event)
    (sees_its_own cfg (flat_step cfg f event) v events)
