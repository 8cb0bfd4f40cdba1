-- Which window of a VM is found, and that there is no other on the same shared memory.
use Rattle.std.proofs.Common.{◌≡◌, ℕ, zero, suc, ◌<◌, Bool, true, false, ◌&&◌, ◌⊎◌, inl, inr, List, [], ◌∷◌, find, slice_get, length, Option, Some, None, is_some, option_and_then, refl, sym, ap, ◌∙◌, arith, nat_lt}
use Rattle.std.specs.List.{list_any}
use Rattle.std.proofs.lemmas.Bool.{eq-eqb, eqb-true}
use Rattle.std.proofs.lemmas.Bool.Decides.{nat_tests}
use Rattle.bao_config.specs.declared.config.Shmem.{Shmem}
use Rattle.bao_config.specs.Data.{ConfigData, VmData, IpcData}
use Rattle.bao_wellformed.specs.Windows.{HasSoundWindows, IsWindow}
use Rattle.shared_windows.specs.Windows.{HearsBy, events_of, irq_in, irq_of, is_on, lists}
use Rattle.shared_windows.specs.Laws.{HeardByOneNumber, HeardWhereListed}

-- what is found stands at a place and passes, and there is something to find exactly where one passes
pub record IsFound {A : Type 0} (test : A → Bool) (xs : List A) (x : A) : Type 0 where
  pub place : ℕ
  pub has : slice_get xs place ≡ Some x
  pub passes : test x ≡ true
  pub any : list_any test xs ≡ true

pub record IsMissing {A : Type 0} (test : A → Bool) (xs : List A) : Type 0 where
  pub none : find test xs ≡ None
  pub fails : list_any test xs ≡ false

abbrev pub Searched : {A : Type 0} → (A → Bool) → List A → Type 0
Searched {A} test xs = IsMissing test xs ⊎ ((x : A) × (find test xs ≡ Some x) × IsFound test xs x)

pub search_of : {A : Type 0} (test : A → Bool) (xs : List A) → Searched test xs
search_of test [] = inl (record { none = refl; fails = refl })
search_of {A} test (y ∷ ys) = by_test (test y) refl (search_of test ys)
  where
    by_test : (b : Bool) → test y ≡ b → IsMissing test ys ⊎ ((x : A) × (find test ys ≡ Some x) × IsFound test ys x)
        → IsMissing test (y ∷ ys) ⊎ ((x : A) × (find test (y ∷ ys) ≡ Some x) × IsFound test (y ∷ ys) x)
    by_test true e rest = inr (y, rw e refl, record { place = 0; has = refl; passes = e; any = rw e refl })
    by_test false e (inl m) = inl (record { none = rw e m.none; fails = rw e m.fails })
    by_test false e (inr r) =
        inr (r.0, rw e r.1, record { place = suc r.2.place; has = r.2.has; passes = r.2.passes; any = rw e r.2.any })

-- a VM with a window on the shared memory lists it
listed_at : (shmem : ℕ) (window : IpcData) (windows : List IpcData) (k : ℕ) → slice_get windows k ≡ Some window
    → window.shmem ≡ shmem → list_any (is_on shmem) windows ≡ false → ⊥
listed_at shmem window [] k got on none = cc
listed_at shmem window (w ∷ ws) zero got on none =
    let same : w ≡ window = cc in
    let yes : is_on shmem w ≡ true = eq-eqb w.shmem shmem (ap (λ (x : IpcData). x.shmem) same ∙ on) in
    let any : list_any (is_on shmem) (w ∷ ws) ≡ true = rw yes refl in
    let x : true ≡ false = sym any ∙ none in cc
listed_at shmem window (w ∷ ws) (suc k) got on none = by_test (is_on shmem w) refl (listed_at shmem window ws k got on)
  where
    by_test : (b : Bool) → is_on shmem w ≡ b → (list_any (is_on shmem) ws ≡ false → ⊥) → ⊥
    by_test true e rest =
        let any : list_any (is_on shmem) (w ∷ ws) ≡ true = rw e refl in let x : true ≡ false = sym any ∙ none in cc
    by_test false e rest =
        rest (let same : list_any (is_on shmem) (w ∷ ws) ≡ list_any (is_on shmem) ws = rw e refl in sym same ∙ none)

is_some-slice_get : {A : Type 0} (xs : List A) (i : ℕ) → is_some (slice_get xs i) ≡ nat_lt i (length xs)
is_some-slice_get [] i = let e : nat_lt i 0 ≡ false = grind (arith, nat_tests) in sym e
is_some-slice_get (x ∷ xs) zero = let e : nat_lt 0 (suc (length xs)) ≡ true = grind (arith, nat_tests) in sym e
is_some-slice_get (x ∷ xs) (suc i) =
    let e : nat_lt (suc i) (suc (length xs)) ≡ nat_lt i (length xs) = grind (arith, nat_tests) in is_some-slice_get xs i ∙ sym e

module _ (cfg : ConfigData) (sound : HasSoundWindows cfg) (v : ℕ) (vm : VmData) (is : slice_get cfg.vms v ≡ Some vm) where
  listed_in : (shmem event : ℕ) (memory : Shmem) → slice_get cfg.shmems shmem ≡ Some memory
      → is_some (irq_in shmem event vm) ≡ list_any (is_on shmem) vm.ipcs && nat_lt event memory.events
  listed_in shmem event memory there = by_search (search_of (is_on shmem) vm.ipcs)
    where
      by_search : Searched (is_on shmem) vm.ipcs
          → is_some (irq_in shmem event vm) ≡ list_any (is_on shmem) vm.ipcs && nat_lt event memory.events
      by_search (inl m) = rw m.none (rw m.fails refl)
      by_search (inr (window, found, r)) =
          let on = eqb-true window.shmem shmem r.passes in
          let own : IsWindow cfg v r.place window = record { vm = vm; is_vm = is; has = r.has } in
          let count = sound.numbered v r.place window memory own (ap (slice_get cfg.shmems) on ∙ there) in
          rw found (rw r.any (is_some-slice_get window.irqs event ∙ ap (nat_lt event) count))

  heard_in : (shmem event irq : ℕ) → irq_in shmem event vm ≡ Some irq → HearsBy cfg v shmem event irq
  heard_in shmem event irq says = by_search (search_of (is_on shmem) vm.ipcs)
    where
      by_search : Searched (is_on shmem) vm.ipcs
          → HearsBy cfg v shmem event irq
      by_search (inl m) =
          let no = ap (option_and_then (λ window. slice_get window.irqs event)) m.none in let x = sym says ∙ no in cc
      by_search (inr (window, found, r)) =
          record {
            place = r.place;
            window = window;
            has = record { vm = vm; is_vm = is; has = r.has };
            on = eqb-true window.shmem shmem r.passes;
            numbered = sym (ap (option_and_then (λ window. slice_get window.irqs event)) found) ∙ says;
          }

  hears_in : (shmem event irq place : ℕ) (window : IpcData) → slice_get vm.ipcs place ≡ Some window → window.shmem ≡ shmem
      → slice_get window.irqs event ≡ Some irq → irq_in shmem event vm ≡ Some irq
  hears_in shmem event irq place window has on numbered = by_search (search_of (is_on shmem) vm.ipcs)
    where
      by_search : Searched (is_on shmem) vm.ipcs
          → irq_in shmem event vm ≡ Some irq
      by_search (inl m) = absurd (listed_at shmem window vm.ipcs place has on m.fails)
      by_search (inr (found_window, found, r)) =
          let one : IsWindow cfg v r.place found_window = record { vm = vm; is_vm = is; has = r.has } in
          let other : IsWindow cfg v place window = record { vm = vm; is_vm = is; has = has } in
          let on_too = eqb-true found_window.shmem shmem r.passes in
          let at = sound.once v r.place place found_window window one other (on_too ∙ sym on) in
          let both : Some found_window ≡ Some window = sym r.has ∙ ap (slice_get vm.ipcs) at ∙ has in
          let same : found_window ≡ window = cc in
          ap (option_and_then (λ window. slice_get window.irqs event)) (found ∙ ap Some same) ∙ numbered

pub heard_where_listed : HeardWhereListed
heard_where_listed cfg v shmem event sound low = by_vm (slice_get cfg.vms v) refl
  where
    memory_there : (memories : List Shmem) (k : ℕ) → k < length memories → (memory : Shmem) × (slice_get memories k ≡ Some memory)
    memory_there [] k less = absurd (omega (arith, less))
    memory_there (m ∷ ms) zero less = (m, refl)
    memory_there (m ∷ ms) (suc k) less = memory_there ms k (omega (arith, less))

    by_vm : (o : Option VmData) → slice_get cfg.vms v ≡ o
        → is_some (irq_of cfg v shmem event) ≡ lists cfg v shmem && nat_lt event (events_of cfg shmem)
    by_vm None is = rw is refl
    by_vm (Some vm) is =
        let m = memory_there cfg.shmems shmem low in
        rw is (rw m.1 (listed_in cfg sound v vm is shmem event m.0 m.1))

pub heard_by_one_number : HeardByOneNumber
heard_by_one_number cfg v shmem event irq sound = (λ says. hears (slice_get cfg.vms v) refl says, λ h. heard h)
  where
    hears : (o : Option VmData) → slice_get cfg.vms v ≡ o → irq_of cfg v shmem event ≡ Some irq → HearsBy cfg v shmem event irq
    hears None is says = let no = ap (option_and_then (irq_in shmem event)) is in let x = sym says ∙ no in cc
    hears (Some vm) is says =
        heard_in cfg sound v vm is shmem event irq (sym (ap (option_and_then (irq_in shmem event)) is) ∙ says)

    heard : HearsBy cfg v shmem event irq → irq_of cfg v shmem event ≡ Some irq
    heard h =
        ap (option_and_then (irq_in shmem event)) h.has.is_vm
        ∙ hears_in cfg sound v h.has.vm h.has.is_vm shmem event irq h.place h.window h.has.has h.on h.numbered
