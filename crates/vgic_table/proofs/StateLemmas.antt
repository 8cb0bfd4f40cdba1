-- What an id of a core is after a change of one id.
use Rattle.std.proofs.Common.{◌≡◌, ◌≢◌, ℕ, ◌+◌, ◌*◌, ◌<◌, ◌≤◌, nat_lt, ◌==◌, true, false, refl, sym, ap, subst, ◌∙◌, arith, ◌⊎◌, inl, inr}
use Rattle.std.proofs.lemmas.Bool.{false≢true}
use Rattle.std.proofs.lemmas.Bool.Decides.{nat_tests}
use Rattle.std.proofs.lemmas.List.{get_or-set_same, get_or-set_other, set-set, set_comm, set-get_or, length-set}
use Rattle.vgic_table.specs.declared.id_state.IdState.{IdState}
use Rattle.vgic_table.specs.Interrupts.{Interrupts, place, quiet, state_of}
use Rattle.vgic_table.specs.Changes.{with_state}
use Rattle.vgic_table.specs.Shape.{IsShaped}

pub false_true : {X : Type 0} → false ≡ true → X
false_true is = absurd (false≢true is)

pub true_same : (a b : ℕ) → (a == b) ≡ true → a ≡ b
true_same a b is = grind (arith, nat_tests)

pub false_other : (a b : ℕ) → (a == b) ≡ false → a ≢ b
false_other a b is same = grind (arith, nat_tests)

pub own_or_shared : (id : ℕ) → (id < 32) ⊎ (32 ≤ id)
own_or_shared id = grind arith

pub place-own : (core id : ℕ) → id < 32 → place core id ≡ 32 * core + id
place-own core id own =
    let test : nat_lt id 32 ≡ true = grind (arith, nat_tests) in
    rw test refl

pub place-shared : (core id : ℕ) → 32 ≤ id → place core id ≡ 224 + id
place-shared core id shared =
    let test : nat_lt id 32 ≡ false = grind (arith, nat_tests) in
    rw test refl

-- two ids of a core stand at two places
pub place-apart : (core id other : ℕ) → core < 8 → id ≢ other → place core id ≢ place core other
place-apart core id other below apart same = by_kind (own_or_shared id) (own_or_shared other)
  where
    by_kind : (id < 32) ⊎ (32 ≤ id) → (other < 32) ⊎ (32 ≤ other) → ⊥
    by_kind (inl a) (inl b) =
        let sums : 32 * core + id ≡ 32 * core + other = sym (place-own core id a) ∙ same ∙ place-own core other b in
        apart (omega (arith, sums))
    by_kind (inl a) (inr b) =
        let sums : 32 * core + id ≡ 224 + other = sym (place-own core id a) ∙ same ∙ place-shared core other b in
        omega (arith, sums)
    by_kind (inr a) (inl b) =
        let sums : 224 + id ≡ 32 * core + other = sym (place-shared core id a) ∙ same ∙ place-own core other b in
        omega (arith, sums)
    by_kind (inr a) (inr b) =
        let sums : 224 + id ≡ 224 + other = sym (place-shared core id a) ∙ same ∙ place-shared core other b in
        apart (omega (arith, sums))

pub place-within : (core id : ℕ) → core < 8 → id < 96 → place core id < 320
place-within core id below within = by_kind (own_or_shared id)
  where
    by_kind : (id < 32) ⊎ (32 ≤ id) → place core id < 320
    by_kind (inl own) = rw (place-own core id own) (omega arith)
    by_kind (inr shared) = rw (place-shared core id shared) (omega arith)

module _ (vm : Interrupts) (core id : ℕ) where
  pub state-same : (state : IdState) → core < 8 → id < 96 → IsShaped vm → state_of (with_state vm core id state) core id ≡ state
  state-same state below within shaped =
      get_or-set_same vm.ids (place core id) state quiet (subst (λ n. place core id < n) (sym shaped) (place-within core id below within))

  pub state-other : (other : ℕ) (state : IdState) → core < 8 → id ≢ other → state_of (with_state vm core id state) core other ≡ state_of vm core other
  state-other other state below apart =
      get_or-set_other vm.ids (place core id) (place core other) state quiet (λ same. place-apart core id other below apart (sym same))

  pub with-same : (first second : IdState) → with_state (with_state vm core id first) core id second ≡ with_state vm core id second
  with-same first second = ap (λ ids. record vm { ids = ids }) (set-set vm.ids (place core id) first second)

  pub with-own : with_state vm core id (state_of vm core id) ≡ vm
  with-own = ap (λ ids. record vm { ids = ids }) (set-get_or vm.ids (place core id) quiet)

  pub with-swap : (other : ℕ) (one two : IdState) → core < 8 → id ≢ other →
      with_state (with_state vm core id one) core other two ≡ with_state (with_state vm core other two) core id one
  with-swap other one two below apart =
      ap (λ ids. record vm { ids = ids }) (set_comm vm.ids (place core id) (place core other) one two (place-apart core id other below apart))

  pub shaped-with : (state : IdState) → IsShaped vm → IsShaped (with_state vm core id state)
  shaped-with state shaped = length-set vm.ids (place core id) state ∙ shaped

-- one id is changed by a function of what it is
abbrev pub change_at : Interrupts → ℕ → ℕ → (IdState → IdState) → Interrupts
change_at vm core id change = with_state vm core id (change (state_of vm core id))

-- two changes of one id are one
pub change-same : (vm : Interrupts) (core id : ℕ) (f g : IdState → IdState) → core < 8 → id < 96 → IsShaped vm →
    change_at (change_at vm core id f) core id g ≡ change_at vm core id (λ state. g (f state))
change-same vm core id f g below within shaped =
    with-same vm core id (f (state_of vm core id)) (g (state_of (change_at vm core id f) core id))
    ∙ ap (λ state. with_state vm core id (g state)) (state-same vm core id (f (state_of vm core id)) below within shaped)

-- changes of two ids come in any order
pub change-swap : (vm : Interrupts) (core id other : ℕ) (f g : IdState → IdState) → core < 8 → id ≢ other →
    change_at (change_at vm core id f) core other g ≡ change_at (change_at vm core other g) core id f
change-swap vm core id other f g below apart =
    ap (λ state. with_state (change_at vm core id f) core other (g state)) (state-other vm core id other (f (state_of vm core id)) below apart)
    ∙ with-swap vm core id other (f (state_of vm core id)) (g (state_of vm core other)) below apart
    ∙ sym (ap (λ state. with_state (change_at vm core other g) core id (f state))
    (state-other vm core other id (g (state_of vm core other)) below (λ same. apart (sym same))))

-- an id that is neither pending nor active stays as it is when both are cleared
pub change-clear : (vm : Interrupts) (core id : ℕ) → (state_of vm core id).pending ≡ false → (state_of vm core id).active ≡ false →
    change_at vm core id (λ state. record state { pending = false; active = false }) ≡ vm
change-clear vm core id pending active =
    ap (λ state. with_state vm core id state) (clear (state_of vm core id) pending active) ∙ with-own vm core id
  where
    clear : (state : IdState) → state.pending ≡ false → state.active ≡ false →
        record state { pending = false; active = false } ≡ state
    clear state pending active =
        ap (λ b. record state { pending = b; active = false }) (sym pending) ∙ ap (λ b. record state { active = b }) (sym active)
