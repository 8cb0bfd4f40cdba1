-- Table and list registers together.
use Rattle.std.proofs.Common.{◌≡◌, ℕ, ◌<◌, ◌≤◌, min, ◌==◌, Bool, true, false, cond, not, ◌&&◌, if◌then◌else◌, List, [], ◌∷◌, Option, Some, None, find, refl, sym, ap, subst, ◌∙◌, arith, ◌⊎◌, inl, inr}
use Rattle.std.specs.Option.{option_map_or}
use Rattle.bao_types.specs.ListReg.{ListRegData, is_free}
use Rattle.bao_types.specs.Controller.{id_end}
use Rattle.vgic_iface.specs.Rank.{no_rank, rank}
use Rattle.vgic_iface.specs.Interface.{best_listed, holds, listed_rank, rank_in}
use Rattle.vgic_table.specs.declared.id_state.IdState.{IdState}
use Rattle.vgic_table.specs.Interrupts.{Interrupts, belongs, best, rank_at, state_of}
use Rattle.vgic_table.specs.Changes.{with_state}
use Rattle.vgic_table.specs.Registers.{Fits, Tidy, joined}
use Rattle.vgic_table.specs.Shape.{IsShaped}
use Rattle.vgic_table.proofs.StateLemmas.{false_other, false_true, shaped-with, state-other, state-same, true_same}
use Rattle.vgic_table.proofs.RankLemmas.{least-joined}

-- an id as the register has it in which it stands
abbrev pub as_listed : Option ListRegData → IdState → IdState
as_listed None state = state
as_listed (Some list) state = record state { pending = list.pending; active = list.active }

-- what a register gives its id
abbrev pub given_by : ListRegData → IdState → IdState
given_by list state = record state { pending = list.pending; active = list.active }

-- what holds an id is occupied, and its id is that
pub holds-occupied : (free same : Bool) → (not free && same) ≡ true → (free ≡ false) × (same ≡ true)
holds-occupied true same on = false_true on
holds-occupied false same on = (refl, on)

is_none : {X : Type 0} → Option X → Type 0
is_none None = Unit {0}
is_none (Some other) = ⊥

pub none_some : {X Y : Type 0} (x : X) → None ≡ Some x → Y
unfolding is_none
none_some x is = absurd (subst is_none is tt)

-- the rank of an id in this state
abbrev pub rank_of : Bool → Bool → ℕ → IdState → ℕ
rank_of on owned id state = if on && owned && state.enabled && state.pending && not state.active then rank state.priority id else no_rank

module _ (vm : Interrupts) (core : ℕ) where
  pub shaped-joined : (lists : List ListRegData) → IsShaped vm → IsShaped (joined vm core lists)
  shaped-joined [] shaped = shaped
  shaped-joined (list ∷ lists) shaped = by_test (is_free list) (shaped-joined lists shaped)
    where
      by_test : (free : Bool) → IsShaped (joined vm core lists) →
          IsShaped (if free then joined vm core lists
          else with_state (joined vm core lists) core list.id (record (state_of (joined vm core lists) core list.id) { pending = list.pending; active = list.active }))
      by_test true rest = rest
      by_test false rest = shaped-with (joined vm core lists) core list.id _ rest

  pub on-joined : (lists : List ListRegData) → (joined vm core lists).on ≡ vm.on
  on-joined [] = refl
  on-joined (list ∷ lists) = by_test (is_free list) (on-joined lists)
    where
      by_test : (free : Bool) → (joined vm core lists).on ≡ vm.on →
          (if free then joined vm core lists
          else with_state (joined vm core lists) core list.id (record (state_of (joined vm core lists) core list.id) { pending = list.pending; active = list.active })).on ≡ vm.on
      by_test true rest = rest
      by_test false rest = rest

  pub cores-joined : (lists : List ListRegData) → (joined vm core lists).cores ≡ vm.cores
  cores-joined [] = refl
  cores-joined (list ∷ lists) = by_test (is_free list) (cores-joined lists)
    where
      by_test : (free : Bool) → (joined vm core lists).cores ≡ vm.cores →
          (if free then joined vm core lists
          else with_state (joined vm core lists) core list.id (record (state_of (joined vm core lists) core list.id) { pending = list.pending; active = list.active })).cores ≡ vm.cores
      by_test true rest = rest
      by_test false rest = rest

  -- an id has pending and active from the first register in which it stands, else from the table
  pub state-joined : (lists : List ListRegData) (id : ℕ) → core < 8 → id < 96 → IsShaped vm →
      state_of (joined vm core lists) core id ≡ as_listed (find (holds id) lists) (state_of vm core id)
  state-joined [] id below within shaped = refl
  state-joined (list ∷ lists) id below within shaped =
      by_tests (is_free list) (list.id == id) refl (state-joined lists id below within shaped)
    where
      rest : Interrupts
      rest = joined vm core lists

      both : (found : Option ListRegData) (state : IdState) →
          record (as_listed found state) { pending = list.pending; active = list.active } ≡ record state { pending = list.pending; active = list.active }
      both None state = refl
      both (Some other) state = refl

      by_tests : (free same : Bool) → (list.id == id) ≡ same →
          state_of (joined vm core lists) core id ≡ as_listed (find (holds id) lists) (state_of vm core id) →
          state_of (if free then joined vm core lists
          else with_state (joined vm core lists) core list.id (record (state_of (joined vm core lists) core list.id) { pending = list.pending; active = list.active })) core id
          ≡ as_listed (cond (not free && same) (Some list) (find (holds id) lists)) (state_of vm core id)
      by_tests true same is known = known
      by_tests false true is known =
          subst (λ n. state_of (with_state (joined vm core lists) core n (record (state_of (joined vm core lists) core n) { pending = list.pending; active = list.active })) core id
          ≡ record (state_of vm core id) { pending = list.pending; active = list.active })
          (sym (true_same list.id id is))
          (state-same (joined vm core lists) core id _ below within (shaped-joined lists shaped)
          ∙ ap (given_by list) known
          ∙ both (find (holds id) lists) (state_of vm core id))
      by_tests false false is known =
          state-other (joined vm core lists) core list.id id _ below (false_other list.id id is) ∙ known

  -- a register in which an id stands fits the table
  pub tidy-found : (lists : List ListRegData) (id : ℕ) (list : ListRegData) → Tidy vm core lists →
      find (holds id) lists ≡ Some list → Fits vm core list × (list.id ≡ id)
  tidy-found [] id list tidy is = none_some list is
  tidy-found (first ∷ lists) id list tidy is =
      by_test (holds id first) refl is (tidy-found lists id list tidy.1)
    where
      by_test : (test : Bool) → holds id first ≡ test → cond test (Some first) (find (holds id) lists) ≡ Some list →
          (find (holds id) lists ≡ Some list → Fits vm core list × (list.id ≡ id)) → Fits vm core list × (list.id ≡ id)
      by_test true on is rest =
          let both = holds-occupied (is_free first) (first.id == id) on in
          let same : first ≡ list = ap (λ found. option_map_or (λ (r : ListRegData). r) found first) is in
          subst (λ r. Fits vm core r × (r.id ≡ id)) same ((tidy.0 both.0).0, true_same first.id id both.1)
      by_test false on is rest = rest is

  -- the ranks of table and registers together, one by one
  pub rank-joined : (lists : List ListRegData) (id : ℕ) → core < 8 → id < 96 → IsShaped vm → Tidy vm core lists →
      ((rank_at (joined vm core lists) core id ≡ rank_at vm core id) × (no_rank ≤ listed_rank lists id))
      ⊎ ((rank_at (joined vm core lists) core id ≡ listed_rank lists id) × (no_rank ≤ rank_at vm core id))
  rank-joined lists id below within shaped tidy =
      by_found (find (holds id) lists) refl
    where
      together : rank_at (joined vm core lists) core id ≡ rank_of vm.on (belongs vm core id) id (as_listed (find (holds id) lists) (state_of vm core id))
      together = ap (λ on. rank_of on (belongs vm core id) id (state_of (joined vm core lists) core id)) (on-joined lists)
          ∙ ap (rank_of vm.on (belongs vm core id) id) (state-joined lists id below within shaped)

      listed : (on owned enabled pending active : Bool) (p q i j : ℕ) → owned ≡ true → p ≡ q → i ≡ j →
          (pending ≡ true → (on && enabled) ≡ true) →
          (if on && owned && enabled && pending && not active then rank q j else no_rank) ≡ (if pending && not active then rank p i else no_rank)
      listed true owned true pending active p q i j owns same_p same_i may = rw (owns, same_p, same_i) refl
      listed true owned false true active p q i j owns same_p same_i may = false_true (may refl)
      listed true owned false false active p q i j owns same_p same_i may = rw owns refl
      listed false owned enabled true active p q i j owns same_p same_i may = false_true (may refl)
      listed false owned enabled false active p q i j owns same_p same_i may = refl

      none_pending : (test pending active : Bool) (r : ℕ) → pending ≡ false → no_rank ≤ (if test && pending && not active then r else no_rank)
      none_pending true pending active r off = rw off (omega arith)
      none_pending false pending active r off = omega arith

      by_found : (found : Option ListRegData) → find (holds id) lists ≡ found →
          ((rank_at (joined vm core lists) core id ≡ rank_at vm core id) × (no_rank ≤ listed_rank lists id))
          ⊎ ((rank_at (joined vm core lists) core id ≡ listed_rank lists id) × (no_rank ≤ rank_at vm core id))
      by_found None is =
          inl (
            together ∙ ap (λ found. rank_of vm.on (belongs vm core id) id (as_listed found (state_of vm core id))) is,
            subst (λ found. no_rank ≤ option_map_or rank_in found no_rank) (sym is) (omega arith),
          )
      by_found (Some list) is =
          let fits = tidy-found lists id list tidy is in
          let state = state_of vm core id in
          let here : state_of vm core list.id ≡ state = ap (state_of vm core) fits.1 in
          inr (
            together
                ∙ ap (λ found. rank_of vm.on (belongs vm core id) id (as_listed found state)) is
                ∙ listed vm.on (belongs vm core id) state.enabled list.pending list.active list.priority state.priority list.id id
                (ap (belongs vm core) (sym fits.1) ∙ fits.0.owned)
                (fits.0.priority ∙ ap (λ (s : IdState). s.priority) here)
                fits.1
                (λ on. ap (λ (s : IdState). vm.on && s.enabled) (sym here) ∙ fits.0.may_be_pending on)
                ∙ sym (ap (λ found. option_map_or rank_in found no_rank) is),
            none_pending (vm.on && belongs vm core id && state.enabled) state.pending state.active (rank state.priority id)
                (ap (λ (s : IdState). s.pending) (sym here) ∙ fits.0.not_pending),
          )

  -- the best of table and registers together is the better of their two best
  pub best-joined : (lists : List ListRegData) → core < 8 → IsShaped vm → Tidy vm core lists →
      best (joined vm core lists) core ≡ min (best vm core) (best_listed lists)
  best-joined lists below shaped tidy =
      least-joined (rank_at vm core) (listed_rank lists) (rank_at (joined vm core lists) core) id_end
      (λ id within. rank-joined lists id below within shaped tidy)
