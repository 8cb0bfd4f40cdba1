-- Registers that fit the table still fit it after a change of a register, or of ids of the table that stand in none.
use Rattle.std.proofs.Common.{◌≡◌, ℕ, ◌<◌, ◌==◌, Bool, true, false, cond, not, ◌&&◌, if◌then◌else◌, List, [], ◌∷◌, Some, None, find, refl, sym, ap, subst, ◌∙◌, ◌⊎◌, inl, inr, arith}
use Rattle.std.proofs.lemmas.Bool.{false≢true}
use Rattle.std.proofs.lemmas.Bool.Decides.{nat_tests}
use Rattle.bao_types.specs.ListReg.{ListRegData, is_free}
use Rattle.vgic_iface.specs.Interface.{holds, made_active, made_inactive, with_holder}
use Rattle.vgic_table.specs.declared.id_state.IdState.{IdState}
use Rattle.vgic_table.specs.Interrupts.{Interrupts, belongs, state_of}
use Rattle.vgic_table.specs.Registers.{Fits, Tidy}
use Rattle.vgic_table.proofs.StateLemmas.{change_at, false_other, false_true, state-other, true_same}
use Rattle.vgic_table.proofs.JoinedLemmas.{holds-occupied, none_some}

-- what a change of the register in which an id stands keeps
pub record Keeps (change : ListRegData → ListRegData) : Type 0 where
  pub id : (list : ListRegData) → (change list).id ≡ list.id
  pub priority : (list : ListRegData) → (change list).priority ≡ list.priority
  pub pending : (list : ListRegData) → (change list).pending ≡ true → list.pending ≡ true

pub made_active-keeps : Keeps made_active
made_active-keeps = record { id = λ list. refl; priority = λ list. refl; pending = λ list on. false_true on }

pub made_inactive-keeps : Keeps made_inactive
made_inactive-keeps = record { id = λ list. refl; priority = λ list. refl; pending = λ list on. on }

-- an occupied register holds its own id
pub holds-own : (list : ListRegData) → is_free list ≡ false → holds list.id list ≡ true
holds-own list occupied = rw (occupied, own list.id) refl
  where
    own : (id : ℕ) → (id == id) ≡ true
    own id = grind (arith, nat_tests)

-- an id that stands in no register stands in none afterwards
find-holder : (change : ListRegData → ListRegData) (id other : ℕ) (lists : List ListRegData) → Keeps change →
    find (holds other) lists ≡ None → find (holds other) (with_holder change id lists) ≡ None
find-holder change id other [] keeps none = refl
find-holder change id other (first ∷ lists) keeps none =
    by_tests (holds id first) (holds other first) refl refl none (λ rest. find-holder change id other lists keeps rest)
  where
    off : (free new : Bool) (n : ℕ) → free ≡ false → n ≡ first.id → (not free && first.id == other) ≡ false → (not new && n == other) ≡ false
    off true new n occupied same is = absurd (false≢true (sym occupied))
    off false true n occupied same is = refl
    off false false n occupied same is = ap (λ m. m == other) same ∙ is

    by_tests : (test passes : Bool) → holds id first ≡ test → holds other first ≡ passes →
        cond passes (Some first) (find (holds other) lists) ≡ None →
        (find (holds other) lists ≡ None → find (holds other) (with_holder change id lists) ≡ None) →
        find (holds other) (if test then change first ∷ lists else first ∷ with_holder change id lists) ≡ None
    by_tests test true on is none rest = none_some first (sym none)
    by_tests true false on is none rest =
        let occupied = (holds-occupied (is_free first) (first.id == id) on).0 in
        rw (off (is_free first) (is_free (change first)) (change first).id occupied (keeps.id first) is) none
    by_tests false false on is none rest = rw is (rest none)

-- a register fits the table after such a change
fits-change : (vm : Interrupts) (core : ℕ) (change : ListRegData → ListRegData) (list : ListRegData) → Keeps change →
    Fits vm core list → Fits vm core (change list)
fits-change vm core change list keeps fits =
    let back = sym (keeps.id list) in
    record {
      id = subst (λ n. n < 96) back fits.id;
      owned = subst (λ n. belongs vm core n ≡ true) back fits.owned;
      priority = keeps.priority list ∙ fits.priority ∙ ap (λ n. (state_of vm core n).priority) back;
      not_pending = subst (λ n. (state_of vm core n).pending ≡ false) back fits.not_pending;
      not_active = subst (λ n. (state_of vm core n).active ≡ false) back fits.not_active;
      may_be_pending = λ on. subst (λ n. (vm.on && (state_of vm core n).enabled) ≡ true) back (fits.may_be_pending (keeps.pending list on));
    }

-- the register in which an id stands is changed
pub tidy-holder : (vm : Interrupts) (core : ℕ) (lists : List ListRegData) (id : ℕ) (change : ListRegData → ListRegData) → Keeps change →
    Tidy vm core lists → Tidy vm core (with_holder change id lists)
tidy-holder vm core [] id change keeps tidy = tt
tidy-holder vm core (first ∷ lists) id change keeps tidy =
    by_test (holds id first) refl (tidy-holder vm core lists id change keeps tidy.1)
  where
    by_test : (test : Bool) → holds id first ≡ test → Tidy vm core (with_holder change id lists) →
        Tidy vm core (if test then change first ∷ lists else first ∷ with_holder change id lists)
    by_test true on rest =
        let old = tidy.0 (holds-occupied (is_free first) (first.id == id) on).0 in
        (λ occupied. (fits-change vm core change first keeps old.0, ap (λ n. find (holds n) lists) (keeps.id first) ∙ old.1), tidy.1)
    by_test false off rest =
        (λ occupied. ((tidy.0 occupied).0, find-holder change id first.id lists keeps (tidy.0 occupied).1), rest)

-- another table, of which each id of the core that stands in a register is the same
pub tidy-moved : (vm new : Interrupts) (core : ℕ) (lists : List ListRegData) → new.on ≡ vm.on →
    ((id : ℕ) → id < 96 → belongs vm core id ≡ true → (find (holds id) lists ≡ None) ⊎ (state_of new core id ≡ state_of vm core id)) →
    Tidy vm core lists → Tidy new core lists
tidy-moved vm new core [] on same tidy = tt
tidy-moved vm new core (first ∷ lists) on same tidy = (
  λ occupied. (moved (tidy.0 occupied).0 (here occupied (same first.id (tidy.0 occupied).0.id (tidy.0 occupied).0.owned)), (tidy.0 occupied).1),
  tidy-moved vm new core lists on (λ id within owned. later id (holds id first) (same id within owned)) tidy.1,
)
  where
    here : is_free first ≡ false → (find (holds first.id) (first ∷ lists) ≡ None) ⊎ (state_of new core first.id ≡ state_of vm core first.id) →
        state_of new core first.id ≡ state_of vm core first.id
    here occupied (inl none) =
        none_some first (sym (ap (λ test. cond test (Some first) (find (holds first.id) lists)) (sym (holds-own first occupied)) ∙ none))
    here occupied (inr is) = is

    later : (id : ℕ) (test : Bool) → (cond test (Some first) (find (holds id) lists) ≡ None) ⊎ (state_of new core id ≡ state_of vm core id) →
        (find (holds id) lists ≡ None) ⊎ (state_of new core id ≡ state_of vm core id)
    later id true (inl none) = none_some first (sym none)
    later id false (inl none) = inl none
    later id test (inr is) = inr is

    moved : Fits vm core first → state_of new core first.id ≡ state_of vm core first.id → Fits new core first
    moved fits is =
        record {
          id = fits.id;
          owned = fits.owned;
          priority = fits.priority ∙ ap (λ (s : IdState). s.priority) (sym is);
          not_pending = ap (λ (s : IdState). s.pending) is ∙ fits.not_pending;
          not_active = ap (λ (s : IdState). s.active) is ∙ fits.not_active;
          may_be_pending = λ pending. ap (λ b. b && (state_of new core first.id).enabled) on
              ∙ ap (λ (s : IdState). vm.on && s.enabled) is ∙ fits.may_be_pending pending;
        }

-- an id that stands in no register is changed in the table
pub tidy-unlisted : (vm : Interrupts) (core : ℕ) (lists : List ListRegData) (id : ℕ) (f : IdState → IdState) → core < 8 →
    find (holds id) lists ≡ None → Tidy vm core lists → Tidy (change_at vm core id f) core lists
tidy-unlisted vm core lists id f below none tidy =
    tidy-moved vm (change_at vm core id f) core lists refl (λ other within owned. by_test other (id == other) refl) tidy
  where
    by_test : (other : ℕ) (test : Bool) → (id == other) ≡ test →
        (find (holds other) lists ≡ None) ⊎ (state_of (change_at vm core id f) core other ≡ state_of vm core other)
    by_test other true is = inl (subst (λ n. find (holds n) lists ≡ None) (true_same id other is) none)
    by_test other false is = inr (state-other vm core id other (f (state_of vm core id)) below (false_other id other is))
