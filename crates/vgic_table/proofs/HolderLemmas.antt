-- A change of the register in which an id stands, or of an id that stands in none, is that change of table and registers
-- together.
use Rattle.std.proofs.Common.{◌≡◌, ℕ, ◌<◌, ◌==◌, Bool, true, false, cond, not, ◌&&◌, if◌then◌else◌, List, [], ◌∷◌, Some, None, find, refl, sym, ap, subst, ◌∙◌}
use Rattle.std.proofs.lemmas.Bool.{false≢true}
use Rattle.bao_types.specs.ListReg.{ListRegData, is_free}
use Rattle.vgic_iface.specs.Interface.{holds, made_active, made_inactive, with_holder}
use Rattle.vgic_table.specs.declared.id_state.IdState.{IdState}
use Rattle.vgic_table.specs.Interrupts.{Interrupts, state_of}
use Rattle.vgic_table.specs.Registers.{Tidy, joined, put_back}
use Rattle.vgic_table.specs.Shape.{IsShaped}
use Rattle.vgic_table.proofs.StateLemmas.{change-clear, change-same, change-swap, change_at, false_other, true_same}
use Rattle.vgic_table.proofs.JoinedLemmas.{as_listed, given_by, holds-occupied, none_some, shaped-joined, state-joined}

-- a register that doesn't hold the id goes back before or after a change of the id
pub put_back-change : (vm : Interrupts) (core id : ℕ) (f : IdState → IdState) (list : ListRegData) → core < 8 →
    holds id list ≡ false → put_back (change_at vm core id f) core list ≡ change_at (put_back vm core list) core id f
put_back-change vm core id f list below off = by_tests (is_free list) (list.id == id) refl off
  where
    by_tests : (free same : Bool) → (list.id == id) ≡ same → (not free && same) ≡ false →
        (if free then change_at vm core id f else change_at (change_at vm core id f) core list.id (given_by list))
        ≡ change_at (if free then vm else change_at vm core list.id (given_by list)) core id f
    by_tests true same is off = refl
    by_tests false true is off = absurd (false≢true (sym off))
    by_tests false false is off = change-swap vm core id list.id f (given_by list) below (λ same. false_other list.id id is (sym same))

-- an id that stands in no register
pub joined-change : (vm : Interrupts) (core : ℕ) (lists : List ListRegData) (id : ℕ) (f : IdState → IdState) → core < 8 →
    find (holds id) lists ≡ None → joined (change_at vm core id f) core lists ≡ change_at (joined vm core lists) core id f
joined-change vm core [] id f below none = refl
joined-change vm core (list ∷ lists) id f below none =
    by_test (holds id list) refl none (λ rest. joined-change vm core lists id f below rest)
  where
    by_test : (test : Bool) → holds id list ≡ test → cond test (Some list) (find (holds id) lists) ≡ None →
        (find (holds id) lists ≡ None → joined (change_at vm core id f) core lists ≡ change_at (joined vm core lists) core id f) →
        put_back (joined (change_at vm core id f) core lists) core list ≡ change_at (put_back (joined vm core lists) core list) core id f
    by_test true on is rest = none_some list (sym is)
    by_test false off is rest =
        ap (λ other. put_back other core list) (rest is) ∙ put_back-change (joined vm core lists) core id f list below off

-- what a change of a register has to do to the id that stands in it
abbrev pub Changes : ℕ → ℕ → (ListRegData → ListRegData) → (IdState → IdState) → Type 0
Changes core id change f =
    (vm : Interrupts) (list : ListRegData) → IsShaped vm → holds id list ≡ true →
    (state_of vm core id).pending ≡ false → (state_of vm core id).active ≡ false →
    put_back vm core (change list) ≡ change_at (put_back vm core list) core id f

-- an id that stands in a register
pub joined-holder : (vm : Interrupts) (core : ℕ) (lists : List ListRegData) (id : ℕ) (change : ListRegData → ListRegData) (f : IdState → IdState) →
    core < 8 → id < 96 → IsShaped vm → Tidy vm core lists → (list : ListRegData) → find (holds id) lists ≡ Some list →
    Changes core id change f →
    joined vm core (with_holder change id lists) ≡ change_at (joined vm core lists) core id f
joined-holder vm core [] id change f below within shaped tidy list is changes = none_some list is
joined-holder vm core (first ∷ lists) id change f below within shaped tidy list is changes =
    by_test (holds id first) refl is (λ rest. joined-holder vm core lists id change f below within shaped tidy.1 list rest changes)
  where
    by_test : (test : Bool) → holds id first ≡ test → cond test (Some first) (find (holds id) lists) ≡ Some list →
        (find (holds id) lists ≡ Some list → joined vm core (with_holder change id lists) ≡ change_at (joined vm core lists) core id f) →
        joined vm core (if test then change first ∷ lists else first ∷ with_holder change id lists)
        ≡ change_at (put_back (joined vm core lists) core first) core id f
    by_test true on is rest =
        let both = holds-occupied (is_free first) (first.id == id) on in
        let same : first.id ≡ id = true_same first.id id both.1 in
        let fits = tidy.0 both.0 in
        let alone : find (holds id) lists ≡ None = ap (λ n. find (holds n) lists) (sym same) ∙ fits.1 in
        let here : state_of (joined vm core lists) core id ≡ state_of vm core first.id =
        state-joined vm core lists id below within shaped
        ∙ ap (λ found. as_listed found (state_of vm core id)) alone
        ∙ ap (state_of vm core) (sym same) in
        changes (joined vm core lists) first (shaped-joined vm core lists shaped) on
        (ap (λ (s : IdState). s.pending) here ∙ fits.0.not_pending)
        (ap (λ (s : IdState). s.active) here ∙ fits.0.not_active)
    by_test false off is rest =
        ap (λ other. put_back other core first) (rest is) ∙ put_back-change (joined vm core lists) core id f first below off

-- a register's occupant, seen by its id
put_back-holds : (vm : Interrupts) (core id : ℕ) (list : ListRegData) → holds id list ≡ true →
    put_back vm core list ≡ change_at vm core id (given_by list)
put_back-holds vm core id list on =
    by_test (is_free list) (holds-occupied (is_free list) (list.id == id) on).0
    ∙ ap (λ n. change_at vm core n (given_by list)) (true_same list.id id (holds-occupied (is_free list) (list.id == id) on).1)
  where
    by_test : (free : Bool) → free ≡ false →
        (if free then vm else change_at vm core list.id (given_by list)) ≡ change_at vm core list.id (given_by list)
    by_test true is = absurd (false≢true (sym is))
    by_test false is = refl

pub made_active-changes : (core id : ℕ) → core < 8 → id < 96 →
    Changes core id made_active (λ state. record state { pending = false; active = true })
made_active-changes core id below within vm list shaped on pending active =
    ap (λ n. change_at vm core n (λ state. record state { pending = false; active = true }))
    (true_same list.id id (holds-occupied (is_free list) (list.id == id) on).1)
    ∙ sym (change-same vm core id (given_by list) (λ state. record state { pending = false; active = true }) below within shaped)
    ∙ sym (ap (λ other. change_at other core id (λ state. record state { pending = false; active = true })) (put_back-holds vm core id list on))

pub made_inactive-changes : (core id : ℕ) → core < 8 → id < 96 →
    Changes core id made_inactive (λ state. record state { active = false })
made_inactive-changes core id below within vm list shaped on pending active =
    by_pending list.pending
    ∙ ap (λ n. change_at vm core n (λ state. record state { pending = list.pending; active = false })) same
    ∙ sym (change-same vm core id (given_by list) (λ state. record state { active = false }) below within shaped)
    ∙ sym (ap (λ other. change_at other core id (λ state. record state { active = false })) (put_back-holds vm core id list on))
  where
    same : list.id ≡ id
    same = true_same list.id id (holds-occupied (is_free list) (list.id == id) on).1

    by_pending : (p : Bool) →
        (if not p && not false then vm else change_at vm core list.id (λ state. record state { pending = p; active = false }))
        ≡ change_at vm core list.id (λ state. record state { pending = p; active = false })
    by_pending true = refl
    by_pending false =
        sym (subst (λ n. change_at vm core n (λ state. record state { pending = false; active = false }) ≡ vm) (sym same)
        (change-clear vm core id pending active))
