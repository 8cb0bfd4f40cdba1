-- The list registers of other cores: what they leave of a core's own ids, and that they come before or after a change of
-- those.
use Rattle.std.proofs.Common.{◌≡◌, ◌≢◌, ℕ, zero, suc, ◌+◌, ◌*◌, ◌<◌, ◌≤◌, nat_lt, ◌==◌, Bool, true, false, ◌||◌, if◌then◌else◌, List, [], ◌∷◌, length, get_or, set, slice_index_or, slice_set, refl, sym, ap, subst, ◌∙◌, ◌⊎◌, inl, inr, arith}
use Rattle.std.proofs.lemmas.Bool.Decides.{nat_tests}
use Rattle.std.proofs.lemmas.List.{get_or-set_other, set_comm}
use Rattle.bao_types.specs.ListReg.{ListRegData, is_free}
use Rattle.bao_types.specs.Controller.{id_end}
use Rattle.vgic_iface.specs.Rank.{id_of, least, no_rank}
use Rattle.vgic_table.specs.declared.id_state.IdState.{IdState}
use Rattle.vgic_table.specs.Interrupts.{Interrupts, belongs, best, place, quiet, rank_at, state_of}
use Rattle.vgic_table.specs.Registers.{Tidy, joined, left_by_registers, put_back, register_for, registers, without_best}
use Rattle.vgic_table.specs.Shape.{IsShaped}
use Rattle.vgic_table.specs.Cores.{AreTidy, joined_cores}
use Rattle.vgic_table.proofs.StateLemmas.{change_at, false_other, own_or_shared, place-own, place-shared, true_same}
use Rattle.vgic_table.proofs.RankLemmas.{all_pass, best-found}
use Rattle.vgic_table.proofs.JoinedLemmas.{cores-joined, given_by, on-joined, rank_of, shaped-joined}
use Rattle.vgic_table.proofs.FillLemmas.{below_none, off}
use Rattle.vgic_table.proofs.TidyLemmas.{tidy-moved}

-- the id is one of the core's
pub record IsOwn (core id : ℕ) : Type 0 where
  pub within : id < 96
  pub owned : (nat_lt id 32 || core == 0) ≡ true

zero_of : (core id : ℕ) → 32 ≤ id → (nat_lt id 32 || core == 0) ≡ true → core ≡ 0
zero_of core id shared owned =
    let test : nat_lt id 32 ≡ false = grind (arith, nat_tests) in
    true_same core 0 (sym (ap (λ b. b || core == 0) test) ∙ owned)

-- the ids of two cores stand at two places
pub cores-apart : (core other id one : ℕ) → core < 8 → other < 8 → core ≢ other → IsOwn core id → IsOwn other one → place core id ≢ place other one
cores-apart core other id one below other_below apart own other_own same = by_kind (own_or_shared id) (own_or_shared one)
  where
    by_kind : (id < 32) ⊎ (32 ≤ id) → (one < 32) ⊎ (32 ≤ one) → ⊥
    by_kind (inl a) (inl b) =
        let sums : 32 * core + id ≡ 32 * other + one = sym (place-own core id a) ∙ same ∙ place-own other one b in
        apart (omega (arith, sums))
    by_kind (inl a) (inr b) =
        let sums : 32 * core + id ≡ 224 + one = sym (place-own core id a) ∙ same ∙ place-shared other one b in
        omega (arith, sums)
    by_kind (inr a) (inl b) =
        let sums : 224 + id ≡ 32 * other + one = sym (place-shared core id a) ∙ same ∙ place-own other one b in
        omega (arith, sums)
    by_kind (inr a) (inr b) = apart (zero_of core id a own.owned ∙ sym (zero_of other one b other_own.owned))

-- the id at one place is changed
abbrev change_place : Interrupts → ℕ → (IdState → IdState) → Interrupts
change_place vm p f = record vm { ids = slice_set vm.ids p (f (slice_index_or vm.ids p quiet)) }

places-swap : (vm : Interrupts) (p q : ℕ) (f g : IdState → IdState) → p ≢ q →
    change_place (change_place vm p f) q g ≡ change_place (change_place vm q g) p f
places-swap vm p q f g apart =
    ap (λ state. record vm { ids = slice_set (slice_set vm.ids p (f (slice_index_or vm.ids p quiet))) q (g state) })
    (get_or-set_other vm.ids p q (f (slice_index_or vm.ids p quiet)) quiet (λ same. apart (sym same)))
    ∙ ap (λ ids. record vm { ids = ids }) (set_comm vm.ids p q (f (slice_index_or vm.ids p quiet)) (g (slice_index_or vm.ids q quiet)) apart)
    ∙ sym (ap (λ state. record vm { ids = slice_set (slice_set vm.ids q (g (slice_index_or vm.ids q quiet))) p (f state) })
    (get_or-set_other vm.ids q p (g (slice_index_or vm.ids q quiet)) quiet apart))

-- each occupied register has an id of the core
abbrev pub AreOwn : ℕ → List ListRegData → Type 0
AreOwn core [] = Unit {0}
AreOwn core (list ∷ lists) = (is_free list ≡ false → IsOwn core list.id) × AreOwn core lists

pub tidy-own : (vm : Interrupts) (core : ℕ) (lists : List ListRegData) → Tidy vm core lists → AreOwn core lists
tidy-own vm core [] tidy = tt
tidy-own vm core (list ∷ lists) tidy = (
  λ occupied. record { within = (tidy.0 occupied).0.id; owned = (tidy.0 occupied).0.owned },
  tidy-own vm core lists tidy.1,
)

-- the registers of another core, and an id of this one
module _ (core other : ℕ) (below : core < 8) (other_below : other < 8) (apart : core ≢ other) where
  joined-apart : (vm : Interrupts) (id : ℕ) (f : IdState → IdState) (lists : List ListRegData) → IsOwn core id → AreOwn other lists →
      joined (change_at vm core id f) other lists ≡ change_at (joined vm other lists) core id f
  joined-apart vm id f [] own owns = refl
  joined-apart vm id f (list ∷ lists) own owns =
      ap (λ t. put_back t other list) (joined-apart vm id f lists own owns.1) ∙ by_test (is_free list) refl
    where
      all : Interrupts
      all = joined vm other lists

      by_test : (free : Bool) → is_free list ≡ free →
          (if free then change_at (joined vm other lists) core id f else change_at (change_at (joined vm other lists) core id f) other list.id (given_by list))
          ≡ change_at (if free then joined vm other lists else change_at (joined vm other lists) other list.id (given_by list)) core id f
      by_test true is = refl
      by_test false is =
          places-swap (joined vm other lists) (place core id) (place other list.id) f (given_by list)
          (cores-apart core other id list.id below other_below apart own (owns.0 is))

  pub state-apart : (vm : Interrupts) (id : ℕ) (lists : List ListRegData) → IsOwn core id → AreOwn other lists →
      state_of (joined vm other lists) core id ≡ state_of vm core id
  state-apart vm id [] own owns = refl
  state-apart vm id (list ∷ lists) own owns = by_test (is_free list) refl (state-apart vm id lists own owns.1)
    where
      by_test : (free : Bool) → is_free list ≡ free → state_of (joined vm other lists) core id ≡ state_of vm core id →
          state_of (if free then joined vm other lists else change_at (joined vm other lists) other list.id (given_by list)) core id ≡ state_of vm core id
      by_test true is rest = rest
      by_test false is rest =
          get_or-set_other (joined vm other lists).ids (place other list.id) (place core id)
          (given_by list (state_of (joined vm other lists) other list.id)) quiet
          (cores-apart core other id list.id below other_below apart own (owns.0 is))
          ∙ rest

  joined-swap : (vm : Interrupts) (lists others : List ListRegData) → AreOwn core lists → AreOwn other others →
      joined (joined vm core lists) other others ≡ joined (joined vm other others) core lists
  joined-swap vm [] others own owns = refl
  joined-swap vm (list ∷ lists) others own owns = by_test (is_free list) refl (joined-swap vm lists others own.1 owns)
    where
      by_test : (free : Bool) → is_free list ≡ free → joined (joined vm core lists) other others ≡ joined (joined vm other others) core lists →
          joined (if free then joined vm core lists else change_at (joined vm core lists) core list.id (given_by list)) other others
          ≡ (if free then joined (joined vm other others) core lists else change_at (joined (joined vm other others) core lists) core list.id (given_by list))
      by_test true is rest = rest
      by_test false is rest =
          joined-apart (joined vm core lists) list.id (given_by list) others (own.0 is) owns
          ∙ ap (λ t. change_at t core list.id (given_by list)) rest

-- each core's registers have ids of that core
abbrev pub AreAllOwn : ℕ → List (List ListRegData) → Type 0
AreAllOwn first [] = Unit {0}
AreAllOwn first (lists ∷ rest) = AreOwn first lists × AreAllOwn (suc first) rest

-- the core itself has no register among them
abbrev pub Spares : ℕ → ℕ → List (List ListRegData) → Type 0
Spares core first [] = Unit {0}
Spares core first (lists ∷ rest) = (first ≡ core → lists ≡ []) × Spares core (suc first) rest

pub all_tidy-own : (vm : Interrupts) (first : ℕ) (all : List (List ListRegData)) → AreTidy first all vm → AreAllOwn first all
all_tidy-own vm first [] tidy = tt
all_tidy-own vm first (lists ∷ rest) tidy = (tidy-own vm first lists tidy.0, all_tidy-own vm (suc first) rest tidy.1)

spares-above : (core first : ℕ) (all : List (List ListRegData)) → core < first → Spares core first all
spares-above core first [] above = tt
spares-above core first (lists ∷ rest) above = (λ same. absurd (omega arith), spares-above core (suc first) rest (omega arith))

module _ (core : ℕ) where
  pub spares-set : (first i : ℕ) (all : List (List ListRegData)) → core ≡ first + i → Spares core first (set all i [])
  spares-set first i [] at = tt
  spares-set first zero (lists ∷ rest) at = (λ same. refl, spares-above core (suc first) rest (omega arith))
  spares-set first (suc i) (lists ∷ rest) at = (λ same. absurd (omega arith), spares-set (suc first) i rest (omega arith))

  pub own-set : (first i : ℕ) (all : List (List ListRegData)) (new : List ListRegData) → core ≡ first + i → AreOwn core new →
      AreAllOwn first all → AreAllOwn first (set all i new)
  own-set first i [] new at own owns = tt
  own-set first zero (lists ∷ rest) new at own owns =
      let same : core ≡ first = omega arith in
      (subst (λ n. AreOwn n new) same own, owns.1)
  own-set first (suc i) (lists ∷ rest) new at own owns = (owns.0, own-set (suc first) i rest new (omega arith) own owns.1)

  pub own-at : (first i : ℕ) (all : List (List ListRegData)) → core ≡ first + i → AreAllOwn first all → AreOwn core (get_or all i [])
  own-at first i [] at owns = tt
  own-at first zero (lists ∷ rest) at owns =
      let same : first ≡ core = omega arith in
      subst (λ n. AreOwn n lists) same owns.0
  own-at first (suc i) (lists ∷ rest) at owns = own-at (suc first) i rest (omega arith) owns.1

  pub tidy-at : (vm : Interrupts) (first i : ℕ) (all : List (List ListRegData)) → core ≡ first + i → AreTidy first all vm → Tidy vm core (get_or all i [])
  tidy-at vm first i [] at tidy = tt
  tidy-at vm first zero (lists ∷ rest) at tidy =
      let same : first ≡ core = omega arith in
      subst (λ n. Tidy vm n lists) same tidy.0
  tidy-at vm first (suc i) (lists ∷ rest) at tidy = tidy-at vm (suc first) i rest (omega arith) tidy.1

  -- any core's registers may be taken last
  pub joined-last : (vm : Interrupts) (first i : ℕ) (all : List (List ListRegData)) → core ≡ first + i → i < length all → first + length all ≤ 8 →
      AreAllOwn first all → joined_cores first all vm ≡ joined (joined_cores first (set all i []) vm) core (get_or all i [])
  joined-last vm first i [] at within few owns = absurd (omega arith)
  joined-last vm first zero (lists ∷ rest) at within few owns =
      let same : first ≡ core = omega arith in
      ap (λ n. joined (joined_cores (suc first) rest vm) n lists) same
  joined-last vm first (suc i) (lists ∷ rest) at within few owns =
      let apart : core ≢ first = (λ same. absurd (omega arith)) in
      ap (λ t. joined t first lists) (joined-last vm (suc first) i rest (omega arith) (omega arith) (omega arith) owns.1)
      ∙ joined-swap core first (omega arith) (omega arith) apart (joined_cores (suc first) (set rest i []) vm) (get_or rest i []) lists
      (own-at (suc first) i rest (omega arith) owns.1) owns.0

-- the registers of all cores leave the distributor, the number of cores and the shape
pub others-on : (vm : Interrupts) (first : ℕ) (all : List (List ListRegData)) → (joined_cores first all vm).on ≡ vm.on
others-on vm first [] = refl
others-on vm first (lists ∷ rest) = on-joined (joined_cores (suc first) rest vm) first lists ∙ others-on vm (suc first) rest

pub others-cores : (vm : Interrupts) (first : ℕ) (all : List (List ListRegData)) → (joined_cores first all vm).cores ≡ vm.cores
others-cores vm first [] = refl
others-cores vm first (lists ∷ rest) = cores-joined (joined_cores (suc first) rest vm) first lists ∙ others-cores vm (suc first) rest

pub others-shaped : (vm : Interrupts) (first : ℕ) (all : List (List ListRegData)) → IsShaped vm → IsShaped (joined_cores first all vm)
others-shaped vm first [] shaped = shaped
others-shaped vm first (lists ∷ rest) shaped = shaped-joined (joined_cores (suc first) rest vm) first lists (others-shaped vm (suc first) rest shaped)

-- a least number of two functions that are alike
least-same : (f g : ℕ → ℕ) (count : ℕ) → ((id : ℕ) → id < count → f id ≡ g id) → least f count ≡ least g count
unfolding least
least-same f g zero same = refl
least-same f g (suc count) same =
    rw (least-same f g count (λ id within. same id (omega arith)), same count (omega arith)) refl

-- the best rank is that of the core's own ids
pub best-same : (vm new : Interrupts) (core : ℕ) → new.on ≡ vm.on → ((id : ℕ) → IsOwn core id → state_of new core id ≡ state_of vm core id) →
    best new core ≡ best vm core
best-same vm new core on same = least-same (rank_at new core) (rank_at vm core) id_end (λ id within. by_owner id within (nat_lt id 32 || core == 0) refl)
  where
    none : (on : Bool) (id : ℕ) (state : IdState) → rank_of on false id state ≡ no_rank
    none true id state = refl
    none false id state = refl

    by_owner : (id : ℕ) → id < 96 → (owned : Bool) → (nat_lt id 32 || core == 0) ≡ owned →
        rank_of new.on owned id (state_of new core id) ≡ rank_of vm.on owned id (state_of vm core id)
    by_owner id within true is =
        ap (λ b. rank_of b true id (state_of new core id)) on ∙ ap (rank_of vm.on true id) (same id (record { within = within; owned = is }))
    by_owner id within false is = none new.on id (state_of new core id) ∙ sym (none vm.on id (state_of vm core id))

-- the best id is one of the core's own
pub own-best : (vm : Interrupts) (core : ℕ) → best vm core < no_rank → IsOwn core (id_of (best vm core))
own-best vm core some =
    let found = best-found vm core some in
    record { within = found.within; owned = (all_pass vm.on (belongs vm core (id_of (best vm core))) (state_of vm core (id_of (best vm core))).enabled (state_of vm core (id_of (best vm core))).pending (state_of vm core (id_of (best vm core))).active found.taken).owned }

-- the registers of the other cores, and what is a core's own
module _ (core : ℕ) (below : core < 8) where
  pub others-state : (vm : Interrupts) (first : ℕ) (all : List (List ListRegData)) (id : ℕ) → first + length all ≤ 8 → Spares core first all → AreAllOwn first all →
      IsOwn core id → state_of (joined_cores first all vm) core id ≡ state_of vm core id
  others-state vm first [] id few spares owns own = refl
  others-state vm first (lists ∷ rest) id few spares owns own =
      by_core (first == core) refl ∙ others-state vm (suc first) rest id (omega arith) spares.1 owns.1 own
    where
      by_core : (same : Bool) → (first == core) ≡ same →
          state_of (joined (joined_cores (suc first) rest vm) first lists) core id ≡ state_of (joined_cores (suc first) rest vm) core id
      by_core true is = ap (λ l. state_of (joined (joined_cores (suc first) rest vm) first l) core id) (spares.0 (true_same first core is))
      by_core false is =
          state-apart core first below (omega arith) (λ same. false_other first core is (sym same)) (joined_cores (suc first) rest vm) id lists own owns.0

  pub others-change : (vm : Interrupts) (first : ℕ) (all : List (List ListRegData)) (id : ℕ) (f : IdState → IdState) → first + length all ≤ 8 → Spares core first all →
      AreAllOwn first all → IsOwn core id → joined_cores first all (change_at vm core id f) ≡ change_at (joined_cores first all vm) core id f
  others-change vm first [] id f few spares owns own = refl
  others-change vm first (lists ∷ rest) id f few spares owns own =
      ap (λ t. joined t first lists) (others-change vm (suc first) rest id f (omega arith) spares.1 owns.1 own) ∙ by_core (first == core) refl
    where
      by_core : (same : Bool) → (first == core) ≡ same →
          joined (change_at (joined_cores (suc first) rest vm) core id f) first lists
          ≡ change_at (joined (joined_cores (suc first) rest vm) first lists) core id f
      by_core true is =
          subst (λ l. joined (change_at (joined_cores (suc first) rest vm) core id f) first l ≡ change_at (joined (joined_cores (suc first) rest vm) first l) core id f)
          (sym (spares.0 (true_same first core is))) refl
      by_core false is =
          joined-apart core first below (omega arith) (λ same. false_other first core is (sym same)) (joined_cores (suc first) rest vm) id f lists own owns.0

  module _ (first : ℕ) (all : List (List ListRegData)) (few : first + length all ≤ 8) (spares : Spares core first all) (owns : AreAllOwn first all) where
    pub others-best : (vm : Interrupts) → best (joined_cores first all vm) core ≡ best vm core
    others-best vm = best-same vm (joined_cores first all vm) core (others-on vm first all) (λ id own. others-state vm first all id few spares owns own)

    pub others-tidy : (vm : Interrupts) (lists : List ListRegData) → Tidy vm core lists → Tidy (joined_cores first all vm) core lists
    others-tidy vm lists tidy =
        tidy-moved vm (joined_cores first all vm) core lists (others-on vm first all)
        (λ id within owned. inr (others-state vm first all id few spares owns (record { within = within; owned = owned }))) tidy

    pub others-joined : (vm : Interrupts) (lists : List ListRegData) → AreOwn core lists →
        joined_cores first all (joined vm core lists) ≡ joined (joined_cores first all vm) core lists
    others-joined vm [] own = refl
    others-joined vm (list ∷ lists) own = by_test (is_free list) refl (others-joined vm lists own.1)
      where
        by_test : (free : Bool) → is_free list ≡ free → joined_cores first all (joined vm core lists) ≡ joined (joined_cores first all vm) core lists →
            joined_cores first all (if free then joined vm core lists else change_at (joined vm core lists) core list.id (given_by list))
            ≡ (if free then joined (joined_cores first all vm) core lists else change_at (joined (joined_cores first all vm) core lists) core list.id (given_by list))
        by_test true is rest = rest
        by_test false is rest =
            others-change (joined vm core lists) first all list.id (given_by list) few spares owns (own.0 is)
            ∙ ap (λ t. change_at t core list.id (given_by list)) rest

    others-step : (vm : Interrupts) →
        joined_cores first all (without_best vm core (best vm core)) ≡ without_best (joined_cores first all vm) core (best (joined_cores first all vm) core)
    others-step vm = by_test (nat_lt (best vm core) no_rank) refl ∙ sym (ap (without_best (joined_cores first all vm) core) (others-best vm))
      where
        by_test : (test : Bool) → nat_lt (best vm core) no_rank ≡ test →
            joined_cores first all (if test then change_at vm core (id_of (best vm core)) off else vm)
            ≡ (if test then change_at (joined_cores first all vm) core (id_of (best vm core)) off else joined_cores first all vm)
        by_test true is =
            others-change vm first all (id_of (best vm core)) off few spares owns (own-best vm core (below_none (best vm core) is))
        by_test false is = refl

    pub others-left : (count : ℕ) (vm : Interrupts) →
        joined_cores first all (left_by_registers count vm core) ≡ left_by_registers count (joined_cores first all vm) core
    others-left zero vm = refl
    others-left (suc count) vm =
        others-left count (without_best vm core (best vm core)) ∙ ap (λ t. left_by_registers count t core) (others-step vm)

    pub others-registers : (count : ℕ) (vm : Interrupts) → registers count (joined_cores first all vm) core ≡ registers count vm core
    others-registers zero vm = refl
    others-registers (suc count) vm =
        ap (λ b. register_for b ∷ registers count (without_best (joined_cores first all vm) core (best (joined_cores first all vm) core)) core) (others-best vm)
        ∙ ap (λ rest. register_for (best vm core) ∷ rest)
        (ap (λ t. registers count t core) (sym (others-step vm)) ∙ others-registers count (without_best vm core (best vm core)))
