-- The best rank of a core, and the id that has it.
use Rattle.std.proofs.Common.{◌≡◌, ℕ, zero, suc, ◌+◌, ◌*◌, ◌/◌, ◌%◌, ◌<◌, ◌≤◌, nat_lt, min, Bool, true, false, not, ◌&&◌, if◌then◌else◌, refl, sym, ap, subst, ◌∙◌, arith, ◌⊎◌, inl, inr}
use Rattle.vgic_iface.specs.Rank.{id_of, least, no_rank, priority_of, rank}
use Rattle.vgic_iface.proofs.LeastLemmas.{least-found, least_le_none}
use Rattle.std.proofs.lemmas.Bool.Decides.{nat_tests}
use Rattle.bao_types.specs.ListReg.{ListRegData, free_register}
use Rattle.bao_types.specs.Controller.{id_end}
use Rattle.vgic_table.specs.Registers.{register_for}
use Rattle.vgic_table.specs.Interrupts.{Interrupts, best, may_take, rank_at, state_of}
use Rattle.vgic_table.proofs.StateLemmas.{false_true}

-- what the best id of a core is
pub record IsBest (vm : Interrupts) (core id best : ℕ) : Type 0 where
  pub within : id < 96
  pub taken : may_take vm core id ≡ true
  pub priority : (state_of vm core id).priority ≡ priority_of best

-- a best rank is that of an id which the core may take
pub best-found : (vm : Interrupts) (core : ℕ) → best vm core < no_rank → IsBest vm core (id_of (best vm core)) (best vm core)
best-found vm core some = by_kind (least-found (rank_at vm core) id_end)
  where
    parts : (p id best : ℕ) → id < 96 → best ≡ 128 * p + id → (id ≡ best % 128) × (p ≡ best / 128)
    parts p id best within is = (omega arith, omega arith)

    by_test : (id : ℕ) (test : Bool) → id < 96 → may_take vm core id ≡ test →
        best vm core ≡ (if test then rank (state_of vm core id).priority id else no_rank) →
        IsBest vm core (id_of (best vm core)) (best vm core)
    by_test id true within may is =
        let both = parts (state_of vm core id).priority id (best vm core) within is in
        subst (λ n. IsBest vm core n (best vm core)) both.0 (record { within = within; taken = may; priority = both.1 })
    by_test id false within may is = absurd (omega (arith, is, some))

    by_kind : (best vm core ≡ no_rank) ⊎ ((id : ℕ) × (id < id_end) × (best vm core ≡ rank_at vm core id)) →
        IsBest vm core (id_of (best vm core)) (best vm core)
    by_kind (inl none) = absurd (omega (arith, none, some))
    by_kind (inr (id, within, is)) = by_test id (may_take vm core id) within refl is

-- a core may take none while the distributor is off
none-off : (vm : Interrupts) (core count : ℕ) → vm.on ≡ false → least (rank_at vm core) count ≡ no_rank
unfolding least
none-off vm core zero off = refl
none-off vm core (suc count) off = rw (none-off vm core count off, off) refl

pub best-off : (vm : Interrupts) (core : ℕ) → vm.on ≡ false → best vm core ≡ no_rank
best-off vm core off = none-off vm core id_end off

-- all five tests of an id that may be taken
pub record Passes (o w e p a : Bool) : Type 0 where
  pub on : o ≡ true
  pub owned : w ≡ true
  pub enabled : e ≡ true
  pub pending : p ≡ true
  pub active : a ≡ false

pub all_pass : (on owned enabled pending active : Bool) → (on && owned && enabled && pending && not active) ≡ true →
    Passes on owned enabled pending active
all_pass true true true true false is = record { on = refl; owned = refl; enabled = refl; pending = refl; active = refl }
all_pass true true true true true is = false_true is
all_pass true true true false active is = false_true is
all_pass true true false pending active is = false_true is
all_pass true false enabled pending active is = false_true is
all_pass false owned enabled pending active is = false_true is

-- two kinds of ranks, of which for each id at most one is there
pub least-joined : (f g h : ℕ → ℕ) (count : ℕ) →
    ((id : ℕ) → id < count → ((h id ≡ f id) × (no_rank ≤ g id)) ⊎ ((h id ≡ g id) × (no_rank ≤ f id))) →
    least h count ≡ min (least f count) (least g count)
unfolding least
least-joined f g h zero apart = omega arith
least-joined f g h (suc count) apart =
    by_kind (apart count (omega arith)) (least-joined f g h count (λ id within. apart id (omega arith))) (least_le_none f count) (least_le_none g count)
  where
    by_kind : ((h count ≡ f count) × (no_rank ≤ g count)) ⊎ ((h count ≡ g count) × (no_rank ≤ f count)) →
        least h count ≡ min (least f count) (least g count) → least f count ≤ no_rank → least g count ≤ no_rank →
        min (least h count) (h count) ≡ min (min (least f count) (f count)) (min (least g count) (g count))
    by_kind (inl (is, none)) rest f_top g_top = omega (arith, is, none, rest, f_top, g_top)
    by_kind (inr (is, none)) rest f_top g_top = omega (arith, is, none, rest, f_top, g_top)

-- the register for a best id
pub register_for-is : (best id priority : ℕ) → best < no_rank → id ≡ id_of best → priority ≡ priority_of best →
    record { id = id; priority = priority; pending = true; active = false } ≡ register_for best
register_for-is best id priority some id_is priority_is =
    let test : nat_lt best no_rank ≡ true = grind (arith, nat_tests) in
    let list : ListRegData = record { id = id_of best; priority = priority_of best; pending = true; active = false } in
    ap (λ n. let r : ListRegData = record { id = n; priority = priority; pending = true; active = false } in r) id_is
    ∙ ap (λ n. let r : ListRegData = record { id = id_of best; priority = n; pending = true; active = false } in r) priority_is
    ∙ sym (ap (λ b. if b then list else free_register) test)
