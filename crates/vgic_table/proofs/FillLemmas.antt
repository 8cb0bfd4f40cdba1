-- What `registers` and `left_by_registers` have in common with the table that they come from.
use Rattle.std.proofs.Common.{◌≡◌, ℕ, zero, suc, ◌+◌, ◌<◌, ◌≤◌, ◌*◌, ◌/◌, ◌%◌, nat_lt, min, ◌==◌, Bool, true, false, cond, ◌&&◌, if◌then◌else◌, Some, None, find, refl, sym, ap, subst, ◌∙◌, arith}
use Rattle.std.specs.Option.{option_map_or}
use Rattle.std.proofs.lemmas.Bool.{false≢true}
use Rattle.std.proofs.lemmas.Bool.Decides.{nat_tests}
use Rattle.std.proofs.Math.Nat.{le_antisymm}
use Rattle.bao_types.specs.ListReg.{ListRegData, free_register, is_free}
use Rattle.bao_types.specs.Controller.{id_end}
use Rattle.vgic_iface.specs.Rank.{id_of, no_rank, priority_of}
use Rattle.vgic_iface.specs.Interface.{best_listed, holds, listed_rank, rank_in}
use Rattle.vgic_iface.proofs.LeastLemmas.{least_le, least_le_none}
use Rattle.vgic_table.specs.declared.id_state.IdState.{IdState}
use Rattle.vgic_table.specs.Interrupts.{Interrupts, belongs, best, state_of}
use Rattle.vgic_table.specs.Changes.{with_state}
use Rattle.vgic_table.specs.Registers.{Fits, Tidy, joined, left_by_registers, put_back, register_for, registers, without_best}
use Rattle.vgic_table.specs.Shape.{IsShaped}
use Rattle.vgic_table.proofs.StateLemmas.{change-same, change_at, shaped-with, state-other, state-same, true_same, false_other, with-own}
use Rattle.vgic_table.proofs.RankLemmas.{Passes, all_pass, best-found}
use Rattle.vgic_table.proofs.JoinedLemmas.{best-joined}

-- what stays of an id of the core when others or it go into registers
pub record Keeps (old new : Interrupts) (core id : ℕ) : Type 0 where
  pub on : new.on ≡ old.on
  pub enabled : (state_of new core id).enabled ≡ (state_of old core id).enabled
  pub priority : (state_of new core id).priority ≡ (state_of old core id).priority
  pub active : (state_of new core id).active ≡ (state_of old core id).active
  pub pending : (state_of old core id).pending ≡ false → (state_of new core id).pending ≡ false

keeps-same : (old new : Interrupts) (core id : ℕ) → new.on ≡ old.on → state_of new core id ≡ state_of old core id → Keeps old new core id
keeps-same old new core id on is =
    record {
      on = on;
      enabled = ap (λ (s : IdState). s.enabled) is;
      priority = ap (λ (s : IdState). s.priority) is;
      active = ap (λ (s : IdState). s.active) is;
      pending = λ quiet. ap (λ (s : IdState). s.pending) is ∙ quiet;
    }

abbrev pub off : IdState → IdState
off state = record state { pending = false }

keeps-off : (old new : Interrupts) (core id : ℕ) → new.on ≡ old.on → state_of new core id ≡ off (state_of old core id) → Keeps old new core id
keeps-off old new core id on is =
    record {
      on = on;
      enabled = ap (λ (s : IdState). s.enabled) is;
      priority = ap (λ (s : IdState). s.priority) is;
      active = ap (λ (s : IdState). s.active) is;
      pending = λ _. ap (λ (s : IdState). s.pending) is;
    }

pub below_none : (best : ℕ) → nat_lt best no_rank ≡ true → best < no_rank
below_none best is = grind (arith, nat_tests)

not_below_none : (best : ℕ) → nat_lt best no_rank ≡ false → no_rank ≤ best
not_below_none best is = grind (arith, nat_tests)

both_true : (a b : Bool) → a ≡ true → b ≡ true → (a && b) ≡ true
both_true true true a_is b_is = refl
both_true true false a_is b_is = absurd (false≢true b_is)
both_true false b a_is b_is = absurd (false≢true a_is)

module _ (core : ℕ) (below : core < 8) where
  -- what the core's best id is
  best-passes : (vm : Interrupts) → best vm core < no_rank →
      Passes vm.on (belongs vm core (id_of (best vm core))) (state_of vm core (id_of (best vm core))).enabled
      (state_of vm core (id_of (best vm core))).pending (state_of vm core (id_of (best vm core))).active
  best-passes vm some = all_pass _ _ _ _ _ (best-found vm core some).taken

  shaped-step : (vm : Interrupts) → IsShaped vm → IsShaped (without_best vm core (best vm core))
  shaped-step vm shaped = by_test (nat_lt (best vm core) no_rank)
    where
      by_test : (test : Bool) → IsShaped (if test then change_at vm core (id_of (best vm core)) off else vm)
      by_test true = shaped-with vm core (id_of (best vm core)) _ shaped
      by_test false = shaped

  -- the id that goes into a register is no longer pending in the table
  off-step : (vm : Interrupts) → IsShaped vm → best vm core < no_rank →
      (state_of (without_best vm core (best vm core)) core (id_of (best vm core))).pending ≡ false
  off-step vm shaped some = by_test (nat_lt (best vm core) no_rank) refl
    where
      by_test : (test : Bool) → nat_lt (best vm core) no_rank ≡ test →
          (state_of (if test then change_at vm core (id_of (best vm core)) off else vm) core (id_of (best vm core))).pending ≡ false
      by_test true is = ap (λ (s : IdState). s.pending) (state-same vm core (id_of (best vm core)) (off (state_of vm core (id_of (best vm core)))) below (best-found vm core some).within shaped)
      by_test false is = absurd (omega (arith, some, not_below_none (best vm core) is))

  keeps-step : (vm : Interrupts) (id : ℕ) → IsShaped vm → Keeps vm (without_best vm core (best vm core)) core id
  keeps-step vm id shaped = by_tests (nat_lt (best vm core) no_rank) (id_of (best vm core) == id) refl refl
    where
      by_tests : (test same : Bool) → nat_lt (best vm core) no_rank ≡ test → (id_of (best vm core) == id) ≡ same →
          Keeps vm (if test then change_at vm core (id_of (best vm core)) off else vm) core id
      by_tests true true is same =
          subst (λ n. Keeps vm (change_at vm core (id_of (best vm core)) off) core n) (true_same (id_of (best vm core)) id same)
          (keeps-off vm (change_at vm core (id_of (best vm core)) off) core (id_of (best vm core)) refl
          (state-same vm core (id_of (best vm core)) (off (state_of vm core (id_of (best vm core)))) below
          (best-found vm core (below_none (best vm core) is)).within shaped))
      by_tests true false is other =
          keeps-same vm (change_at vm core (id_of (best vm core)) off) core id refl
          (state-other vm core (id_of (best vm core)) id _ below (false_other (id_of (best vm core)) id other))
      by_tests false same is other = keeps-same vm vm core id refl refl

  pub keeps-all : (count : ℕ) (vm : Interrupts) (id : ℕ) → IsShaped vm → Keeps vm (left_by_registers count vm core) core id
  keeps-all zero vm id shaped = keeps-same vm vm core id refl refl
  keeps-all (suc count) vm id shaped =
      let first = keeps-step vm id shaped in
      let rest = keeps-all count (without_best vm core (best vm core)) id (shaped-step vm shaped) in
      record {
        on = rest.on ∙ first.on;
        enabled = rest.enabled ∙ first.enabled;
        priority = rest.priority ∙ first.priority;
        active = rest.active ∙ first.active;
        pending = λ quiet. rest.pending (first.pending quiet);
      }

  -- an id that isn't pending goes into no register
  pub registers-none : (count : ℕ) (vm : Interrupts) (id : ℕ) → IsShaped vm → (state_of vm core id).pending ≡ false →
      find (holds id) (registers count vm core) ≡ None
  registers-none zero vm id shaped quiet = refl
  registers-none (suc count) vm id shaped quiet =
      by_test (nat_lt (best vm core) no_rank) refl
      (registers-none count (without_best vm core (best vm core)) id (shaped-step vm shaped) ((keeps-step vm id shaped).pending quiet))
    where
      by_same : (same : Bool) (list : ListRegData) → best vm core < no_rank → (id_of (best vm core) == id) ≡ same →
          find (holds id) (registers count (without_best vm core (best vm core)) core) ≡ None → cond same (Some list) (find (holds id) (registers count (without_best vm core (best vm core)) core)) ≡ None
      by_same true list some same rest =
          absurd (false≢true (sym quiet ∙ ap (λ n. (state_of vm core n).pending) (sym (true_same (id_of (best vm core)) id same))
          ∙ (best-passes vm some).pending))
      by_same false list some other rest = rest

      by_test : (test : Bool) → nat_lt (best vm core) no_rank ≡ test → find (holds id) (registers count (without_best vm core (best vm core)) core) ≡ None →
          cond (holds id (if test then record { id = id_of (best vm core); priority = priority_of (best vm core); pending = true; active = false } else free_register)) (Some (if test then record { id = id_of (best vm core); priority = priority_of (best vm core); pending = true; active = false } else free_register)) (find (holds id) (registers count (without_best vm core (best vm core)) core)) ≡ None
      by_test true is rest = by_same (id_of (best vm core) == id) _ (below_none (best vm core) is) refl rest
      by_test false is rest = rest

  pub tidy-all : (count : ℕ) (vm : Interrupts) → IsShaped vm → Tidy (left_by_registers count vm core) core (registers count vm core)
  tidy-all zero vm shaped = tt
  tidy-all (suc count) vm shaped =
      (by_test (nat_lt (best vm core) no_rank) refl, tidy-all count (without_best vm core (best vm core)) (shaped-step vm shaped))
    where
      next : Interrupts
      next = without_best vm core (best vm core)

      by_test : (test : Bool) → nat_lt (best vm core) no_rank ≡ test →
          is_free (if test then record { id = id_of (best vm core); priority = priority_of (best vm core); pending = true; active = false } else free_register) ≡ false →
          Fits (left_by_registers count (without_best vm core (best vm core)) core) core
          (if test then record { id = id_of (best vm core); priority = priority_of (best vm core); pending = true; active = false } else free_register)
          × (find (holds (if test then record { id = id_of (best vm core); priority = priority_of (best vm core); pending = true; active = false } else free_register).id)
          (registers count (without_best vm core (best vm core)) core) ≡ None)
      by_test false is occupied = absurd (false≢true (sym occupied))
      by_test true is occupied =
          let some : best vm core < no_rank = below_none (best vm core) is in
          let found = best-found vm core some in
          let passes = best-passes vm some in
          let first = keeps-step vm (id_of (best vm core)) shaped in
          let rest = keeps-all count (without_best vm core (best vm core)) (id_of (best vm core)) (shaped-step vm shaped) in (
            record {
              id = found.within;
              owned = passes.owned;
              priority = sym (rest.priority ∙ first.priority ∙ found.priority);
              not_pending = rest.pending (off-step vm shaped some);
              not_active = rest.active ∙ first.active ∙ passes.active;
              may_be_pending = λ on. both_true _ _ (rest.on ∙ first.on ∙ passes.on) (rest.enabled ∙ first.enabled ∙ passes.enabled);
            },
            registers-none count (without_best vm core (best vm core)) (id_of (best vm core)) (shaped-step vm shaped) (off-step vm shaped some),
          )

  -- put back, the register makes what the table was
  put_back-step : (vm : Interrupts) → IsShaped vm → put_back (without_best vm core (best vm core)) core (register_for (best vm core)) ≡ vm
  put_back-step vm shaped = by_test (nat_lt (best vm core) no_rank) refl
    where
      own : (state : IdState) → state.pending ≡ true → state.active ≡ false → record state { pending = true; active = false } ≡ state
      own state pending active =
          ap (λ b. record state { pending = b; active = false }) (sym pending) ∙ ap (λ b. record state { active = b }) (sym active)

      by_test : (test : Bool) → nat_lt (best vm core) no_rank ≡ test →
          put_back (if test then change_at vm core (id_of (best vm core)) off else vm) core
          (if test then record { id = id_of (best vm core); priority = priority_of (best vm core); pending = true; active = false } else free_register)
          ≡ vm
      by_test false is = refl
      by_test true is =
          let some : best vm core < no_rank = below_none (best vm core) is in
          let passes = best-passes vm some in
          change-same vm core (id_of (best vm core)) off (λ state. record state { pending = true; active = false }) below (best-found vm core some).within shaped
          ∙ ap (λ state. with_state vm core (id_of (best vm core)) state) (own (state_of vm core (id_of (best vm core))) passes.pending passes.active)
          ∙ with-own vm core (id_of (best vm core))

  -- no id is lost, doubled or changed
  pub joined-all : (count : ℕ) (vm : Interrupts) → IsShaped vm → joined (left_by_registers count vm core) core (registers count vm core) ≡ vm
  joined-all zero vm shaped = refl
  joined-all (suc count) vm shaped =
      ap (λ other. put_back other core (register_for (best vm core))) (joined-all count (without_best vm core (best vm core)) (shaped-step vm shaped))
      ∙ put_back-step vm shaped

  shaped-all : (count : ℕ) (vm : Interrupts) → IsShaped vm → IsShaped (left_by_registers count vm core)
  shaped-all zero vm shaped = shaped
  shaped-all (suc count) vm shaped = shaped-all count (without_best vm core (best vm core)) (shaped-step vm shaped)

  -- what the core may take is the better of what is left and what the registers have
  together-all : (count : ℕ) (vm : Interrupts) → IsShaped vm →
      best vm core ≡ min (best (left_by_registers count vm core) core) (best_listed (registers count vm core))
  together-all count vm shaped =
      ap (λ other. best other core) (sym (joined-all count vm shaped))
      ∙ best-joined (left_by_registers count vm core) core (registers count vm core) below (shaped-all count vm shaped) (tidy-all count vm shaped)

  -- the best id stands in a register
  pub best-all : (count : ℕ) (vm : Interrupts) → IsShaped vm → best_listed (registers (suc count) vm core) ≡ best vm core
  best-all count vm shaped =
      le_antisymm (by_test (nat_lt (best vm core) no_rank) refl) (omega (arith, together-all (suc count) vm shaped))
    where
      joins : (n : ℕ) → 128 * (n / 128) + n % 128 ≡ n
      joins n = omega arith

      self_same : (n : ℕ) → (n == n) ≡ true
      self_same n = grind (arith, nat_tests)

      first : (test : Bool) → nat_lt (best vm core) no_rank ≡ test → test ≡ true →
          option_map_or rank_in
          (cond (holds (id_of (best vm core)) (if test then record { id = id_of (best vm core); priority = priority_of (best vm core); pending = true; active = false } else free_register))
          (Some (if test then record { id = id_of (best vm core); priority = priority_of (best vm core); pending = true; active = false } else free_register))
          (find (holds (id_of (best vm core))) (registers count (without_best vm core (best vm core)) core)))
          no_rank
          ≡ best vm core
      first false is on = absurd (false≢true on)
      first true is on = rw (self_same (id_of (best vm core))) (joins (best vm core))

      by_test : (test : Bool) → nat_lt (best vm core) no_rank ≡ test → best_listed (registers (suc count) vm core) ≤ best vm core
      by_test false is =
          omega (arith, not_below_none (best vm core) is, least_le_none (listed_rank (registers (suc count) vm core)) id_end)
      by_test true is =
          let some : best vm core < no_rank = below_none (best vm core) is in
          subst (λ n. best_listed (registers (suc count) vm core) ≤ n) (first (nat_lt (best vm core) no_rank) refl is)
          (least_le (listed_rank (registers (suc count) vm core)) id_end (id_of (best vm core)) (best-found vm core some).within)

  -- no id that is left comes before it
  pub listed-all : (count : ℕ) (vm : Interrupts) → IsShaped vm →
      best_listed (registers (suc count) vm core) ≤ best (left_by_registers (suc count) vm core) core
  listed-all count vm shaped = omega (arith, together-all (suc count) vm shaped, best-all count vm shaped)
