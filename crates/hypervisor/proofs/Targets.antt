-- Interrupts that a core sends are made pending at one target after another.
use Rattle.std.proofs.Common.{arith, ◌≡◌, ℕ, suc, ◌+◌, ◌<◌, ◌==◌, Bool, true, false, ◌&&◌, ◌||◌, length, refl, sym, ap, subst, ◌∙◌}
use Rattle.std.specs.Prelude.{if◌then◌else◌, nat_lt, Some, slice_set}
use Rattle.std.proofs.lemmas.Bool.Decides.{nat_tests}
use Rattle.bao_types.specs.ListReg.{free_registers}
use Rattle.bao_config.specs.Data.{ConfigData}
use Rattle.bao_config.specs.Fits.{ConfigFits}
use Rattle.bao_wellformed.specs.WellFormed.{IsWellFormed}
use Rattle.board.specs.Machine.{Machine, with_lists}
use Rattle.vgic_table.specs.declared.id_state.IdState.{IdState}
use Rattle.vgic_table.specs.Changes.{made_pending, pended_at}
use Rattle.vgic_table.specs.Cores.{IsCoreOf}
use Rattle.vgic_table.specs.Interrupts.{Interrupts, place, tables_of}
use Rattle.vgic_table.specs.Shape.{IsShaped}
use Rattle.vgic_table.proofs.OthersLemmas.{others-cores, others-shaped}
use Rattle.vgic_table.proofs.PendedLemmas.{made_pending-at, pended-both, pended-none, pended-same, shaped-pended}
use Rattle.vgic_table.proofs.StateLemmas.{change_at, place-within}
use Rattle.vm_model.specs.Guests.{Guests}
use Rattle.vm_model.specs.Interrupts.{with_table}
use Rattle.vm_model.specs.Project.{joined_tables, lists_of}
use Rattle.vm_model.specs.Sent.{is_sent_at, is_target, sent, sent_id}
use Rattle.hypervisor.specs.Hyp.{HypData}
use Rattle.hypervisor.specs.Seat.{IsSeat, holder_of, taken_back}
use Rattle.hypervisor.specs.declared.seat.Seat.{Seat}
use Rattle.hypervisor.specs.Taken.{IsLeft, guests_of}
use Rattle.hypervisor.specs.Tidy.{Tidy}
use Rattle.hypervisor.proofs.Forwarded.{with_table-none, with_table-twice}
use Rattle.hypervisor.proofs.Held.{is_core, own}
use Rattle.hypervisor.proofs.Left.{left_guests, left_then, left_tidy}
use Rattle.hypervisor.proofs.Moves.{left_by_change}
use Rattle.hypervisor.proofs.Seats.{on_platform, table_cores}

-- an id is made pending
abbrev pend_it : IdState → IdState
pend_it state = record state { pending = true }

module _ (cfg : ConfigData) (v sender value : ℕ) where
  -- the id is pending at the targets below a number
  abbrev pub sent_below : ℕ → Guests → Guests
  sent_below n guests = record guests { tables = with_table (Some v) (pended_at (is_sent_at sender value n)) guests.tables }

  abbrev pub IsSentBelow : HypData → Machine → ℕ → HypData → Machine → Type 0
  IsSentBelow old before n new after =
      IsLeft cfg (record { old = old; new = new; before = before; after = after }) (sent_below n (guests_of cfg old before))

  -- whether the next core is a target
  next_at : (n : ℕ) (target : Bool) → is_target sender value n ≡ target → (at : ℕ)
      → is_sent_at sender value (n + 1) at ≡ (target && place n (sent_id value) == at || is_sent_at sender value n at)
  next_at n target e at =
      ap (λ k. is_sent_at sender value k at) (let more : n + 1 ≡ suc n = omega arith in more)
      ∙ ap (λ t. t && place n (sent_id value) == at || is_sent_at sender value n at) e

  pub sent_none : (hyp : HypData) (m : Machine) → Tidy cfg hyp m → IsSentBelow hyp m 0 hyp m
  sent_none hyp m tidy = record {
    state = refl;
    powers = refl;
    tables =
        sym
        (with_table-none v (pended_at (is_sent_at sender value 0)) (joined_tables cfg m.lists (tables_of hyp.tables))
        (λ t. pended-none t (is_sent_at sender value 0) (λ p. refl)));
    held = tidy.held;
  }

  module _ (old : HypData) (before : Machine) (tidy : Tidy cfg old before) where
    abbrev guests : Guests
    guests = guests_of cfg old before

    module _ (n : ℕ) (mid : HypData) (between : Machine) (so_far : IsSentBelow old before n mid between) where
      pub sent_tidy : Tidy cfg mid between
      sent_tidy = left_tidy cfg old mid before between (sent_below n guests) tidy so_far refl

      -- a core that isn't a target is left
      pub sent_skip : is_target sender value n ≡ false → IsSentBelow old before (n + 1) mid between
      sent_skip other =
          subst
          (λ chosen. IsLeft cfg (record { old = old; new = mid; before = before; after = between })
          (record guests { tables = with_table (Some v) (pended_at chosen) guests.tables }))
          (λ i at. sym (next_at n false other at) i) so_far

      -- at a target the id is made pending
      module _ (well_formed : IsWellFormed cfg) (fits : ConfigFits cfg) (target : is_target sender value n ≡ true)
          (seat : Seat) (is : IsSeat cfg seat) (vm_is : seat.vm ≡ v) (own_is : seat.own ≡ n) (id : ℕ) (id_is : id ≡ sent_id value)
          (small : id < 16) where
        low : seat.core < length before.lists
        low =
            let on = on_platform cfg old before well_formed tidy seat is in let count = tidy.held.registers in omega (arith, on, count)

        is_one : IsCoreOf (tables_of old.tables seat.vm)
            (own cfg well_formed fits seat.vm seat.own seat.core is.vm is.place is.core old.tables before.lists tidy.held low) seat.own
        is_one = is_core cfg well_formed fits seat.vm seat.own seat.core is.vm is.place is.core old.tables before.lists tidy.held low

        shaped : IsShaped (guests.tables v)
        shaped =
            subst (λ w. IsShaped (guests.tables w)) vm_is
            (others-shaped (tables_of old.tables seat.vm) 0 (lists_of cfg before.lists seat.vm) is_one.shaped)

        within : place n id < length (pended_at (is_sent_at sender value n) (guests.tables v)).ids
        within =
            let few = is_one.few in let inside = is_one.within in
            let stands = place-within n id (omega (arith, few, inside, own_is)) (omega (arith, small)) in
            let shape = shaped-pended (guests.tables v) (is_sent_at sender value n) shaped in omega (arith, stands, shape)

        turned : (a b : ℕ) → (a == b) ≡ (b == a)
        turned a b = grind (arith, nat_tests)

        same : made_pending (pended_at (is_sent_at sender value n) (guests.tables v)) n id
            ≡ pended_at (is_sent_at sender value (n + 1)) (guests.tables v)
        same =
            made_pending-at (pended_at (is_sent_at sender value n) (guests.tables v)) n id within
            ∙ pended-both (guests.tables v) (λ p. p == place n id) (is_sent_at sender value n)
            ∙ pended-same (guests.tables v) (λ p. p == place n id || is_sent_at sender value n p) (is_sent_at sender value (n + 1))
            (λ p.
            ap (λ b. b || is_sent_at sender value n p) (turned p (place n id))
            ∙ ap (λ k. place n k == p || is_sent_at sender value n p) id_is ∙ sym (next_at n true target p))

        holder : seat.own ≡ holder_of n id
        holder =
            let below : nat_lt id 32 ≡ true = grind (arith, nat_tests) in own_is ∙ sym (ap (λ b. if b then n else 0) below)

        pub sent_next : (new : HypData) (after : Machine) → after ≡ with_lists between seat.core free_registers → new.powers ≡ mid.powers
            → new.tables ≡ slice_set mid.tables seat.vm
            (made_pending (taken_back mid.tables between.lists seat) seat.own id)
            → IsSentBelow old before (n + 1) new after
        sent_next new after state powers tables =
            left_then cfg old mid new before between after (sent_below n guests) (sent_below (n + 1) guests) so_far
            (subst (IsLeft cfg (record { old = mid; new = new; before = between; after = after }))
            (ap {B = Guests} (λ (g : Guests). record g { tables = with_table (Some v) (λ table. change_at table n id pend_it) g.tables })
            (left_guests cfg old mid before between (sent_below n guests) so_far)
            ∙ ap {B = Guests} (λ ts. record guests { tables = ts })
            (with_table-twice v (λ table. change_at table n id pend_it) (pended_at (is_sent_at sender value n))
            (pended_at (is_sent_at sender value (n + 1))) guests.tables same))
            (left_by_change cfg well_formed fits mid new between after sent_tidy seat is v n id pend_it vm_is holder (omega (arith, small)) state
            powers tables))

    -- once all cores of the VM are done
    pub sent_all : IsWellFormed cfg → (seat : Seat) (is : IsSeat cfg seat) → seat.vm ≡ v → (n : ℕ) → n ≡ length is.vm.cores
        → (new : HypData) (after : Machine) → IsSentBelow old before n new after
        → IsLeft cfg (record { old = old; new = new; before = before; after = after })
        (record guests { tables = with_table (Some v) (sent sender value) guests.tables })
    sent_all well_formed seat is vm_is n n_is new after so_far =
        subst
        (λ ts. IsLeft cfg (record { old = old; new = new; before = before; after = after })
        (record guests { tables = ts })) (λ i w. by_place w (v == w) refl i) so_far
      where
        cores : (guests.tables v).cores ≡ n
        cores =
            subst (λ w. (guests.tables w).cores ≡ n) vm_is
            (others-cores (tables_of old.tables seat.vm) 0 (lists_of cfg before.lists seat.vm)
            ∙ table_cores cfg old before well_formed tidy seat is ∙ sym n_is)

        by_place : (w : ℕ) (here : Bool) → (v == w) ≡ here
            → (if here then pended_at (is_sent_at sender value n) (guests.tables w) else guests.tables w)
            ≡ (if here then sent sender value (guests.tables w) else guests.tables w)
        by_place w true e =
            let at : v ≡ w = grind (arith, nat_tests) in
            subst
            (λ w. pended_at (is_sent_at sender value n) (guests.tables w) ≡ sent sender value (guests.tables w)) at
            (ap (λ k. pended_at (is_sent_at sender value k) (guests.tables v)) (sym cores))
        by_place w false e = refl
