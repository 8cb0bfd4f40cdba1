-- One core among several, each with list registers of its own: what its registers and the table become together. For this
-- crate and its callers.
use Rattle.std.proofs.Common.{◌≡◌, ℕ, zero, suc, ◌+◌, ◌<◌, ◌≤◌, nat_lt, Bool, true, false, ◌&&◌, if◌then◌else◌, List, [], length, replicate, slice_index_or, slice_set, None, find, refl, sym, ap, subst, ◌∙◌, arith}
use Rattle.std.proofs.lemmas.Bool.Decides.{nat_tests}
use Rattle.std.proofs.lemmas.List.{get_or-set_same, length-set, set-get_or, set-set}
use Rattle.bao_types.specs.ListReg.{ListRegData, free_registers, lists_at}
use Rattle.bao_types.specs.IfaceRegs.{IfaceData}
use Rattle.vgic_iface.specs.Interface.{acknowledged, best_listed, holds, is_unlisted, lists_acknowledged, lists_ended}
use Rattle.vgic_table.specs.declared.id_state.IdState.{IdState}
use Rattle.vgic_table.specs.Interrupts.{Interrupts, belongs, best, quiet, state_of}
use Rattle.vgic_table.specs.Changes.{after_acknowledge, after_end, made_inactive, signal}
use Rattle.vgic_table.specs.Registers.{Tidy, is_due, joined, left_by_registers, refilled_lists, refilled_table, registers}
use Rattle.vgic_table.specs.Shape.{BestIsListed, IsShaped}
use Rattle.vgic_table.specs.Laws.{Acknowledges, Ends, Refills, table_ended}
use Rattle.vgic_table.specs.Cores.{AreTidy, IsCoreOf, joined_cores}
use Rattle.vgic_table.specs.CoresLaws.{CoreAcknowledges, CoreCollects, CoreEnds, CoreRefills, StandFor}
use Rattle.vgic_table.proofs.StateLemmas.{change_at, false_true, place-shared}
use Rattle.vgic_table.proofs.HolderLemmas.{joined-change}
use Rattle.vgic_table.proofs.TidyLemmas.{tidy-unlisted}
use Rattle.vgic_table.proofs.LawLemmas.{acknowledges, best-listed, ends, refills}
use Rattle.vgic_table.proofs.OthersLemmas.{AreAllOwn, AreOwn, IsOwn, Spares, all_tidy-own, joined-last, others-best, others-change, others-joined, others-left, others-on, others-registers, others-shaped, others-state, others-tidy, own-set, spares-set, tidy-at, tidy-own}
use Rattle.vgic_table.proofs.MovedLemmas.{DiffersAt, all-moved, differs-change, differs-filled, differs-joined, differs-none}

-- free registers fit every table
pub free-tidy : (vm : Interrupts) (core : ℕ) → Tidy vm core free_registers
free-tidy vm core = (no, (no, (no, (no, tt))))
  where
    no : {X : Type 0} → true ≡ false → X
    no is = false_true (sym is)

-- with all registers free the table has all interrupts
pub all_free : (count first : ℕ) (vm : Interrupts) → (joined_cores first (replicate count free_registers) vm ≡ vm) × AreTidy first (replicate count free_registers) vm
all_free zero first vm = (refl, tt)
all_free (suc count) first vm =
    let rest = all_free count (suc first) vm in
    (rest.0, (free-tidy vm first, rest.1))

-- an id of the VM is the same for all its cores
pub shared-change : (vm : Interrupts) (core id : ℕ) (f : IdState → IdState) → 32 ≤ id → change_at vm core id f ≡ change_at vm 0 id f
shared-change vm core id f shared =
    ap (λ p. record vm { ids = slice_set vm.ids p (f (slice_index_or vm.ids p quiet)) }) (place-shared core id shared ∙ sym (place-shared 0 id shared))

module _ (vm : Interrupts) (all : List (List ListRegData)) (core : ℕ) (is : IsCoreOf vm all core) where
  few : length all ≤ 8
  few = is.few

  within : core < length all
  within = is.within

  shaped : IsShaped vm
  shaped = is.shaped

  tidy : AreTidy 0 all vm
  tidy = is.tidy

  -- the table and the registers of the other cores
  abbrev pub others : Interrupts → Interrupts
  others = joined_cores 0 (slice_set all core [])

  at : core ≡ 0 + core
  at = omega arith

  below : core < 8
  below = omega (arith, few, within)

  few_others : 0 + length (slice_set all core []) ≤ 8
  few_others = rw (length-set all core []) (omega (arith, few))

  spares : Spares core 0 (slice_set all core [])
  spares = spares-set core 0 core all at

  owns : AreAllOwn 0 (slice_set all core [])
  owns = own-set core 0 core all [] at tt (all_tidy-own vm 0 all tidy)

  -- the core's registers fit the table
  pub own-tidy : Tidy vm core (lists_at all core)
  own-tidy = tidy-at core vm 0 core all at tidy

  own : AreOwn core (lists_at all core)
  own = tidy-own vm core (lists_at all core) own-tidy

  -- any core's registers may be taken last, also new ones and in another table
  pub put-last : (table : Interrupts) (new : List ListRegData) → AreOwn core new →
      joined_cores 0 (slice_set all core new) table ≡ joined (others table) core new
  put-last table new owned =
      joined-last core table 0 core (slice_set all core new) at (rw (length-set all core new) within) (rw (length-set all core new) (omega (arith, few)))
      (own-set core 0 core all new at owned (all_tidy-own vm 0 all tidy))
      ∙ ap (λ l. joined (joined_cores 0 l table) core (slice_index_or (slice_set all core new) core [])) (set-set all core new [])
      ∙ ap (joined (others table) core) (get_or-set_same all core new [] within)

  pub core-last : (table : Interrupts) → joined_cores 0 all table ≡ joined (others table) core (lists_at all core)
  core-last table =
      ap (λ l. joined_cores 0 l table) (sym (set-get_or all core [])) ∙ put-last table (lists_at all core) own

  -- the other cores' registers leave what is the core's own
  pub state-others : (table : Interrupts) (id : ℕ) → IsOwn core id → state_of (others table) core id ≡ state_of table core id
  state-others table id owned = others-state core below table 0 (slice_set all core []) id few_others spares owns owned

  pub best-others : (table : Interrupts) → best (others table) core ≡ best table core
  best-others = others-best core below 0 (slice_set all core []) few_others spares owns

  pub tidy-others : (table : Interrupts) (new : List ListRegData) → Tidy table core new → Tidy (others table) core new
  tidy-others = others-tidy core below 0 (slice_set all core []) few_others spares owns

  pub shaped-others : (table : Interrupts) → IsShaped table → IsShaped (others table)
  shaped-others table = others-shaped table 0 (slice_set all core [])

  pub on-others : (table : Interrupts) → (others table).on ≡ table.on
  on-others table = others-on table 0 (slice_set all core [])

  -- and come before or after a change of it
  pub change-others : (table : Interrupts) (id : ℕ) (f : IdState → IdState) → IsOwn core id →
      others (change_at table core id f) ≡ change_at (others table) core id f
  change-others table id f owned = others-change core below table 0 (slice_set all core []) id f few_others spares owns owned

  pub joined-others : (table : Interrupts) (new : List ListRegData) → AreOwn core new → others (joined table core new) ≡ joined (others table) core new
  joined-others = others-joined core below 0 (slice_set all core []) few_others spares owns

  pub left-others : (table : Interrupts) → others (left_by_registers 4 table core) ≡ left_by_registers 4 (others table) core
  left-others = others-left core below 0 (slice_set all core []) few_others spares owns 4

  pub registers-others : (table : Interrupts) → registers 4 (others table) core ≡ registers 4 table core
  registers-others = others-registers core below 0 (slice_set all core []) few_others spares owns 4

  -- the other cores' registers fit a table that differs in the core's own ids
  pub moved : (table : Interrupts) (new : List ListRegData) → DiffersAt core vm table → Tidy table core new → AreTidy 0 (slice_set all core new) table
  moved table new differs fits = all-moved core vm table differs 0 core all new at (omega (arith, few)) fits tidy

  pub core-acknowledges : (iface : IfaceData) → BestIsListed vm core (lists_at all core) → CoreAcknowledges vm all core iface
  core-acknowledges iface listed =
      record {
        value = among.value ∙ ap (λ t. signal t core iface) (sym (core-last vm));
        listed = ap (λ t. best t core) (core-last vm) ∙ best-listed (others vm) core below (shaped-others vm shaped) (lists_at all core) (tidy-others vm (lists_at all core) own-tidy) comes;
        interface = among.interface ∙ ap (λ t. acknowledged iface (best t core)) (sym (core-last vm));
        after =
            record {
              same =
                  put-last vm (lists_acknowledged iface (lists_at all core)) (tidy-own vm core (lists_acknowledged iface (lists_at all core)) alone.tidy)
                  ∙ among.after ∙ ap (λ t. after_acknowledge t core iface) (sym (core-last vm));
              tidy = moved vm (lists_acknowledged iface (lists_at all core)) (differs-none core vm) alone.tidy;
            };
      }
    where
      comes : BestIsListed (others vm) core (lists_at all core)
      comes = subst (λ b. best_listed (lists_at all core) ≤ b) (sym (best-others vm)) listed

      alone : Acknowledges vm core iface (lists_at all core)
      alone = acknowledges vm core below shaped (lists_at all core) own-tidy iface listed

      among : Acknowledges (others vm) core iface (lists_at all core)
      among = acknowledges (others vm) core below (shaped-others vm shaped) (lists_at all core) (tidy-others vm (lists_at all core) own-tidy) iface comes

  pub core-ends : (id : ℕ) → (is_unlisted (lists_at all core) id ≡ true → belongs vm core id ≡ true) → CoreEnds vm all core id
  core-ends id owned =
      record {
        same =
            put-last (table_ended vm core (lists_at all core) id) (lists_ended (lists_at all core) id)
            (tidy-own (table_ended vm core (lists_at all core) id) core (lists_ended (lists_at all core) id) alone.tidy)
            ∙ ap (λ t. joined t core (lists_ended (lists_at all core) id)) (table (is_unlisted (lists_at all core) id) refl)
            ∙ among.after ∙ ap (λ t. after_end t core id) (sym (core-last vm));
        tidy = moved (table_ended vm core (lists_at all core) id) (lists_ended (lists_at all core) id) (differs (is_unlisted (lists_at all core) id) refl) alone.tidy;
      }
    where
      alone : Ends vm core (lists_at all core) id
      alone = ends vm core below shaped (lists_at all core) own-tidy id

      among : Ends (others vm) core (lists_at all core) id
      among = ends (others vm) core below (shaped-others vm shaped) (lists_at all core) (tidy-others vm (lists_at all core) own-tidy) id

      within_of : (id : ℕ) (rest : Bool) → (nat_lt id 96 && rest) ≡ true → id < 96
      within_of id rest is = grind (arith, nat_tests)

      own_id : is_unlisted (lists_at all core) id ≡ true → IsOwn core id
      own_id is = record { within = within_of id _ is; owned = owned is }

      table : (test : Bool) → is_unlisted (lists_at all core) id ≡ test →
          others (if test then made_inactive vm core id else vm) ≡ (if test then made_inactive (others vm) core id else others vm)
      table true is = change-others vm id (λ state. record state { active = false }) (own_id is)
      table false is = refl

      differs : (test : Bool) → is_unlisted (lists_at all core) id ≡ test → DiffersAt core vm (if test then made_inactive vm core id else vm)
      differs true is = differs-change core vm id (λ state. record state { active = false }) below (own_id is)
      differs false is = differs-none core vm

  pub core-collects : CoreCollects vm all core
  core-collects =
      record {
        same =
            put-last (joined vm core (lists_at all core)) free_registers (tidy-own vm core free_registers (free-tidy vm core))
            ∙ joined-others vm (lists_at all core) own ∙ sym (core-last vm);
        tidy =
            moved (joined vm core (lists_at all core)) free_registers (differs-joined core vm (lists_at all core) below own)
            (free-tidy (joined vm core (lists_at all core)) core);
      }

  pub core-refills : CoreRefills vm all core
  core-refills =
      record {
        after =
            record {
              same =
                  put-last (refilled_table vm core (lists_at all core)) (refilled_lists vm core (lists_at all core))
                  (tidy-own (refilled_table vm core (lists_at all core)) core (refilled_lists vm core (lists_at all core)) alone.tidy)
                  ∙ ap (λ t. joined t core (refilled_lists vm core (lists_at all core))) (table (is_due vm core (lists_at all core)) ∙ due_table)
                  ∙ ap (joined (refilled_table (others vm) core (lists_at all core)) core) (filled (is_due vm core (lists_at all core)) ∙ due_lists)
                  ∙ among.same ∙ sym (core-last vm);
              tidy =
                  moved (refilled_table vm core (lists_at all core)) (refilled_lists vm core (lists_at all core))
                  (differs (is_due vm core (lists_at all core))) alone.tidy;
            };
        best = alone.best;
      }
    where
      alone : Refills vm core (lists_at all core)
      alone = refills vm core below shaped (lists_at all core) own-tidy

      among : Refills (others vm) core (lists_at all core)
      among = refills (others vm) core below (shaped-others vm shaped) (lists_at all core) (tidy-others vm (lists_at all core) own-tidy)

      due : is_due vm core (lists_at all core) ≡ is_due (others vm) core (lists_at all core)
      due = ap (λ b. nat_lt b (best_listed (lists_at all core))) (sym (best-others vm))

      due_table :
          (if is_due vm core (lists_at all core) then left_by_registers 4 (joined (others vm) core (lists_at all core)) core else others vm)
          ≡ refilled_table (others vm) core (lists_at all core)
      due_table = ap (λ d. if d then left_by_registers 4 (joined (others vm) core (lists_at all core)) core else others vm) due

      due_lists :
          (if is_due vm core (lists_at all core) then registers 4 (joined (others vm) core (lists_at all core)) core else lists_at all core)
          ≡ refilled_lists (others vm) core (lists_at all core)
      due_lists = ap (λ d. if d then registers 4 (joined (others vm) core (lists_at all core)) core else lists_at all core) due

      table : (test : Bool) →
          others (if test then left_by_registers 4 (joined vm core (lists_at all core)) core else vm)
          ≡ (if test then left_by_registers 4 (joined (others vm) core (lists_at all core)) core else others vm)
      table true =
          left-others (joined vm core (lists_at all core)) ∙ ap (λ t. left_by_registers 4 t core) (joined-others vm (lists_at all core) own)
      table false = refl

      filled : (test : Bool) →
          (if test then registers 4 (joined vm core (lists_at all core)) core else lists_at all core)
          ≡ (if test then registers 4 (joined (others vm) core (lists_at all core)) core else lists_at all core)
      filled true =
          sym (registers-others (joined vm core (lists_at all core))) ∙ ap (λ t. registers 4 t core) (joined-others vm (lists_at all core) own)
      filled false = refl

      differs : (test : Bool) → DiffersAt core vm (if test then left_by_registers 4 (joined vm core (lists_at all core)) core else vm)
      differs true = differs-filled core 4 vm (lists_at all core) below own
      differs false = differs-none core vm

  -- an id of the core's own that stands in none of its registers is changed in the table
  pub core-changes : (id : ℕ) (f : IdState → IdState) → id < 96 → belongs vm core id ≡ true → find (holds id) (lists_at all core) ≡ None →
      StandFor (change_at (joined_cores 0 all vm) core id f) all (change_at vm core id f)
  core-changes id f inside owned none =
      record {
        same =
            core-last (change_at vm core id f)
            ∙ ap (λ t. joined t core (lists_at all core)) (change-others vm id f own_id)
            ∙ joined-change (others vm) core (lists_at all core) id f below none
            ∙ ap (λ t. change_at t core id f) (sym (core-last vm));
        tidy =
            subst (λ l. AreTidy 0 l (change_at vm core id f)) (set-get_or all core [])
            (moved (change_at vm core id f) (lists_at all core) (differs-change core vm id f below own_id)
            (tidy-unlisted vm core (lists_at all core) id f below none own-tidy));
      }
    where
      own_id : IsOwn core id
      own_id = record { within = inside; owned = owned }
