-- Acknowledgement and end, by list registers and by all interrupts.
use Rattle.std.proofs.Common.{◌≡◌, ℕ, ◌+◌, ◌*◌, ◌/◌, ◌%◌, ◌<◌, ◌≤◌, ◌==◌, nat_lt, min, Bool, true, false, not, ◌&&◌, if◌then◌else◌, List, Option, Some, None, find, refl, ap, sym, subst, ◌∙◌, arith, ◌⊎◌, inl, inr}
use Rattle.std.specs.Int.{trailing_zeros, w32}
use Rattle.std.specs.Option.{option_map_or}
use Rattle.std.proofs.lemmas.Bool.{false≢true}
use Rattle.std.proofs.lemmas.Bool.Decides.{nat_tests}
use Rattle.std.proofs.lemmas.Nat.{trailing_le}
use Rattle.bao_types.specs.ListReg.{ListRegData}
use Rattle.bao_types.specs.IfaceRegs.{IfaceData}
use Rattle.bao_types.specs.Controller.{id_end}
use Rattle.vgic_iface.specs.Active.{running}
use Rattle.vgic_iface.specs.Rank.{id_of, no_rank, rank}
use Rattle.vgic_iface.specs.Interface.{acknowledged, best_listed, holds, is_signalled, listed_rank, made_active, rank_in, signalled, with_holder}
use Rattle.vgic_iface.specs.Interface.{made_inactive as list_inactive}
use Rattle.vgic_iface.proofs.LeastLemmas.{least-found}
use Rattle.vgic_iface.proofs.ListsLemmas.{with_holder-none}
use Rattle.vgic_table.specs.Interrupts.{Interrupts, best}
use Rattle.vgic_table.specs.Changes.{made_inactive, taken}
use Rattle.vgic_table.specs.Registers.{Tidy, is_due, joined}
use Rattle.vgic_table.specs.Shape.{BestIsListed, IsShaped}
use Rattle.vgic_table.specs.Laws.{Acknowledges, Ends, Refills}
use Rattle.vgic_table.proofs.JoinedLemmas.{best-joined, shaped-joined, tidy-found}
use Rattle.vgic_table.proofs.FillLemmas.{joined-all, listed-all, tidy-all}
use Rattle.vgic_table.proofs.TidyLemmas.{made_active-keeps, made_inactive-keeps, tidy-holder, tidy-unlisted}
use Rattle.vgic_table.proofs.HolderLemmas.{joined-change, joined-holder, made_active-changes, made_inactive-changes}

-- the register in which the best id stands
pub record Holder (lists : List ListRegData) (best : ℕ) : Type 0 where
  pub list : ListRegData
  pub within : id_of best < 96
  pub found : find (holds (id_of best)) lists ≡ Some list

pub holder : (vm : Interrupts) (core : ℕ) (lists : List ListRegData) → Tidy vm core lists → best_listed lists < no_rank → Holder lists (best_listed lists)
holder vm core lists tidy some = by_kind (least-found (listed_rank lists) id_end)
  where
    part : (p id best : ℕ) → id < 96 → best ≡ 128 * p + id → id ≡ best % 128
    part p id best within is = omega arith

    by_test : (id : ℕ) (list : ListRegData) (test : Bool) → id < 96 → list.id ≡ id → find (holds id) lists ≡ Some list →
        best_listed lists ≡ (if test then rank list.priority list.id else no_rank) → Holder lists (best_listed lists)
    by_test id list true within same found is =
        let here : id ≡ id_of (best_listed lists) = part list.priority id (best_listed lists) within (is ∙ ap (rank list.priority) same) in
        record {
          list = list;
          within = subst (λ n. n < 96) here within;
          found = subst (λ n. find (holds n) lists ≡ Some list) here found;
        }
    by_test id list false within same found is = absurd (omega (arith, is, some))

    by_found : (id : ℕ) (found : Option ListRegData) → id < 96 → find (holds id) lists ≡ found →
        best_listed lists ≡ option_map_or rank_in found no_rank → Holder lists (best_listed lists)
    by_found id None within found is = absurd (omega (arith, is, some))
    by_found id (Some list) within found is =
        by_test id list (list.pending && not list.active) within (tidy-found vm core lists id list tidy found).1 found is

    by_kind : (best_listed lists ≡ no_rank) ⊎ ((id : ℕ) × (id < id_end) × (best_listed lists ≡ listed_rank lists id)) → Holder lists (best_listed lists)
    by_kind (inl none) = absurd (omega (arith, none, some))
    by_kind (inr (id, within, is)) = by_found id (find (holds id) lists) within refl is

-- a signalled rank is one: the running priority is at most 256
below_none : (iface : IfaceData) (best : ℕ) → is_signalled iface best ≡ true → best < no_rank
below_none iface best on = by_group iface.group on
  where
    lower : (pmr run : ℕ) → run ≤ 256 → best / 128 < min pmr run → best < 32768
    lower pmr run few less = omega arith

    most : (active : ℕ) → running active ≤ 256
    most active = by_none (active == 0)
      where
        by_none : (none : Bool) → (if none then 0xff else 8 * trailing_zeros w32 active) ≤ 256
        by_none true = omega arith
        by_none false = let few = trailing_le 32 active in omega (arith, few)

    less_of : (a b : ℕ) → nat_lt a b ≡ true → a < b
    less_of a b is = grind (arith, nat_tests)

    by_group : (group : Bool) → (group && nat_lt (best / 128) (min iface.pmr (running iface.active))) ≡ true → best < no_rank
    by_group true is = lower iface.pmr (running iface.active) (most iface.active) (less_of (best / 128) (min iface.pmr (running iface.active)) is)
    by_group false is = absurd (false≢true is)

module _ (vm : Interrupts) (core : ℕ) (below : core < 8) (shaped : IsShaped vm) (lists : List ListRegData) (tidy : Tidy vm core lists) where
  -- what the core may take is the best in the registers, where that comes first
  pub best-listed : BestIsListed vm core lists → best (joined vm core lists) core ≡ best_listed lists
  best-listed listed = omega (arith, best-joined vm core lists below shaped tidy, listed)

  pub acknowledges : (iface : IfaceData) → BestIsListed vm core lists → Acknowledges vm core iface lists
  acknowledges iface listed =
      record {
        value = ap (signalled iface) same;
        interface = ap (acknowledged iface) same;
        after =
            by_test (is_signalled iface (best_listed lists)) refl
            ∙ ap (λ b. if is_signalled iface b then taken (joined vm core lists) core (id_of b) else joined vm core lists) same;
        tidy = by_kind (is_signalled iface (best_listed lists));
      }
    where
      same : best_listed lists ≡ best (joined vm core lists) core
      same = sym (best-listed listed)

      by_test : (test : Bool) → is_signalled iface (best_listed lists) ≡ test →
          joined vm core (if test then with_holder made_active (id_of (best_listed lists)) lists else lists)
          ≡ (if test then taken (joined vm core lists) core (id_of (best_listed lists)) else joined vm core lists)
      by_test true is =
          let at = holder vm core lists tidy (below_none iface (best_listed lists) is) in
          joined-holder vm core lists (id_of (best_listed lists)) made_active (λ state. record state { pending = false; active = true })
          below at.within shaped tidy at.list at.found (made_active-changes core (id_of (best_listed lists)) below at.within)
      by_test false is = refl

      by_kind : (test : Bool) → Tidy vm core (if test then with_holder made_active (id_of (best_listed lists)) lists else lists)
      by_kind true = tidy-holder vm core lists (id_of (best_listed lists)) made_active made_active-keeps tidy
      by_kind false = tidy

  pub ends : (id : ℕ) → Ends vm core lists id
  ends id = by_tests (nat_lt id id_end) (find (holds id) lists) refl refl
    where
      within_of : (id : ℕ) → nat_lt id 96 ≡ true → id < 96
      within_of id is = grind (arith, nat_tests)

      by_tests : (test : Bool) (found : Option ListRegData) → nat_lt id id_end ≡ test → find (holds id) lists ≡ found → Ends vm core lists id
      by_tests false found is at =
          record { after = rw is refl; tidy = rw is tidy }
      by_tests true None is at =
          record {
            after =
                rw (is, at)
                (ap (joined (made_inactive vm core id) core) (with_holder-none list_inactive id lists at)
                ∙ joined-change vm core lists id (λ state. record state { active = false }) below at);
            tidy =
                rw (is, at)
                (subst (Tidy (made_inactive vm core id) core) (sym (with_holder-none list_inactive id lists at))
                (tidy-unlisted vm core lists id (λ state. record state { active = false }) below at tidy));
          }
      by_tests true (Some list) is at =
          record {
            after =
                rw (is, at)
                (joined-holder vm core lists id list_inactive (λ state. record state { active = false }) below (within_of id is) shaped tidy list at
                (made_inactive-changes core id below (within_of id is)));
            tidy = rw (is, at) (tidy-holder vm core lists id list_inactive made_inactive-keeps tidy);
          }

  pub refills : Refills vm core lists
  refills = by_test (is_due vm core lists) refl
    where
      all : Interrupts
      all = joined vm core lists

      shaped_all : IsShaped (joined vm core lists)
      shaped_all = shaped-joined vm core lists shaped

      not_less : (a b : ℕ) → nat_lt a b ≡ false → b ≤ a
      not_less a b is = grind (arith, nat_tests)

      by_test : (test : Bool) → is_due vm core lists ≡ test → Refills vm core lists
      by_test false is =
          record { same = rw is refl; tidy = rw is tidy; best = rw is (not_less (best vm core) (best_listed lists) is) }
      by_test true is =
          record {
            same = rw is (joined-all core below 4 (joined vm core lists) shaped_all);
            tidy = rw is (tidy-all core below 4 (joined vm core lists) shaped_all);
            best = rw is (listed-all core below 3 (joined vm core lists) shaped_all);
          }
