-- Tables that differ in one core's own ids alone: the registers of the other cores fit both.
use Rattle.std.proofs.Common.{◌≡◌, ◌≢◌, ℕ, zero, suc, ◌+◌, ◌<◌, ◌≤◌, nat_lt, Bool, true, false, if◌then◌else◌, List, [], ◌∷◌, length, set, refl, sym, subst, ◌∙◌, inr, arith}
use Rattle.std.proofs.lemmas.List.{get_or-set_other}
use Rattle.bao_types.specs.ListReg.{ListRegData}
use Rattle.vgic_iface.specs.Rank.{id_of, no_rank}
use Rattle.vgic_table.specs.declared.id_state.IdState.{IdState}
use Rattle.vgic_table.specs.Interrupts.{Interrupts, best, place, quiet, state_of}
use Rattle.vgic_table.specs.Registers.{Tidy, joined, left_by_registers, without_best}
use Rattle.vgic_table.specs.Cores.{AreTidy}
use Rattle.vgic_table.proofs.StateLemmas.{change_at}
use Rattle.vgic_table.proofs.JoinedLemmas.{on-joined}
use Rattle.vgic_table.proofs.FillLemmas.{below_none, off}
use Rattle.vgic_table.proofs.TidyLemmas.{tidy-moved}
use Rattle.vgic_table.proofs.OthersLemmas.{AreOwn, IsOwn, cores-apart, own-best, state-apart}

-- all but a core's own ids are the same
pub record DiffersAt (core : ℕ) (vm new : Interrupts) : Type 0 where
  pub on : new.on ≡ vm.on
  pub others : (other id : ℕ) → other < 8 → core ≢ other → IsOwn other id → state_of new other id ≡ state_of vm other id

module _ (core : ℕ) where
  pub differs-none : (vm : Interrupts) → DiffersAt core vm vm
  differs-none vm = record { on = refl; others = λ other id below apart own. refl }

  differs-then : (vm next new : Interrupts) → DiffersAt core vm next → DiffersAt core next new → DiffersAt core vm new
  differs-then vm next new first second =
      record {
        on = second.on ∙ first.on;
        others = λ other id below apart own. second.others other id below apart own ∙ first.others other id below apart own;
      }

  pub differs-change : (vm : Interrupts) (id : ℕ) (f : IdState → IdState) → core < 8 → IsOwn core id → DiffersAt core vm (change_at vm core id f)
  differs-change vm id f below own =
      record {
        on = refl;
        others =
            λ other one other_below apart other_own.
            get_or-set_other vm.ids (place core id) (place other one) (f (state_of vm core id)) quiet
            (λ same. cores-apart core other id one below other_below apart own other_own (sym same));
      }

  pub differs-joined : (vm : Interrupts) (lists : List ListRegData) → core < 8 → AreOwn core lists → DiffersAt core vm (joined vm core lists)
  differs-joined vm lists below own =
      record {
        on = on-joined vm core lists;
        others = λ other id other_below apart other_own. state-apart other core other_below below (λ same. apart (sym same)) vm id lists other_own own;
      }

  pub differs-left : (count : ℕ) (vm : Interrupts) → core < 8 → DiffersAt core vm (left_by_registers count vm core)
  differs-left zero vm below = differs-none vm
  differs-left (suc count) vm below =
      differs-then vm (without_best vm core (best vm core)) (left_by_registers count (without_best vm core (best vm core)) core)
      (by_test (nat_lt (best vm core) no_rank) refl) (differs-left count (without_best vm core (best vm core)) below)
    where
      by_test : (test : Bool) → nat_lt (best vm core) no_rank ≡ test →
          DiffersAt core vm (if test then change_at vm core (id_of (best vm core)) off else vm)
      by_test true is = differs-change vm (id_of (best vm core)) off below (own-best vm core (below_none (best vm core) is))
      by_test false is = differs-none vm

  pub differs-filled : (count : ℕ) (vm : Interrupts) (lists : List ListRegData) → core < 8 → AreOwn core lists →
      DiffersAt core vm (left_by_registers count (joined vm core lists) core)
  differs-filled count vm lists below own =
      differs-then vm (joined vm core lists) (left_by_registers count (joined vm core lists) core)
      (differs-joined vm lists below own) (differs-left count (joined vm core lists) below)

  module _ (vm new : Interrupts) (differs : DiffersAt core vm new) where
    one-moved : (other : ℕ) (lists : List ListRegData) → other < 8 → core ≢ other → Tidy vm other lists → Tidy new other lists
    one-moved other lists below apart tidy =
        tidy-moved vm new other lists differs.on
        (λ id within owned. inr (differs.others other id below apart (record { within = within; owned = owned }))) tidy

    above-moved : (first : ℕ) (all : List (List ListRegData)) → core < first → first + length all ≤ 8 → AreTidy first all vm → AreTidy first all new
    above-moved first [] above few tidy = tt
    above-moved first (lists ∷ rest) above few tidy =
        (one-moved first lists (omega arith) (λ same. absurd (omega arith)) tidy.0, above-moved (suc first) rest (omega arith) (omega arith) tidy.1)

    -- the registers of the other cores fit the other table, beside new ones of this core
    pub all-moved : (first i : ℕ) (all : List (List ListRegData)) (lists : List ListRegData) → core ≡ first + i → first + length all ≤ 8 →
        Tidy new core lists → AreTidy first all vm → AreTidy first (set all i lists) new
    all-moved first i [] lists at few fits tidy = tt
    all-moved first zero (old ∷ rest) lists at few fits tidy =
        let same : core ≡ first = omega arith in
        (subst (λ n. Tidy new n lists) same fits, above-moved (suc first) rest (omega arith) (omega arith) tidy.1)
    all-moved first (suc i) (old ∷ rest) lists at few fits tidy =
        (one-moved first old (omega arith) (λ same. absurd (omega arith)) tidy.0, all-moved (suc first) i rest lists (omega arith) (omega arith) fits tidy.1)
