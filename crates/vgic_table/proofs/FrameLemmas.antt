-- What every change of a table keeps: whether the distributor is on, the number of cores, and the shape. For this crate and
-- its callers.
use Rattle.std.proofs.Common.{◌≡◌, ℕ, zero, suc, nat_lt, Bool, true, false, if◌then◌else◌, List, slice_set, refl, ◌∙◌}
use Rattle.std.proofs.lemmas.List.{length-set}
use Rattle.bao_types.specs.ListReg.{ListRegData}
use Rattle.vgic_iface.specs.Interface.{is_unlisted}
use Rattle.vgic_iface.specs.Rank.{id_of, no_rank}
use Rattle.vgic_table.specs.declared.id_state.IdState.{IdState}
use Rattle.vgic_table.specs.Interrupts.{Interrupts, best, state_of}
use Rattle.vgic_table.specs.Changes.{made_inactive, pended_at}
use Rattle.vgic_table.specs.Registers.{is_due, joined, left_by_registers, refilled_table, without_best}
use Rattle.vgic_table.specs.Shape.{IsShaped}
use Rattle.vgic_table.specs.Laws.{table_ended}
use Rattle.vgic_table.specs.Cores.{AreTidy, IsCoreOf}
use Rattle.vgic_table.proofs.StateLemmas.{change_at, shaped-with}
use Rattle.vgic_table.proofs.JoinedLemmas.{cores-joined, on-joined, shaped-joined}
use Rattle.vgic_table.proofs.FillLemmas.{off}
use Rattle.vgic_table.proofs.PendedLemmas.{shaped-pended}

pub record SameFrame (old new : Interrupts) : Type 0 where
  pub on : new.on ≡ old.on
  pub cores : new.cores ≡ old.cores
  pub shaped : IsShaped old → IsShaped new

pub frame-none : (vm : Interrupts) → SameFrame vm vm
frame-none vm = record { on = refl; cores = refl; shaped = λ shaped. shaped }

pub frame-then : (vm next new : Interrupts) → SameFrame vm next → SameFrame next new → SameFrame vm new
frame-then vm next new first second =
    record {
      on = second.on ∙ first.on;
      cores = second.cores ∙ first.cores;
      shaped = λ shaped. second.shaped (first.shaped shaped);
    }

module _ (vm : Interrupts) (core : ℕ) where
  -- one id is changed
  pub frame-change : (id : ℕ) (f : IdState → IdState) → SameFrame vm (change_at vm core id f)
  frame-change id f = record { on = refl; cores = refl; shaped = shaped-with vm core id (f (state_of vm core id)) }

  -- registers are taken back
  pub frame-joined : (lists : List ListRegData) → SameFrame vm (joined vm core lists)
  frame-joined lists = record { on = on-joined vm core lists; cores = cores-joined vm core lists; shaped = shaped-joined vm core lists }

  -- an id is ended
  pub frame-ended : (lists : List ListRegData) (id : ℕ) → SameFrame vm (table_ended vm core lists id)
  frame-ended lists id = by_test (is_unlisted lists id)
    where
      by_test : (test : Bool) → SameFrame vm (if test then made_inactive vm core id else vm)
      by_test true = frame-change id (λ state. record state { active = false })
      by_test false = frame-none vm

  -- ids are made pending
  pub frame-pended : (chosen : ℕ → Bool) → SameFrame vm (pended_at chosen vm)
  frame-pended chosen = record { on = refl; cores = refl; shaped = shaped-pended vm chosen }

-- registers are filled
pub frame-left : (count : ℕ) (vm : Interrupts) (core : ℕ) → SameFrame vm (left_by_registers count vm core)
frame-left zero vm core = frame-none vm
frame-left (suc count) vm core =
    frame-then vm (without_best vm core (best vm core)) (left_by_registers count (without_best vm core (best vm core)) core)
    (by_test (nat_lt (best vm core) no_rank)) (frame-left count (without_best vm core (best vm core)) core)
  where
    by_test : (test : Bool) → SameFrame vm (if test then change_at vm core (id_of (best vm core)) off else vm)
    by_test true = frame-change vm core (id_of (best vm core)) off
    by_test false = frame-none vm

-- registers are filled again
pub frame-refilled : (vm : Interrupts) (core : ℕ) (lists : List ListRegData) → SameFrame vm (refilled_table vm core lists)
frame-refilled vm core lists = by_test (is_due vm core lists)
  where
    by_test : (test : Bool) → SameFrame vm (if test then left_by_registers 4 (joined vm core lists) core else vm)
    by_test true =
        frame-then vm (joined vm core lists) (left_by_registers 4 (joined vm core lists) core)
        (frame-joined vm core lists) (frame-left 4 (joined vm core lists) core)
    by_test false = frame-none vm

-- the cores of a VM are so still, where one has new registers and the table is another of the same frame
pub still-core : (vm new : Interrupts) (all : List (List ListRegData)) (core other : ℕ) (lists : List ListRegData) → SameFrame vm new →
    AreTidy 0 (slice_set all core lists) new → IsCoreOf vm all other → IsCoreOf new (slice_set all core lists) other
still-core vm new all core other lists frame tidy is =
    record {
      few = rw (length-set all core lists) is.few;
      within = rw (length-set all core lists) is.within;
      shaped = frame.shaped is.shaped;
      tidy = tidy;
    }
