-- Accesses judged by two stages: one byte after the other, by the second alone where the first is off, and in a gap between
-- the ports.
use Rattle.std.proofs.Common.{◌≡◌, ℕ, zero, suc, ◌+◌, ◌^◌, ◌<◌, ◌≤◌, Bool, true, false, refl, sym, ap, ◌∙◌, arith}
use Rattle.std.specs.Prelude.{not, if◌then◌else◌, Option, None, Some}
use Rattle.std.specs.Bool.{OnTrue}
use Rattle.std.specs.Option.{option_map}
use Rattle.bao_types.specs.Bytes.{next_address}
use Rattle.bao_types.specs.RegionMatch.{region_match}
use Rattle.bao_types.specs.declared.access.Access.{Access}
use Rattle.bao_types.specs.declared.access.Verdict.{Verdict}
use Rattle.bao_types.specs.declared.access.Verdict.TheVariants.{Allow, Translation, Permission}
use Rattle.a64_state.specs.Core.{CoreData}
use Rattle.a64_state.specs.Registers.{level}
use Rattle.pmsa_stage1.specs.Stage1.{is_on, match_verdict, stage1}
use Rattle.pmsa_table.specs.declared.table.Refusal.{Refusal}
use Rattle.pmsa_table.specs.Whole.{first_refusal, refused_at}
use Rattle.board.specs.declared.judged.Fault.{Fault}
use Rattle.board.specs.Stage.{Stage, by_regions, is_allowed}
use Rattle.board.specs.Judge.{all_from, fault_or, first_fault}

-- a verdict that refuses decides, and one that allows doesn't
pub refused : (stage2 : Bool) (verdict : Verdict) (at : ℕ) (later : Option Fault) → is_allowed verdict ≡ false
    → Some (record { stage2 = stage2; verdict = verdict; at = at }) ≡ fault_or stage2 verdict at later
refused stage2 Allow at later is = cc
refused stage2 Translation at later is = refl
refused stage2 Permission at later is = refl

pub passed : (stage2 : Bool) (verdict : Verdict) (at : ℕ) (later : Option Fault) → is_allowed verdict ≡ true
    → later ≡ fault_or stage2 verdict at later
passed stage2 Allow at later is = refl
passed stage2 Translation at later is = cc
passed stage2 Permission at later is = cc

-- a byte of which a fault comes decides for the bytes after it, and one of which none comes leaves it to them
pub decided : (one two : Verdict) (at : ℕ) (later : Option Fault) (fault : Fault)
    → Some fault ≡ fault_or false one at (fault_or true two at None) → Some fault ≡ fault_or false one at (fault_or true two at later)
decided Allow Allow at later fault is = cc
decided Allow Translation at later fault is = is
decided Allow Permission at later fault is = is
decided Translation two at later fault is = is
decided Permission two at later fault is = is

pub left_to_later : (one two : Verdict) (at : ℕ) (later : Option Fault) → None ≡ fault_or false one at (fault_or true two at None)
    → later ≡ fault_or false one at (fault_or true two at later)
left_to_later Allow Allow at later is = refl
left_to_later Allow Translation at later is = cc
left_to_later Allow Permission at later is = cc
left_to_later Translation two at later is = cc
left_to_later Permission two at later is = cc

-- the fault that a refusal of the second stage is
abbrev fault_of : Refusal → Fault
fault_of refusal = record { stage2 = true; verdict = refusal.verdict; at = refusal.at }

second_step : (verdict : Verdict) (at : ℕ) (rest : Option Refusal) (later : Option Fault) → option_map fault_of rest ≡ later
    → option_map fault_of (refused_at verdict at rest) ≡ fault_or true verdict at later
second_step Allow at rest later same = same
second_step Translation at rest later same = refl
second_step Permission at rest later same = refl

-- where the first stage allows all, the second decides
second_alone : (two : Stage) (access : Access) (at n : ℕ)
    → option_map fault_of (first_refusal (two access) at n) ≡ first_fault (λ access at. Allow) two access at n
second_alone two access at zero = refl
second_alone two access at (suc n) =
    second_step (two access at) at (first_refusal (two access) (next_address at) n)
    (first_fault (λ access at. Allow) two access (next_address at) n) (second_alone two access (next_address at) n)

pub second_some : (two : Stage) (access : Access) (at n : ℕ) (refusal : Refusal) → Some refusal ≡ first_refusal (two access) at n
    → Some (fault_of refusal) ≡ first_fault (λ access at. Allow) two access at n
second_some two access at n refusal is = ap (option_map fault_of) is ∙ second_alone two access at n

pub second_none : (two : Stage) (access : Access) (at n : ℕ) → None ≡ first_refusal (two access) at n
    → None ≡ first_fault (λ access at. Allow) two access at n
second_none two access at n is = ap (option_map fault_of) is ∙ second_alone two access at n

-- where the first stage is off, it allows all
all_allowed : (core : CoreData) → is_on core.sys.sctlr ≡ false → (λ access at. Allow) ≡ by_regions core
unfolding stage1
all_allowed core is =
    sym (ap (λ b. λ access at. if b
    then match_verdict (region_match core.regions.regions at) core.sys.sctlr (level core) access else Allow) is)

pub off : (core : CoreData) (two : Stage) (access : Access) (at n : ℕ) → is_on core.sys.sctlr ≡ false
    → first_fault (λ access at. Allow) two access at n ≡ first_fault (by_regions core) two access at n
off core two access at n is = ap (λ one. first_fault one two access at n) (all_allowed core is)

-- so there is no fault where the first stage is off and the second refuses nothing
pub none_by_second : (core : CoreData) (two : Stage) (access : Access) (at n : ℕ) (allows : Bool) → is_on core.sys.sctlr ≡ false
    → OnTrue allows (first_refusal (two access) at n ≡ None)
    → OnTrue allows (first_fault (by_regions core) two access at n ≡ None)
none_by_second core two access at n true is none =
    sym (off core two access at n is) ∙ sym (second_none two access at n (sym none))
none_by_second core two access at n false is none = tt

-- bytes that lie between a first and a last one which are free, as are all between them
pub all_free : (port : ℕ → Bool) (first last : ℕ) → ((byte : ℕ) → first ≤ byte → byte ≤ last → port byte ≡ false)
    → (at n : ℕ) → first ≤ at → at + n ≤ last → at + n < 2 ^ 64 → true ≡ all_from (λ byte. not (port byte)) at n
all_free port first last free at zero from to low = refl
all_free port first last free at (suc n) from to low =
    let next : next_address at ≡ at + 1 = omega arith in
    let here : port at ≡ false = free at from (omega arith) in
    let rest : true ≡ all_from (λ byte. not (port byte)) (at + 1) n
    = all_free port first last free (at + 1) n (omega arith) (omega arith) (omega arith) in
    rw next (rw here rest)
