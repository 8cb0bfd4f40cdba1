-- The memory lines of a map, span by span.
use Rattle.std.proofs.Common.{◌≡◌, ℕ, zero, suc, ◌+◌, ◌-◌, ◌*◌, ◌/◌, ◌<◌, ◌≤◌, Bool, true, false, List, [], ◌++◌, length, take, refl, sym, ap, subst, ◌∙◌, arith, append_assoc, inl, inr}
use Rattle.std.specs.Prelude.{if◌then◌else◌, nat_le, nat_lt, not, ◌&&◌, All}
use Rattle.std.proofs.lemmas.Bool.Decides.{nat_tests}
use Rattle.std.proofs.lemmas.List.{take_all}
use Rattle.std.proofs.lemmas.List.Elements.{All-weaker}
use Rattle.bao_types.specs.declared.range.ByteRange.{ByteRange}
use Rattle.bao_types.specs.ByteRange.{end, is_within}
use Rattle.bao_wellformed.specs.declared.map.Kind.{Kind}
use Rattle.bao_wellformed.specs.declared.map.MapEntry.{MapEntry}
use Rattle.bao_wellformed.specs.ByteRules.{kind_in}
use Rattle.bao_wellformed.proofs.Bytes.{kind_alike}
use Rattle.report.specs.Lines.{memory_line}
use Rattle.report.specs.Section.{memory_text, group_text, is_memory, are_zero, run_of, all_groups}
use Rattle.report.specs.Groups.{alike_text, groups_text, plain_group, IsBeside}

-- memory is gone over in two parts
memory_text-split : (kinds : ℕ → Kind) (bytes : ℕ → ℕ) (m n at all at' : ℕ) → all ≡ m + n → at' ≡ at + 16 * m
    → memory_text kinds bytes all at ≡ memory_text kinds bytes m at ++ memory_text kinds bytes n at'
unfolding memory_text
memory_text-split kinds bytes zero n at all at' sum place =
    let same : all ≡ n = omega arith in let here : at' ≡ at = omega arith in rw (same, here) refl
memory_text-split kinds bytes (suc m) n at zero at' sum place = absurd (omega arith)
memory_text-split kinds bytes (suc m) n at (suc all) at' sum place =
    ap (λ t. group_text kinds bytes at ++ t)
    (memory_text-split kinds bytes m n (at + 16) all at' (omega arith) (omega arith))
    ∙ sym (append_assoc (group_text kinds bytes at) (memory_text kinds bytes m (at + 16)) (memory_text kinds bytes n at'))

-- groups where a VM has no memory
memory_text-none : (kinds : ℕ → Kind) (bytes : ℕ → ℕ) (n at : ℕ)
    → ((k : ℕ) → k < n → is_memory (kinds (at + 16 * k)) ≡ false) → memory_text kinds bytes n at ≡ []
unfolding memory_text group_text
memory_text-none kinds bytes zero at none = refl
memory_text-none kinds bytes (suc n) at none =
    let here : at + 16 * 0 ≡ at = omega arith in
    rw (sym (ap (λ a. is_memory (kinds a)) here) ∙ none 0 (omega arith))
    (memory_text-none kinds bytes n (at + 16)
    (λ k low. let next : at + 16 + 16 * k ≡ at + 16 * suc k = omega arith in
    ap (λ a. is_memory (kinds a)) next ∙ none (suc k) (omega arith)))

chosen : (zeros : Bool) (line : List ℕ) → (if not zeros then line else []) ≡ (if zeros then [] else line)
chosen true line = refl
chosen false line = refl

-- a group where a VM has memory
group_text-some : (kinds : ℕ → Kind) (bytes : ℕ → ℕ) (at : ℕ) → is_memory (kinds at) ≡ true
    → group_text kinds bytes at ≡ plain_group bytes at
unfolding group_text plain_group
group_text-some kinds bytes at some = rw some (chosen (are_zero (run_of bytes at 16)) (memory_line at (run_of bytes at 16)))

-- groups where it has memory
memory_text-some : (kinds : ℕ → Kind) (bytes : ℕ → ℕ) (n at : ℕ)
    → ((k : ℕ) → k < n → is_memory (kinds (at + 16 * k)) ≡ true) → memory_text kinds bytes n at ≡ groups_text bytes n at
unfolding memory_text groups_text
memory_text-some kinds bytes zero at some = refl
memory_text-some kinds bytes (suc n) at some =
    let here : at + 16 * 0 ≡ at = omega arith in
    rw (group_text-some kinds bytes at (sym (ap (λ a. is_memory (kinds a)) here) ∙ some 0 (omega arith)))
    (ap (λ t. plain_group bytes at ++ t)
    (memory_text-some kinds bytes n (at + 16)
    (λ k low. let next : at + 16 + 16 * k ≡ at + 16 * suc k = omega arith in
    ap (λ a. is_memory (kinds a)) next ∙ some (suc k) (omega arith))))

-- groups of one kind
memory_text-alike : (kinds : ℕ → Kind) (bytes : ℕ → ℕ) (n at : ℕ) → ((k : ℕ) → k < n → kinds (at + 16 * k) ≡ kinds at)
    → memory_text kinds bytes n at ≡ alike_text (kinds at) bytes n at
unfolding alike_text
memory_text-alike kinds bytes n at same = by_memory (is_memory (kinds at)) refl
  where
    by_memory : (b : Bool) → is_memory (kinds at) ≡ b → memory_text kinds bytes n at ≡ (if b then groups_text bytes n at else [])
    by_memory true e = memory_text-some kinds bytes n at (λ k low. ap is_memory (same k low) ∙ e)
    by_memory false e = memory_text-none kinds bytes n at (λ k low. ap is_memory (same k low) ∙ e)

-- what is left from a group on, where all bytes up to a bound are of one kind
pub memory_next : (kinds : ℕ → Kind) (bytes : ℕ → ℕ) (group next bound : ℕ) (kind : Kind) → 16 * group < bound → next ≡ (bound + 15) / 16
    → next ≤ all_groups → kind ≡ kinds (16 * group) → ((a : ℕ) → 16 * group ≤ a → a < bound → kinds a ≡ kinds (16 * group))
    → memory_text kinds bytes (all_groups - group) (16 * group)
    ≡ alike_text kind bytes (next - group) (16 * group) ++ memory_text kinds bytes (all_groups - next) (16 * next)
memory_next kinds bytes group next bound kind more up low is alike =
    memory_text-split kinds bytes (next - group) (all_groups - next) (16 * group) (all_groups - group) (16 * next) (omega arith) (omega arith)
    ∙ ap (λ t. t ++ memory_text kinds bytes (all_groups - next) (16 * next))
    (memory_text-alike kinds bytes (next - group) (16 * group) (λ k few. alike (16 * group + 16 * k) (omega arith) (omega arith)))
    ∙ ap (λ k. alike_text k bytes (next - group) (16 * group) ++ memory_text kinds bytes (all_groups - next) (16 * next)) (sym is)

pub memory_end : (kinds : ℕ → Kind) (bytes : ℕ → ℕ) (n at : ℕ) → n ≡ 0 → memory_text kinds bytes n at ≡ []
unfolding memory_text
memory_end kinds bytes n at none = rw none refl

-- a range has one byte where it has another, if it neither begins nor ends between them
module _ (range : ByteRange) (at next a : ℕ) (low : at ≤ a) (high : a < next) where
  from_alike : IsBeside range.base at next → nat_le range.base a ≡ nat_le range.base at
  from_alike (inl below) = grind (arith, nat_tests)
  from_alike (inr above) = grind (arith, nat_tests)

  to_alike : IsBeside (end range) at next → nat_lt a (end range) ≡ nat_lt at (end range)
  to_alike (inl below) = grind (arith, nat_tests)
  to_alike (inr above) = grind (arith, nat_tests)

  within_alike : IsBeside range.base at next → IsBeside (end range) at next → is_within range a ≡ is_within range at
  within_alike base last =
      ap (λ b. b && nat_lt a (end range)) (from_alike base) ∙ ap (λ b. nat_le range.base at && b) (to_alike last)

-- no bound of an entry lies between two addresses
abbrev pub EntryBeside : ℕ → ℕ → MapEntry → Type 0
EntryBeside at next entry = IsBeside entry.range.base at next × IsBeside (end entry.range) at next

abbrev pub AreBeside : ℕ → ℕ → List MapEntry → Type 0
AreBeside at next entries = All (EntryBeside at next) entries

-- all bytes up to the second address are of one kind, where it is beside all of the entries
pub kinds_alike : (entries : List MapEntry) (i at next a : ℕ) → length entries ≤ i → AreBeside at next (take i entries) → at ≤ a → a < next
    → kind_in entries a ≡ kind_in entries at
kinds_alike entries i at next a all beside low high =
    kind_alike entries a at
    (All-weaker (EntryBeside at next) (λ entry. is_within entry.range a ≡ is_within entry.range at)
    (λ entry both. within_alike entry.range at next a low high both.0 both.1) entries
    (subst (λ es. AreBeside at next es) (take_all i entries all) beside))
