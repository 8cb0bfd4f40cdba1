-- An access judged as a whole: each of its bytes in address order, and the first that is refused decides.
use Rattle.std.specs.Prelude.{ℕ, Bool, true, false, zero, suc, Option, None, Some}
use Rattle.bao_types.specs.Bytes.{next_address}
use Rattle.bao_types.specs.declared.access.Verdict.{Verdict}
use Rattle.bao_types.specs.declared.access.Verdict.TheVariants.{Allow, Translation, Permission}
use Rattle.pmsa_table.specs.declared.table.Refusal.{Refusal}

-- a refused byte decides, else the bytes after it do
abbrev pub refused_at : Verdict → ℕ → Option Refusal → Option Refusal
refused_at Allow at later = later
refused_at Translation at later = Some (record { at = at; verdict = Translation })
refused_at Permission at later = Some (record { at = at; verdict = Permission })

-- the first refused one of this many bytes from an address on, where each has its verdict
abbrev pub first_refusal : (ℕ → Verdict) → ℕ → ℕ → Option Refusal
first_refusal verdict at zero = None
first_refusal verdict at (suc n) = refused_at (verdict at) at (first_refusal verdict (next_address at) n)

-- all but Allow
abbrev pub is_refused : Verdict → Bool
is_refused Allow = false
is_refused Translation = true
is_refused Permission = true
