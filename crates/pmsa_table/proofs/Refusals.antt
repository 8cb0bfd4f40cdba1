-- The first refusal among bytes that all have one verdict.
use Rattle.std.proofs.Common.{◌≡◌, ℕ, zero, suc, ◌+◌, ◌^◌, ◌<◌, ◌≤◌, None, false, refl, sym, ◌∙◌, arith}
use Rattle.bao_types.specs.declared.access.Verdict.{Verdict}
use Rattle.bao_types.specs.declared.access.Verdict.TheVariants.{Allow, Translation, Permission}
use Rattle.bao_types.specs.Bytes.{next_address}
use Rattle.pmsa_table.specs.Whole.{first_refusal, is_refused}

-- none, where each byte is allowed
pub all_allowed : (at n : ℕ) → first_refusal (λ byte. Allow) at n ≡ None
all_allowed at zero = refl
all_allowed at (suc n) = all_allowed (next_address at) n

-- two verdicts that are the same on a run of bytes refuse the same of them
pub same_refusals :
    (one other : ℕ → Verdict) (at n last : ℕ) → at + n ≤ last → last < 2 ^ 64 →
    ((byte : ℕ) → at ≤ byte → byte ≤ last → one byte ≡ other byte) → first_refusal one at n ≡ first_refusal other at n
same_refusals one other at zero last within bound same = refl
same_refusals one other at (suc n) last within bound same =
    let next : next_address at ≡ at + 1 = omega arith in
    let rest : first_refusal one (at + 1) n ≡ first_refusal other (at + 1) n
    = same_refusals one other (at + 1) n last (omega arith) bound (λ byte from to. same byte (omega arith) to) in
    let here : one at ≡ other at = same at (omega arith) (omega arith) in
    rw next (rw rest (rw here refl))

-- a verdict that doesn't refuse allows
pub not_refused : (verdict : Verdict) → is_refused verdict ≡ false → Allow ≡ verdict
not_refused Allow is = refl
not_refused Translation is = cc
not_refused Permission is = cc

-- no byte of a run that has one verdict is refused, if this verdict doesn't refuse
pub run_allowed :
    (one : ℕ → Verdict) (verdict : Verdict) (at n last : ℕ) → is_refused verdict ≡ false → at + n ≤ last → last < 2 ^ 64 →
    ((byte : ℕ) → at ≤ byte → byte ≤ last → verdict ≡ one byte) → first_refusal one at n ≡ None
run_allowed one verdict at n last is within bound same =
    sym (same_refusals (λ byte. Allow) one at n last within bound (λ byte from to. not_refused verdict is ∙ same byte from to))
    ∙ all_allowed at n
