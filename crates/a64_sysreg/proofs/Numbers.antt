-- The numbers of the registers are distinct.
use Rattle.std.proofs.Common.{◌≡◌, ℕ, Bool, true, false, IsTrue, refl, sym, subst, arith}
use Rattle.std.specs.Prelude.{◌==◌, ◌&&◌, nat_le, Some}
use Rattle.std.proofs.lemmas.Bool.Decides.{nat_tests}
use Rattle.bao_types.specs.declared.sys_id.SysId.{SysId}
use Rattle.a64_sysreg.specs.declared.register.Register.{Register}
use Rattle.a64_sysreg.specs.declared.register.Register.TheVariants.{Identification}
use Rattle.a64_sysreg.specs.Row.{sys_id, numbered, is_identification}
use Rattle.a64_sysreg.specs.Table.{row, register_of}

left-true : (a b : Bool) → a && b ≡ true → a ≡ true
left-true true b h = refl
left-true false b h = cc

right-true : (a b : Bool) → a && b ≡ true → b ≡ true
right-true true b h = h
right-true false b h = cc

equal-numbers : (a b : ℕ) → (a == b) ≡ true → a ≡ b
equal-numbers a b h = grind (arith, nat_tests)

-- a number that passes as another is that one
pub equal-ids : (number id : SysId) → numbered number id ≡ true → id ≡ number
equal-ids number id h =
    let two : Bool = (id.op0 == number.op0) && (id.op1 == number.op1) in
    let three : Bool = two && (id.crn == number.crn) in
    let four : Bool = three && (id.crm == number.crm) in
    let h4 = left-true four (id.op2 == number.op2) h in
    let h3 = left-true three (id.crm == number.crm) h4 in
    let h2 = left-true two (id.crn == number.crn) h3 in
    let e0 = equal-numbers id.op0 number.op0 (left-true (id.op0 == number.op0) (id.op1 == number.op1) h2) in
    let e1 = equal-numbers id.op1 number.op1 (right-true (id.op0 == number.op0) (id.op1 == number.op1) h2) in
    let e2 = equal-numbers id.crn number.crn (right-true two (id.crn == number.crn) h3) in
    let e3 = equal-numbers id.crm number.crm (right-true three (id.crm == number.crm) h4) in
    let e4 = equal-numbers id.op2 number.op2 (right-true four (id.op2 == number.op2) h) in
    let same : sys_id id.op0 id.op1 id.crn id.crm id.op2 ≡ sys_id number.op0 number.op1 number.crn number.crm number.op2 = cc in
    same

-- what a false test makes of two others
false-between : (a b c : Bool) → b ≡ false → a && b && c ≡ false
false-between true b c h = rw h refl
false-between false b c h = refl

-- an identification register's number isn't one with CRm 0
not-first : (op0 op1 crn op2 : ℕ) (id : SysId) → is_identification id ≡ true
    → numbered (sys_id op0 op1 crn 0 op2) id ≡ false
not-first op0 op1 crn op2 id named =
    let three : Bool = (id.op0 == 3) && (id.op1 == 0) && (id.crn == 0) in
    let from : Bool = three && nat_le 1 id.crm in
    let least = right-true three (nat_le 1 id.crm) (left-true from (nat_le id.crm 7) named) in
    let other : (id.crm == 0) ≡ false = grind (arith, nat_tests) in
    false-between _ _ _ other

pub found : (register : Register) (id : SysId) → IsTrue ((row register).number id) → register_of id ≡ Some register
unfolding row register_of
found Identification id named =
    rw (not-first 3 0 0 0 id named)
    (rw (not-first 3 0 0 4 id named) (rw (not-first 3 0 0 5 id named) (rw named refl)))
found register id named = subst (λ i. register_of i ≡ Some register) (sym (equal-ids _ id named)) refl
