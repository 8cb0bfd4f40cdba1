-- Instructions that `==` finds equal are one: each variant is, field by field.
use Rattle.std.proofs.Common.{rules, ℕ, ◌≡◌, ◌≢◌, refl, ap, subst, ◌⊎◌, Bool, true, false, ◌&&◌, inl, inr}
use mathlib.Core.Logic.{⊎_elim}
use denote.Enum.Declared.{values_one}
use denote.Enum.Bare.{same_true}
use Rattle.bao_types.specs.declared.sys_id.SysId.{SysId}
use Rattle.bao_types.specs.contracts.sys_id.SysIdPartialEq.TheImpl.{ghosts as sys_ids}
use Rattle.std.specs.contracts.prelude.BoolPartialEq.TheImpl.{ghosts as bools}
use Rattle.std.specs.contracts.prelude.U8PartialEq.TheImpl.{ghosts as bytes}
use Rattle.std.specs.contracts.prelude.U64PartialEq.TheImpl.{ghosts as quads}
use Rattle.a64_decode.specs.declared.operand.Reg.{Reg}
use Rattle.a64_decode.specs.contracts.operand.RegPartialEq.TheImpl.{ghosts as regs}
use Rattle.a64_decode.specs.declared.operand.SelectKind.{SelectKind}
use Rattle.a64_decode.specs.contracts.operand.SelectKind.{the_type as select_type}
use Rattle.a64_decode.specs.contracts.operand.SelectKindPartialEq.TheImpl.{ghosts as selects}
use Rattle.a64_decode.specs.declared.operand.Size.{Size}
use Rattle.a64_decode.specs.contracts.operand.Size.{the_type as size_type}
use Rattle.a64_decode.specs.contracts.operand.SizePartialEq.TheImpl.{ghosts as sizes}
use Rattle.a64_decode.specs.declared.operand.Transfer.{Transfer}
use Rattle.a64_decode.specs.contracts.operand.Transfer.{the_type as transfer_type}
use Rattle.a64_decode.specs.contracts.operand.TransferPartialEq.TheImpl.{ghosts as transfers}
use Rattle.a64_decode.specs.declared.operand.Condition.{Condition}
use Rattle.a64_decode.specs.declared.operand.Extend.{Extend}
use Rattle.a64_decode.specs.contracts.operand.Condition.{the_type as condition_type}
use Rattle.a64_decode.specs.contracts.operand.Extend.{the_type as extend_type}
use Rattle.a64_decode.specs.contracts.operand.ConditionPartialEq.TheImpl.{ghosts as conditions}
use Rattle.a64_decode.specs.contracts.operand.ExtendPartialEq.TheImpl.{ghosts as extends}
use Rattle.a64_decode.specs.declared.instr.Instr.{Instr}
use Rattle.a64_decode.specs.contracts.instr.Instr.{enum}
use Rattle.a64_decode.specs.contracts.instr.InstrPartialEq.TheImpl.{ghosts}
use Rattle.a64_decode.specs.contracts.instr.InstrEq.TheImpl.Laws.{laws-law}

-- a comparison of two choices that asks for the same side, and for equal values there
choice : {A B : Type 0} {f : A → A → Bool} {g : B → B → Bool}
    → ((x y : A) → f x y ≡ true → x ≡ y) → ((x y : B) → g x y ≡ true → x ≡ y) → (c d : A ⊎ B)
    → ⊎_elim (λ x. ⊎_elim (λ y. f x y) (λ _. false) d) (λ x. ⊎_elim (λ _. false) (λ y. g x y) d) c ≡ true
    → c ≡ d
choice left right (inl x) (inl y) same = ap inl (left x y same)
choice left right (inl x) (inr y) same = absurd (cc)
choice left right (inr x) (inl y) same = absurd (cc)
choice left right (inr x) (inr y) same = ap inr (right x y same)

-- the same with the comparison first
chosen : {A B : Type 0} {f : A → A → Bool} {g : B → B → Bool} (c d : A ⊎ B)
    → ⊎_elim (λ x. ⊎_elim (λ y. f x y) (λ _. false) d) (λ x. ⊎_elim (λ _. false) (λ y. g x y) d) c ≡ true
    → ((x y : A) → f x y ≡ true → x ≡ y) → ((x y : B) → g x y ≡ true → x ≡ y) → c ≡ d
chosen c d same left right = choice left right c d same

-- the enums of many variants, and the number of a system register, which `search` doesn't take apart
condition : (a b : Condition) → conditions.eq a b ≡ true → a ≡ b
condition a b same = same_true condition_type tt a b same

extend : (a b : Extend) → extends.eq a b ≡ true → a ≡ b
extend a b same = same_true extend_type tt a b same

sys_id : (a b : SysId) → sys_ids.eq a b ≡ true → a ≡ b
sys_id a b same = search rules

bool : (a b : Bool) → bools.eq a b ≡ true → a ≡ b
bool a b same = search rules

byte : (a b : ℕ) → bytes.eq a b ≡ true → a ≡ b
byte a b same = search rules

quad : (a b : ℕ) → quads.eq a b ≡ true → a ≡ b
quad a b same = search rules

reg : (a b : Reg) → regs.eq a b ≡ true → a ≡ b
reg a b same = search rules

select : (a b : SelectKind) → selects.eq a b ≡ true → a ≡ b
select a b same = same_true select_type tt a b same

size : (a b : Size) → sizes.eq a b ≡ true → a ≡ b
size a b same = same_true size_type tt a b same

transfer : (a b : Transfer) → transfers.eq a b ≡ true → a ≡ b
transfer a b same = same_true transfer_type tt a b same

both : (p q : Bool) → (p && q) ≡ true → (p ≡ true) × (q ≡ true)
both true q same = (refl, same)
both false q same = absurd (cc)

pub same : (a b : Instr) → ghosts.eq a b ≡ true → a ≡ b
same a b e =
    values_one enum a b
    (chosen _ _ e
    (λ x y s. search rules)
    (choice (λ x y s. search rules)
    (choice (λ x y s. search rules)
    (choice (λ x y s. search rules)
    (choice (λ x y s. search rules)
    (choice (λ x y s. search rules)
    (choice (λ x y s. search rules)
    (choice (λ x y s.
    let q1 = conditions.eq x.1.0 y.1.0 in
    let t0 = both (quads.eq x.0 y.0) q1 s in
    λ i. (quad x.0 y.0 t0.0 i, (condition x.1.0 y.1.0 t0.1 i, tt)))
    (choice (λ x y s. search rules)
    (choice (λ x y s. search rules)
    (choice (λ x y s. search rules)
    (choice (λ x y s. search rules)
    (choice (λ x y s. search rules)
    (choice (λ x y s. search rules)
    (choice (λ x y s. search rules)
    (choice (λ x y s. search rules)
    (choice (λ x y s. search rules)
    (choice (λ x y s.
    let q2 = regs.eq x.1.1.0 y.1.1.0 in
    let q1 = sys_ids.eq x.1.0 y.1.0 && q2 in
    let t0 = both (bools.eq x.0 y.0) q1 s in
    let t1 = both (sys_ids.eq x.1.0 y.1.0) q2 t0.1 in
    λ i. (bool x.0 y.0 t0.0 i, (sys_id x.1.0 y.1.0 t1.0 i, (reg x.1.1.0 y.1.1.0 t1.1 i, tt))))
    (choice (λ x y s. search rules)
    (choice (λ x y s. search rules)
    (choice (λ x y s.
    let q7 = regs.eq x.1.1.1.1.1.1.1.0 y.1.1.1.1.1.1.1.0 in
    let q6 = regs.eq x.1.1.1.1.1.1.0 y.1.1.1.1.1.1.0 && q7 in
    let q5 = bytes.eq x.1.1.1.1.1.0 y.1.1.1.1.1.0 && q6 in
    let q4 = extends.eq x.1.1.1.1.0 y.1.1.1.1.0 && q5 in
    let q3 = regs.eq x.1.1.1.0 y.1.1.1.0 && q4 in
    let q2 = bools.eq x.1.1.0 y.1.1.0 && q3 in
    let q1 = bools.eq x.1.0 y.1.0 && q2 in
    let t0 = both (bools.eq x.0 y.0) q1 s in
    let t1 = both (bools.eq x.1.0 y.1.0) q2 t0.1 in
    let t2 = both (bools.eq x.1.1.0 y.1.1.0) q3 t1.1 in
    let t3 = both (regs.eq x.1.1.1.0 y.1.1.1.0) q4 t2.1 in
    let t4 = both (extends.eq x.1.1.1.1.0 y.1.1.1.1.0) q5 t3.1 in
    let t5 = both (bytes.eq x.1.1.1.1.1.0 y.1.1.1.1.1.0) q6 t4.1 in
    let t6 = both (regs.eq x.1.1.1.1.1.1.0 y.1.1.1.1.1.1.0) q7 t5.1 in
    λ i. (
      bool x.0 y.0 t0.0 i,
      (
        bool x.1.0 y.1.0 t1.0 i,
        (
          bool x.1.1.0 y.1.1.0 t2.0 i,
          (
            reg x.1.1.1.0 y.1.1.1.0 t3.0 i,
            (
              extend x.1.1.1.1.0 y.1.1.1.1.0 t4.0 i,
              (
                byte x.1.1.1.1.1.0 y.1.1.1.1.1.0 t5.0 i,
                (
                  reg x.1.1.1.1.1.1.0 y.1.1.1.1.1.1.0 t6.0 i,
                  (reg x.1.1.1.1.1.1.1.0 y.1.1.1.1.1.1.1.0 t6.1 i, tt),
                ),
              ),
            ),
          ),
        ),
      ),
    ))
    (choice (λ x y s. search rules)
    (choice (λ x y s. search rules)
    (choice (λ x y s.
    let q5 = regs.eq x.1.1.1.1.1.0 y.1.1.1.1.1.0 in
    let q4 = regs.eq x.1.1.1.1.0 y.1.1.1.1.0 && q5 in
    let q3 = conditions.eq x.1.1.1.0 y.1.1.1.0 && q4 in
    let q2 = regs.eq x.1.1.0 y.1.1.0 && q3 in
    let q1 = selects.eq x.1.0 y.1.0 && q2 in
    let t0 = both (bools.eq x.0 y.0) q1 s in
    let t1 = both (selects.eq x.1.0 y.1.0) q2 t0.1 in
    let t2 = both (regs.eq x.1.1.0 y.1.1.0) q3 t1.1 in
    let t3 = both (conditions.eq x.1.1.1.0 y.1.1.1.0) q4 t2.1 in
    let t4 = both (regs.eq x.1.1.1.1.0 y.1.1.1.1.0) q5 t3.1 in
    λ i. (
      bool x.0 y.0 t0.0 i,
      (
        select x.1.0 y.1.0 t1.0 i,
        (
          reg x.1.1.0 y.1.1.0 t2.0 i,
          (
            condition x.1.1.1.0 y.1.1.1.0 t3.0 i,
            (
              reg x.1.1.1.1.0 y.1.1.1.1.0 t4.0 i,
              (reg x.1.1.1.1.1.0 y.1.1.1.1.1.0 t4.1 i, tt),
            ),
          ),
        ),
      ),
    ))
    (choice (λ x y s. search rules)
    (choice (λ x y s. search rules)
    (choice (λ x y s. search rules)
    (choice (λ x y s. search rules)
    (choice (λ x y s. search rules)
    (choice (λ x y s. search rules)
    (choice (λ x y s. search rules)
    (choice (λ x y s.
    let q6 = regs.eq x.1.1.1.1.1.1.0 y.1.1.1.1.1.1.0 in
    let q5 = regs.eq x.1.1.1.1.1.0 y.1.1.1.1.1.0 && q6 in
    let q4 = bools.eq x.1.1.1.1.0 y.1.1.1.1.0 && q5 in
    let q3 = extends.eq x.1.1.1.0 y.1.1.1.0 && q4 in
    let q2 = regs.eq x.1.1.0 y.1.1.0 && q3 in
    let q1 = transfers.eq x.1.0 y.1.0 && q2 in
    let t0 = both (sizes.eq x.0 y.0) q1 s in
    let t1 = both (transfers.eq x.1.0 y.1.0) q2 t0.1 in
    let t2 = both (regs.eq x.1.1.0 y.1.1.0) q3 t1.1 in
    let t3 = both (extends.eq x.1.1.1.0 y.1.1.1.0) q4 t2.1 in
    let t4 = both (bools.eq x.1.1.1.1.0 y.1.1.1.1.0) q5 t3.1 in
    let t5 = both (regs.eq x.1.1.1.1.1.0 y.1.1.1.1.1.0) q6 t4.1 in
    λ i. (
      size x.0 y.0 t0.0 i,
      (
        transfer x.1.0 y.1.0 t1.0 i,
        (
          reg x.1.1.0 y.1.1.0 t2.0 i,
          (
            extend x.1.1.1.0 y.1.1.1.0 t3.0 i,
            (
              bool x.1.1.1.1.0 y.1.1.1.1.0 t4.0 i,
              (reg x.1.1.1.1.1.0 y.1.1.1.1.1.0 t5.0 i, (reg x.1.1.1.1.1.1.0 y.1.1.1.1.1.1.0 t5.1 i, tt)),
            ),
          ),
        ),
      ),
    ))
    (choice (λ x y s. search rules)
    (λ x y s. absurd x))))))))))))))))))))))))))))))))))

-- instructions that `==` finds different are two
pub differ : (a b : Instr) → ghosts.eq a b ≡ false → a ≢ b
differ a b other is =
    let equal : ghosts.eq a b ≡ true = subst (λ v. ghosts.eq a v ≡ true) is (laws-law.refl a) in
    absurd (cc)
