-- Each row of data processing has its arm.
use Rattle.std.specs.Prelude.{◌≡◌, ℕ, Bool, IsTrue}
use Rattle.std.proofs.Common.{refl}
use Rattle.a64_decode.specs.declared.instr.Instr.{Instr}
use Rattle.a64_decode.specs.declared.instr.Instr.TheVariants.{Address, AddSubImmediate, LogicalImmediate, MoveWide, Bitfield, Extract, LogicalShifted, AddSubShifted, AddSubExtended, AddSubCarry, ConditionalCompare, ConditionalSelect, ThreeSources, TwoSources, OneSource}
use Rattle.a64_decode.specs.declared.operand.BitfieldKind.{BitfieldKind}
use Rattle.a64_decode.specs.declared.operand.Condition.{Condition}
use Rattle.a64_decode.specs.declared.operand.Extend.{Extend}
use Rattle.a64_decode.specs.declared.operand.LogicalKind.{LogicalKind}
use Rattle.a64_decode.specs.declared.operand.MoveKind.{MoveKind}
use Rattle.a64_decode.specs.declared.operand.OneSourceKind.{OneSourceKind}
use Rattle.a64_decode.specs.declared.operand.Operand.{Operand}
use Rattle.a64_decode.specs.declared.operand.ProductKind.{ProductKind}
use Rattle.a64_decode.specs.declared.operand.Reg.{Reg}
use Rattle.a64_decode.specs.declared.operand.SelectKind.{SelectKind}
use Rattle.a64_decode.specs.declared.operand.Shift.{Shift}
use Rattle.a64_decode.specs.declared.operand.TwoSourceKind.{TwoSourceKind}
use Rattle.a64_alu.specs.Computed.{is_data_processing}

-- what is none of these variants is no data processing
pub none_left : (i : Instr) → IsTrue (is_data_processing i)
    → ((x0 : Bool) (x1 : ℕ) (x2 : Reg) → i ≡ Address x0 x1 x2 → ⊥)
    → ((x0 x1 x2 x3 : Bool) (x4 : ℕ) (x5 x6 : Reg) → i ≡ AddSubImmediate x0 x1 x2 x3 x4 x5 x6 → ⊥)
    → ((x0 : Bool) (x1 : LogicalKind) (x2 x3 x4 : ℕ) (x5 x6 : Reg) → i ≡ LogicalImmediate x0 x1 x2 x3 x4 x5 x6 → ⊥)
    → ((x0 : Bool) (x1 : MoveKind) (x2 x3 : ℕ) (x4 : Reg) → i ≡ MoveWide x0 x1 x2 x3 x4 → ⊥)
    → ((x0 : Bool) (x1 : BitfieldKind) (x2 x3 : ℕ) (x4 x5 : Reg) → i ≡ Bitfield x0 x1 x2 x3 x4 x5 → ⊥)
    → ((x0 : Bool) (x1 : Reg) (x2 : ℕ) (x3 x4 : Reg) → i ≡ Extract x0 x1 x2 x3 x4 → ⊥)
    → ((x0 : Bool) (x1 : LogicalKind) (x2 : Shift) (x3 : Bool) (x4 : Reg) (x5 : ℕ) (x6 x7 : Reg) → i ≡ LogicalShifted x0 x1 x2 x3 x4 x5 x6 x7 → ⊥)
    → ((x0 x1 x2 : Bool) (x3 : Shift) (x4 : Reg) (x5 : ℕ) (x6 x7 : Reg) → i ≡ AddSubShifted x0 x1 x2 x3 x4 x5 x6 x7 → ⊥)
    → ((x0 x1 x2 : Bool) (x3 : Reg) (x4 : Extend) (x5 : ℕ) (x6 x7 : Reg) → i ≡ AddSubExtended x0 x1 x2 x3 x4 x5 x6 x7 → ⊥)
    → ((x0 x1 x2 : Bool) (x3 x4 x5 : Reg) → i ≡ AddSubCarry x0 x1 x2 x3 x4 x5 → ⊥)
    → ((x0 x1 : Bool) (x2 : Operand) (x3 : Condition) (x4 : Reg) (x5 : ℕ) → i ≡ ConditionalCompare x0 x1 x2 x3 x4 x5 → ⊥)
    → ((x0 : Bool) (x1 : SelectKind) (x2 : Reg) (x3 : Condition) (x4 x5 : Reg) → i ≡ ConditionalSelect x0 x1 x2 x3 x4 x5 → ⊥)
    → ((x0 : Bool) (x1 : ProductKind) (x2 x3 x4 x5 : Reg) → i ≡ ThreeSources x0 x1 x2 x3 x4 x5 → ⊥)
    → ((x0 : Bool) (x1 : TwoSourceKind) (x2 x3 x4 : Reg) → i ≡ TwoSources x0 x1 x2 x3 x4 → ⊥)
    → ((x0 : Bool) (x1 : OneSourceKind) (x2 x3 : Reg) → i ≡ OneSource x0 x1 x2 x3 → ⊥)
    → ⊥
none_left (Address x0 x1 x2) kind n0 _ _ _ _ _ _ _ _ _ _ _ _ _ _ = n0 x0 x1 x2 refl
none_left (AddSubImmediate x0 x1 x2 x3 x4 x5 x6) kind _ n1 _ _ _ _ _ _ _ _ _ _ _ _ _ = n1 x0 x1 x2 x3 x4 x5 x6 refl
none_left (LogicalImmediate x0 x1 x2 x3 x4 x5 x6) kind _ _ n2 _ _ _ _ _ _ _ _ _ _ _ _ = n2 x0 x1 x2 x3 x4 x5 x6 refl
none_left (MoveWide x0 x1 x2 x3 x4) kind _ _ _ n3 _ _ _ _ _ _ _ _ _ _ _ = n3 x0 x1 x2 x3 x4 refl
none_left (Bitfield x0 x1 x2 x3 x4 x5) kind _ _ _ _ n4 _ _ _ _ _ _ _ _ _ _ = n4 x0 x1 x2 x3 x4 x5 refl
none_left (Extract x0 x1 x2 x3 x4) kind _ _ _ _ _ n5 _ _ _ _ _ _ _ _ _ = n5 x0 x1 x2 x3 x4 refl
none_left (LogicalShifted x0 x1 x2 x3 x4 x5 x6 x7) kind _ _ _ _ _ _ n6 _ _ _ _ _ _ _ _ = n6 x0 x1 x2 x3 x4 x5 x6 x7 refl
none_left (AddSubShifted x0 x1 x2 x3 x4 x5 x6 x7) kind _ _ _ _ _ _ _ n7 _ _ _ _ _ _ _ = n7 x0 x1 x2 x3 x4 x5 x6 x7 refl
none_left (AddSubExtended x0 x1 x2 x3 x4 x5 x6 x7) kind _ _ _ _ _ _ _ _ n8 _ _ _ _ _ _ = n8 x0 x1 x2 x3 x4 x5 x6 x7 refl
none_left (AddSubCarry x0 x1 x2 x3 x4 x5) kind _ _ _ _ _ _ _ _ _ n9 _ _ _ _ _ = n9 x0 x1 x2 x3 x4 x5 refl
none_left (ConditionalCompare x0 x1 x2 x3 x4 x5) kind _ _ _ _ _ _ _ _ _ _ n10 _ _ _ _ = n10 x0 x1 x2 x3 x4 x5 refl
none_left (ConditionalSelect x0 x1 x2 x3 x4 x5) kind _ _ _ _ _ _ _ _ _ _ _ n11 _ _ _ = n11 x0 x1 x2 x3 x4 x5 refl
none_left (ThreeSources x0 x1 x2 x3 x4 x5) kind _ _ _ _ _ _ _ _ _ _ _ _ n12 _ _ = n12 x0 x1 x2 x3 x4 x5 refl
none_left (TwoSources x0 x1 x2 x3 x4) kind _ _ _ _ _ _ _ _ _ _ _ _ _ n13 _ = n13 x0 x1 x2 x3 x4 refl
none_left (OneSource x0 x1 x2 x3) kind _ _ _ _ _ _ _ _ _ _ _ _ _ _ n14 = n14 x0 x1 x2 x3 refl
none_left _ kind _ _ _ _ _ _ _ _ _ _ _ _ _ _ _ = cc
