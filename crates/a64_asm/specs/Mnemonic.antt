-- The first words of the line forms.
use Rattle.std.specs.Prelude.{ℕ, true, false, List, [], ◌∷◌, Option, codes, find}
use Rattle.std.specs.Str.{bytes_eq}
use Rattle.a64_decode.specs.declared.operand.Condition.{Condition}
use Rattle.a64_decode.specs.declared.operand.Condition.TheVariants as condition
use Rattle.a64_decode.specs.declared.operand.LogicalKind.TheVariants.{And, Orr, Eor, Ands}
use Rattle.a64_decode.specs.declared.operand.MoveKind.TheVariants.{Movn, Movz, Movk}
use Rattle.a64_decode.specs.declared.operand.BranchKind.TheVariants.{Br, Blr, Ret}
use Rattle.a64_decode.specs.declared.operand.ExceptionKind.TheVariants.{Svc, Hvc, Smc, Brk}
use Rattle.a64_asm.specs.declared.mnemonic.Mnemonic.{Mnemonic}
use Rattle.a64_asm.specs.declared.mnemonic.Mnemonic.TheVariants.{Move, AddSub, Logical, Access, Branch, BranchIf, CompareBranch, BranchRegister, Exception, System, ExceptionReturn, Nop, Word}

-- a branch under a condition; no line has the last two
abbrev pub branch_name : Condition → List ℕ
branch_name condition.Eq = codes "b.eq"
branch_name condition.Ne = codes "b.ne"
branch_name condition.Cs = codes "b.cs"
branch_name condition.Cc = codes "b.cc"
branch_name condition.Mi = codes "b.mi"
branch_name condition.Pl = codes "b.pl"
branch_name condition.Vs = codes "b.vs"
branch_name condition.Vc = codes "b.vc"
branch_name condition.Hi = codes "b.hi"
branch_name condition.Ls = codes "b.ls"
branch_name condition.Ge = codes "b.ge"
branch_name condition.Lt = codes "b.lt"
branch_name condition.Gt = codes "b.gt"
branch_name condition.Le = codes "b.le"
branch_name condition.Al = codes "b.al"
branch_name condition.Nv = codes "b.nv"

-- no line has `ands`
abbrev pub name_of : Mnemonic → List ℕ
name_of (Move Movn) = codes "movn"
name_of (Move Movz) = codes "movz"
name_of (Move Movk) = codes "movk"
name_of (AddSub false) = codes "add"
name_of (AddSub true) = codes "sub"
name_of (Logical And) = codes "and"
name_of (Logical Orr) = codes "orr"
name_of (Logical Eor) = codes "eor"
name_of (Logical Ands) = codes "ands"
name_of (Access true false) = codes "ldr"
name_of (Access false false) = codes "str"
name_of (Access true true) = codes "ldrb"
name_of (Access false true) = codes "strb"
name_of (Branch false) = codes "b"
name_of (Branch true) = codes "bl"
name_of (BranchIf condition) = branch_name condition
name_of (CompareBranch false) = codes "cbz"
name_of (CompareBranch true) = codes "cbnz"
name_of (BranchRegister Br) = codes "br"
name_of (BranchRegister Blr) = codes "blr"
name_of (BranchRegister Ret) = codes "ret"
name_of (Exception Svc) = codes "svc"
name_of (Exception Hvc) = codes "hvc"
name_of (Exception Smc) = codes "smc"
name_of (Exception Brk) = codes "brk"
name_of (System true) = codes "mrs"
name_of (System false) = codes "msr"
name_of ExceptionReturn = codes "eret"
name_of Nop = codes "nop"
name_of Word = codes ".word"

-- the branches under the conditions that a line has
unfoldable pub branches : List Mnemonic
branches =
    BranchIf condition.Eq
    ∷ BranchIf condition.Ne
    ∷ BranchIf condition.Cs
    ∷ BranchIf condition.Cc
    ∷ BranchIf condition.Mi
    ∷ BranchIf condition.Pl
    ∷ BranchIf condition.Vs
    ∷ BranchIf condition.Vc
    ∷ BranchIf condition.Hi
    ∷ BranchIf condition.Ls
    ∷ BranchIf condition.Ge
    ∷ BranchIf condition.Lt
    ∷ BranchIf condition.Gt
    ∷ BranchIf condition.Le
    ∷ []

-- all that begin a line
unfoldable pub mnemonics : List Mnemonic
mnemonics =
    Move Movn
    ∷ Move Movz
    ∷ Move Movk
    ∷ AddSub false
    ∷ AddSub true
    ∷ Logical And
    ∷ Logical Orr
    ∷ Logical Eor
    ∷ Access true false
    ∷ Access false false
    ∷ Access true true
    ∷ Access false true
    ∷ Branch false
    ∷ Branch true
    ∷ CompareBranch false
    ∷ CompareBranch true
    ∷ BranchRegister Br
    ∷ BranchRegister Blr
    ∷ BranchRegister Ret
    ∷ Exception Svc
    ∷ Exception Hvc
    ∷ Exception Smc
    ∷ Exception Brk
    ∷ System true
    ∷ System false
    ∷ ExceptionReturn
    ∷ Nop
    ∷ Word
    ∷ branches

-- what a text asks for, if it is one of these names
unfoldable pub mnemonic_of : List ℕ → Option Mnemonic
mnemonic_of text = find (λ one. bytes_eq text (name_of one)) mnemonics
