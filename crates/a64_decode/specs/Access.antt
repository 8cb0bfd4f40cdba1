-- What the word of a load or a store says of it by itself (ARM DDI 0487, "Loads and stores"): an equation a row of the
-- table of words. A prefetch is neither a load nor a store.
use Rattle.std.specs.Prelude.{ℕ, Option, Some, None, Bool, true, false, not, ◌||◌, if◌then◌else◌}
use Rattle.a64_decode.specs.Lawful.{is_prefetch, is_signed_pair, writes_back}
use Rattle.a64_decode.specs.declared.access.MemAccess.{MemAccess}
use Rattle.a64_decode.specs.declared.instr.Instr.{Instr}
use Rattle.a64_decode.specs.declared.instr.Instr.TheVariants.{Address, AddSubImmediate, LogicalImmediate, MoveWide, Bitfield, Extract, Branch, BranchConditional, CompareBranch, TestBranch, BranchRegister, ExceptionReturn, Exception, Hint, Barrier, MsrImmediate, System, SystemRegister, LogicalShifted, AddSubShifted, AddSubExtended, AddSubCarry, ConditionalCompare, ConditionalSelect, ThreeSources, TwoSources, OneSource, LoadLiteral, Pair, LoadStoreUnsigned, LoadStoreIndexed, LoadStoreRegister, Undefined}
use Rattle.a64_decode.specs.declared.operand.Reg.{Reg}
use Rattle.a64_decode.specs.declared.operand.LiteralKind.{LiteralKind}
use Rattle.a64_decode.specs.declared.operand.LiteralKind.TheVariants as literal
use Rattle.a64_decode.specs.declared.operand.PairKind.{PairKind}
use Rattle.a64_decode.specs.declared.operand.PairKind.TheVariants as pair
use Rattle.a64_decode.specs.declared.operand.Size.{Size}
use Rattle.a64_decode.specs.declared.operand.Size.TheVariants as size
use Rattle.a64_decode.specs.declared.operand.Transfer.{Transfer}
use Rattle.a64_decode.specs.declared.operand.Transfer.TheVariants.{Store, Load, LoadSigned, LoadSignedWord}

-- scale, the logarithm of an element's width in bytes, is the field size
abbrev pub scale_of : Size → ℕ
scale_of size.Byte = 0
scale_of size.Half = 1
scale_of size.Word = 2
scale_of size.Double = 3

-- the width of a pair's element
abbrev pub pair_size : PairKind → Size
pair_size pair.Word = size.Word
pair_size pair.SignedWord = size.Word
pair_size pair.Double = size.Double

-- the registers of a pair have 64 bits
abbrev pub is_wide_pair : PairKind → Bool
is_wide_pair pair.Word = false
is_wide_pair pair.SignedWord = true
is_wide_pair pair.Double = true

abbrev pub is_store : Transfer → Bool
is_store Store = true
is_store Load = false
is_store LoadSigned = false
is_store LoadSignedWord = false

abbrev pub is_signed_load : Transfer → Bool
is_signed_load Store = false
is_signed_load Load = false
is_signed_load LoadSigned = true
is_signed_load LoadSignedWord = true

-- a load with its sign to 64 bits: opc 2
abbrev pub is_long_load : Transfer → Bool
is_long_load Store = false
is_long_load Load = false
is_long_load LoadSigned = true
is_long_load LoadSignedWord = false

abbrev pub is_double : Size → Bool
is_double size.Byte = false
is_double size.Half = false
is_double size.Word = false
is_double size.Double = true

-- the register has 64 bits: size 3, or opc 2
abbrev pub is_wide : Size → Transfer → Bool
is_wide size transfer = is_double size || is_long_load transfer

-- and of a literal; that of a prefetch means nothing
abbrev pub literal_size : LiteralKind → Size
literal_size literal.Word = size.Word
literal_size literal.Double = size.Double
literal_size literal.SignedWord = size.Word
literal_size literal.Prefetch = size.Double

abbrev pub is_signed_literal : LiteralKind → Bool
is_signed_literal literal.Word = false
is_signed_literal literal.Double = false
is_signed_literal literal.SignedWord = true
is_signed_literal literal.Prefetch = false

-- the register of a literal has 64 bits
abbrev pub is_wide_literal : LiteralKind → Bool
is_wide_literal literal.Word = false
is_wide_literal literal.Double = true
is_wide_literal literal.SignedWord = true
is_wide_literal literal.Prefetch = true

abbrev pub is_literal_prefetch : LiteralKind → Bool
is_literal_prefetch literal.Word = false
is_literal_prefetch literal.Double = false
is_literal_prefetch literal.SignedWord = false
is_literal_prefetch literal.Prefetch = true

-- the load of a literal, which has no base to write back
abbrev pub literal_access : LiteralKind → Reg → Option MemAccess
literal_access kind rt =
    if is_literal_prefetch kind then None
    else Some (
    record {
      size = literal_size kind;
      store = false;
      signed = is_signed_literal kind;
      wide = is_wide_literal kind;
      rt = rt;
      described = true;
    }
    )

-- a load or store of one register at a base; a signed load of a double word is a prefetch
abbrev pub single_access : Size → Transfer → Reg → Bool → Option MemAccess
single_access size transfer rt described =
    if is_prefetch size transfer then None
    else Some (
    record {
      size = size;
      store = is_store transfer;
      signed = is_signed_load transfer;
      wide = is_wide size transfer;
      rt = rt;
      described = described;
    }
    )

-- the table; the rows that have no access come last
unfoldable pub access_of : Instr → Option MemAccess
access_of (LoadLiteral kind offset rt) = literal_access kind rt
access_of (Pair kind mode load offset rt2 rn rt) =
    Some (
    record {
      size = pair_size kind;
      store = not load;
      signed = is_signed_pair kind;
      wide = is_wide_pair kind;
      rt = rt;
      described = false;
    }
    )
access_of (LoadStoreUnsigned size transfer imm12 rn rt) = single_access size transfer rt true
access_of (LoadStoreIndexed size transfer offset mode rn rt) = single_access size transfer rt (not (writes_back mode))
access_of (LoadStoreRegister size transfer rm extend scaled rn rt) = single_access size transfer rt true
access_of (Address _ _ _) = None
access_of (AddSubImmediate _ _ _ _ _ _ _) = None
access_of (LogicalImmediate _ _ _ _ _ _ _) = None
access_of (MoveWide _ _ _ _ _) = None
access_of (Bitfield _ _ _ _ _ _) = None
access_of (Extract _ _ _ _ _) = None
access_of (Branch _ _) = None
access_of (BranchConditional _ _) = None
access_of (CompareBranch _ _ _ _) = None
access_of (TestBranch _ _ _ _) = None
access_of (BranchRegister _ _) = None
access_of ExceptionReturn = None
access_of (Exception _ _) = None
access_of (Hint _ _) = None
access_of (Barrier _ _) = None
access_of (MsrImmediate _ _) = None
access_of (System _ _ _ _ _) = None
access_of (SystemRegister _ _ _) = None
access_of (LogicalShifted _ _ _ _ _ _ _ _) = None
access_of (AddSubShifted _ _ _ _ _ _ _ _) = None
access_of (AddSubExtended _ _ _ _ _ _ _ _) = None
access_of (AddSubCarry _ _ _ _ _ _) = None
access_of (ConditionalCompare _ _ _ _ _ _) = None
access_of (ConditionalSelect _ _ _ _ _ _) = None
access_of (ThreeSources _ _ _ _ _ _) = None
access_of (TwoSources _ _ _ _ _) = None
access_of (OneSource _ _ _ _) = None
access_of Undefined = None
