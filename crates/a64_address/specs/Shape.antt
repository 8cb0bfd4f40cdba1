-- What each load and store asks of memory: an equation a row of the table of words. An offset counts words in a literal
-- load, elements in a pair and where it is unsigned, and else bytes. `isv` is true of an access by one register without
-- write-back (ARM DDI 0487, "ISS encoding for an exception from a Data Abort", ISV).
use Rattle.std.specs.Prelude.{◌≡◌, ℕ, ◌^◌, ◌⊎◌, Option, Some, None, true, false, not, if◌then◌else◌}
use Rattle.a64_state.specs.Core.{CoreData}
use Rattle.a64_state.specs.Registers.{x_of, x_or_sp, is_sp}
use Rattle.a64_decode.specs.Lawful.{is_prefetch, writes_back}
use Rattle.a64_decode.specs.Operands.{extended}
use Rattle.a64_decode.specs.Access.{scale_of, pair_size, literal_size, is_literal_prefetch, is_store, access_of}
use Rattle.a64_decode.specs.declared.access.MemAccess.{MemAccess}
use Rattle.a64_decode.specs.declared.instr.Instr.{Instr}
use Rattle.a64_decode.specs.declared.instr.Instr.TheVariants.{Address, AddSubImmediate, LogicalImmediate, MoveWide, Bitfield, Extract, Branch, BranchConditional, CompareBranch, TestBranch, BranchRegister, ExceptionReturn, Exception, Hint, Barrier, MsrImmediate, System, SystemRegister, LogicalShifted, AddSubShifted, AddSubExtended, AddSubCarry, ConditionalCompare, ConditionalSelect, ThreeSources, TwoSources, OneSource, LoadLiteral, Pair, LoadStoreUnsigned, LoadStoreIndexed, LoadStoreRegister, Undefined}
use Rattle.a64_address.specs.declared.shape.MemShape.{MemShape}
use Rattle.a64_address.specs.Address.{plus, shifted_left, address_of, back_of}

-- the table; the rows that have no access come last
unfoldable pub memory_shape : CoreData → Instr → Option MemShape
memory_shape core (LoadLiteral kind offset rt) =
    if is_literal_prefetch kind then None
    else Some (
    record {
      at = plus core.pc (shifted_left offset 2);
      width = 2 ^ scale_of (literal_size kind);
      count = 1;
      store = false;
      base_sp = false;
      back = None;
      isv = true;
    }
    )
memory_shape core (Pair kind mode load offset rt2 rn rt) =
    Some (
    record {
      at = address_of mode (x_or_sp core rn.0) (shifted_left offset (scale_of (pair_size kind)));
      width = 2 ^ scale_of (pair_size kind);
      count = 2;
      store = not load;
      base_sp = is_sp rn.0;
      back = back_of mode (x_or_sp core rn.0) (shifted_left offset (scale_of (pair_size kind)));
      isv = false;
    }
    )
memory_shape core (LoadStoreUnsigned size transfer imm12 rn rt) =
    if is_prefetch size transfer then None
    else Some (
    record {
      at = plus (x_or_sp core rn.0) (shifted_left imm12 (scale_of size));
      width = 2 ^ scale_of size;
      count = 1;
      store = is_store transfer;
      base_sp = is_sp rn.0;
      back = None;
      isv = true;
    }
    )
memory_shape core (LoadStoreIndexed size transfer offset mode rn rt) =
    if is_prefetch size transfer then None
    else Some (
    record {
      at = address_of mode (x_or_sp core rn.0) offset;
      width = 2 ^ scale_of size;
      count = 1;
      store = is_store transfer;
      base_sp = is_sp rn.0;
      back = back_of mode (x_or_sp core rn.0) offset;
      isv = not (writes_back mode);
    }
    )
memory_shape core (LoadStoreRegister size transfer rm extend scaled rn rt) =
    if is_prefetch size transfer then None
    else Some (
    record {
      at = plus (x_or_sp core rn.0) (shifted_left (extended extend (x_of core rm.0)) (if scaled then scale_of size else 0));
      width = 2 ^ scale_of size;
      count = 1;
      store = is_store transfer;
      base_sp = is_sp rn.0;
      back = None;
      isv = true;
    }
    )
memory_shape core (Address _ _ _) = None
memory_shape core (AddSubImmediate _ _ _ _ _ _ _) = None
memory_shape core (LogicalImmediate _ _ _ _ _ _ _) = None
memory_shape core (MoveWide _ _ _ _ _) = None
memory_shape core (Bitfield _ _ _ _ _ _) = None
memory_shape core (Extract _ _ _ _ _) = None
memory_shape core (Branch _ _) = None
memory_shape core (BranchConditional _ _) = None
memory_shape core (CompareBranch _ _ _ _) = None
memory_shape core (TestBranch _ _ _ _) = None
memory_shape core (BranchRegister _ _) = None
memory_shape core ExceptionReturn = None
memory_shape core (Exception _ _) = None
memory_shape core (Hint _ _) = None
memory_shape core (Barrier _ _) = None
memory_shape core (MsrImmediate _ _) = None
memory_shape core (System _ _ _ _ _) = None
memory_shape core (SystemRegister _ _ _) = None
memory_shape core (LogicalShifted _ _ _ _ _ _ _ _) = None
memory_shape core (AddSubShifted _ _ _ _ _ _ _ _) = None
memory_shape core (AddSubExtended _ _ _ _ _ _ _ _) = None
memory_shape core (AddSubCarry _ _ _ _ _ _) = None
memory_shape core (ConditionalCompare _ _ _ _ _ _) = None
memory_shape core (ConditionalSelect _ _ _ _ _ _) = None
memory_shape core (ThreeSources _ _ _ _ _ _) = None
memory_shape core (TwoSources _ _ _ _ _) = None
memory_shape core (OneSource _ _ _ _) = None
memory_shape core Undefined = None

-- the numbers of elements
abbrev pub IsCount : ℕ → Type 0
IsCount count = (count ≡ 1) ⊎ (count ≡ 2)

-- a shape has the width of the access that the word says, stores where that does, and says that a syndrome describes it
-- exactly where that does
pub record IsShapeOf (access : MemAccess) (shape : MemShape) : Type 0 where
  pub width : shape.width ≡ 2 ^ scale_of access.size
  pub store : shape.store ≡ access.store
  pub isv : shape.isv ≡ access.described

-- there is a shape exactly where there is an access, and it is that of the access
abbrev pub Agree : Option MemAccess → Option MemShape → Type 0
Agree None None = Unit {0}
Agree None (Some shape) = ⊥
Agree (Some access) None = ⊥
Agree (Some access) (Some shape) = IsShapeOf access shape

-- what an instruction asks of memory agrees with what its word says
abbrev pub ShapesAgree : Type 0
ShapesAgree = (core : CoreData) (instr : Instr) → Agree (access_of instr) (memory_shape core instr)
