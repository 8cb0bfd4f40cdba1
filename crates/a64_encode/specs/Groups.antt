-- The groups of rows that the words are made in. No public clause cites this module.
use Rattle.std.specs.Prelude.{Bool, true, false}
use Rattle.a64_decode.specs.declared.instr.Instr.{Instr}
use Rattle.a64_decode.specs.declared.instr.Instr.TheVariants.{Address, AddSubImmediate, LogicalImmediate, MoveWide, Bitfield, Extract, Branch, BranchConditional, CompareBranch, TestBranch, BranchRegister, ExceptionReturn, Exception, Hint, Barrier, MsrImmediate, System, SystemRegister, LogicalShifted, AddSubShifted, AddSubCarry, AddSubExtended, ConditionalCompare, ConditionalSelect, OneSource, ThreeSources, TwoSources, LoadLiteral, Pair, LoadStoreUnsigned, LoadStoreIndexed, LoadStoreRegister}

-- the addresses, and the additions of a number
abbrev pub is_immediate : Instr → Bool
is_immediate (Address page offset rd) = true
is_immediate (AddSubImmediate wide subtract flags shifted imm12 rn rd) = true
is_immediate _ = false

-- the logical operations with a bitmask, and the wide moves
abbrev pub is_logical : Instr → Bool
is_logical (LogicalImmediate wide kind n immr imms rn rd) = true
is_logical (MoveWide wide kind hw imm16 rd) = true
is_logical _ = false

-- the bitfield moves and extractions
abbrev pub is_bitfield : Instr → Bool
is_bitfield (Bitfield wide kind immr imms rn rd) = true
is_bitfield (Extract wide rm imms rn rd) = true
is_bitfield _ = false

-- the branches
abbrev pub is_branch : Instr → Bool
is_branch (Branch link offset) = true
is_branch (BranchConditional offset condition) = true
is_branch (CompareBranch wide nonzero offset rt) = true
is_branch (TestBranch place nonzero offset rt) = true
is_branch (BranchRegister kind rn) = true
is_branch _ = false

-- exceptions, hints, barriers, and writes of a field of PSTATE
abbrev pub is_exception : Instr → Bool
is_exception ExceptionReturn = true
is_exception (Exception kind imm16) = true
is_exception (Hint crm op2) = true
is_exception (Barrier crm kind) = true
is_exception (MsrImmediate field crm) = true
is_exception _ = false

-- the words of the system, and of its registers
abbrev pub is_system : Instr → Bool
is_system (System op1 crn crm op2 rt) = true
is_system (SystemRegister read id rt) = true
is_system _ = false

-- the logical operations on a shifted register
abbrev pub is_logical_shifted : Instr → Bool
is_logical_shifted (LogicalShifted wide kind shift invert rm amount rn rd) = true
is_logical_shifted _ = false

-- the additions of a shifted register, and with carry
abbrev pub is_add : Instr → Bool
is_add (AddSubShifted wide subtract flags shift rm amount rn rd) = true
is_add (AddSubCarry wide subtract flags rm rn rd) = true
is_add _ = false

-- the additions of an extended register
abbrev pub is_extended : Instr → Bool
is_extended (AddSubExtended wide subtract flags rm extend amount rn rd) = true
is_extended _ = false

-- the conditional compares
abbrev pub is_compare : Instr → Bool
is_compare (ConditionalCompare wide subtract operand condition rn nzcv) = true
is_compare _ = false

-- the conditional selects, and the operations on one register
abbrev pub is_select : Instr → Bool
is_select (ConditionalSelect wide kind rm condition rn rd) = true
is_select (OneSource wide kind rn rd) = true
is_select _ = false

-- the products, and the operations on two registers
abbrev pub is_source : Instr → Bool
is_source (ThreeSources wide kind rm ra rn rd) = true
is_source (TwoSources wide kind rm rn rd) = true
is_source _ = false

-- the loads of literals, and pairs
abbrev pub is_pair : Instr → Bool
is_pair (LoadLiteral kind offset rt) = true
is_pair (Pair kind mode load offset rt2 rn rt) = true
is_pair _ = false

-- the loads and stores at an offset
abbrev pub is_load_store : Instr → Bool
is_load_store (LoadStoreUnsigned size transfer imm12 rn rt) = true
is_load_store (LoadStoreIndexed size transfer offset mode rn rt) = true
is_load_store _ = false

-- the loads and stores at an offset in a register
abbrev pub is_at_register : Instr → Bool
is_at_register (LoadStoreRegister size transfer rm extend scaled rn rt) = true
is_at_register _ = false
