-- The registers of a core, as a section shows them.
use Rattle.std.specs.Prelude.{ℕ, ◌+◌, List, [], ◌∷◌, ◌++◌, codes}
use Rattle.board.specs.declared.view.CoreView.{CoreView}
use Rattle.report.specs.Lines.{nonzero_line, register_line, x_name}

-- a register with the name that it is shown by
pub record Named : Type 0 where
  pub name : List ℕ
  pub value : ℕ

abbrev pub named : List ℕ → ℕ → Named
named name value = record { name = name; value = value }

-- of these registers those that aren't zero
unfoldable pub nonzero_lines : List Named → List ℕ
nonzero_lines [] = []
nonzero_lines (register ∷ registers) = nonzero_line register.name register.value ++ nonzero_lines registers

-- the stack pointers
abbrev pub stack_registers : CoreView → List Named
stack_registers view = named (codes "sp_el0") view.sp0 ∷ (named (codes "sp_el1") view.sp1 ∷ [])

-- what an exception returns to, what it says of its cause, and what governs EL1
abbrev pub exception_registers : CoreView → List Named
exception_registers view =
    named (codes "elr_el1") view.elr
    ∷ (named (codes "spsr_el1") view.spsr
    ∷ (named (codes "esr_el1") view.esr
    ∷ (named (codes "far_el1") view.far
    ∷ (named (codes "vbar_el1") view.vbar ∷ (named (codes "sctlr_el1") view.sctlr ∷ [])))))

-- the general registers from a number on
unfoldable pub general_text : ℕ → List ℕ → List ℕ
general_text n [] = []
general_text n (value ∷ values) = nonzero_line (x_name n) value ++ general_text (n + 1) values

-- PC and PSTATE, and of all others those that aren't zero
unfoldable pub registers_text : CoreView → List ℕ
registers_text view =
    register_line (codes "pc") 16 view.pc
    ++ (register_line (codes "pstate") 8 view.pstate
    ++ (nonzero_lines (stack_registers view) ++ (general_text 0 view.x ++ nonzero_lines (exception_registers view))))
