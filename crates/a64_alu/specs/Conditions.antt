-- Conditions (ARM DDI 0487, "ConditionHolds"), and what depends on them.
use Rattle.std.specs.Prelude.{ℕ, ◌+◌, ◌-◌, ◌%◌, ◌^◌, Bool, true, false, not, ◌&&◌}
use Rattle.a64_state.specs.Core.{CoreData}
use Rattle.a64_state.specs.Pstate.{negative_flag, zero_flag, carry_flag, overflow_flag}
use Rattle.a64_state.specs.Registers.{x_of}
use Rattle.a64_decode.specs.declared.operand.Condition.{Condition}
use Rattle.a64_decode.specs.declared.operand.Condition.TheVariants as condition
use Rattle.a64_decode.specs.declared.operand.Operand.{Operand}
use Rattle.a64_decode.specs.declared.operand.Operand.TheVariants as operand
use Rattle.a64_decode.specs.declared.operand.SelectKind.{SelectKind}
use Rattle.a64_decode.specs.declared.operand.SelectKind.TheVariants.{Csel, Csinc, Csinv, Csneg}
use Rattle.a64_alu.specs.Numbers.{inverted}

-- both hold, or neither
abbrev pub agree : Bool → Bool → Bool
agree true other = other
agree false other = not other

-- whether a condition holds by the flags in PSTATE
unfoldable pub holds : Condition → ℕ → Bool
holds condition.Eq pstate = zero_flag pstate
holds condition.Ne pstate = not (zero_flag pstate)
holds condition.Cs pstate = carry_flag pstate
holds condition.Cc pstate = not (carry_flag pstate)
holds condition.Mi pstate = negative_flag pstate
holds condition.Pl pstate = not (negative_flag pstate)
holds condition.Vs pstate = overflow_flag pstate
holds condition.Vc pstate = not (overflow_flag pstate)
holds condition.Hi pstate = carry_flag pstate && not (zero_flag pstate)
holds condition.Ls pstate = not (carry_flag pstate && not (zero_flag pstate))
holds condition.Ge pstate = agree (negative_flag pstate) (overflow_flag pstate)
holds condition.Lt pstate = not (agree (negative_flag pstate) (overflow_flag pstate))
holds condition.Gt pstate = agree (negative_flag pstate) (overflow_flag pstate) && not (zero_flag pstate)
holds condition.Le pstate = not (agree (negative_flag pstate) (overflow_flag pstate) && not (zero_flag pstate))
holds condition.Al pstate = true
holds condition.Nv pstate = true

-- the second operand of a conditional compare
abbrev pub operand_of : CoreData → Operand → ℕ
operand_of core (operand.Register r) = x_of core r.0
operand_of core (operand.Immediate number) = number

-- what a conditional select makes of the other register
unfoldable pub changed : ℕ → SelectKind → ℕ → ℕ
changed width Csel value = value
changed width Csinc value = (value + 1) % 2 ^ width
changed width Csinv value = inverted width value
changed width Csneg value = (2 ^ width - value) % 2 ^ width
