-- The class of an exception that goes to EL2, in its syndrome (ARM DDI 0487, "ESR_EL2").
use Rattle.std.specs.Prelude.{ℕ, ◌==◌, Bool}
use Rattle.bao_types.specs.Bits.{field}
use Rattle.exceptions.specs.declared.class.Class.{Class}
use Rattle.exceptions.specs.Syndrome.{class_number}

-- the syndrome is of this class: EC
abbrev pub is_of_class : Class → ℕ → Bool
is_of_class class esr = field esr 31 26 == class_number class
