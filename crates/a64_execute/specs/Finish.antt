-- What a core is after an instruction, once it has what it asked for.
use Rattle.std.specs.Prelude.{ℕ, Option, Some, None}
use Rattle.a64_state.specs.Core.{CoreData}
use Rattle.a64_decode.specs.declared.instr.Instr.{Instr}
use Rattle.a64_address.specs.declared.shape.MemShape.{MemShape}
use Rattle.a64_address.specs.Shape.{memory_shape}
use Rattle.a64_sysreg.specs.declared.moment.Moment.{Moment}
use Rattle.a64_execute.specs.Branch.{advanced}
use Rattle.a64_execute.specs.Execute.{executed}
use Rattle.a64_execute.specs.Transfer.{transferred}

-- after an instruction that has no access, and one that has this access
abbrev pub finished_with : CoreData → Moment → Instr → Option MemShape → ℕ → CoreData
finished_with core moment instr None got = executed instr moment core
finished_with core moment instr (Some shape) got = advanced (transferred instr shape got core)

-- The core after an instruction that asked for no exception, at a moment, with `got` loaded. The interrupt that it takes or ends
-- is no matter of this.
unfoldable pub finished : CoreData → Moment → Instr → ℕ → CoreData
finished core moment instr got = finished_with core moment instr (memory_shape core instr) got
