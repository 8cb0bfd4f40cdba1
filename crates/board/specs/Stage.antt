-- The verdicts of a stage of protection: what the step of a core is parameterised by. The first stage is its core's. In the
-- place of the second the machine asks the core's EL2 entries, and the model a configuration's map.
use Rattle.std.specs.Prelude.{ℕ, Bool, true, false, if◌then◌else◌, List}
use Rattle.bao_types.specs.declared.access.Access.{Access}
use Rattle.bao_types.specs.declared.access.Verdict.{Verdict}
use Rattle.bao_types.specs.declared.access.Verdict.TheVariants.{Allow, Translation, Permission}
use Rattle.bao_types.specs.declared.region.Region.{Region}
use Rattle.a64_state.specs.Core.{CoreData}
use Rattle.a64_state.specs.Registers.{level}
use Rattle.pmsa_stage1.specs.Stage1.{stage1}
use Rattle.pmsa_stage2.specs.Stage2.{stage2}

-- a verdict for each access to each byte
abbrev pub Stage : Type 0
Stage = Access → ℕ → Verdict

-- the first stage, by the EL1 regions, SCTLR_EL1 and the level of a core
abbrev pub by_regions : CoreData → Stage
by_regions core = stage1 core.regions.regions core.sys.sctlr (level core)

-- the second stage, by the EL2 entries of a core
abbrev pub by_entries : List Region → Stage
by_entries entries = stage2 entries

abbrev pub is_allowed : Verdict → Bool
is_allowed Allow = true
is_allowed Translation = false
is_allowed Permission = false

-- the second stage after the first, as one: it is asked of what the first allows
abbrev pub both : Stage → Stage → Stage
both one two access at = if is_allowed (one access at) then two access at else one access at
