-- What a look before the word of a step tells of the step.
use Rattle.std.proofs.Common.{◌≡◌, ℕ, List, ap, subst, ◌∙◌}
use Rattle.std.specs.Prelude.{Option, None, Some}
use Rattle.bao_types.specs.declared.region.Region.{Region}
use Rattle.a64_state.specs.Core.{CoreData}
use Rattle.a64_decode.specs.Table.{decoded}
use Rattle.a64_decode.specs.declared.instr.Instr.{Instr}
use Rattle.a64_execute.specs.Want.{wanted}
use Rattle.a64_sysreg.specs.declared.moment.Moment.{Moment}
use Rattle.board.specs.declared.board.Exit.{Exit}
use Rattle.board.specs.Attempt.{Effect, effect_of}
use Rattle.board.specs.Ports.{number_at}
use Rattle.sim_board.specs.Devices.{DevicesData}
use Rattle.sim_board.specs.Reached.{reached}
use Rattle.sim_board.specs.Step.{Begins, Ends, worded}

-- one that comes to no word ends so
pub ended : (whole word : Effect) (core next : CoreData) (result : Option Exit) (exit : Exit) → result ≡ Some exit
    → Begins whole word core next result → Ends whole next exit
ended whole word core next result exit is begins = subst (Begins whole word core next) is begins

-- one that comes to its word is the same as what the word says, at the same core
pub begun : (whole word : Effect) (core next : CoreData) (result : Option Exit) → result ≡ None
    → Begins whole word core next result → (next ≡ core) × (whole ≡ word)
begun whole word core next result is begins = subst (Begins whole word core next) is begins

-- the instruction that is decoded at this core is the word's
pub word_said : (core next : CoreData) (entries others : List Region) (bytes : ℕ → ℕ) (devices : DevicesData)
    (moment : Moment) (instr : Instr) → next ≡ core → others ≡ entries → instr ≡ decoded (number_at bytes next.pc 4)
    → effect_of (reached next others bytes devices) next moment instr (wanted next instr)
    ≡ worded (reached core entries bytes devices) core moment bytes
word_said core next entries others bytes devices moment instr same kept is =
    ap (λ core. effect_of (reached core others bytes devices) core moment instr (wanted core instr)) same
    ∙ ap (λ entries. effect_of (reached core entries bytes devices) core moment instr (wanted core instr)) kept
    ∙ ap (λ instr. effect_of (reached core entries bytes devices) core moment instr (wanted core instr))
    (is ∙ ap (λ core. decoded (number_at bytes core.pc 4)) same)
