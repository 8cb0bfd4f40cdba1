use Rattle.std.proofs.Common.{ℕ, ap, ◌∙◌}
use Rattle.a64_state.specs.Core.{CoreData}
use Rattle.exceptions.specs.Assembled.{pstate_of}
use Rattle.exceptions.specs.Entry.{return_address, entered}
use Rattle.exceptions.proofs.Restored.{parts_after-legal, pstate_of-parts_of}
use Rattle.exceptions.proofs.exit.returns_undo_entries.Goals as goal

pub returns : goal.returns
returns c =
    λ core cause bound is.
    let after : ℕ → CoreData = λ p. record (entered core cause) { pc = return_address core cause; pstate = p } in
    ap after (ap pstate_of (parts_after-legal core.pstate _ is.legal) ∙ pstate_of-parts_of core.pstate bound is)
