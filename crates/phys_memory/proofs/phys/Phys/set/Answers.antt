use Rattle.std.proofs.Common.{ap, ◌∙◌, set, List, ℕ}
use Rattle.phys_memory.proofs.Blocks.{bytes_of-write, IsPhys-write}
use Rattle.phys_memory.proofs.phys.Phys.set.Goals as goal

pub invariant_of-self : goal.invariant_of-self
invariant_of-self c = IsPhys-write c.self.inside c.self.invariant c.set.new.self c.args.at c.args.value c.set.ensures.place c.set.ensures.slots

pub returns : goal.returns
returns c = bytes_of-write c.self.inside c.self.invariant c.set.new.self c.args.at c.args.value c.set.ensures.place c.set.ensures.slots ∙ ap (λ (xs : List ℕ). set xs c.args.at c.args.value) c.self.view_is
