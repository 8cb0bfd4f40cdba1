use Rattle.std.proofs.Common.{◌≡◌, ◌++◌, drop}
use Rattle.std.specs.List.{flat_map}
use Rattle.bao_config.specs.Path.{filled, path_of}
use Rattle.bao_config.proofs.error.Spot.path.Given as goal

-- what is written, and what the rest of the pattern gives, is the path
abbrev pub invariant-loop-i : goal.invariant-loop-i
invariant-loop-i l = l.path.items ++ flat_map (filled l.self) (drop l.i l.pattern) ≡ path_of l.self
