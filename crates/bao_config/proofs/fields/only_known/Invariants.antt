use Rattle.std.proofs.Common.{◌≡◌, map}
use Rattle.toml.specs.View.{members_view}
use Rattle.bao_config.specs.Faults.{all_known}
use Rattle.bao_config.proofs.fields.only_known.Given as goal

-- the keys so far are known
abbrev pub invariant-members : goal.invariant-members
invariant-members l =
    (goal.iterator-members).can_next l.key-iterator × (goal.iterator-members).is_finite l.key-iterator
    × (all_known (map (λ s. s.now) l.names) (members_view l.key-iterator) ≡ all_known (map (λ s. s.now) l.names) (members_view l.table.entries))
