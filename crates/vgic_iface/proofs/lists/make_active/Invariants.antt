use Rattle.std.proofs.Common.{◌≡◌, find, take, None}
use Rattle.vgic_iface.specs.Interface.{holds}
use Rattle.vgic_iface.proofs.lists.make_active.Given as goal

abbrev pub invariant-loop-list : goal.invariant-loop-list
invariant-loop-list l = (l.lists ≡ l.initial.lists) × (find (holds l.id) (take l.list-index l.initial.lists) ≡ None)
