use Rattle.std.proofs.Common.{◌≡◌, map, length}
use Rattle.bao_wellformed.specs.Checked.{checked_data}
use Rattle.outside.specs.Shelf.{IfHeld}
use Rattle.bao_run.specs.Reading.{AreImages}
use Rattle.bao_run.proofs.Fetches.{InRooms}
use Rattle.bao_run.proofs.images.read_images.Given as goal

abbrev pub invariant-loop-v : goal.invariant-loop-v
invariant-loop-v g l =
    let cfg = checked_data l.checked in
    record {
      count : length l.images.items ≡ l.v;
      rooms : InRooms cfg.vms (map (λ image. image.items) l.images.items);
      come : IfHeld (g.S.Shelf.held l.initial.shelf) (λ files. AreImages files cfg.vms (map (λ image. image.items) l.images.items));
      held : g.S.Shelf.held l.shelf ≡ g.S.Shelf.held l.initial.shelf;
      faults : g.S.Shelf.faults l.shelf ≡ g.S.Shelf.faults l.initial.shelf;
    }
