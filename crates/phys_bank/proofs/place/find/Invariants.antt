use Rattle.std.proofs.Common.{◌≡◌, drop}
use Rattle.phys_bank.specs.Places.{spot_of}
use Rattle.phys_bank.proofs.place.find.Given as goal

abbrev pub invariant-loop-place : goal.invariant-loop-place
invariant-loop-place l = spot_of l.places l.at ≡ spot_of (drop l.place-index l.places) l.at
