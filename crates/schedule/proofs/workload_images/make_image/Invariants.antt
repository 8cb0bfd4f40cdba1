use Rattle.std.proofs.Common.{◌≡◌, take}
use Rattle.schedule.specs.Workload.{bytes_of}
use Rattle.schedule.proofs.workload_images.make_image.Given as goal

abbrev pub invariant-loop-word : goal.invariant-loop-word
invariant-loop-word l = l.bytes.items ≡ bytes_of (take l.word-index l.word-items)
