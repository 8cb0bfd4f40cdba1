use Rattle.std.proofs.Common.{rules}
use Rattle.outside.specs.Sink.{grown}
use Rattle.outside.proofs.Puts.{part_none}
use Rattle.outside.proofs.mem_sink.MemSinkSink.TheImpl.Goals as goal

pub put-tells : goal.put-tells
unfolding grown
put-tells c = search (rules, part_none)
