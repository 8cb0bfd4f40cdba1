use Rattle.std.proofs.Common.{sym}
use Rattle.vgic_emul.proofs.WordsLemmas.{with_priorities-none, with_priorities-more}
use Rattle.vgic_emul.proofs.words.write_priorities.Goals as goal

pub loop-byte-init : goal.loop-byte-init
loop-byte-init c = sym (with_priorities-none c.args.table.now c.args.core c.args.value c.args.first)

pub loop-byte-preserved : goal.loop-byte-preserved
loop-byte-preserved c = cc (with_priorities-more c.args.table.now c.args.core c.args.value c.args.first c.loop-byte.byte)
