use Rattle.std.proofs.Common.{◌∙◌, false, get_or, sym, ap}
use Rattle.gic_core.specs.declared.port_line.PortLine.{PortLine}
use Rattle.gic_core.specs.Lines.{raised_ppis}
use Rattle.gic_core.specs.PortLine.{lesser}
use Rattle.gic_core.proofs.LinesLemmas.{least_more}
use Rattle.gic_core.proofs.lines.Lines.least_raised.Goals as goal

pub loop-line-preserved : goal.loop-line-preserved
loop-line-preserved c =
    let default : PortLine = record { port = 0; spi = 0; cores = 0; raised = false } in
    c.lesser-least.ensures
    ∙ ap (lesser (get_or c.as_slice-line-items.result.now c.loop-line.line-index default) c.args.core) c.loop-line.invariant
    ∙ sym
    (least_more (raised_ppis c.args.self.now c.args.core) c.as_slice-line-items.result.now c.args.core c.loop-line.line-index default
    c.loop-line-test.true)
