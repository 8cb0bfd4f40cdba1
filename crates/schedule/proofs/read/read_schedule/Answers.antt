use Rattle.std.proofs.Common.{◌≡◌, rules}
use Rattle.bao_config.specs.Config.{config_data}
use Rattle.bao_wellformed.specs.Checked.{checked_data}
use Rattle.schedule.specs.Line.{BeginsWithLine}
use Rattle.schedule.specs.Answer.{reached_by, TakesLine}
use Rattle.schedule.proofs.Reading.{goes_on}
use Rattle.schedule.proofs.read.read_schedule.Goals as goal

pub loop-line-preserved : goal.loop-line-preserved
loop-line-preserved c =
    let first : BeginsWithLine c.loop-line.rest.now c.in-Some.line c.in-Some.others.now = search rules in
    let takes : TakesLine (config_data c.config-config.result.now) (reached_by c.loop-line.progress) c.in-Some.line
    (reached_by c.take.new.self) = search rules in
    let same : config_data c.config-config.result.now ≡ checked_data c.args.checked.now = search rules in
    goes_on (checked_data c.args.checked.now) c.args.bytes.now (reached_by c.loop-line.progress) c.loop-line.rest.now c.in-Some.line
    c.in-Some.others.now c.loop-line.invariant first (config_data c.config-config.result.now) (reached_by c.take.new.self) takes same
