-- The plain data of a `Command`.
use Rattle.bao_run.specs.declared.words.Command.{Command}
use Rattle.bao_run.specs.declared.words.Command.TheVariants.{Run, Check, Generate, Unknown}
use Rattle.bao_run.specs.Words as said

abbrev pub command_data : Command → said.Command
command_data (Run config schedule) = said.Run config.now schedule.now
command_data (Check config) = said.Check config.now
command_data (Generate number) = said.Generate number
command_data Unknown = said.Unknown
