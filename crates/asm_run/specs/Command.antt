-- The plain data of a `Command`.
use Rattle.asm_run.specs.declared.words.Command.{Command}
use Rattle.asm_run.specs.declared.words.Command.TheVariants.{Assemble, Show, Unknown}
use Rattle.asm_run.specs.Words as said

abbrev pub command_data : Command → said.Command
command_data (Assemble file) = said.Assemble file.now
command_data (Show file) = said.Show file.now
command_data Unknown = said.Unknown
