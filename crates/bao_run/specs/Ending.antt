-- The text that an `Ending` stands for.
use Rattle.report.specs.Section.{report}
use Rattle.report.specs.Summary.{summary}
use Rattle.bao_run.specs.Play.{Text}
use Rattle.bao_run.specs.declared.ending.Ending.{Ending}
use Rattle.bao_run.specs.declared.ending.Ending.TheVariants.{Report, Summary}

abbrev pub text_of : Ending → Text
text_of Report = report
text_of Summary = summary
