-- The numbers of the statuses, and the lines of the refusals. Each line ends with LF.
use Rattle.std.specs.Prelude.{ℕ, List, [], ◌++◌, codes}
use Rattle.std.specs.Fmt.{decimal}
use Rattle.text_lines.specs.Newline.{newline}
use Rattle.asm_run.specs.declared.status.AsmStatus.{AsmStatus}
use Rattle.asm_run.specs.declared.status.AsmStatus.TheVariants.{Done, Usage, ReadFault, TooLong, WriteFault, OutOfMemory, BadLine, BadLength}

abbrev pub number_of : AsmStatus → ℕ
number_of Done = 0
number_of Usage = 2
number_of ReadFault = 3
number_of (TooLong limit) = 4
number_of WriteFault = 9
number_of OutOfMemory = 10
number_of (BadLine line rule) = 15
number_of (BadLength len) = 16

-- the line of a refusal; the other two have none
unfoldable pub refusal_text : AsmStatus → List ℕ
refusal_text Done = []
refusal_text Usage = codes "usage: asm FILE or list FILE\n"
refusal_text ReadFault = codes "read fault file\n"
refusal_text (TooLong limit) = codes "too long file limit " ++ (decimal limit ++ newline)
refusal_text WriteFault = []
refusal_text OutOfMemory = codes "out of memory\n"
refusal_text (BadLine line rule) = codes "bad line " ++ (decimal line ++ (codes " rule " ++ (decimal rule ++ newline)))
refusal_text (BadLength len) = codes "bad length " ++ (decimal len ++ newline)
