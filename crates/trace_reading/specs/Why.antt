-- What is said of a line that is refused.
use Rattle.std.specs.Prelude.{ℕ, List, codes}
use Rattle.trace_reading.specs.declared.why.Why.{Why}
use Rattle.trace_reading.specs.declared.why.Why.TheVariants.{EndOfLine, Header, ScheduleLast, Command, Item, Number, Range, AnswerWanted, HistoryWanted, EntryWanted, DumpWanted}

abbrev pub text_of : Why → List ℕ
text_of EndOfLine = codes "end of line wanted"
text_of Header = codes "header wanted"
text_of ScheduleLast = codes "schedule is last"
text_of Command = codes "command wanted"
text_of Item = codes "item wanted"
text_of Number = codes "number wanted"
text_of Range = codes "out of range"
text_of AnswerWanted = codes "answer wanted"
text_of HistoryWanted = codes "history wanted"
text_of EntryWanted = codes "entry wanted"
text_of DumpWanted = codes "dump wanted"
