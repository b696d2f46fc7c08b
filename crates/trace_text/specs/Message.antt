-- The text that is written where no trace is answered: one line, such as a verdict, the eight of a churn, or the three of a queue.
use Rattle.std.specs.Prelude.{ℕ, List, [], ◌∷◌, ◌++◌, codes}
use Rattle.std.specs.Fmt.{decimal}
use Rattle.churn.specs.declared.summary.Summary.{Summary}
use Rattle.trace_reading.specs.Spelling.{newline}
use Rattle.trace_reading.specs.Why.{text_of}
use Rattle.trace_text.specs.declared.message.Line.{Line}
use Rattle.trace_text.specs.declared.message.Line.TheVariants.{BadWords, BadLine, TooLong, HeapTooSmall, Unfinished, ReadFault, NoMemory, Churn, Queue, Yes, NoEntry, NoScript, NoText}

-- what is told of a run of the workload, whose threads are three: a line each, the last one without its end
abbrev pub summary_text : Summary → List ℕ
summary_text summary =
    codes "churn " ++ (decimal summary.seed ++ (codes " " ++ (decimal summary.count
    ++ (codes "\nthreads 3\ncommands " ++ (decimal summary.commands
    ++ (codes "\nbad " ++ (decimal summary.bad
    ++ (codes "\nfull " ++ (decimal summary.full
    ++ (codes "\nobjects " ++ (decimal summary.objects
    ++ (codes "\nwords " ++ (decimal summary.words
    ++ (codes "\nsum " ++ decimal summary.sum))))))))))))))

-- what is told of a queue: how many numbers each user put or took, how many the takers got, and their sum
abbrev pub queue_text : (count items sum : ℕ) → List ℕ
queue_text count items sum = codes "queue " ++ (decimal count ++ (codes "\nitems " ++ (decimal items ++ (codes "\nsum " ++ decimal sum))))

-- what a line says
abbrev pub message : Line → List ℕ
message BadWords = codes "bad words"
message (BadLine line_number why) = codes "bad line " ++ (decimal line_number ++ (codes ": " ++ text_of why))
message TooLong = codes "too long: more than 16777216 bytes"
message HeapTooSmall = codes "heap too small"
message (Unfinished steps) = codes "unfinished after " ++ decimal steps ++ codes " steps"
message ReadFault = codes "read fault"
message NoMemory = codes "out of memory"
message (Churn summary) = summary_text summary
message (Queue count items sum) = queue_text count items sum
message Yes = codes "yes"
message (NoEntry entry_number) = codes "no: entry " ++ decimal entry_number
message (NoScript thread) = codes "no: script " ++ decimal thread
message NoText = codes "no: text"

-- the line
abbrev pub line_text : Line → List ℕ
line_text line = message line ++ newline ∷ []
