-- The text of a history: one line, and then a line for each of its entries.
use Rattle.std.specs.Prelude.{ℕ, List, [], ◌∷◌, ◌++◌, codes}
use Rattle.std.specs.List.{flat_map}
use Rattle.std.specs.Fmt.{decimal}
use Rattle.shen_graph.specs.History.{Entry}
use Rattle.trace_reading.specs.Spelling.{space, newline, command_word, numbers, numbers_of}
use Rattle.trace_text.specs.Answer.{line_of, reply_word}

-- the line of an entry: the thread, its command as in a trace, a colon, and the reply
abbrev pub entry_line : Entry → List ℕ
entry_line entry = decimal entry.thread ++ (space ∷ ((command_word entry.command ++ numbers (numbers_of entry.command)) ++ (codes " : " ++ (reply_word entry.reply ++ newline ∷ []))))

abbrev pub history_text : List Entry → List ℕ
history_text entries = line_of (codes "history" ∷ []) ++ flat_map entry_line entries
