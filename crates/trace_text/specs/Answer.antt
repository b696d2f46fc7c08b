-- The text of an answer: what each thread's commands were answered, and then the graph.
use Rattle.std.specs.Prelude.{ℕ, ◌≡◌, ◌-◌, List, [], ◌∷◌, ◌++◌, length, map, codes, nat_lt, if◌then◌else◌, Some, None}
use Rattle.std.specs.List.{flat_map, join_with_byte, range_with_len}
use Rattle.std.specs.Fmt.{decimal}
use Rattle.shen_graph.specs.declared.name.Name.{Name}
use Rattle.shen_graph.specs.declared.command.Reply.{Reply}
use Rattle.shen_graph.specs.declared.command.Reply.TheVariants.{Ref, Null, Ok, Yes, No, Number, Bad, Full, At}
use Rattle.shen_graph.specs.Graph.{Reference, opening}
use Rattle.shen_graph.specs.History.{Entry, after, of_thread}
use Rattle.shen_graph.specs.History as history
use Rattle.shen_graph.specs.Reach.{IsReach}
use Rattle.shen_graph.specs.GraphText.{Row, root_of, pin_of, row_in}
use Rattle.shen_graph.specs.Step.{name_in}
use Rattle.shen_graph.specs.Work.{replies_of}
use Rattle.trace_reading.specs.Spelling.{space, newline}
use Rattle.trace_text.specs.declared.answer.Answer.{Answer}

-- a line: words with a space between, and the end of the line
abbrev pub line_of : List (List ℕ) → List ℕ
line_of words = join_with_byte space words ++ newline ∷ []

-- the two numbers of a name, with a dot between
abbrev pub name_word : Name → List ℕ
name_word name = decimal name.thread ++ codes "." ++ decimal name.count

-- null is a dash
abbrev pub reference_word : Reference → List ℕ
reference_word None = codes "-"
reference_word (Some name) = name_word name

abbrev pub reply_word : Reply → List ℕ
reply_word (Ref name) = name_word name
reply_word Null = codes "-"
reply_word Ok = codes "ok"
reply_word Yes = codes "yes"
reply_word No = codes "no"
reply_word (Number number) = decimal number
reply_word Bad = codes "bad"
reply_word Full = codes "full"
reply_word (At place) = codes "@" ++ decimal place

-- what a command of a thread was answered
abbrev pub reply_line : ℕ → Reply → List ℕ
reply_line thread reply = line_of (decimal thread ∷ reply_word reply ∷ [])

-- an object: its name, its references, a stroke, its numbers
abbrev pub object_line : Row → List ℕ
object_line row = line_of (codes "object" ∷ name_word row.name ∷ (map reference_word row.refs ++ codes "/" ∷ map decimal row.nums))

-- the words of 16 roots
unfoldable pub root_spellings : (ℕ → Reference) → List (List ℕ)
root_spellings root = map (λ index. reference_word (root index)) (range_with_len 0 16)

-- the roots of a thread
abbrev pub roots_line : ℕ → (ℕ → Reference) → List ℕ
roots_line thread root = line_of (codes "roots" ∷ decimal thread ∷ root_spellings root)

-- the words of 4 pin slots
unfoldable pub pin_spellings : (ℕ → Reference) → List (List ℕ)
pin_spellings pin = map (λ slot. reference_word (pin slot)) (range_with_len 0 4)

-- the pin slots of a thread
abbrev pub pins_line : ℕ → (ℕ → Reference) → List ℕ
pins_line thread pin = line_of (codes "pins" ∷ decimal thread ∷ pin_spellings pin)

-- the threads, counted from 1
abbrev pub thread_numbers : ℕ → List ℕ
thread_numbers threads = range_with_len 1 threads

-- the lines of the pin slots of so many threads: the answer to a trace of version 2 has them
abbrev pub pins_text : (version threads : ℕ) (pin : ℕ → ℕ → Reference) → List ℕ
pins_text version threads pin = if nat_lt version 2 then [] else flat_map (λ thread. pins_line thread (pin thread)) (thread_numbers threads)

-- the answer of so many threads: the replies of each, the objects, the roots of each, and what is pinned
abbrev pub answer_text : (version threads : ℕ) (replies : ℕ → List Reply) (rows : List Row) (root pin : ℕ → ℕ → Reference) → List ℕ
answer_text version threads replies rows root pin =
    flat_map (λ t. flat_map (reply_line t) (replies t)) (thread_numbers threads)
    ++ (line_of (codes "graph" ∷ []) ++ (flat_map object_line rows ++ (flat_map (λ thread. roots_line thread (root thread)) (thread_numbers threads) ++ pins_text version threads pin)))

-- the text of an answer in memory
abbrev pub spelled_answer : Answer → List ℕ
spelled_answer answer = answer_text answer.version (length answer.graph.roots) (λ thread. replies_of answer.replies (thread - 1)) answer.graph.rows (root_of answer.graph) (pin_of answer.graph)

-- The text that answers, for a trace of this version, a history of so many threads: what its entries were answered, and the graph
-- after them, with the objects that can be reached in the order of their names.
pub record IsAnswerText (version threads : ℕ) (entries : List Entry) (out : List ℕ) : Type 0 where
  pub names : List Name
  pub reach : IsReach (after (opening threads) entries) names
  pub text : out ≡ answer_text version threads (λ t. history.replies_of (of_thread entries t)) (map (row_in (after (opening threads) entries)) names)
      (after (opening threads) entries).root (λ thread slot. name_in ((after (opening threads) entries).pin thread slot))
