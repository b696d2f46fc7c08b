-- Which bytes are refused where a dump and what is to run from it are read, at which line, and why.
use Rattle.std.specs.Prelude.{ℕ, ◌≡◌, ◌+◌, ◌<◌, ◌≤◌, ◌⊎◌, true, List, [], ◌∷◌, ◌++◌, All, codes, length, map, Some, None}
use Rattle.std.specs.Fmt.{decimal}
use Rattle.std.specs.Str.Parse.{digits_value}
use Rattle.heap_words.specs.declared.config.Config.{Config}
use Rattle.heap_words.specs.Narrow.{IsNarrow}
use Rattle.shen_graph.specs.Graph.{Reference}
use Rattle.shen_graph.specs.GraphText.{Row}
use Rattle.shen_graph.specs.Reach.{InOrder}
use Rattle.trace_reading.specs.Spelling.{newline, titled}
use Rattle.trace_reading.specs.Grammar.{most_bytes}
use Rattle.trace_reading.specs.declared.why.Why.{Why}
use Rattle.trace_reading.specs.declared.why.Why.TheVariants.{EndOfLine, DumpWanted}
use Rattle.trace_reading.specs.Causes.{parts, is_plain_number}
use Rattle.trace_reading.specs.Refused.{LineStage, LineFollows, cause_of}
use Rattle.trace_reading.specs.Refused.LineStage.{Commands}
use Rattle.trace_text.specs.Answer.{line_of, name_word}
use Rattle.heap_dump.specs.Dumped.{Dumped, names_in, most_made, IsRow, IsDump}
use Rattle.heap_dump.specs.DumpsToRun.{run_version, mark_line}

-- what was read, and so what is to stand on the next line
pub data DumpStage : Type 0 where
  -- nothing; the version
  Version : DumpStage
  Heap : DumpStage
  -- a heap of these sizes
  Threads : Config → DumpStage
  -- the configuration
  Counts : Config → DumpStage
  -- these objects, and the roots of the first threads
  Listed : Dumped → DumpStage
  -- the dump and the line `trace`
  Behind : LineStage → DumpStage

-- this text, with the end of its line, spells that
abbrev pub Spells : List ℕ → List ℕ → Type 0
Spells text spelling = text ++ newline ∷ [] ≡ spelling

abbrev pub with_row : Dumped → Row → Dumped
with_row dump row = record dump { rows = dump.rows ++ row ∷ [] }

abbrev pub with_roots : Dumped → List Reference → Dumped
with_roots dump roots = record dump { roots = dump.roots ++ roots ∷ [] }

abbrev pub heap_line : Config → List ℕ
heap_line config = titled (codes "heap") (config.regions ∷ config.region_words ∷ config.reserve ∷ [])

abbrev pub threads_line : Config → List ℕ
threads_line config = titled (codes "threads") (config.mutators ∷ config.helpers ∷ [])

-- two configurations of one heap
pub record IsHeapOf (config other_config : Config) : Type 0 where
  pub regions : other_config.regions ≡ config.regions
  pub region_words : other_config.region_words ≡ config.region_words
  pub reserve : other_config.reserve ≡ config.reserve

-- digits with no needless zero in front, of any number
abbrev pub IsNumeral : List ℕ → Type 0
IsNumeral word = is_plain_number word ≡ true

-- The word for a reference: a dash for null; two numbers with a dot between for a name. The numbers may be of any size.
abbrev pub IsDumpReference : List ℕ → Reference → Type 0
IsDumpReference word None = word ≡ codes "-"
IsDumpReference word (Some name) =
    (thread : List ℕ) × (count : List ℕ) × IsNumeral thread × IsNumeral count × (word ≡ thread ++ codes "." ++ count)
    × (name.thread ≡ digits_value 10 thread) × (name.count ≡ digits_value 10 count)

abbrev pub AreReferences : List (List ℕ) → List Reference → Type 0
AreReferences [] [] = Unit {0}
AreReferences [] (reference ∷ references) = ⊥
AreReferences (word ∷ words) [] = ⊥
AreReferences (word ∷ words) (reference ∷ references) = IsDumpReference word reference × AreReferences words references

-- An object's line: its fields and its name are in range, and its name is behind all before. It may name anything.
abbrev pub ObjectFollows : Dumped → List ℕ → DumpStage → Type 0
ObjectFollows dump text next_stage =
    (row : Row) × (words : List (List ℕ)) × (dump.roots ≡ []) × IsRow dump.counts row × InOrder (names_in (with_row dump row)) × AreReferences words row.refs
    × Spells text (line_of (codes "object" ∷ name_word row.name ∷ (words ++ codes "/" ∷ map decimal row.nums))) × (next_stage ≡ Listed (with_row dump row))

-- the line of the roots of the next thread, which may name anything
abbrev pub RootsFollow : Dumped → List ℕ → DumpStage → Type 0
RootsFollow dump text next_stage =
    (roots : List Reference) × (words : List (List ℕ)) × (length dump.roots < dump.config.mutators) × (length roots ≡ 16) × AreReferences words roots
    × Spells text (line_of (codes "roots" ∷ decimal (length dump.roots + 1) ∷ words)) × (next_stage ≡ Listed (with_roots dump roots))

-- the line `trace`, behind a whole dump
abbrev pub MarkFollows : Dumped → List ℕ → DumpStage → Type 0
MarkFollows dump text next_stage = IsDump dump × Spells text mark_line × (next_stage ≡ Behind (Commands run_version dump.config))

-- this text, with the end of its line, may stand there, and what is to stand on the next line
abbrev pub DumpFollows : DumpStage → List ℕ → DumpStage → Type 0
DumpFollows Version text next_stage = Spells text (titled (codes "dump") (1 ∷ [])) × (next_stage ≡ Heap)
DumpFollows Heap text next_stage = (config : Config) × IsNarrow config × Spells text (heap_line config) × (next_stage ≡ Threads config)
DumpFollows (Threads sizes) text next_stage = (config : Config) × IsHeapOf sizes config × Spells text (threads_line config) × (next_stage ≡ Counts config)
DumpFollows (Counts config) text next_stage =
    (counts : List ℕ) × (length counts ≡ config.mutators) × All (λ n. n ≤ most_made) counts × Spells text (titled (codes "counts") counts)
    × (next_stage ≡ Listed (record { config = config; counts = counts; rows = []; roots = [] }))
DumpFollows (Listed dump) text next_stage = ObjectFollows dump text next_stage ⊎ (RootsFollow dump text next_stage ⊎ MarkFollows dump text next_stage)
DumpFollows (Behind stage) text next_stage = (after : LineStage) × LineFollows stage text after × (next_stage ≡ Behind after)

-- these lines follow one on the other
abbrev pub DumpLead : DumpStage → List (List ℕ) → DumpStage → Type 0
DumpLead stage [] end = stage ≡ end
DumpLead stage (text ∷ texts) end = (next_stage : DumpStage) × DumpFollows stage text next_stage × DumpLead next_stage texts end

-- the bytes end before the line `trace`: within a line, or behind one
abbrev pub ends_by : List ℕ → Why
ends_by [] = DumpWanted
ends_by (byte ∷ text) = EndOfLine

-- The first of these lines, the last of which has no end, may not stand there, and why. Behind the line `trace` it is the first
-- cause that holds for a line of a trace.
abbrev pub StopsFor : DumpStage → List (List ℕ) → Why → Type 0
StopsFor (Behind stage) texts why = cause_of stage texts ≡ Some why
StopsFor stage [] why = ⊥
StopsFor stage (text ∷ []) why = why ≡ ends_by text
StopsFor stage (text ∷ next_text ∷ rest) why = (why ≡ DumpWanted) × ((after : DumpStage) → DumpFollows stage text after → ⊥)

-- Line n, counted from 1, is the first that is at fault, and why.
pub record DumpStopsAt (bytes : List ℕ) (n : ℕ) (why : Why) : Type 0 where
  pub before : List (List ℕ)
  pub from_it : List (List ℕ)
  pub lines : parts newline bytes ≡ before ++ from_it
  pub number : n ≡ length before + 1
  pub stage : DumpStage
  pub lead : DumpLead Version before stage
  pub cause : StopsFor stage from_it why

-- the bytes are not too many, and are refused at line n
abbrev pub DumpRefused : List ℕ → ℕ → Why → Type 0
DumpRefused bytes n why = DumpStopsAt bytes n why × (length bytes ≤ most_bytes)
