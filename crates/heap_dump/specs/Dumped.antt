-- Dumps: a graph of objects with the sizes of its heap and what each thread has made, by itself.
use Rattle.std.specs.Prelude.{ℕ, ◌≡◌, ◌+◌, ◌-◌, ◌^◌, ◌<◌, ◌≤◌, ◌⊎◌, List, [], ◌∷◌, length, map, slice_index, All, Contains, None}
use Rattle.std.specs.List.{range_with_len}
use Rattle.heap_words.specs.declared.config.Config.{Config}
use Rattle.heap_words.specs.Narrow.{IsNarrow}
use Rattle.shen_graph.specs.declared.name.Name.{Name}
use Rattle.shen_graph.specs.Graph.{Graph, Reference, hub}
use Rattle.shen_graph.specs.GraphText.{Row, Text, row_in}
use Rattle.shen_graph.specs.PlainGraph.{graph_of}
use Rattle.shen_graph.specs.Reach.{InOrder, IsReach, IsReachable}

-- the configuration; for each thread, that of thread 1 first, how many objects it made; the objects; and for each thread its
-- roots
pub record Dumped : Type 0 where
  pub config : Config
  pub counts : List ℕ
  pub rows : List Row
  pub roots : List (List Reference)

-- the dump that these are, which leaves pin slots out
abbrev pub dumped : Config → List ℕ → Text → Dumped
dumped config counts text = record { config = config; counts = counts; rows = text.rows; roots = text.roots }

-- the words that an object takes
abbrev pub row_words : Row → ℕ
row_words row = 3 + length row.refs + length row.nums

-- the names of its objects, in the order of their rows
abbrev pub names_in : Dumped → List Name
names_in dump = map (λ r. r.name) dump.rows

-- the graph of a dump, in which no object is pinned. The threads are counted from 1: thread 0 has no root and made nothing
abbrev pub graph_in : Dumped → Graph
graph_in dump = graph_of (record { rows = dump.rows; roots = [] ∷ dump.roots; counts = 0 ∷ dump.counts; pins = [] })

-- the most objects that a dumped thread has made
abbrev pub most_made : ℕ
most_made = 4000000000

-- the name of an object that one of these threads made, each of which made so many
pub record IsMadeBy (counts : List ℕ) (name : Name) : Type 0 where
  pub from_first : 1 ≤ name.thread
  pub to_last : name.thread ≤ length counts
  pub from_one : 1 ≤ name.count
  pub to_count : name.count ≤ slice_index counts (name.thread - 1)

-- the hub, or one that a thread made
abbrev pub IsNamed : List ℕ → Name → Type 0
IsNamed counts name = (name ≡ hub) ⊎ IsMadeBy counts name

-- An object has at most 16 references and 16 numbers of 64 bits, and the hub has 16 references and no number.
pub record HasFields (row : Row) : Type 0 where
  pub few_refs : length row.refs ≤ 16
  pub few_nums : length row.nums ≤ 16
  pub hub_refs : row.name ≡ hub → length row.refs ≡ 16
  pub hub_nums : row.name ≡ hub → length row.nums ≡ 0
  pub fit : All (λ x. x < 2 ^ 64) row.nums

-- a row of a dump in which the threads made so many objects. Its references may name anything
pub record IsRow (counts : List ℕ) (row : Row) : Type 0 where
  pub name : IsNamed counts row.name
  pub fields : HasFields row

-- Each line of a dump is of its form and in its ranges (a region has at most 1,024 words), and the names ascend; but references and roots may name anything, and an
-- object may be one to which nothing leads.
pub record IsInForm (dump : Dumped) : Type 0 where
  pub narrow : IsNarrow dump.config
  pub threads : length dump.counts ≡ dump.config.mutators
  pub counts : All (λ n. n ≤ most_made) dump.counts
  pub rows : All (IsRow dump.counts) dump.rows
  pub order : InOrder (names_in dump)
  pub each : length dump.roots ≡ dump.config.mutators
  pub roots : All (λ row. length row ≡ 16) dump.roots

-- A dump: its rows are those of the objects that its roots lead to. So each reference and each root is null or names a row, and
-- each row can be reached.
pub record IsDump (dump : Dumped) : Type 0 where
  pub form : IsInForm dump
  pub reach : IsReach (graph_in dump) (names_in dump)

-- A dump can be made of these: its lines are of their form, in the order of names, and each name to which the roots lead has a row.
-- What only pin slots lead to may have rows besides.
pub record HasDump (dump : Dumped) : Type 0 where
  pub form : IsInForm dump
  pub all : (name : Name) → IsReachable (graph_in dump) name → Contains (names_in dump) name

-- the graph where no object is pinned
abbrev pub unpinned : Graph → Graph
unpinned graph = record graph { pin = λ _ _. None }

-- the roots of the threads 1 to `threads`, 16 each
abbrev pub root_rows : Graph → ℕ → List (List Reference)
root_rows graph threads = map (λ thread. map (graph.root thread) (range_with_len 0 16)) (range_with_len 1 threads)

-- the dump of a graph, with rows for these names
abbrev pub dump_of : Config → Graph → List Name → Dumped
dump_of config graph names = record {
  config = config;
  counts = map graph.count (range_with_len 1 config.mutators);
  rows = map (row_in graph) names;
  roots = root_rows graph config.mutators;
}

-- the dump of a graph, whose rows are those of the objects that its roots lead to, in the order of names
pub record IsDumpOf (config : Config) (graph : Graph) (dump : Dumped) : Type 0 where
  pub reach : IsReach (unpinned graph) (names_in dump)
  pub parts : dump ≡ dump_of config graph (names_in dump)
