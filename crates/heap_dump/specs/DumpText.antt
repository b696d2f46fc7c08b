-- The text of a dump.
use Rattle.std.specs.Prelude.{ℕ, ◌-◌, List, [], ◌∷◌, ◌++◌, codes, None, slice_index_or}
use Rattle.std.specs.List.{flat_map}
use Rattle.heap_words.specs.declared.config.Config.{Config}
use Rattle.shen_graph.specs.Graph.{Reference}
use Rattle.trace_reading.specs.Spelling.{titled}
use Rattle.trace_text.specs.Answer.{object_line, roots_line, thread_numbers}
use Rattle.heap_dump.specs.Dumped.{Dumped}

-- the lines of the version, of the sizes of the heap, and of the machines that work on it
abbrev pub sizes_head : Config → List ℕ
sizes_head config =
    titled (codes "dump") (1 ∷ [])
    ++ (titled (codes "heap") (config.regions ∷ config.region_words ∷ config.reserve ∷ []) ++ titled (codes "threads") (config.mutators ∷ config.helpers ∷ []))

-- the line of the roots of a thread, counted from 1
abbrev pub roots_line_in : List (List Reference) → ℕ → List ℕ
roots_line_in roots thread = roots_line thread (λ index. slice_index_or (slice_index_or roots (thread - 1) []) index None)

-- the head, a line of how many objects each thread made, a line for each object, and a line for the roots of each thread; the
-- last two as in an answer
abbrev pub dump_text : Dumped → List ℕ
dump_text dump = sizes_head dump.config ++ (titled (codes "counts") dump.counts ++ (flat_map object_line dump.rows ++ flat_map (roots_line_in dump.roots) (thread_numbers dump.config.mutators)))
