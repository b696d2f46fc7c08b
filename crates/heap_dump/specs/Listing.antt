-- Objects that were read, line by line.
use Rattle.std.specs.Prelude.{ℕ, ◌≡◌, ◌+◌, ◌≤◌, ◌==◌, ◌||◌, List, [], ◌∷◌, All, codes, ◌++◌, count_by, drop, length, map}
use Rattle.heap_words.specs.declared.config.Config.{Config}
use Rattle.shen_graph.specs.Graph.{Reference}
use Rattle.shen_graph.specs.GraphText.{Row, Text}
use Rattle.shen_graph.specs.Reach.{InOrder}
use Rattle.trace_reading.specs.Causes.{parts}
use Rattle.heap_dump.specs.Dumped.{Dumped, IsRow, IsInForm}
use Rattle.heap_dump.specs.DumpLines.{Listed}
use Rattle.heap_dump.specs.HeldReferences.{held, held_row}
use Rattle.heap_dump.specs.Steps.{Leads}

-- the spaces and the ends of lines among bytes
abbrev pub separators : List ℕ → ℕ
separators bytes = count_by (λ b. (b == 32) || (b == 10)) bytes

abbrev pub listed : Config → List ℕ → List Row → List (List Reference) → Dumped
listed config counts rows roots = record { config = config; counts = counts; rows = rows; roots = roots }

-- So many lines were taken, which are those of objects, whose rows a text without any got as memory holds them. There is room left
-- for more.
pub record HasTakenRows (counts bytes rest : List ℕ) (lines : ℕ) (before now : Text) : Type 0 where
  pub rows : List Row
  pub led : (config : Config) → Leads (Listed (listed config counts [] [])) bytes rest lines (Listed (listed config counts rows []))
  pub held : now.rows ≡ map held_row rows
  pub order : InOrder (map (λ r. r.name) rows)
  pub all : All (IsRow counts) rows
  pub roots : now.roots ≡ before.roots
  pub room : separators rest ≤ now.spare
  pub shorter : lines + length rest ≤ length bytes

-- no line at the front begins with the word `object`
abbrev pub NoObjectLine : List ℕ → Type 0
NoObjectLine bytes = (text rest : List ℕ) (words : List (List ℕ)) → parts 10 bytes ≡ text ∷ parts 10 rest → parts 32 text ≡ codes "object" ∷ words → ⊥

-- So many lines were taken, which are those of the roots of the first threads, and a text got these roots as memory holds them.
pub record HasTakenRoots (bytes rest : List ℕ) (lines : ℕ) (before now : Text) (all : List (List Reference)) : Type 0 where
  pub count : length all ≡ lines
  pub led : (dump : Dumped) → dump.roots ≡ [] → dump.config.mutators ≡ length before.roots → Leads (Listed dump) bytes rest lines (Listed (record dump { roots = all }))
  pub each : All (λ roots. length roots ≡ 16) all
  pub text : now ≡ record before { roots = map (map held) all ++ drop lines before.roots }
  pub shorter : lines + length rest ≤ length bytes

-- a dump, and a text that holds it
pub record IsHeldDump (dump : Dumped) (text : Text) : Type 0 where
  pub form : IsInForm dump
  pub rows : text.rows ≡ map held_row dump.rows
  pub roots : text.roots ≡ map (map held) dump.roots
