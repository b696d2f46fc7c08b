-- The words of an object's line.
use Rattle.std.specs.Prelude.{ℕ, ◌≡◌, ◌^◌, ◌<◌, ◌≤◌, List, [], ◌∷◌, ◌++◌, All, codes, length, map}
use Rattle.std.specs.Fmt.{decimal}
use Rattle.shen_graph.specs.declared.name.Name.{Name}
use Rattle.shen_graph.specs.Graph.{Reference, hub}
use Rattle.shen_graph.specs.GraphText.{Row}
use Rattle.shen_graph.specs.Reach.{IsBefore}
use Rattle.trace_text.specs.Answer.{name_word}
use Rattle.heap_dump.specs.Dumped.{IsRow}
use Rattle.heap_dump.specs.DumpLines.{AreReferences}

-- the words of at most 16 references, then a stroke, and then these words
pub record AreRefsWords (words : List (List ℕ)) (refs : List Reference) (more : List (List ℕ)) : Type 0 where
  pub spelled : List (List ℕ)
  pub are : AreReferences spelled refs
  pub few : length refs ≤ 16
  pub words_are : words ≡ spelled ++ codes "/" ∷ more

-- the words of at most 16 numbers of 64 bits
pub record AreNumsWords (words : List (List ℕ)) (nums : List ℕ) : Type 0 where
  pub few : length nums ≤ 16
  pub fit : All (λ x. x < 2 ^ 64) nums
  pub words_are : words ≡ map decimal nums

-- the words of a row behind `object`, of threads that made so many objects
pub record AreRowWords (counts : List ℕ) (words : List (List ℕ)) (r : Row) : Type 0 where
  pub row : IsRow counts r
  pub spelled : List (List ℕ)
  pub are : AreReferences spelled r.refs
  pub words_are : words ≡ name_word r.name ∷ (spelled ++ codes "/" ∷ map decimal r.nums)

-- the name is behind the last of these
abbrev pub IsBehindLast : List Name → Name → Type 0
IsBehindLast [] name = Unit {0}
IsBehindLast (other_name ∷ []) name = IsBefore other_name name
IsBehindLast (first_name ∷ second_name ∷ later_names) name = IsBehindLast (second_name ∷ later_names) name

-- the hub has 16 references and no number
abbrev pub HasHubFields : Row → Type 0
HasHubFields row = row.name ≡ hub → (length row.refs ≡ 16) × (length row.nums ≡ 0)

-- these words, and then those of 16 references
pub record AreRootsWords (words front : List (List ℕ)) (roots : List Reference) : Type 0 where
  pub spelled : List (List ℕ)
  pub are : AreReferences spelled roots
  pub each : length roots ≡ 16
  pub words_are : words ≡ front ++ spelled
