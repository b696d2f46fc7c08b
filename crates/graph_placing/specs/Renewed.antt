-- What comes of a renewal.
use Rattle.std.specs.Prelude.{ℕ, ◌≡◌, ◌≤◌, ◌<◌, List, length, None}
use Rattle.heap_words.specs.declared.config.Config.{Config}
use Rattle.shen_graph.specs.Graph.{Graph}
use Rattle.shen_graph.specs.GraphText.{Text, pin_of}
use Rattle.heap_world.specs.Shows.{ShowsGraph}
use Rattle.graph_placing.specs.ByName.{Fits}
use Rattle.image_graph.specs.declared.image.Image.{Image}
use Rattle.graph_placing.specs.declared.renewing.Renewed.{Renewed}
use Rattle.graph_placing.specs.declared.renewing.Renewed.TheVariants.{Heap, Pinned, TooSmall}

-- a fact of the heap's image and of the counts, where there is one
abbrev pub IfRenewed : Renewed → (Image → List ℕ → Type 0) → Type 0
IfRenewed (Heap image counts) P = P image counts.items
IfRenewed Pinned P = Unit {0}
IfRenewed TooSmall P = Unit {0}

-- no pin slot holds an object
abbrev pub PinsNothing : Text → Type 0
PinsNothing text = (thread slot : ℕ) → 1 ≤ thread → thread ≤ length text.roots → slot < 4 → pin_of text thread slot ≡ None

-- no pin slot of these threads holds an object
abbrev pub HoldsNothing : (threads : ℕ) → Graph → Type 0
HoldsNothing threads graph = (thread slot : ℕ) → 1 ≤ thread → thread ≤ threads → slot < 4 → graph.pin thread slot ≡ None

-- the objects of a graph need more regions than the heap has, one behind the other in the order of their names
abbrev pub DoesNotFit : Config → Graph → Type 0
DoesNotFit config graph = (text : Text) × ShowsGraph text config.mutators graph × (Fits config text → ⊥)
