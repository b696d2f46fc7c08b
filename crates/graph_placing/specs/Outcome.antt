-- What comes of placing.
use Rattle.image_graph.specs.declared.image.Image.{Image}
use Rattle.graph_placing.specs.declared.placing.Placed.{Placed}
use Rattle.graph_placing.specs.declared.placing.Placed.TheVariants.{Heap, TooSmall}

-- a fact of the heap's image, where there is one
abbrev pub IfHeap : Placed → (Image → Type 0) → Type 0
IfHeap (Heap image) P = P image
IfHeap TooSmall P = Unit {0}
