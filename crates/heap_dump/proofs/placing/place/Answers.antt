use Rattle.heap_world.specs.Asking.{nothing}
use Rattle.heap_world.specs.Represents.{Represents}
use Rattle.shen_graph.specs.Graph.{Graph}
use Rattle.std.proofs.Common.{ℕ, List}
use Rattle.image_graph.specs.declared.image.Image.{Image}
use Rattle.image_graph.specs.State.{memory_of}
use Rattle.heap_machines.specs.FromImage.{CanBeginFrom}
use Rattle.heap_dump.specs.Dumped.{dumped, graph_in}
use Rattle.graph_placing.specs.PlacedHeap.{IsPlaced}
use Rattle.graph_placing.specs.TextGraph.{IsGraphOf}
use Rattle.heap_dump.proofs.DumpedText.{placeable, can_begin, of_both}
use Rattle.heap_dump.proofs.placing.place.Goals as goal

pub place-requires : goal.place-requires
place-requires c = placeable c.args.dump.now.config c.args.dump.now.counts c.args.dump.now.graph c.requires

pub returns-clause-begins : goal.returns-clause-begins
returns-clause-begins c =
    let dump = c.args.dump.now in
    of_both (λ (image : Image). IsPlaced dump.config dump.graph (memory_of image))
    (λ (image : Image). (counts : List ℕ) (graph : Graph) → IsGraphOf dump.config dump.graph counts graph → Represents dump.config (memory_of image) graph (λ any_thread. nothing))
    (λ (image : Image). CanBeginFrom dump.config (memory_of image) dump.counts (graph_in (dumped dump.config dump.counts dump.graph)))
    (λ image placed stands. can_begin dump.config dump.counts dump.graph c.requires (memory_of image) placed stands)
    c.place.result c.place.ensures.placed c.place.ensures.stands
