use Rattle.std.proofs.Common.{ℕ, ◌-◌, ap, ◌∙◌}
use Rattle.std.specs.Prelude.{◌&&◌, nat_lt, if◌then◌else◌}
use Rattle.heap_words.specs.Words.{Word, Current}
use Rattle.heap_words.specs.Encoding.{next_in}
use Rattle.regions.specs.Place.{base_of}
use Rattle.image_graph.specs.Edge.{is_last_in}
use Rattle.image_graph.specs.State.{config_of, memory_of}
use Rattle.image_graph.proofs.BufferTurns.{edge_first, edge_next}
use Rattle.image_graph.proofs.image.Image.edge.Goals as goal

pub loop-seat-init : goal.loop-seat-init
loop-seat-init c = c.top-edge.ensures ∙ edge_first (config_of c.args.self.now) (memory_of c.args.self.now) c.args.region

pub loop-seat-preserved : goal.loop-seat-preserved
loop-seat-preserved c =
    let config = config_of c.args.self.now in
    let memory : Word → ℕ = memory_of c.args.self.now in
    let region = c.args.region in
    let seat = c.loop-seat.seat in
    c.edge_with-edge.ensures
    ∙ ap (λ edge. if is_last_in config memory region seat && nat_lt (next_in (memory (Current seat)) - base_of config region) edge then next_in (memory (Current seat)) - base_of config region else edge) c.loop-seat.invariant
    ∙ edge_next config memory region seat
