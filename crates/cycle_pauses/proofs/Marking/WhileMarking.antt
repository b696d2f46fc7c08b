-- Words that represent a graph while objects are marked, and what the pauses of marking leave.
use Rattle.heap_words.specs.Phases.{marking_phase}
use Rattle.std.proofs.Common.{◌≡◌, ℕ, ◌∙◌, arith}
use Rattle.heap_words.specs.declared.config.Config.{Config}
use Rattle.heap_words.specs.Words.{Word, Phase, Cset}
use Rattle.shen_graph.specs.Graph.{Graph}
use Rattle.heap_world.specs.World.{Plot}
use Rattle.heap_world.specs.Asking.{Asking}
use Rattle.heap_world.specs.Represents.{Represents}
use Rattle.heap_words.specs.Ranges.{seat_count}
use Rattle.image_graph.specs.Settled.{buffers_settled}
use Rattle.image_graph.proofs.Settling.{settling_leaves}
use Rattle.image_graph.proofs.Elsewhere.{settled_same}
use Rattle.image_graph.proofs.LooseKept.{settling_keeps, edges_divide}
use Rattle.image_graph.specs.Promised.{Promises}
use Rattle.cycle_pauses.proofs.Full.ByCopies.{by_copies}
use Rattle.cycle_pauses.proofs.Full.Promises.{promises_of}
use Rattle.cycle_pauses.proofs.Full.Before.{live}
use Rattle.cycle_pauses.proofs.Full.Holding.{holds_by}
use Rattle.cycle_words.proofs.Marking.Closed.{closed_holds, closed_through}
use Rattle.cycle_pauses.specs.Marking.Laws.{MarkingStands, ReachableAreMarked, BeginningRepresents, EndGives}
use Rattle.cycle_pauses.proofs.Marking.FromSnapshot.{is_marking}
use Rattle.cycle_pauses.proofs.Marking.Beginning.{begun}
use Rattle.cycle_pauses.proofs.Marking.Ending.{plot, ghost, marked_out}

-- there is no collection set while objects are marked
calm_at : (config : Config) (memory : Word → ℕ) (graph : Graph) (asking : ℕ → Asking) (represents : Represents config memory graph asking) → memory Phase ≡ marking_phase → memory Cset ≡ 0
calm_at config memory graph asking represents phase_one = represents.shared.phased.cset_is (omega (arith, phase_one))

pub marking_stands : MarkingStands
marking_stands given_config given_memory given_graph asking graph_stands in_marking =
    (live given_config given_memory given_graph asking (by_copies given_config given_memory given_graph asking graph_stands), graph_stands.ghost.owner, promises_of given_config given_graph asking, holds_by given_config given_memory given_graph asking (by_copies given_config given_memory given_graph asking graph_stands), is_marking given_config given_memory given_graph asking graph_stands (calm_at given_config given_memory given_graph asking graph_stands in_marking) in_marking)

pub reachable_are_marked : ReachableAreMarked
reachable_are_marked given_config given_memory given_graph asking graph_stands in_marking =
    let block : Plot = live given_config given_memory given_graph asking (by_copies given_config given_memory given_graph asking graph_stands) in
    let promises : Promises = promises_of given_config given_graph asking in
    let words_hold = holds_by given_config given_memory given_graph asking (by_copies given_config given_memory given_graph asking graph_stands) in
    let marking = is_marking given_config given_memory given_graph asking graph_stands (calm_at given_config given_memory given_graph asking graph_stands in_marking) in_marking in
    (block, graph_stands.ghost.owner, promises, closed_holds given_config given_memory block graph_stands.ghost.owner promises given_graph words_hold marking, closed_through given_config given_memory block graph_stands.ghost.owner promises given_graph words_hold marking)

pub beginning_represents : BeginningRepresents
beginning_represents given_config given_memory given_graph asking graph_stands rests nobody =
    let settled_stands = (settling_keeps given_config given_memory given_graph asking).represents graph_stands in
    begun given_config (buffers_settled given_config given_memory) given_graph asking settled_stands (settled_same Phase (λ never. never) given_config given_memory (seat_count given_config.mutators given_config.helpers) ∙ rests)
    (edges_divide given_config (buffers_settled given_config given_memory) given_graph asking (by_copies given_config (buffers_settled given_config given_memory) given_graph asking settled_stands) (settling_leaves given_config given_memory).last) nobody

pub end_gives : EndGives
end_gives given_config given_memory given_graph asking graph_stands in_marking no_more = (plot given_config given_memory given_graph asking graph_stands in_marking, ghost given_config given_memory given_graph asking graph_stands in_marking, marked_out given_config given_memory given_graph asking graph_stands in_marking no_more)
