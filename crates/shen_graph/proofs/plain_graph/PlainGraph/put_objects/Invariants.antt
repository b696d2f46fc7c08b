use Rattle.std.proofs.Common.{◌≡◌, ◌+◌, ◌++◌, map, take, sum_by, Some}
use Rattle.shen_graph.specs.Graph.{named}
use Rattle.shen_graph.specs.GraphText.{row_in}
use Rattle.shen_graph.specs.PlainGraph.{graph_of}
use Rattle.shen_graph.specs.Reach.{size}
use Rattle.shen_graph.proofs.plain_graph.PlainGraph.put_objects.Given as goal

abbrev pub invariant-loop-name : goal.invariant-loop-name
invariant-loop-name loop = record {
  rows : loop.text.rows ≡ loop.initial.text.rows ++ map (row_in (graph_of loop.self)) (take loop.name-index loop.names);
  roots : loop.text.roots ≡ loop.initial.text.roots;
  pins : loop.text.pins ≡ loop.initial.text.pins;
  room : loop.text.room ≡ loop.initial.text.room;
  spare : loop.text.spare + sum_by (λ name. size (named (graph_of loop.self) (Some name))) (take loop.name-index loop.names) ≡ loop.initial.text.spare;
}
