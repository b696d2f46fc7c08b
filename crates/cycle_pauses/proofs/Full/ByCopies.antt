-- Words that represent a graph do so by copies.
use Rattle.std.proofs.Common.{ℕ}
use Rattle.heap_words.specs.declared.config.Config.{Config}
use Rattle.heap_words.specs.Words.{Word}
use Rattle.shen_graph.specs.Graph.{Graph}
use Rattle.heap_world.specs.Asking.{Asking}
use Rattle.heap_world.specs.Represents.{Represents, RepresentsByCopies}

abbrev pub by_copies : (config : Config) (memory : Word → ℕ) (graph : Graph) (asking : ℕ → Asking) → Represents config memory graph asking → RepresentsByCopies config memory graph asking
by_copies config memory graph asking represents = record {
  block = represents.block;
  ghost = represents.ghost;
  shared = represents.shared;
  roots = represents.roots;
  usable = tt;
  none = represents.none;
  uncarved = represents.uncarved;
  asked = represents.asked;
  heard = represents.heard;
  promised_to = represents.promised_to;
  unmarking = represents.unmarking;
  uncopying = represents.uncopying;
  no_more = represents.no_more;
  no_more_pins = represents.no_more_pins;
}
