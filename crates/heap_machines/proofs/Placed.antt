-- A heap can begin from words in which objects were placed under new names.
use Rattle.std.proofs.Common.{◌≡◌, ℕ, ◌+◌, suc, List, None, refl, ap, ◌∙◌, arith}
use Rattle.heap_words.specs.declared.config.Config.{Config}
use Rattle.heap_words.specs.Words.{Word, Pause, State}
use Rattle.shen_graph.specs.GraphText.{Text}
use Rattle.shen_graph.specs.PlainGraph.{graph_of}
use Rattle.heap_world.specs.Asking.{nothing}
use Rattle.heap_world.specs.Represents.{Represents}
use Rattle.heap_machines.specs.FromImage.{CanBeginFrom}
use Rattle.graph_placing.specs.PlacedHeap.{IsPlaced}
use Rattle.graph_placing.specs.TextGraph.{text_graph}
use Rattle.graph_placing.specs.NamesAnew.{text_anew}
use Rattle.graph_placing.proofs.SameGraphs.{text_count}

-- in the graph of a text nothing is pinned
pub text_unpinned : (text : Text) (counts : List ℕ) (thread slot : ℕ) → (text_graph text counts).pin thread slot ≡ None
unfolding graph_of
text_unpinned text counts thread slot = refl

pub placed_can_begin : (config : Config) (text : Text) (counts : List ℕ) (memory : Word → ℕ) → IsPlaced config (text_anew text) memory → Represents config memory (text_graph (text_anew text) counts) (λ number. nothing)
    → CanBeginFrom config memory counts (text_graph (text_anew text) counts)
placed_can_begin config text counts memory placed graph_stands = record {
  stands = graph_stands;
  outside = record { pause = placed.others Pause refl; states = λ seat number_below. placed.others (State seat) refl; left = placed.left };
  counts_are = λ number number_below.
      let next_number : number + 1 ≡ suc number = omega arith in
      ap (text_graph (text_anew text) counts).count next_number ∙ text_count (text_anew text) counts number;
}
