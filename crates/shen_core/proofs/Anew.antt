-- A heap on one thread that begins from words in which objects were placed under new names.
use Rattle.std.proofs.Common.{◌≡◌, ℕ, List, sym, subst}
use Rattle.heap_words.specs.declared.config.Config.{Config}
use Rattle.shen_graph.specs.Graph.{Graph}
use Rattle.shen_graph.specs.GraphText.{Text, names_of}
use Rattle.heap_world.specs.Shows.{ShowsGraph}
use Rattle.image_graph.specs.declared.image.Image.{Image}
use Rattle.image_graph.specs.State as images
use Rattle.step_core.specs.Begins.{Begins}
use Rattle.heap_machines.specs.FromImage.{CanBeginFrom, stage_from}
use Rattle.shen_core.specs.declared.plain.Plain.{Plain}
use Rattle.shen_core.specs.State.{config_of, Shows}
use Rattle.graph_placing.specs.PlaceableText.{IsPlaceable}
use Rattle.graph_placing.specs.TextGraph.{text_graph}
use Rattle.graph_placing.specs.NamesAnew.{name_anew, text_anew}
use Rattle.graph_placing.specs.Renaming.{AreOfThreads, AreCountsOf}
use Rattle.graph_placing.specs.Renewed.{HoldsNothing}
use Rattle.graph_placing.proofs.SameGraphs.{same_anew}
use Rattle.graph_placing.proofs.ShownRenewable.{renewable_anew}
use Rattle.heap_machines.proofs.Placed.{text_unpinned}
use Rattle.shen_core.specs.RenewedHeap.{BeginsAnew}

module _ (config : Config) (text : Text) (placeable : IsPlaceable config text) (threads : AreOfThreads config.mutators (names_of text)) (graph : Graph) (shows : ShowsGraph text config.mutators graph) (counts : List ℕ) (are_counts : AreCountsOf (names_of text) config.mutators counts) where
  pub begins_anew : (new : Plain) (image : Image) → config_of new ≡ config → images.config_of image ≡ config → Shows new (stage_from (images.config_of image) (images.words_of image) counts)
      → ((graph_then : Graph) → CanBeginFrom (images.config_of image) (images.memory_of image) counts graph_then → Begins (images.config_of image) (stage_from (images.config_of image) (images.words_of image) counts) graph_then)
      → CanBeginFrom config (images.memory_of image) counts (text_graph (text_anew text) counts) → HoldsNothing config.mutators graph → BeginsAnew config graph new
  begins_anew new image sizes same_config shown begins can_now holds_nothing =
      let other_graph : Graph = text_graph (text_anew text) counts in
      record {
        sizes = sizes;
        unpinned = holds_nothing;
        start = stage_from (images.config_of image) (images.words_of image) counts;
        shows = shown;
        graph = other_graph;
        begins = subst (λ (config : Config). Begins config (stage_from (images.config_of image) (images.words_of image) counts) other_graph) same_config
            (begins other_graph (subst (λ (config : Config). CanBeginFrom config (images.memory_of image) counts other_graph) (sym same_config) can_now));
        names = name_anew (names_of text);
        same = same_anew config text placeable threads counts are_counts graph shows;
        no_pins = text_unpinned (text_anew text) counts;
        renewable = renewable_anew config text placeable threads counts;
      }
