-- The end of marking makes the words that it says, and keeps the graph.
use Rattle.std.proofs.Common.{◌≡◌, ap, ◌∙◌}
use Rattle.heap_words.specs.declared.config.Config.{Config}
use Rattle.cycle_words.specs.Marking.Close.{closed}
use Rattle.cycle_words.specs.Marking.Final.{is_dead, freed, final_marked}
use Rattle.image_graph.specs.declared.image.Image.{Image}
use Rattle.image_graph.specs.State.{config_of, words_of, memory_of}
use Rattle.mark_core.specs.Steps.{freed_below}
use Rattle.mark_core.proofs.Freeing.{freed_all}

pub final_words : (old middle_image new : Image) → config_of middle_image ≡ config_of old → memory_of middle_image ≡ closed (config_of old) (memory_of old)
    → memory_of new ≡ freed_below (is_dead (config_of middle_image) (memory_of middle_image)) (config_of middle_image).regions (memory_of middle_image)
    → memory_of new ≡ final_marked (config_of old) (memory_of old)
final_words old middle_image new config closed_words freed_is =
    freed_is
    ∙ freed_all (config_of middle_image) (words_of middle_image) (is_dead (config_of middle_image) (memory_of middle_image))
    ∙ ap (λ (config : Config). freed config (is_dead config (memory_of middle_image)) (memory_of middle_image)) config
    ∙ ap (λ memory_then. freed (config_of old) (is_dead (config_of old) memory_then) memory_then) closed_words
