-- What ending a cycle in its pause makes of the words of an image: it is finished, and collected in full where that falls short.
use Rattle.std.specs.Prelude.{ℕ, ◌≡◌, if◌then◌else◌, false}
use Rattle.heap_words.specs.declared.config.Config.{Config}
use Rattle.heap_words.specs.Words.{Word}
use Rattle.image_graph.specs.Full.{full}
use Rattle.image_graph.specs.Holds.{HoldsSized}
use Rattle.cycle_words.specs.Finishing.Finish.{CanFinish, finished, is_whole}

-- The words after a cycle was ended in its pause. Where an object or a request found no room, the heap is collected in full from the
-- words that finishing leaves.
abbrev pub ended : Config → (Word → ℕ) → Word → ℕ
ended config memory word = if is_whole config memory then finished config memory word else full config (finished config memory) word

-- A cycle can be ended in its pause: it can be finished, and where that falls short the words that it leaves hold a graph, by pieces each of
-- which says how many words it has.
pub record CanEnd (config : Config) (memory : Word → ℕ) : Type 0 where
  pub finishes : CanFinish config memory
  pub holds : is_whole config memory ≡ false → HoldsSized config (finished config memory)
