-- That what a pause makes of an image is what a pause owes.
use Rattle.std.specs.Prelude.{ℕ, ◌≡◌, ◌≢◌, ◌<◌, ◌++◌, true, false, List, length, replicate}
use Rattle.heap_words.specs.declared.config.Config.{Config}
use Rattle.heap_words.specs.Words.{Word, Phase, Cset, image_start, table_words, view}
use Rattle.heap_words.specs.Phases.{idle_phase, marking_phase}
use Rattle.regions.specs.Sets.{IsIn}
use Rattle.shen_graph.specs.Graph.{Graph}
use Rattle.heap_world.specs.Asking.{Asking}
use Rattle.heap_world.specs.Represents.{Represents}
use Rattle.heap_world.specs.Change.{image_words, image_view, IsPaused, IsPause}
use Rattle.image_graph.specs.LetGo.{let_go}
use Rattle.image_graph.specs.Full.{served}
use Rattle.image_graph.specs.Pinned.{is_pinned}
use Rattle.image_graph.specs.Buffers.{HasNoMoreSeats}
use Rattle.cycle_words.specs.Marking.Final.{final_marked}
use Rattle.cycle_words.specs.Evacuation.Begun.{CanBegin}
use Rattle.cycle_pauses.specs.Updating.Freed.{IsFreed}
use Rattle.cycle_words.specs.Finishing.Finish.{cycle_finished, is_whole}
use Rattle.cycle_pauses.specs.Ended.{ended, CanEnd}
use Rattle.cycle_pauses.specs.Collect.{is_room_needed, past_marking, collected, collect_image, CanPauseSome}

-- A cycle that is ended in its pause is what a pause owes: the words stand for the same graph, and each mutator that asks is answered.
abbrev pub EndedIsPaused : Type 0
EndedIsPaused = (config : Config) (memory : Word → ℕ) (graph : Graph) (asking : ℕ → Asking) → Represents config memory graph asking → HasNoMoreSeats config memory
    → IsPaused config memory (ended config memory) graph asking

-- Once buffers were let go, each region that was in the collection set and is not pinned is freed, and who waits is served from the words that this leaves.
pub record IsFreedFirst (config : Config) (memory : Word → ℕ) : Type 0 where
  pub freed : (region : ℕ) → region < config.regions → IsIn (memory Cset) region → is_pinned config memory region ≡ false → IsFreed (cycle_finished config (let_go config memory)) region
  pub served_then : ended config memory ≡ served config (cycle_finished config (let_go config memory)) config.mutators

-- So it is where finishing the cycle is enough.
abbrev pub SetIsFreedFirst : Type 0
SetIsFreedFirst = (config : Config) (memory : Word → ℕ) (graph : Graph) (asking : ℕ → Asking) → Represents config memory graph asking → is_whole config memory ≡ true → IsFreedFirst config memory

-- Words of an image that represent a graph are such that a pause can collect.
abbrev pub RepresentingCanCollect : Type 0
RepresentingCanCollect = (config : Config) (image : List ℕ) (graph : Graph) (asking : ℕ → Asking) → Represents config (image_view config image) graph asking → CanPauseSome config (image_view config image)

-- Where such a pause ends marking, evacuation can begin.
abbrev pub EndedCanBegin : Type 0
EndedCanBegin = (config : Config) (memory : Word → ℕ) → CanPauseSome config memory → memory Phase ≡ marking_phase → HasNoMoreSeats config memory → CanBegin config (final_marked config memory)

-- And where such a pause makes room while a cycle runs, the cycle can be ended.
abbrev pub RunningCanEnd : Type 0
RunningCanEnd = (config : Config) (memory : Word → ℕ) → CanPauseSome config memory → is_room_needed memory ≡ true → memory Phase ≢ idle_phase → CanEnd config (past_marking config memory)

-- By their names the words of an image after a pause are those that the pause makes of its words.
abbrev pub ImageIsCollected : Type 0
ImageIsCollected = (config : Config) (image : List ℕ) → length image ≡ image_words config → CanPauseSome config (image_view config image)
    → image_view config (collect_image config image) ≡ collected config (image_view config image)

-- So a table that reads as a pause makes of an image is that image after it, behind words that are 0.
abbrev pub TableIsCollected : Type 0
TableIsCollected = (config : Config) (image table : List ℕ) → length image ≡ image_words config → length table ≡ table_words config → CanPauseSome config (image_view config image)
    → view config table ≡ collected config (image_view config image) → table ≡ replicate (image_start config) 0 ++ collect_image config image

-- Each step of the cycle, and making room where a mutator waits or a copier found none, is what a pause owes: it keeps the graph,
-- answers each mutator that asks, and refuses an object only where the heap is crowded.
abbrev pub CollectIsPause : Type 0
CollectIsPause = IsPause collect_image
