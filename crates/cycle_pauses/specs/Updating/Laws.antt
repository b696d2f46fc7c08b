-- What the pauses that begin and end the updating of references leave of the words.
use Rattle.std.specs.Prelude.{ℕ, ◌≡◌, ◌≤◌, ◌<◌, false}
use Rattle.heap_words.specs.declared.config.Config.{Config}
use Rattle.heap_words.specs.Words.{Word, Phase, Cset, Evac, Claim}
use Rattle.regions.specs.Sets.{IsIn}
use Rattle.heap_words.specs.Counter.{is_out_of_room}
use Rattle.heap_words.specs.Phases.{evacuation_phase, updating_phase}
use Rattle.image_graph.specs.Pinned.{is_pinned}
use Rattle.shen_graph.specs.Graph.{Graph}
use Rattle.heap_world.specs.Asking.{Asking}
use Rattle.heap_world.specs.Represents.{Represents}
use Rattle.cycle_words.specs.Updating.Changes.{init_updated, final_updated}
use Rattle.cycle_pauses.specs.Updating.Freed.{IsFreed, IsSpared}

-- Once all regions are claimed in phase 2, and if there was always room, the words stand for the same graph where the updating of
-- references begins, with what mutators have asked for.
abbrev pub UpdatingBegins : Type 0
UpdatingBegins = (config : Config) (memory : Word → ℕ) (graph : Graph) (asking : ℕ → Asking) → Represents config memory graph asking → memory Phase ≡ evacuation_phase → is_out_of_room (memory Evac) ≡ false
    → config.regions ≤ memory Claim → Represents config (init_updated config memory) graph asking

-- Once all regions are claimed in phase 3 they stand for it where the updating ends.
abbrev pub UpdatingEnds : Type 0
UpdatingEnds = (config : Config) (memory : Word → ℕ) (graph : Graph) (asking : ℕ → Asking) → Represents config memory graph asking → memory Phase ≡ updating_phase
    → config.regions ≤ memory Claim → Represents config (final_updated config memory) graph asking

-- The end of updating frees each region of the collection set, and leaves each other as it is.
pub record SetIsFreed : Type 0 where
  pub chosen_ones : (config : Config) (memory : Word → ℕ) (region : ℕ) → region < config.regions → IsIn (memory Cset) region → IsFreed (final_updated config memory) region
  pub others : (config : Config) (memory : Word → ℕ) (region : ℕ) → region < config.regions → (IsIn (memory Cset) region → ⊥) → IsSpared memory (final_updated config memory) region

-- In phase 3 no region of the collection set is pinned: so after the end of updating none of those that it frees is.
abbrev pub NoneIsPinned : Type 0
NoneIsPinned = (config : Config) (memory : Word → ℕ) (graph : Graph) (asking : ℕ → Asking) → Represents config memory graph asking → memory Phase ≡ updating_phase
    → (region : ℕ) → region < config.regions → IsIn (memory Cset) region → is_pinned config (final_updated config memory) region ≡ false
