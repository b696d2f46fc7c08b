-- What the steps of the pauses of updating make of the words of an image.
use Rattle.std.specs.Prelude.{ℕ, if◌then◌else◌, nat_lt}
use Rattle.heap_words.specs.declared.config.Config.{Config}
use Rattle.heap_words.specs.Words.{Word, Phase, Evac, Claim, Limit}
use Rattle.heap_words.specs.Phases.{updating_phase}
use Rattle.image_graph.specs.Edge.{edge}
use Rattle.cycle_words.specs.Updating.Changes.{is_chosen}

-- the limit of a region when updating begins
abbrev pub limit_in : Config → (Word → ℕ) → ℕ → ℕ
limit_in config memory region = if is_chosen memory region then 0 else edge config memory region

-- the limits of so many regions are noted
abbrev pub limited : Config → ℕ → (Word → ℕ) → Word → ℕ
limited config regions memory (Limit region) = if nat_lt region regions then limit_in config memory region else memory (Limit region)
limited config regions memory word = memory word

-- updating runs: no copier is counted, and no unit is claimed
abbrev pub update_started : (Word → ℕ) → Word → ℕ
update_started memory Phase = updating_phase
update_started memory Evac = 0
update_started memory Claim = 0
update_started memory word = memory word
