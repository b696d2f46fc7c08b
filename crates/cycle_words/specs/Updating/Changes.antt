-- What the pauses that begin and end the updating of references make of the words of an image.
use Rattle.std.specs.Prelude.{ℕ, ◌==◌, if◌then◌else◌, Bool}
use Rattle.std.specs.Int.{bit_at}
use Rattle.heap_words.specs.declared.config.Config.{Config}
use Rattle.heap_words.specs.Words.{Word, Phase, Cset, Evac, Claim, Limit}
use Rattle.heap_words.specs.Phases.{idle_phase, updating_phase}
use Rattle.image_graph.specs.Settled.{buffers_settled}
use Rattle.image_graph.specs.Edge.{edge}
use Rattle.cycle_words.specs.Marking.Final.{freed}

-- a region is in the collection set
abbrev pub is_chosen : (Word → ℕ) → ℕ → Bool
is_chosen memory region = bit_at (memory Cset) region == 1

-- The limit of each region outside of the collection set is its edge, and that of each region of the set is 0. No copier is counted, and no
-- unit is claimed. All other words stay.
abbrev pub updating_begun : Config → (Word → ℕ) → Word → ℕ
updating_begun config memory Phase = updating_phase
updating_begun config memory Evac = 0
updating_begun config memory Claim = 0
updating_begun config memory (Limit region) = if is_chosen memory region then 0 else edge config memory region
updating_begun config memory word = memory word

-- Buffers are settled, and updating begins: so what is allocated from now on lies at or above the limits.
abbrev pub init_updated : Config → (Word → ℕ) → Word → ℕ
init_updated config memory = updating_begun config (buffers_settled config memory)

-- no cycle runs: the collection set is empty, and no unit is claimed
abbrev pub cycle_ended : (Word → ℕ) → Word → ℕ
cycle_ended memory Phase = idle_phase
cycle_ended memory Cset = 0
cycle_ended memory Claim = 0
cycle_ended memory word = memory word

-- Updating ends, and the cycle with it: the regions of the collection set are freed.
abbrev pub final_updated : Config → (Word → ℕ) → Word → ℕ
final_updated config memory = cycle_ended (freed config (is_chosen memory) memory)
