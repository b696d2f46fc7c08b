-- What a pause makes of the words of an image: the next step of the cycle, or, where a mutator waits or a copier found no room, a
-- collection whose room is there once the pause is over.
use Rattle.std.specs.Prelude.{ℕ, ◌≡◌, ◌≢◌, ◌≤◌, ◌+◌, ◌==◌, ◌&&◌, ◌||◌, if◌then◌else◌, Bool, true, map, Option}
use Rattle.std.specs.Int.{bit_at}
use Rattle.std.specs.List.{range_with_len}
use Rattle.heap_words.specs.declared.config.Config.{Config}
use Rattle.heap_words.specs.Words.{Word, Phase, Cset, Evac, Ask, image_start}
use Rattle.heap_words.specs.Rows.{name_of}
use Rattle.heap_words.specs.Counter.{is_out_of_room}
use Rattle.heap_words.specs.Phases.{idle_phase, marking_phase, evacuation_phase, updating_phase}
use Rattle.shen_graph.specs.Graph.{Graph}
use Rattle.heap_world.specs.World.{Plot}
use Rattle.heap_world.specs.Change.{Change, image_words, image_view}
use Rattle.image_graph.specs.Full.{full}
use Rattle.image_graph.specs.Promised.{Promises}
use Rattle.image_graph.specs.Holds.{HoldsBy, AreSized}
use Rattle.cycle_words.specs.Marking.Init.{init_marked}
use Rattle.cycle_words.specs.Marking.WhileMarking.{IsMarking}
use Rattle.cycle_pauses.specs.Evacuation.Collect.{evac_next}
use Rattle.cycle_words.specs.Updating.Changes.{init_updated, final_updated}
use Rattle.cycle_pauses.specs.Ended.{ended, CanEnd}

-- room is needed now: a mutator waits for it, or a copier found none while objects are evacuated
abbrev pub is_room_needed : (Word → ℕ) → Bool
is_room_needed memory = (bit_at (memory Ask) 1 == 1) || ((memory Phase == evacuation_phase) && is_out_of_room (memory Evac))

-- The next step of the cycle: marking begins; it ends and evacuation begins; evacuation ends and the updating of references begins; or
-- that ends, and the cycle with it.
abbrev pub next_in_cycle : Config → (Word → ℕ) → Word → ℕ
next_in_cycle config memory word =
    if memory Phase == idle_phase then init_marked config memory word
    else (if memory Phase == marking_phase then evac_next config memory word else (if memory Phase == evacuation_phase then init_updated config memory word else final_updated config memory word))

-- The words past marking, from which a cycle is ended in its pause: where objects are marked, marking ends and evacuation begins.
abbrev pub past_marking : Config → (Word → ℕ) → Word → ℕ
past_marking config memory word = if memory Phase == marking_phase then evac_next config memory word else memory word

-- The words once there is room: where no cycle runs the heap is collected in full, and else the cycle is ended.
abbrev pub room_made : Config → (Word → ℕ) → Word → ℕ
room_made config memory word = if memory Phase == idle_phase then full config memory word else ended config (past_marking config memory) word

-- The words after a pause. Where room is needed it is made; else the cycle goes on.
abbrev pub collected : Config → (Word → ℕ) → Word → ℕ
collected config memory word = if is_room_needed memory then room_made config memory word else next_in_cycle config memory word

-- the words of the image after it, in the order of their places
abbrev pub collect_image : Change
collect_image config image = map (λ index. collected config (image_view config image) (name_of config (image_start config + index))) (range_with_len 0 (image_words config))

-- What a pause needs of the words: they hold a graph, by pieces each of which says how many words it has; nothing is collected while
-- nothing runs; while objects are marked, what holds then; and where room is needed while a cycle runs, the cycle can be ended.
pub record CanPause (config : Config) (memory : Word → ℕ) (block : Plot) (owner : ℕ → Option ℕ) (promises : Promises) (graph : Graph) : Type 0 where
  pub holds : HoldsBy config memory block owner promises graph
  pub sized : AreSized memory block
  pub phase_is : memory Phase ≤ updating_phase
  pub uncollected : memory Phase ≡ idle_phase → memory Cset ≡ 0
  pub marking : memory Phase ≡ marking_phase → IsMarking config memory block
  pub ends : is_room_needed memory ≡ true → memory Phase ≢ idle_phase → CanEnd config (past_marking config memory)

-- so it is in some way
abbrev pub CanPauseSome : Config → (Word → ℕ) → Type 0
CanPauseSome config memory = ∥ ((graph : Graph) × (block : Plot) × (owner : ℕ → Option ℕ) × (promises : Promises) × CanPause config memory block owner promises graph) ∥₁
