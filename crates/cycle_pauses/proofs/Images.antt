-- The words of an image after a pause, by their names.
use Rattle.heap_words.specs.Phases.{marking_phase, evacuation_phase, idle_phase}
use Rattle.std.proofs.Common.{◌≡◌, ℕ, false, List, ◌++◌, length, replicate, refl, ap, ◌∙◌}
use Rattle.heap_words.specs.declared.config.Config.{Config}
use Rattle.heap_words.specs.Words.{Word, Pause, Left, End, State, Phase, IsWord, is_image, image_start, table_words, view}
use Rattle.heap_words.specs.Ranges.{seat_count}
use Rattle.heap_world.specs.Change.{image_words, image_view}
use Rattle.std.specs.Prelude.{◌==◌, if◌then◌else◌}
use Rattle.std.proofs.lemmas.Bool.{true≢false}
use Rattle.shen_graph.proofs.Bools.{either_is}
use Rattle.image_graph.specs.Settled.{buffers_settled}
use Rattle.image_graph.proofs.Elsewhere.{settled_same}
use Rattle.image_graph.specs.Full.{full}
use Rattle.cycle_pauses.proofs.Full.Images.{of_image, full_before, image_of_length, word_by_name, table_by_name}
use Rattle.cycle_words.specs.Marking.Init.{marking_begun, init_marked}
use Rattle.cycle_pauses.specs.Evacuation.Collect.{evac_next}
use Rattle.cycle_words.specs.Updating.Changes.{updating_begun, init_updated, final_updated}
use Rattle.cycle_pauses.specs.Ended.{ended}
use Rattle.cycle_pauses.specs.Collect.{is_room_needed, next_in_cycle, past_marking, room_made, collected, collect_image}
use Rattle.cycle_pauses.specs.Laws.{TableIsCollected}
use Rattle.cycle_pauses.proofs.Evacuation.Outside.{next_before}
use Rattle.cycle_pauses.proofs.LeftByFinishing.{ended_before}

-- settling leaves the words before the image
settled_before : (config : Config) (memory : Word → ℕ) (word : Word) → is_image word ≡ false → buffers_settled config memory word ≡ memory word
settled_before config memory word not_image = settled_same word (of_image word not_image) config memory (seat_count config.mutators config.helpers)

-- so does the beginning of marking, ..
begun_before : (config : Config) (memory : Word → ℕ) (word : Word) → is_image word ≡ false → marking_begun config memory word ≡ memory word
begun_before config memory Pause not_image = refl
begun_before config memory Left not_image = refl
begun_before config memory End not_image = refl
begun_before config memory (State seat) not_image = refl
begun_before config memory _ not_image = absurd (true≢false not_image)

init_before : (config : Config) (memory : Word → ℕ) (word : Word) → is_image word ≡ false → init_marked config memory word ≡ memory word
init_before config memory word not_image = begun_before config (buffers_settled config memory) word not_image ∙ settled_before config memory word not_image

-- .. that of updating, and its end
updating_before : (config : Config) (memory : Word → ℕ) (word : Word) → is_image word ≡ false → updating_begun config memory word ≡ memory word
updating_before config memory Pause not_image = refl
updating_before config memory Left not_image = refl
updating_before config memory End not_image = refl
updating_before config memory (State seat) not_image = refl
updating_before config memory _ not_image = absurd (true≢false not_image)

init_updated_before : (config : Config) (memory : Word → ℕ) (word : Word) → is_image word ≡ false → init_updated config memory word ≡ memory word
init_updated_before config memory word not_image = updating_before config (buffers_settled config memory) word not_image ∙ settled_before config memory word not_image

final_updated_before : (config : Config) (memory : Word → ℕ) (word : Word) → is_image word ≡ false → final_updated config memory word ≡ memory word
final_updated_before config memory Pause not_image = refl
final_updated_before config memory Left not_image = refl
final_updated_before config memory End not_image = refl
final_updated_before config memory (State seat) not_image = refl
final_updated_before config memory _ not_image = absurd (true≢false not_image)

cycle_before : (config : Config) (memory : Word → ℕ) (word : Word) → is_image word ≡ false → next_in_cycle config memory word ≡ memory word
cycle_before config memory word not_image =
    either_is (memory Phase == idle_phase) (init_marked config memory word) (if memory Phase == marking_phase then evac_next config memory word else (if memory Phase == evacuation_phase then init_updated config memory word else final_updated config memory word)) (memory word) (init_before config memory word not_image)
    (either_is (memory Phase == marking_phase) (evac_next config memory word) (if memory Phase == evacuation_phase then init_updated config memory word else final_updated config memory word) (memory word) (next_before config memory word not_image)
    (either_is (memory Phase == evacuation_phase) (init_updated config memory word) (final_updated config memory word) (memory word) (init_updated_before config memory word not_image) (final_updated_before config memory word not_image)))

past_marking_before : (config : Config) (memory : Word → ℕ) (word : Word) → is_image word ≡ false → past_marking config memory word ≡ memory word
past_marking_before config memory word not_image = either_is (memory Phase == marking_phase) (evac_next config memory word) (memory word) (memory word) (next_before config memory word not_image) refl

room_before : (config : Config) (memory : Word → ℕ) (word : Word) → is_image word ≡ false → room_made config memory word ≡ memory word
room_before config memory word not_image =
    either_is (memory Phase == idle_phase) (full config memory word) (ended config (past_marking config memory) word) (memory word) (full_before config memory word not_image)
    (ended_before config (past_marking config memory) word not_image ∙ past_marking_before config memory word not_image)

collected_before : (config : Config) (memory : Word → ℕ) (word : Word) → is_image word ≡ false → collected config memory word ≡ memory word
collected_before config memory word not_image =
    either_is (is_room_needed memory) (room_made config memory word) (next_in_cycle config memory word) (memory word) (room_before config memory word not_image) (cycle_before config memory word not_image)

-- a pause keeps the length of the image
pub collected_length : (config : Config) (image : List ℕ) → length (collect_image config image) ≡ image_words config
collected_length config image = image_of_length config (collected config (image_view config image))

-- by their names the words of the table are those that it makes of them
pub collected_by_name : (config : Config) (image : List ℕ) (word : Word) → IsWord config word → image_view config (collect_image config image) word ≡ collected config (image_view config image) word
collected_by_name config image = word_by_name config image (collected config (image_view config image)) (collected_before config (image_view config image))

-- and a table that reads so is the image, behind zeros
pub collected_table : (config : Config) (image table : List ℕ) → length table ≡ table_words config
    → ((word : Word) → IsWord config word → view config table word ≡ collected config (image_view config image) word) → table ≡ replicate (image_start config) 0 ++ collect_image config image
collected_table config image = table_by_name config image (collected config (image_view config image)) (collected_before config (image_view config image))

pub table_is_collected : TableIsCollected
table_is_collected config image table image_length table_length can_pause same_view = collected_table config image table table_length (λ word inside. ap (λ (memory : Word → ℕ). memory word) same_view)
