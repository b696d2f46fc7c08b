-- The beginning of marking is made of the words off the heap, and the beginning of updating and its end of those before the words of the mutators.
use Rattle.std.proofs.Common.{◌≡◌, ℕ, Bool, true, false, refl, ap, ◌∙◌}
use Rattle.std.specs.Prelude.{◌==◌, if◌then◌else◌}
use Rattle.std.specs.Int.{bit_at}
use Rattle.std.specs.Int.RustNames.{bit_or}
use Rattle.std.proofs.lemmas.Bool.{true≢false}
use Rattle.heap_words.specs.declared.config.Config.{Config}
use Rattle.heap_words.specs.Ranges.{seat_count}
use Rattle.heap_words.specs.Words.{Word, Phase, Cset, Free, Evac, Claim, Ask, Top, Tams, Limit, Current, Root, Count, Answer, Grey, Black, Heap, Pin}
use Rattle.heap_world.specs.Walk.{has}
use Rattle.image_graph.specs.Settled.{buffers_settled}
use Rattle.image_graph.specs.Edge.{edge}
use Rattle.image_graph.proofs.Edges.{edges_same}
use Rattle.cycle_words.specs.Marking.Marks.{bits_of, mark_bits}
use Rattle.cycle_words.specs.Marking.Init.{marking_begun, init_marked}
use Rattle.cycle_words.specs.Updating.Changes.{is_chosen, updating_begun, init_updated, final_updated}
use Rattle.cycle_words.proofs.Marking.Alike.{same_held_words}
use Rattle.cycle_pauses.specs.Brief.{is_off_heap, is_ahead, IsPartOf, IsMadeOfPart}
use Rattle.cycle_pauses.proofs.Brief.Settled.{first_made, settled_made}

-- the edges of two memories of which one is made of a part of the other
edge_same : (config : Config) (inside : Word → Bool) (whole_memory memory part_made : Word → ℕ) → IsMadeOfPart inside whole_memory memory part_made → ((region : ℕ) → inside (Top region) ≡ true) → ((seat : ℕ) → inside (Current seat) ≡ true)
    → (region : ℕ) → edge config memory region ≡ edge config part_made region
edge_same config inside whole_memory memory part_made made_of_part tops currents region =
    edges_same config part_made memory region (λ region. made_of_part.within (Top region) (tops region)) (λ seat. made_of_part.within (Current seat) (currents seat)) (seat_count config.mutators config.helpers)

-- the beginning of marking, of settled buffers
module _ (config : Config) (whole_memory memory part_made : Word → ℕ) (made_of_part : IsMadeOfPart is_off_heap whole_memory memory part_made) where
  marks_within : (word : Word) → is_off_heap word ≡ true → marking_begun config memory word ≡ marking_begun config part_made word
  marks_within (Grey number) off_heap_word =
      ap (λ addresses. mark_bits config (has addresses) number) (same_held_words part_made memory (λ mutator index. made_of_part.within (Root mutator index) refl) (λ mutator. made_of_part.within (Answer mutator) refl) (λ mutator slot. made_of_part.within (Pin mutator slot) refl) config)
  marks_within (Black number) off_heap_word = refl
  marks_within (Tams region) off_heap_word = edge_same config is_off_heap whole_memory memory part_made made_of_part (λ q. refl) (λ seat. refl) region
  marks_within (Count mutator) off_heap_word = refl
  marks_within Claim off_heap_word = refl
  marks_within Ask off_heap_word = refl
  marks_within Phase off_heap_word = refl
  marks_within word off_heap_word = made_of_part.within word off_heap_word

  marks_outside : (word : Word) → is_off_heap word ≡ false → marking_begun config memory word ≡ (if marking_begun config part_made word == 0 then whole_memory word else marking_begun config part_made word)
  marks_outside (Heap address) on_heap = made_of_part.outside (Heap address) on_heap
  marks_outside _ on_heap = absurd (true≢false on_heap)

pub init_marked_made : (config : Config) (whole_memory part_memory : Word → ℕ) → IsPartOf is_off_heap whole_memory part_memory → IsMadeOfPart is_off_heap whole_memory (init_marked config whole_memory) (init_marked config part_memory)
init_marked_made config whole_memory part_memory part_of =
    let memory_settled = settled_made is_off_heap whole_memory config (λ seat. refl) (λ r. refl) part_memory part_of in
    record {
      within = marks_within config whole_memory (buffers_settled config whole_memory) (buffers_settled config part_memory) memory_settled;
      outside = marks_outside config whole_memory (buffers_settled config whole_memory) (buffers_settled config part_memory) memory_settled;
    }

-- the beginning of updating, of settled buffers, and its end
module _ (config : Config) (whole_memory memory part_made : Word → ℕ) (made_of_part : IsMadeOfPart is_ahead whole_memory memory part_made) where
  chosen_same : (region : ℕ) → is_chosen memory region ≡ is_chosen part_made region
  chosen_same region = ap (λ some_set. bit_at some_set region == 1) (made_of_part.within Cset refl)

  limits_within : (word : Word) → is_ahead word ≡ true → updating_begun config memory word ≡ updating_begun config part_made word
  limits_within Phase ahead_word = refl
  limits_within Evac ahead_word = refl
  limits_within Claim ahead_word = refl
  limits_within (Limit region) ahead_word =
      ap (λ chosen. if chosen then 0 else edge config memory region) (chosen_same region)
      ∙ ap (λ edge_there. if is_chosen part_made region then 0 else edge_there) (edge_same config is_ahead whole_memory memory part_made made_of_part (λ q. refl) (λ seat. refl) region)
  limits_within word ahead_word = made_of_part.within word ahead_word

  limits_outside : (word : Word) → is_ahead word ≡ false → updating_begun config memory word ≡ (if updating_begun config part_made word == 0 then whole_memory word else updating_begun config part_made word)
  limits_outside Phase not_ahead = absurd (true≢false not_ahead)
  limits_outside Evac not_ahead = absurd (true≢false not_ahead)
  limits_outside Claim not_ahead = absurd (true≢false not_ahead)
  limits_outside (Limit region) not_ahead = absurd (true≢false not_ahead)
  limits_outside word not_ahead = made_of_part.outside word not_ahead

  ends_within : (word : Word) → is_ahead word ≡ true → final_updated config memory word ≡ final_updated config part_made word
  ends_within Phase ahead_word = refl
  ends_within Cset ahead_word = refl
  ends_within Claim ahead_word = refl
  ends_within Free ahead_word =
      ap (λ free_bits. bit_or free_bits (bits_of (is_chosen memory) 0 config.regions)) (made_of_part.within Free refl)
      ∙ ap (λ some_set. bit_or (part_made Free) (bits_of (λ asked_region. bit_at some_set asked_region == 1) 0 config.regions)) (made_of_part.within Cset refl)
  ends_within (Top region) ahead_word = ap (λ chosen. if chosen then 0 else memory (Top region)) (chosen_same region) ∙ ap (λ kept_value. if is_chosen part_made region then 0 else kept_value) (made_of_part.within (Top region) refl)
  ends_within (Tams region) ahead_word = ap (λ chosen. if chosen then 0 else memory (Tams region)) (chosen_same region) ∙ ap (λ kept_value. if is_chosen part_made region then 0 else kept_value) (made_of_part.within (Tams region) refl)
  ends_within (Limit region) ahead_word = ap (λ chosen. if chosen then 0 else memory (Limit region)) (chosen_same region) ∙ ap (λ kept_value. if is_chosen part_made region then 0 else kept_value) (made_of_part.within (Limit region) refl)
  ends_within word ahead_word = made_of_part.within word ahead_word

  ends_outside : (word : Word) → is_ahead word ≡ false → final_updated config memory word ≡ (if final_updated config part_made word == 0 then whole_memory word else final_updated config part_made word)
  ends_outside Phase not_ahead = absurd (true≢false not_ahead)
  ends_outside Cset not_ahead = absurd (true≢false not_ahead)
  ends_outside Claim not_ahead = absurd (true≢false not_ahead)
  ends_outside Free not_ahead = absurd (true≢false not_ahead)
  ends_outside (Top region) not_ahead = absurd (true≢false not_ahead)
  ends_outside (Tams region) not_ahead = absurd (true≢false not_ahead)
  ends_outside (Limit region) not_ahead = absurd (true≢false not_ahead)
  ends_outside word not_ahead = made_of_part.outside word not_ahead

pub init_updated_made : (config : Config) (whole_memory part_memory : Word → ℕ) → IsPartOf is_ahead whole_memory part_memory → IsMadeOfPart is_ahead whole_memory (init_updated config whole_memory) (init_updated config part_memory)
init_updated_made config whole_memory part_memory part_of =
    let memory_settled = settled_made is_ahead whole_memory config (λ seat. refl) (λ r. refl) part_memory part_of in
    record {
      within = limits_within config whole_memory (buffers_settled config whole_memory) (buffers_settled config part_memory) memory_settled;
      outside = limits_outside config whole_memory (buffers_settled config whole_memory) (buffers_settled config part_memory) memory_settled;
    }

pub final_updated_made : (config : Config) (whole_memory part_memory : Word → ℕ) → IsPartOf is_ahead whole_memory part_memory → IsMadeOfPart is_ahead whole_memory (final_updated config whole_memory) (final_updated config part_memory)
final_updated_made config whole_memory part_memory part_of =
    let made_at_first = first_made is_ahead whole_memory part_memory part_of in
    record { within = ends_within config whole_memory whole_memory part_memory made_at_first; outside = ends_outside config whole_memory whole_memory part_memory made_at_first }
