-- What finishing a cycle leaves as it was: words before the image stay, and words that are no words of the table read 0 still.
use Rattle.heap_words.specs.Phases.{evacuation_phase}
use Rattle.std.proofs.Common.{◌≡◌, ◌≢◌, ℕ, ◌+◌, ◌*◌, ◌==◌, ◌&&◌, Bool, true, false, Option, Some, None, zero, suc, ⊎_elim, refl, sym, ap, ◌∙◌, subst, arith}
use Rattle.std.proofs.Math.Logic.{∥∥₁_elim}
use Rattle.std.proofs.Math.Nat.{ℕ_set}
use Rattle.std.proofs.lemmas.Bool.{cases_Bool, cases_eq, and_left, and_right, cond-true, cond-false, eq-eqb, ne_eqb, true≢false}
use Rattle.shen_graph.proofs.Bools.{either_is}
use Rattle.heap_words.specs.declared.config.Config.{Config}
use Rattle.heap_words.specs.Ranges.{seat_count}
use Rattle.heap_words.specs.Words.{Word, Pause, Left, End, State, Phase, Evac, Ask, Root, Wait, Answer, Heap, is_image}
use Rattle.image_graph.specs.LetGo.{let_go}
use Rattle.image_graph.proofs.Elsewhere.{let_go_same}
use Rattle.heap_words.specs.Encoding.{filler_header, object_words}
use Rattle.regions.specs.Place.{region_with}
use Rattle.image_graph.specs.Pinned.{begins, filled_in}
use Rattle.image_graph.specs.Full.{made_in, served_in, room_for, served, full}
use Rattle.image_graph.proofs.TurnWords.{served_first, turn_idle, turn_waits}
use Rattle.cycle_pauses.proofs.Full.Images.{of_image, full_before, full_zero}
use Rattle.cycle_pauses.proofs.Full.Outside.{IsZeroOutside, outside_heap, none_begins, served_outside}
use Rattle.cycle_pauses.proofs.Full.LettingGoFirst.{let_go_outside}
use Rattle.cycle_words.specs.Evacuation.Copied.{MayChange, copied_out}
use Rattle.cycle_pauses.proofs.Evacuation.Outside.{copied_outside, copied_same}
use Rattle.cycle_words.proofs.Evacuation.CopiedOut.{copies_out}
use Rattle.cycle_pauses.proofs.Marking.Outside.{freed_outside}
use Rattle.cycle_pauses.proofs.Updating.Outside.{cycle_outside}
use Rattle.cycle_words.specs.Finishing.Updated.{updated_word, is_kept_field, all_updated}
use Rattle.cycle_words.specs.Finishing.Copies.{is_left, has_copy_room, copied_from, CanCopyFrom, all_copied, is_room_for_all}
use Rattle.cycle_words.specs.Finishing.Finish.{is_to_free, is_to_stay, has_moved, set_left, set_freed, cycle_finished, finished_from, finished, is_whole, CanFinish}
use Rattle.cycle_words.proofs.Finishing.Copies.{room_found, copied_none, copied_next, copied_stuck, copied_skips}
use Rattle.cycle_words.proofs.Finishing.Fields.{low_spared}
use Rattle.cycle_pauses.specs.Ended.{ended, CanEnd}

-- the same memory at a word
at_word : (memory other_memory : Word → ℕ) (word : Word) → memory ≡ other_memory → memory word ≡ other_memory word
at_word memory other_memory word same_memory = ap (λ (memory : Word → ℕ). memory word) same_memory

-- Copying changes words of the heap, tops and the free word alone.
copied_from_same : (config : Config) (addresses : ℕ) (memory : Word → ℕ) (address : ℕ) (word : Word) → (MayChange word → ⊥) → copied_from config memory address addresses word ≡ memory word
copied_from_same config zero memory address word fixed = at_word (copied_from config memory address zero) memory word (copied_none config memory address 0)
copied_from_same config (suc addresses) memory address word fixed = ⊎_elim
    (λ (still_left : is_left config memory address ≡ true). ⊎_elim
    (λ (room : has_copy_room config memory address ≡ true).
    at_word (copied_from config memory address (suc addresses)) (copied_from config (copied_out config memory address) (address + 1) addresses) word (copied_next config memory address addresses still_left room)
    ∙ copied_from_same config addresses (copied_out config memory address) (address + 1) word fixed ∙ copied_same config memory address word fixed)
    (λ (no_room : has_copy_room config memory address ≡ false). at_word (copied_from config memory address (suc addresses)) memory word (copied_stuck config memory address addresses still_left no_room))
    (cases_Bool (has_copy_room config memory address)))
    (λ (not_left : is_left config memory address ≡ false).
    at_word (copied_from config memory address (suc addresses)) (copied_from config memory (address + 1) addresses) word (copied_skips config memory address addresses not_left) ∙ copied_from_same config addresses memory (address + 1) word fixed)
    (cases_Bool (is_left config memory address))

pub all_copied_same : (config : Config) (memory : Word → ℕ) (word : Word) → (MayChange word → ⊥) → all_copied config memory word ≡ memory word
all_copied_same config memory word fixed =
    either_is (memory Phase == evacuation_phase) (copied_from config memory config.region_words (config.regions * config.region_words) word) (memory word) (memory word)
    (copied_from_same config (config.regions * config.region_words) memory config.region_words word fixed) refl

-- Serving who waits changes no word that making an object leaves.
served_same : (config : Config) (memory : Word → ℕ) (word : Word) → ((other_memory : Word → ℕ) (thread region : ℕ) → made_in config other_memory thread region word ≡ other_memory word) → (mutator : ℕ) → served config memory mutator word ≡ memory word
served_same config memory word made zero = served_first config memory word
served_same config memory word made (suc mutator) = ⊎_elim
    (λ (no_wait : served config memory mutator (Wait mutator) ≡ 0). turn_idle config memory mutator word no_wait ∙ served_same config memory word made mutator)
    (λ (still_waits : served config memory mutator (Wait mutator) ≢ 0).
    turn_waits config memory mutator word still_waits ∙ by_room (served config memory mutator) (room_for config (served config memory mutator) mutator) ∙ served_same config memory word made mutator)
    (cases_eq (served config memory mutator (Wait mutator)) 0)
  where
    by_room : (other_memory : Word → ℕ) (found : Option ℕ) → served_in config other_memory mutator found word ≡ other_memory word
    by_room other_memory None = refl
    by_room other_memory (Some region) = made other_memory mutator region

-- So words before the image stay where a cycle is finished, ..
finished_same : (config : Config) (given_memory : Word → ℕ) (word : Word) → ((any_memory : Word → ℕ) → set_freed config (all_updated config any_memory) word ≡ any_memory word) → (MayChange word → ⊥)
    → ((some_memory : Word → ℕ) (thread region : ℕ) → made_in config some_memory thread region word ≡ some_memory word) → finished_from config given_memory word ≡ given_memory word
finished_same config memory word updates fixed made =
    let copies = all_copied_same config memory word fixed in
    either_is (is_room_for_all config memory) (served config (cycle_finished config memory) config.mutators word) (all_copied config memory word) (memory word)
    (served_same config (cycle_finished config memory) word made config.mutators ∙ updates (all_copied config memory) ∙ copies) copies

finished_from_before : (config : Config) (memory : Word → ℕ) (word : Word) → is_image word ≡ false → finished_from config memory word ≡ memory word
unfolding made_in
finished_from_before config memory Pause not_image = finished_same config memory Pause (λ n. refl) (λ never. never) (λ w t r. refl)
finished_from_before config memory Left not_image = finished_same config memory Left (λ n. refl) (λ never. never) (λ w t r. refl)
finished_from_before config memory End not_image = finished_same config memory End (λ n. refl) (λ never. never) (λ w t r. refl)
finished_from_before config memory (State seat) not_image = finished_same config memory (State seat) (λ n. refl) (λ never. never) (λ w t r. refl)
finished_from_before config memory _ not_image = absurd (true≢false not_image)

finished_before : (config : Config) (memory : Word → ℕ) (word : Word) → is_image word ≡ false → finished config memory word ≡ memory word
finished_before config memory word not_image = finished_from_before config (let_go config memory) word not_image ∙ let_go_same word (of_image word not_image) config memory (seat_count config.mutators config.helpers)

-- .. and where it is ended in its pause.
pub ended_before : (config : Config) (memory : Word → ℕ) (word : Word) → is_image word ≡ false → ended config memory word ≡ memory word
ended_before config memory word not_image =
    either_is (is_whole config memory) (finished config memory word) (full config (finished config memory) word) (memory word) (finished_before config memory word not_image)
    (full_before config (finished config memory) word not_image ∙ finished_before config memory word not_image)

-- Words that are no words of the table read 0 once all that is left was copied, ..
copied_from_outside : (config : Config) (addresses : ℕ) (memory : Word → ℕ) (address : ℕ) → CanCopyFrom config memory address addresses → IsZeroOutside config memory → IsZeroOutside config (copied_from config memory address addresses)
unfolding CanCopyFrom
copied_from_outside config zero memory address can_copy nothing = subst (IsZeroOutside config) (sym (copied_none config memory address 0)) nothing
copied_from_outside config (suc addresses) memory address can_copy nothing = ⊎_elim
    (λ (still_left : is_left config memory address ≡ true). ⊎_elim
    (λ (room : has_copy_room config memory address ≡ true).
    let object = (can_copy.0 still_left).0 in
    subst (IsZeroOutside config) (sym (copied_next config memory address addresses still_left room))
    (copied_from_outside config addresses (copied_out config memory address) (address + 1) ((can_copy.0 still_left).1 room)
    (copied_outside config memory address object (copies_out config memory address object.above object.in_set (room_found config memory address room)) nothing)))
    (λ (no_room : has_copy_room config memory address ≡ false). subst (IsZeroOutside config) (sym (copied_stuck config memory address addresses still_left no_room)) nothing)
    (cases_Bool (has_copy_room config memory address)))
    (λ (not_left : is_left config memory address ≡ false).
    subst (IsZeroOutside config) (sym (copied_skips config memory address addresses not_left)) (copied_from_outside config addresses memory (address + 1) (can_copy.1 not_left) nothing))
    (cases_Bool (is_left config memory address))

all_copied_outside : (config : Config) (memory : Word → ℕ) → (memory Phase ≡ evacuation_phase → CanCopyFrom config memory config.region_words (config.regions * config.region_words)) → IsZeroOutside config memory → IsZeroOutside config (all_copied config memory)
all_copied_outside config memory can_copy nothing word outside_table = ⊎_elim
    (λ (evacuating : memory Phase ≡ evacuation_phase).
    cond-true (memory Phase == evacuation_phase) (copied_from config memory config.region_words (config.regions * config.region_words) word) (memory word) (eq-eqb (memory Phase) 2 evacuating)
    ∙ copied_from_outside config (config.regions * config.region_words) memory config.region_words (can_copy evacuating) nothing word outside_table)
    (λ (not_evacuating : memory Phase ≢ evacuation_phase).
    cond-false (memory Phase == evacuation_phase) (copied_from config memory config.region_words (config.regions * config.region_words) word) (memory word) (ne_eqb (memory Phase) 2 not_evacuating) ∙ nothing word outside_table)
    (cases_eq (memory Phase) 2)

-- .. once all references were updated, ..
null_updated : (config : Config) (memory : Word → ℕ) (value : ℕ) → value ≡ 0 → updated_word config memory value ≡ 0
null_updated config memory value null = low_spared config memory value (omega (arith, null)) ∙ null

all_updated_outside : (config : Config) (memory : Word → ℕ) → IsZeroOutside config memory → IsZeroOutside config (all_updated config memory)
all_updated_outside config memory nothing (Heap address) outside_table =
    either_is (is_kept_field config memory address) (updated_word config memory (memory (Heap address))) (memory (Heap address)) 0 (null_updated config memory (memory (Heap address)) (nothing (Heap address) outside_table)) (nothing (Heap address) outside_table)
all_updated_outside config memory nothing (Root mutator index) outside_table = null_updated config memory (memory (Root mutator index)) (nothing (Root mutator index) outside_table)
all_updated_outside config memory nothing (Answer mutator) outside_table = null_updated config memory (memory (Answer mutator)) (nothing (Answer mutator) outside_table)
all_updated_outside config memory nothing word outside_table = nothing word outside_table

filled_outside : (config : Config) (in_region is_gone : ℕ → Bool) (memory : Word → ℕ) → IsZeroOutside config memory → IsZeroOutside config (filled_in config in_region is_gone memory)
filled_outside config in_region is_gone memory nothing (Heap address) outside_table =
    cond-false (in_region (region_with config address) && begins config memory address && is_gone address) (filler_header (object_words (memory (Heap (address + 1))))) (memory (Heap address))
    (and_left (in_region (region_with config address) && begins config memory address) (is_gone address) (and_right (in_region (region_with config address)) (begins config memory address) (none_begins config memory address (outside_heap config address outside_table))))
    ∙ nothing (Heap address) outside_table
filled_outside config in_region is_gone memory nothing word outside_table = nothing word outside_table

set_freed_outside : (config : Config) (memory : Word → ℕ) → IsZeroOutside config memory → IsZeroOutside config (set_freed config memory)
set_freed_outside config memory nothing Evac outside_table = refl
set_freed_outside config memory nothing Ask outside_table = refl
set_freed_outside config memory nothing word outside_table =
    cycle_outside config (set_left config memory)
    (freed_outside config (is_to_free config memory) (filled_in config (is_to_stay config memory) (has_moved memory) memory) (filled_outside config (is_to_stay config memory) (has_moved memory) memory nothing)) word outside_table

-- .. once the cycle is finished, ..
finished_outside : (config : Config) (memory : Word → ℕ) → CanFinish config memory → IsZeroOutside config memory → IsZeroOutside config (finished config memory)
finished_outside config memory can_finish nothing word outside_table =
    let other_memory : Word → ℕ = let_go config memory in
    let copies = all_copied_outside config (let_go config memory) can_finish.copies (let_go_outside config memory nothing can_finish.buffers) in
    either_is (is_room_for_all config other_memory) (served config (cycle_finished config other_memory) config.mutators word) (all_copied config other_memory word) 0
    (served_outside config (cycle_finished config other_memory) config.mutators (omega arith)
    (set_freed_outside config (all_updated config (all_copied config other_memory)) (all_updated_outside config (all_copied config other_memory) copies)) word outside_table)
    (copies word outside_table)

-- .. and once the cycle is ended in its pause.
pub ended_outside : (config : Config) (memory : Word → ℕ) → CanEnd config memory → IsZeroOutside config memory → IsZeroOutside config (ended config memory)
ended_outside config memory may_end nothing word outside_table =
    let finishes = finished_outside config memory may_end.finishes nothing in
    ⊎_elim
    (λ (whole_cycle : is_whole config memory ≡ true). cond-true (is_whole config memory) (finished config memory word) (full config (finished config memory) word) whole_cycle ∙ finishes word outside_table)
    (λ (short : is_whole config memory ≡ false).
    cond-false (is_whole config memory) (finished config memory word) (full config (finished config memory) word) short
    ∙ ∥∥₁_elim (may_end.holds short) (hlevel ℕ_set) (λ what_holds. full_zero config (finished config memory) what_holds.0 (what_holds.1, what_holds.2, what_holds.3, what_holds.4) finishes word outside_table))
    (cases_Bool (is_whole config memory))
