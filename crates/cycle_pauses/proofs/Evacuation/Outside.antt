-- What the beginning of evacuation leaves as it was: words that are no words of the table read 0 still, and words before the image
-- stay.
use Rattle.std.proofs.Common.{◌≡◌, ◌≢◌, ℕ, ◌+◌, ◌<◌, ◌≤◌, ◌⊎◌, ◌==◌, true, false, List, [], ◌∷◌, Option, Some, None, inl, inr, ⊎_elim, refl, sym, ap, ◌∙◌, subst, arith}
use Rattle.std.specs.Prelude.{Contains}
use Rattle.std.proofs.lemmas.Bool.{cases_Bool, cases_lt, cond-true, cond-false, true≢false}
use Rattle.std.proofs.lemmas.Nat.{mod_below}
use Rattle.shen_graph.proofs.Bools.{either_is}
use Rattle.heap_words.specs.declared.config.Config.{Config}
use Rattle.heap_words.specs.Words.{Word, Pause, Left, End, State, Phase, Cset, Evac, Claim, Free, Top, Current, Root, Answer, Heap, is_word, is_image, same_word}
use Rattle.heap_words.specs.Encoding.{is_forwarded}
use Rattle.heap_words.proofs.Stores.{same_word_true, is_word_from}
use Rattle.regions.specs.Place.{region_with, IsOf}
use Rattle.regions.proofs.PlaceLemmas.{regions_tile}
use Rattle.image_graph.specs.Full.{now_in}
use Rattle.cycle_pauses.proofs.Full.Outside.{IsZeroOutside}
use Rattle.cycle_words.specs.Marking.Final.{final_marked}
use Rattle.cycle_words.specs.Evacuation.Live.{words_at}
use Rattle.cycle_words.specs.Evacuation.Choice.{chosen}
use Rattle.cycle_words.specs.Evacuation.Copied.{MayChange, CanCopyOut, copy_room, copied_in, copied_to, copied_out, top_address, IsCopiedOut}
use Rattle.cycle_words.specs.Evacuation.Begun.{naming_places, is_collected, moved_out, cleared_at, cleared_in_turn, with_set, evac_started, evac_spared, evac_begun, CanClear, CanClearInTurn}
use Rattle.cycle_words.proofs.Evacuation.RegionAddresses.{some_words, of_its_region}
use Rattle.cycle_pauses.specs.Evacuation.Collect.{evac_next}
use Rattle.cycle_words.proofs.Evacuation.NamingPlaces.{IsPlace, are_places}
use Rattle.cycle_words.proofs.Evacuation.CopiedOut.{copies_out}
use Rattle.cycle_words.proofs.Evacuation.Copies.{cleared_is, spared_is}
use Rattle.cycle_pauses.proofs.Evacuation.ClearingInTurn.{is_first, is_later}

-- a word of the table is one
no_word : (config : Config) (region address : ℕ) → region < config.regions → IsOf config region address → is_word config (Heap address) ≡ false → ⊥
no_word config region address region_below is_of not_word = true≢false (sym (is_word_from config (Heap address) (regions_tile.in_heap config region address region_below is_of)) ∙ not_word)

-- a place is a word of the table
no_place : (config : Config) (place : Word) → IsPlace config place → is_word config place ≡ false → ⊥
no_place config (Root mutator index) place not_word = true≢false (sym (is_word_from config (Root mutator index) place) ∙ not_word)
no_place config (Answer mutator) place not_word = true≢false (sym (is_word_from config (Answer mutator) place) ∙ not_word)
no_place config _ place not_word = place

-- one object is copied out
module _ (config : Config) (memory : Word → ℕ) (address : ℕ) (can_copy : CanCopyOut config memory address) (copying : IsCopiedOut config memory (copied_out config memory address) address) (nothing : IsZeroOutside config memory) where
  other_heap : (asked_address : ℕ) → is_word config (Heap asked_address) ≡ false → (asked_address ≢ address) × ((asked_address < top_address config memory copying.region) ⊎ (top_address config memory copying.region + words_at memory address ≤ asked_address))
  other_heap asked_address not_word = (
    λ same_address.
        (let first_address : address + 0 ≡ asked_address = omega (arith, same_address) in
        no_word config (region_with config address) asked_address can_copy.of_region
        (subst (IsOf config (region_with config address)) first_address (of_its_region config address 0 can_copy.above (let offset_below = mod_below address config.region_words (some_words config) in omega (arith, offset_below)))) not_word),
    ⊎_elim
        (λ (address_before : asked_address < top_address config memory copying.region). inl address_before)
        (λ (above_top : top_address config memory copying.region ≤ asked_address). ⊎_elim
        (λ (address_within : asked_address < top_address config memory copying.region + words_at memory address).
        let room = copying.room in absurd (no_word config copying.region asked_address copying.below (record { from = omega (arith, above_top); before = omega (arith, address_within, room) }) not_word))
        (λ (behind_copy : top_address config memory copying.region + words_at memory address ≤ asked_address). inr behind_copy)
        (cases_lt asked_address (top_address config memory copying.region + words_at memory address)))
        (cases_lt asked_address (top_address config memory copying.region)),
  )

  pub copied_outside : IsZeroOutside config (copied_out config memory address)
  copied_outside (Heap word_address) not_word = let heap_apart = other_heap word_address not_word in copying.copied.elsewhere word_address heap_apart.0 heap_apart.1 ∙ nothing (Heap word_address) not_word
  copied_outside (Top region) not_word =
      copying.copied.other_tops region (λ same_region. true≢false (sym (is_word_from config (Top region) (let region_below = copying.below in omega (arith, region_below, same_region))) ∙ not_word)) ∙ nothing (Top region) not_word
  copied_outside Free not_word = absurd (true≢false not_word)
  copied_outside word not_word = copying.copied.others word (λ never. never) ∙ nothing word not_word

-- one place is cleared
place_outside : (config : Config) (memory : Word → ℕ) (place : Word) → IsPlace config place → CanClear config memory (memory place) → IsZeroOutside config memory → IsZeroOutside config (cleared_at config memory place)
place_outside config memory place is_place can_clear nothing word not_word = ⊎_elim
    (λ (object_collected : is_collected config memory (memory place) ≡ true).
    ap (λ (memory : Word → ℕ). memory word) (cleared_is config memory place object_collected)
    ∙ ⊎_elim
    (λ (at_place : same_word place word ≡ true). absurd (no_place config place is_place (ap (is_word config) (same_word_true place word at_place) ∙ not_word)))
    (λ (words_differ : same_word place word ≡ false).
    cond-false (same_word place word) (now_in (moved_out config memory (memory place)) (memory place)) (moved_out config memory (memory place) word) words_differ
    ∙ ⊎_elim
    (λ (object_forwarded : is_forwarded (memory (Heap (memory place))) ≡ true). cond-true (is_forwarded (memory (Heap (memory place)))) (memory word) (copied_out config memory (memory place) word) object_forwarded ∙ nothing word not_word)
    (λ (header_plain : is_forwarded (memory (Heap (memory place))) ≡ false).
    let object = can_clear.object object_collected header_plain in
    cond-false (is_forwarded (memory (Heap (memory place)))) (memory word) (copied_out config memory (memory place) word) header_plain
    ∙ copied_outside config memory (memory place) object (copies_out config memory (memory place) object.above object.in_set (can_clear.room object_collected header_plain)) nothing word not_word)
    (cases_Bool (is_forwarded (memory (Heap (memory place))))))
    (cases_Bool (same_word place word)))
    (λ (spared : is_collected config memory (memory place) ≡ false). ap (λ (memory : Word → ℕ). memory word) (spared_is config memory place spared) ∙ nothing word not_word)
    (cases_Bool (is_collected config memory (memory place)))

-- and all are
places_outside : (config : Config) (places : List Word) (memory : Word → ℕ) → ((word : Word) → Contains places word → IsPlace config word) → CanClearInTurn config memory places → IsZeroOutside config memory → IsZeroOutside config (cleared_in_turn config memory places)
unfolding cleared_in_turn CanClearInTurn
places_outside config [] memory all_places can_clear nothing = nothing
places_outside config (place ∷ places) memory all_places can_clear nothing =
    places_outside config places (cleared_at config memory place) (λ word contained. all_places word (is_later place places word contained)) can_clear.1
    (place_outside config memory place (all_places place (is_first place places)) can_clear.0 nothing)

started_outside : (config : Config) (memory : Word → ℕ) → IsZeroOutside config memory → IsZeroOutside config (evac_started memory)
started_outside config memory nothing Phase not_word = absurd (true≢false not_word)
started_outside config memory nothing Evac not_word = refl
started_outside config memory nothing Claim not_word = refl
started_outside config memory nothing word not_word = nothing word not_word

spared_outside : (config : Config) (memory : Word → ℕ) → IsZeroOutside config memory → IsZeroOutside config (evac_spared memory)
spared_outside config memory nothing Phase not_word = refl
spared_outside config memory nothing Cset not_word = refl
spared_outside config memory nothing Claim not_word = refl
spared_outside config memory nothing word not_word = nothing word not_word

with_set_outside : (config : Config) (memory : Word → ℕ) (set : ℕ) → IsZeroOutside config memory → IsZeroOutside config (with_set memory set)
with_set_outside config memory set nothing Cset not_word = absurd (true≢false not_word)
with_set_outside config memory set nothing word not_word = nothing word not_word

pub begun_outside : (config : Config) (memory : Word → ℕ) (set : ℕ) → CanClearInTurn config (with_set memory set) (naming_places config) → IsZeroOutside config memory → IsZeroOutside config (evac_begun config memory set)
begun_outside config memory set can_clear nothing word not_word = ⊎_elim
    (λ (no_set : (set == 0) ≡ true).
    cond-true (set == 0) (evac_spared memory word) (evac_started (cleared_in_turn config (with_set memory set) (naming_places config)) word) no_set ∙ spared_outside config memory nothing word not_word)
    (λ (some_set : (set == 0) ≡ false).
    cond-false (set == 0) (evac_spared memory word) (evac_started (cleared_in_turn config (with_set memory set) (naming_places config)) word) some_set
    ∙ started_outside config (cleared_in_turn config (with_set memory set) (naming_places config))
    (places_outside config (naming_places config) (with_set memory set) (are_places config) can_clear (with_set_outside config memory set nothing)) word not_word)
    (cases_Bool (set == 0))

-- Words before the image stay, whatever is copied.
to_same : (config : Config) (memory : Word → ℕ) (address region : ℕ) (word : Word) → (MayChange word → ⊥) → copied_to config memory address region word ≡ memory word
unfolding copied_to
to_same config memory address region (Heap word_address) word_stays = absurd (word_stays tt)
to_same config memory address region (Top word_region) word_stays = absurd (word_stays tt)
to_same config memory address region Free word_stays = absurd (word_stays tt)
to_same config memory address region word word_stays = refl

pub copied_same : (config : Config) (memory : Word → ℕ) (address : ℕ) (word : Word) → (MayChange word → ⊥) → copied_out config memory address word ≡ memory word
copied_same config memory address word fixed = by_room (copy_room config memory address)
  where
    by_room : (found : Option ℕ) → copied_in config memory address found word ≡ memory word
    by_room None = refl
    by_room (Some found_region) = to_same config memory address found_region word fixed

place_same : (config : Config) (memory : Word → ℕ) (place word : Word) → IsPlace config place → (MayChange word → ⊥) → (IsPlace config word → ⊥) → cleared_at config memory place word ≡ memory word
place_same config memory place word is_place fixed not_place = ⊎_elim
    (λ (object_collected : is_collected config memory (memory place) ≡ true).
    ap (λ (memory : Word → ℕ). memory word) (cleared_is config memory place object_collected)
    ∙ ⊎_elim
    (λ (at_place : same_word place word ≡ true). absurd (not_place (subst (IsPlace config) (same_word_true place word at_place) is_place)))
    (λ (words_differ : same_word place word ≡ false).
    cond-false (same_word place word) (now_in (moved_out config memory (memory place)) (memory place)) (moved_out config memory (memory place) word) words_differ
    ∙ ⊎_elim
    (λ (object_forwarded : is_forwarded (memory (Heap (memory place))) ≡ true). cond-true (is_forwarded (memory (Heap (memory place)))) (memory word) (copied_out config memory (memory place) word) object_forwarded)
    (λ (header_plain : is_forwarded (memory (Heap (memory place))) ≡ false).
    cond-false (is_forwarded (memory (Heap (memory place)))) (memory word) (copied_out config memory (memory place) word) header_plain ∙ copied_same config memory (memory place) word fixed)
    (cases_Bool (is_forwarded (memory (Heap (memory place))))))
    (cases_Bool (same_word place word)))
    (λ (spared : is_collected config memory (memory place) ≡ false). ap (λ (memory : Word → ℕ). memory word) (spared_is config memory place spared))
    (cases_Bool (is_collected config memory (memory place)))

places_same : (config : Config) (places : List Word) (memory : Word → ℕ) (word : Word) → ((asked_word : Word) → Contains places asked_word → IsPlace config asked_word) → (MayChange word → ⊥) → (IsPlace config word → ⊥)
    → cleared_in_turn config memory places word ≡ memory word
unfolding cleared_in_turn
places_same config [] memory word all_places fixed not_place = refl
places_same config (place ∷ places) memory word all_places fixed not_place =
    places_same config places (cleared_at config memory place) word (λ asked_word contained. all_places asked_word (is_later place places asked_word contained)) fixed not_place
    ∙ place_same config memory place word (all_places place (is_first place places)) fixed not_place

begun_before : (config : Config) (memory : Word → ℕ) (set : ℕ) (word : Word) → (evac_spared memory word ≡ memory word) → ((memory_then : Word → ℕ) → evac_started memory_then word ≡ memory_then word) → with_set memory set word ≡ memory word
    → (MayChange word → ⊥) → (IsPlace config word → ⊥) → evac_begun config memory set word ≡ memory word
begun_before config memory set word spared start_keeps set_spared fixed not_place =
    either_is (set == 0) (evac_spared memory word) (evac_started (cleared_in_turn config (with_set memory set) (naming_places config)) word) (memory word) spared
    (start_keeps (cleared_in_turn config (with_set memory set) (naming_places config)) ∙ places_same config (naming_places config) (with_set memory set) word (are_places config) fixed not_place ∙ set_spared)

-- the end of marking and the beginning of evacuation leave the words before the image
pub next_before : (config : Config) (memory : Word → ℕ) (word : Word) → is_image word ≡ false → evac_next config memory word ≡ memory word
next_before config memory Pause not_image = begun_before config (final_marked config memory) (chosen config (final_marked config memory)) Pause refl (λ n. refl) refl (λ never. never) (λ never. never)
next_before config memory Left not_image = begun_before config (final_marked config memory) (chosen config (final_marked config memory)) Left refl (λ n. refl) refl (λ never. never) (λ never. never)
next_before config memory End not_image = begun_before config (final_marked config memory) (chosen config (final_marked config memory)) End refl (λ n. refl) refl (λ never. never) (λ never. never)
next_before config memory (State seat) not_image = begun_before config (final_marked config memory) (chosen config (final_marked config memory)) (State seat) refl (λ n. refl) refl (λ never. never) (λ never. never)
next_before config memory _ not_image = absurd (true≢false not_image)

-- and the words of buffers
pub next_current : (config : Config) (memory : Word → ℕ) (seat : ℕ) → evac_next config memory (Current seat) ≡ memory (Current seat)
next_current config memory seat = begun_before config (final_marked config memory) (chosen config (final_marked config memory)) (Current seat) refl (λ n. refl) refl (λ never. never) (λ never. never)
