-- The region that is found for an object, and the tops after the object was made.
use Rattle.std.proofs.Common.{◌≡◌, ◌≢◌, ℕ, ◌+◌, ◌*◌, ◌<◌, ◌≤◌, ◌==◌, ◌↔◌, List, slice_index, Option, Some, None, IsNone, IfSome, refl, sym, ap, ◌∙◌, ⊎_elim, arith}
use Rattle.std.proofs.lemmas.Bool.{cond-true, cond-false, cases_eq, eq-eqb, ne_eqb}
use Rattle.std.proofs.lemmas.Nat.Bits.{bit_at-zero}
use Rattle.std.proofs.Math.Nat.{mul-le-mul}
use Rattle.heap_words.specs.declared.config.Config.{Config}
use Rattle.heap_words.specs.Words.{Word, Top, Wait}
use Rattle.heap_words.specs.Encoding.{object_words, request_shape_in}
use Rattle.regions.specs.Rooms.{EachHasLess, IsFirstWithRoom}
use Rattle.regions.specs.Place.{base_of}
use Rattle.regions.specs.ServedRooms.{lowest_room, NoneHasRoom, IsLowestRoom}
use Rattle.regions.proofs.ServedRooms.{all_full, lowest_is, has_room, none_has_room}
use Rattle.image_graph.specs.Full.{made_in}
use Rattle.image_graph.specs.Make.{AreInHeap, AreWithin}

-- where each region has less room than is asked for
none_fits : (config : Config) (memory : Word → ℕ) (tops : List ℕ) (words limit : ℕ) → limit ≤ config.regions
    → ((region : ℕ) → region < config.regions → slice_index tops region ≡ memory (Top region)) → AreWithin config memory
    → EachHasLess config tops 0 words limit → (region : ℕ) → region < limit → config.region_words < memory (Top region) + words
none_fits config memory tops words limit at_most same_tops tops_within each_less region lower =
    omega (arith, same_tops region (omega (arith, lower, at_most)), tops_within region (omega (arith, lower, at_most)), each_less region lower (bit_at-zero region))

pub room_found : (config : Config) (memory : Word → ℕ) (tops : List ℕ) (words : ℕ) (result : Option ℕ)
    → ((region : ℕ) → region < config.regions → slice_index tops region ≡ memory (Top region)) → AreWithin config memory
    → IsNone result ↔ EachHasLess config tops 0 words config.regions → IfSome result (IsFirstWithRoom config tops 0 words)
    → result ≡ lowest_room config.region_words (λ region. memory (Top region)) words config.regions
room_found config memory tops words None same_tops tops_within none_iff first_found =
    sym (all_full config.region_words (λ region. memory (Top region)) words config.regions (none_fits config memory tops words config.regions (omega arith) same_tops tops_within (none_iff.0 refl)))
room_found config memory tops words (Some region) same_tops tops_within none_iff first_found =
    sym (lowest_is config.region_words (λ region. memory (Top region)) words config.regions region (record {
      below = first_found.below;
      room = omega (arith, first_found.room, same_tops region first_found.below, tops_within region first_found.below);
      none_lower = none_fits config memory tops words region (omega (arith, first_found.below)) same_tops tops_within first_found.none_lower;
    }))

-- the tops stay within their regions where the object has room
pub made_within : (config : Config) (memory : Word → ℕ) (mutator region : ℕ) → AreWithin config memory → memory (Top region) + object_words (request_shape_in (memory (Wait mutator))) ≤ config.region_words
    → AreWithin config (made_in config memory mutator region)
unfolding made_in
made_within config memory mutator region tops_within words_fit asked_region region_below = ⊎_elim
    (λ (same_region : region ≡ asked_region).
    let words = object_words (request_shape_in (memory (Wait mutator))) in
    let grown : made_in config memory mutator region (Top asked_region) ≡ memory (Top region) + words = cond-true (region == asked_region) (memory (Top region) + words) (memory (Top asked_region)) (eq-eqb region asked_region same_region) in
    omega (arith, grown, words_fit))
    (λ (different_region : region ≢ asked_region).
    let words = object_words (request_shape_in (memory (Wait mutator))) in
    let same_top : made_in config memory mutator region (Top asked_region) ≡ memory (Top asked_region) = cond-false (region == asked_region) (memory (Top region) + words) (memory (Top asked_region)) (ne_eqb region asked_region different_region) in
    omega (arith, same_top, tops_within asked_region region_below))
    (cases_eq region asked_region)

-- what the answer for a request of a thread says
pub found_room : (config : Config) (memory : Word → ℕ) (words asked lowest_region : ℕ) (result : Option ℕ) → result ≡ lowest_room config.region_words (λ region. memory (Top region)) words config.regions
    → words ≡ asked → result ≡ Some lowest_region → IsLowestRoom config.region_words (λ region. memory (Top region)) asked config.regions lowest_region
found_room config memory words asked lowest_region result found_lowest same_words region_found =
    has_room config.region_words (λ region. memory (Top region)) asked config.regions lowest_region
    (ap (λ words. lowest_room config.region_words (λ region. memory (Top region)) words config.regions) (sym same_words) ∙ sym found_lowest ∙ region_found)

pub found_none : (config : Config) (memory : Word → ℕ) (words asked : ℕ) (result : Option ℕ) → result ≡ lowest_room config.region_words (λ region. memory (Top region)) words config.regions
    → words ≡ asked → result ≡ None → NoneHasRoom config.region_words (λ region. memory (Top region)) asked config.regions
found_none config memory words asked result found_lowest same_words no_result =
    none_has_room config.region_words (λ region. memory (Top region)) asked config.regions
    (ap (λ words. lowest_room config.region_words (λ region. memory (Top region)) words config.regions) (sym same_words) ∙ sym found_lowest ∙ no_result)

-- what fits above a region's top is of the heap
pub room_in_heap : (config : Config) (region top words : ℕ) → region < config.regions → top + words ≤ config.region_words → AreInHeap config (base_of config region + top) words
room_in_heap config region top words region_below words_fit =
    let end_below : (region + 2) * config.region_words ≤ (config.regions + 1) * config.region_words = mul-le-mul (omega (arith, region_below)) (omega arith) in
    record { from = omega arith; to = omega (arith, end_below, words_fit) }
