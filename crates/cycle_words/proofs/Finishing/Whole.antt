-- Nobody waits after requests were served exactly where none was left.
use Rattle.std.proofs.Common.{◌≡◌, ◌≢◌, ℕ, ◌+◌, ◌<◌, ◌==◌, Bool, true, Option, Some, None, zero, suc, refl, sym, ap, ◌∙◌, arith}
use Rattle.std.specs.List.{range_with_len, list_all}
use Rattle.std.proofs.lemmas.Bool.{cond-false, eq-eqb, ne_eqb, eqb-true, and_from, and_parts}
use Rattle.heap_words.specs.declared.config.Config.{Config}
use Rattle.heap_words.specs.Words.{Word, Wait}
use Rattle.heap_words.specs.Encoding.{object_words, request_shape_in}
use Rattle.regions.specs.ServedRooms.{lowest_room}
use Rattle.regions.proofs.ServedRooms.{none_has_room, all_full}
use Rattle.image_graph.specs.Full.{asked_in, served_in, room_for, served}
use Rattle.image_graph.specs.RequestsServed.{tops_at_turn}
use Rattle.image_graph.proofs.TurnWords.{turn_idle, turn_waits, own_wait, before_turn, after_turn}
use Rattle.image_graph.specs.Left.{IsLeft}
use Rattle.cycle_words.specs.Finishing.Finish.{nobody_waits}

-- each of so many numbers
pub all_at : (test : ℕ → Bool) (first count index : ℕ) → index < count → list_all test (range_with_len first count) ≡ true → test (first + index) ≡ true
all_at test first zero index index_below all_hold = absurd (omega (arith, index_below))
all_at test first (suc count) zero index_below all_hold =
    let same_place : first + 0 ≡ first = omega arith in ap test same_place ∙ (and_parts (test first) (list_all test (range_with_len (first + 1) count)) all_hold).0
all_at test first (suc count) (suc index) index_below all_hold =
    let same_place : first + suc index ≡ first + 1 + index = omega arith in
    ap test same_place ∙ all_at test (first + 1) count index (omega (arith, index_below)) (and_parts (test first) (list_all test (range_with_len (first + 1) count)) all_hold).1

pub all_from : (test : ℕ → Bool) (first count : ℕ) → ((index : ℕ) → index < count → test (first + index) ≡ true) → list_all test (range_with_len first count) ≡ true
all_from test first zero each_holds = refl
all_from test first (suc count) each_holds =
    and_from (test first) (list_all test (range_with_len (first + 1) count))
    (let same_place : first + 0 ≡ first = omega arith in ap test (sym same_place) ∙ each_holds 0 (omega arith))
    (all_from test (first + 1) count (λ index index_below. let same_place : first + 1 + index ≡ first + suc index = omega arith in ap test same_place ∙ each_holds (suc index) (omega (arith, index_below))))

pub nobody_is : (config : Config) (memory : Word → ℕ) → nobody_waits config memory ≡ true → (mutator : ℕ) → mutator < config.mutators → memory (Wait mutator) ≡ 0
nobody_is config memory nobody mutator mutator_below =
    let same_mutator : 0 + mutator ≡ mutator = omega arith in
    ap (λ mutator. memory (Wait mutator)) (sym same_mutator) ∙ eqb-true (memory (Wait (0 + mutator))) 0 (all_at (λ mutator. memory (Wait mutator) == 0) 0 config.mutators mutator mutator_below nobody)

pub nobody_from : (config : Config) (memory : Word → ℕ) → ((mutator : ℕ) → mutator < config.mutators → memory (Wait mutator) ≡ 0) → nobody_waits config memory ≡ true
nobody_from config memory each_idle = all_from (λ mutator. memory (Wait mutator) == 0) 0 config.mutators (λ mutator mutator_below. let same_mutator : 0 + mutator ≡ mutator = omega arith in eq-eqb (memory (Wait (0 + mutator))) 0 (ap (λ mutator. memory (Wait mutator)) same_mutator ∙ each_idle mutator mutator_below))

module _ (config : Config) (memory : Word → ℕ) (mutator : ℕ) where
  -- what a thread that waits asks for at its turn
  asks : memory (Wait mutator) ≢ 0 → asked_in memory mutator ≡ object_words (request_shape_in (served config memory mutator (Wait mutator)))
  asks mutator_waits =
      cond-false (memory (Wait mutator) == 0) 0 (object_words (request_shape_in (memory (Wait mutator)))) (ne_eqb (memory (Wait mutator)) 0 mutator_waits)
      ∙ ap (λ word. object_words (request_shape_in word)) (sym (before_turn config memory mutator mutator (omega arith)).0)

  finds : memory (Wait mutator) ≢ 0 → room_for config (served config memory mutator) mutator ≡ lowest_room config.region_words (tops_at_turn config memory mutator) (asked_in memory mutator) config.regions
  finds mutator_waits = ap (λ words. lowest_room config.region_words (tops_at_turn config memory mutator) words config.regions) (sym (asks mutator_waits))

  waits_then : memory (Wait mutator) ≢ 0 → served config memory mutator (Wait mutator) ≢ 0
  waits_then mutator_waits no_wait = mutator_waits (sym (before_turn config memory mutator mutator (omega arith)).0 ∙ no_wait)

  -- a request that is left is there afterwards
  pub waits_if_left : IsLeft config memory mutator → served config memory config.mutators (Wait mutator) ≢ 0
  waits_if_left request_left no_wait =
      let no_room : room_for config (served config memory mutator) mutator ≡ None = finds request_left.waits ∙ all_full config.region_words (tops_at_turn config memory mutator) (asked_in memory mutator) config.regions request_left.no_room in
      let wait_stays : served config memory config.mutators (Wait mutator) ≡ memory (Wait mutator) =
      (after_turn config memory config.mutators mutator request_left.below).0 ∙ turn_waits config memory mutator (Wait mutator) (waits_then request_left.waits)
      ∙ ap (λ found_room. served_in config (served config memory mutator) mutator found_room (Wait mutator)) no_room ∙ (before_turn config memory mutator mutator (omega arith)).0 in
      request_left.waits (sym wait_stays ∙ no_wait)

  -- and one that is there was left
  pub left_if_waits : mutator < config.mutators → served config memory config.mutators (Wait mutator) ≢ 0 → IsLeft config memory mutator
  left_if_waits mutator_below mutator_waits = by_room (room_for config (served config memory mutator) mutator) refl
    where
      was : memory (Wait mutator) ≢ 0
      was no_wait = mutator_waits ((after_turn config memory config.mutators mutator mutator_below).0 ∙ turn_idle config memory mutator (Wait mutator) ((before_turn config memory mutator mutator (omega arith)).0 ∙ no_wait) ∙ (before_turn config memory mutator mutator (omega arith)).0 ∙ no_wait)

      by_room : (choice : Option ℕ) → room_for config (served config memory mutator) mutator ≡ choice → IsLeft config memory mutator
      by_room None found_none = record {
        below = mutator_below;
        waits = was;
        no_room = none_has_room config.region_words (tops_at_turn config memory mutator) (asked_in memory mutator) config.regions (sym (finds was) ∙ found_none);
      }
      by_room (Some region) room_found =
          absurd (mutator_waits ((after_turn config memory config.mutators mutator mutator_below).0 ∙ turn_waits config memory mutator (Wait mutator) (waits_then was)
          ∙ ap (λ choice. served_in config (served config memory mutator) mutator choice (Wait mutator)) room_found ∙ own_wait config (served config memory mutator) mutator region))
