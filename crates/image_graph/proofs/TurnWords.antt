-- The turns of the waiting threads, by the words of the image.
use Rattle.std.proofs.Common.{◌≡◌, ◌≢◌, ℕ, ◌+◌, ◌-◌, ◌*◌, ◌<◌, ◌≤◌, ◌==◌, ◌⊎◌, inl, inr, Bool, zero, suc, cond, Option, Some, None, ⊎_elim, refl, sym, ap, ◌∙◌, arith}
use Rattle.std.proofs.lemmas.Bool.{cond-true, cond-false, cases_eq, eq-eqb, ne_eqb}
use Rattle.heap_words.specs.declared.config.Config.{Config}
use Rattle.heap_words.specs.Words.{Word, Top, Wait, Answer}
use Rattle.heap_words.specs.Encoding.{object_words, request_shape_in}
use Rattle.regions.specs.Place.{base_of}
use Rattle.regions.specs.Tops.{sum_below}
use Rattle.regions.specs.ServedRooms.{lowest_room, taken_in, tops_served, room_at_turn, NoneHasRoom, IsLowestRoom}
use Rattle.regions.specs.SlideLaws.{count_where, tops_where}
use Rattle.regions.proofs.Sums.{sum_same}
use Rattle.regions.proofs.ServedRooms.{none_has_room, all_full, has_room, lowest_is, same_room, served_next, served_none, served_is, refused_among_granted}
use Rattle.image_graph.specs.Full.{asked_in, made_in, served_in, room_for, served, refused}
use Rattle.image_graph.specs.RequestsServed.{tops_at_turn, given_in, IsAnswered, RequestsAreAnswered}

-- one turn
pub served_first : (config : Config) (memory : Word → ℕ) (word : Word) → served config memory 0 word ≡ memory word
unfolding served
served_first config memory word = refl

turn : (config : Config) (memory : Word → ℕ) (mutator : ℕ) (word : Word)
    → served config memory (suc mutator) word ≡ cond (served config memory mutator (Wait mutator) == 0) (served config memory mutator word) (served_in config (served config memory mutator) mutator (room_for config (served config memory mutator) mutator) word)
unfolding served
turn config memory mutator word = refl

pub turn_idle : (config : Config) (memory : Word → ℕ) (mutator : ℕ) (word : Word) → served config memory mutator (Wait mutator) ≡ 0 → served config memory (suc mutator) word ≡ served config memory mutator word
turn_idle config memory mutator word no_wait = turn config memory mutator word ∙ cond-true (served config memory mutator (Wait mutator) == 0) (served config memory mutator word) (served_in config (served config memory mutator) mutator (room_for config (served config memory mutator) mutator) word) (eq-eqb (served config memory mutator (Wait mutator)) 0 no_wait)

pub turn_waits : (config : Config) (memory : Word → ℕ) (mutator : ℕ) (word : Word) → served config memory mutator (Wait mutator) ≢ 0
    → served config memory (suc mutator) word ≡ served_in config (served config memory mutator) mutator (room_for config (served config memory mutator) mutator) word
turn_waits config memory mutator word still_waiting = turn config memory mutator word ∙ cond-false (served config memory mutator (Wait mutator) == 0) (served config memory mutator word) (served_in config (served config memory mutator) mutator (room_for config (served config memory mutator) mutator) word) (ne_eqb (served config memory mutator (Wait mutator)) 0 still_waiting)

-- what a turn does to the words of another thread: nothing
wait_of_other : (config : Config) (memory : Word → ℕ) (thread mutator : ℕ) (found : Option ℕ) → mutator ≢ thread → served_in config memory thread found (Wait mutator) ≡ memory (Wait mutator)
unfolding made_in
wait_of_other config memory thread mutator None other_thread = refl
wait_of_other config memory thread mutator (Some region) other_thread = cond-false (thread == mutator) 0 (memory (Wait mutator)) (ne_eqb thread mutator (λ same_thread. other_thread (sym same_thread)))

answer_of_other : (config : Config) (memory : Word → ℕ) (thread mutator : ℕ) (found : Option ℕ) → mutator ≢ thread → served_in config memory thread found (Answer mutator) ≡ memory (Answer mutator)
unfolding made_in
answer_of_other config memory thread mutator None other_thread = refl
answer_of_other config memory thread mutator (Some region) other_thread = cond-false (thread == mutator) (base_of config region + memory (Top region)) (memory (Answer mutator)) (ne_eqb thread mutator (λ same_thread. other_thread (sym same_thread)))

-- and to its own, where room is found
pub own_wait : (config : Config) (memory : Word → ℕ) (mutator region : ℕ) → served_in config memory mutator (Some region) (Wait mutator) ≡ 0
unfolding made_in
own_wait config memory mutator region = cond-true (mutator == mutator) 0 (memory (Wait mutator)) (eq-eqb mutator mutator refl)

pub own_answer : (config : Config) (memory : Word → ℕ) (mutator region : ℕ) → served_in config memory mutator (Some region) (Answer mutator) ≡ base_of config region + memory (Top region)
unfolding made_in
own_answer config memory mutator region = cond-true (mutator == mutator) (base_of config region + memory (Top region)) (memory (Answer mutator)) (eq-eqb mutator mutator refl)

-- what it does to the tops
turn_top : (config : Config) (memory : Word → ℕ) (mutator region : ℕ) (found : Option ℕ) → served_in config memory mutator found (Top region) ≡ taken_in (λ region. memory (Top region)) (object_words (request_shape_in (memory (Wait mutator)))) found region
unfolding made_in
turn_top config memory mutator region None = refl
turn_top config memory mutator region (Some found_region) = refl

-- another turn leaves the words of a thread as they were
turn_of_other : (config : Config) (memory : Word → ℕ) (mutator other_mutator : ℕ) → other_mutator ≢ mutator
    → (served config memory (suc mutator) (Wait other_mutator) ≡ served config memory mutator (Wait other_mutator)) × (served config memory (suc mutator) (Answer other_mutator) ≡ served config memory mutator (Answer other_mutator))
turn_of_other config memory mutator other_mutator mutators_differ = ⊎_elim
    (λ (no_wait : served config memory mutator (Wait mutator) ≡ 0). (turn_idle config memory mutator (Wait other_mutator) no_wait, turn_idle config memory mutator (Answer other_mutator) no_wait))
    (λ (waits : served config memory mutator (Wait mutator) ≢ 0). (
      turn_waits config memory mutator (Wait other_mutator) waits ∙ wait_of_other config (served config memory mutator) mutator other_mutator (room_for config (served config memory mutator) mutator) mutators_differ,
      turn_waits config memory mutator (Answer other_mutator) waits ∙ answer_of_other config (served config memory mutator) mutator other_mutator (room_for config (served config memory mutator) mutator) mutators_differ,
    ))
    (cases_eq (served config memory mutator (Wait mutator)) 0)

-- so before its turn a thread's words are as they were
pub before_turn : (config : Config) (memory : Word → ℕ) (turn mutator : ℕ) → turn ≤ mutator → (served config memory turn (Wait mutator) ≡ memory (Wait mutator)) × (served config memory turn (Answer mutator) ≡ memory (Answer mutator))
before_turn config memory zero mutator later = (served_first config memory (Wait mutator), served_first config memory (Answer mutator))
before_turn config memory (suc earlier_mutator) mutator later =
    let turn_kept = turn_of_other config memory earlier_mutator mutator (λ same_mutator. omega (arith, same_mutator, later)) in
    let earlier_same = before_turn config memory earlier_mutator mutator (omega (arith, later)) in
    (turn_kept.0 ∙ earlier_same.0, turn_kept.1 ∙ earlier_same.1)

-- and after it they stay
pub after_turn : (config : Config) (memory : Word → ℕ) (turns mutator : ℕ) → mutator < turns → (served config memory turns (Wait mutator) ≡ served config memory (suc mutator) (Wait mutator)) × (served config memory turns (Answer mutator) ≡ served config memory (suc mutator) (Answer mutator))
after_turn config memory zero mutator earlier = absurd (omega (arith, earlier))
after_turn config memory (suc last_mutator) mutator earlier = ⊎_elim
    (λ (own_turn : last_mutator ≡ mutator). (ap (λ turn_count. served config memory (suc turn_count) (Wait mutator)) own_turn, ap (λ turn_count. served config memory (suc turn_count) (Answer mutator)) own_turn))
    (λ (other_turn : last_mutator ≢ mutator).
    let turn_kept = turn_of_other config memory last_mutator mutator (λ same_mutator. other_turn (sym same_mutator)) in
    let earlier_same = after_turn config memory last_mutator mutator (omega (arith, earlier, other_turn)) in
    (turn_kept.0 ∙ earlier_same.0, turn_kept.1 ∙ earlier_same.1))
    (cases_eq last_mutator mutator)

-- 0 words change no top
taken_none : (top : ℕ → ℕ) (found : Option ℕ) (region : ℕ) → taken_in top 0 found region ≡ top region
taken_none top None region = refl
taken_none top (Some found_region) region = ⊎_elim
    (λ (same_region : found_region ≡ region). let top_found = cond-true (found_region == region) (top found_region + 0) (top region) (eq-eqb found_region region same_region) in let same_top : top found_region ≡ top region = ap top same_region in omega (arith, top_found, same_top))
    (λ (other_region : found_region ≢ region). cond-false (found_region == region) (top found_region + 0) (top region) (ne_eqb found_region region other_region))
    (cases_eq found_region region)

module _ (config : Config) (memory : Word → ℕ) where
  abbrev asked : ℕ → ℕ
  asked = asked_in memory

  abbrev top : ℕ → ℕ
  top region = memory (Top region)

  abbrev tops : ℕ → ℕ → ℕ
  tops = tops_served config.region_words config.regions asked top

  -- who waits asks for the words of the object
  asks : (mutator : ℕ) → memory (Wait mutator) ≢ 0 → asked mutator ≡ object_words (request_shape_in (served config memory mutator (Wait mutator)))
  asks mutator waits =
      cond-false (memory (Wait mutator) == 0) 0 (object_words (request_shape_in (memory (Wait mutator)))) (ne_eqb (memory (Wait mutator)) 0 waits)
      ∙ ap (λ word. object_words (request_shape_in word)) (sym (before_turn config memory mutator mutator (omega arith)).0)

  asks_nothing : (mutator : ℕ) → memory (Wait mutator) ≡ 0 → asked mutator ≡ 0
  asks_nothing mutator no_wait = cond-true (memory (Wait mutator) == 0) 0 (object_words (request_shape_in (memory (Wait mutator)))) (eq-eqb (memory (Wait mutator)) 0 no_wait)

  -- the tops are those of so many requests served one after the other
  pub tops_are_served : (mutator region : ℕ) → served config memory mutator (Top region) ≡ tops mutator region
  tops_are_served zero region = served_first config memory (Top region) ∙ sym (served_none config.region_words config.regions asked top region)
  tops_are_served (suc mutator) region =
      let wait = (before_turn config memory mutator mutator (omega arith)).0 in
      ⊎_elim
      (λ (no_wait : memory (Wait mutator) ≡ 0).
      turn_idle config memory mutator (Top region) (wait ∙ no_wait) ∙ tops_are_served mutator region
      ∙ sym (served_next config.region_words config.regions asked top mutator region
      ∙ ap (λ words. taken_in (tops mutator) words (room_at_turn config.region_words config.regions asked top mutator) region) (asks_nothing mutator no_wait)
      ∙ taken_none (tops mutator) (room_at_turn config.region_words config.regions asked top mutator) region))
      (λ (waits : memory (Wait mutator) ≢ 0).
      turn_waits config memory mutator (Top region) (λ is_zero. waits (sym wait ∙ is_zero))
      ∙ turn_top config (served config memory mutator) mutator region (room_for config (served config memory mutator) mutator)
      ∙ ap (λ words. taken_in (λ any_region. served config memory mutator (Top any_region)) words (room_for config (served config memory mutator) mutator) region) (sym (asks mutator waits))
      ∙ taken_same (λ any_region. served config memory mutator (Top any_region)) (tops mutator) (asked mutator) (room_for config (served config memory mutator) mutator) region (λ any_region. tops_are_served mutator any_region)
      ∙ ap (λ found_room. taken_in (tops mutator) (asked mutator) found_room region) (found mutator waits (λ any_region. tops_are_served mutator any_region))
      ∙ sym (served_next config.region_words config.regions asked top mutator region))
      (cases_eq (memory (Wait mutator)) 0)
    where
      taken_same : (first_tops second_tops : ℕ → ℕ) (words : ℕ) (choice : Option ℕ) (region : ℕ) → ((any_region : ℕ) → first_tops any_region ≡ second_tops any_region) → taken_in first_tops words choice region ≡ taken_in second_tops words choice region
      taken_same first_tops second_tops words None region same_tops = same_tops region
      taken_same first_tops second_tops words (Some any_region) region same_tops = ap (λ some_top. cond (any_region == region) (some_top + words) (first_tops region)) (same_tops any_region) ∙ ap (λ some_top. cond (any_region == region) (second_tops any_region + words) some_top) (same_tops region)

      found : (other_mutator : ℕ) → memory (Wait other_mutator) ≢ 0 → ((any_region : ℕ) → served config memory other_mutator (Top any_region) ≡ tops other_mutator any_region) → room_for config (served config memory other_mutator) other_mutator ≡ room_at_turn config.region_words config.regions asked top other_mutator
      found other_mutator waits same_tops =
          ap (λ words. lowest_room config.region_words (λ any_region. served config memory other_mutator (Top any_region)) words config.regions) (sym (asks other_mutator waits))
          ∙ same_room config.region_words (λ any_region. served config memory other_mutator (Top any_region)) (tops other_mutator) (asked other_mutator) config.regions (λ any_region _. same_tops any_region)

  -- a thread's words at the end are those after its own turn
  final_answer : (mutator : ℕ) → refused (served config memory config.mutators) (Answer mutator) ≡ cond (served config memory config.mutators (Wait mutator) == 0) (served config memory config.mutators (Answer mutator)) 1
  unfolding refused
  final_answer mutator = refl

  nobody_waits : (mutator : ℕ) → refused (served config memory config.mutators) (Wait mutator) ≡ 0
  unfolding refused
  nobody_waits mutator = refl

  answered_as : (mutator answer : ℕ) → served config memory config.mutators (Wait mutator) ≡ 0 → served config memory config.mutators (Answer mutator) ≡ answer → refused (served config memory config.mutators) (Answer mutator) ≡ answer
  answered_as mutator answer no_wait answer_is =
      final_answer mutator ∙ cond-true (served config memory config.mutators (Wait mutator) == 0) (served config memory config.mutators (Answer mutator)) 1 (eq-eqb (served config memory config.mutators (Wait mutator)) 0 no_wait) ∙ answer_is

  module _ (mutator : ℕ) (mutator_below : mutator < config.mutators) where
    -- who does not wait is passed over
    passed_over : memory (Wait mutator) ≡ 0 → refused (served config memory config.mutators) (Answer mutator) ≡ memory (Answer mutator)
    passed_over no_wait =
        let same_before = before_turn config memory mutator mutator (omega arith) in
        let same_after = after_turn config memory config.mutators mutator mutator_below in
        answered_as mutator (memory (Answer mutator))
        (same_after.0 ∙ turn_idle config memory mutator (Wait mutator) (same_before.0 ∙ no_wait) ∙ same_before.0 ∙ no_wait)
        (same_after.1 ∙ turn_idle config memory mutator (Answer mutator) (same_before.0 ∙ no_wait) ∙ same_before.1)

    module _ (has_request : memory (Wait mutator) ≢ 0) where
      waits : served config memory mutator (Wait mutator) ≢ 0
      waits no_wait = has_request (sym (before_turn config memory mutator mutator (omega arith)).0 ∙ no_wait)

      -- the region that is found at the turn
      finds : (found : Option ℕ) → lowest_room config.region_words (tops_at_turn config memory mutator) (asked mutator) config.regions ≡ found → room_for config (served config memory mutator) mutator ≡ found
      finds found lowest_found = ap (λ words. lowest_room config.region_words (tops_at_turn config memory mutator) words config.regions) (sym (asks mutator has_request)) ∙ lowest_found

      -- a request that finds room is answered by the address
      given_room : (region : ℕ) → IsLowestRoom config.region_words (tops_at_turn config memory mutator) (asked mutator) config.regions region → refused (served config memory config.mutators) (Answer mutator) ≡ base_of config region + tops_at_turn config memory mutator region
      given_room region lowest =
          let room = finds (Some region) (lowest_is config.region_words (tops_at_turn config memory mutator) (asked mutator) config.regions region lowest) in
          let same_after = after_turn config memory config.mutators mutator mutator_below in
          answered_as mutator (base_of config region + tops_at_turn config memory mutator region)
          (same_after.0 ∙ turn_waits config memory mutator (Wait mutator) waits ∙ ap (λ found_room. served_in config (served config memory mutator) mutator found_room (Wait mutator)) room ∙ own_wait config (served config memory mutator) mutator region)
          (same_after.1 ∙ turn_waits config memory mutator (Answer mutator) waits ∙ ap (λ found_room. served_in config (served config memory mutator) mutator found_room (Answer mutator)) room ∙ own_answer config (served config memory mutator) mutator region)

      -- a request that finds none is refused
      refused_room : NoneHasRoom config.region_words (tops_at_turn config memory mutator) (asked mutator) config.regions → refused (served config memory config.mutators) (Answer mutator) ≡ 1
      refused_room none_fits =
          let room = finds None (all_full config.region_words (tops_at_turn config memory mutator) (asked mutator) config.regions none_fits) in
          let same_after = after_turn config memory config.mutators mutator mutator_below in
          let still_waits : served config memory config.mutators (Wait mutator) ≡ memory (Wait mutator) =
          same_after.0 ∙ turn_waits config memory mutator (Wait mutator) waits ∙ ap (λ found_room. served_in config (served config memory mutator) mutator found_room (Wait mutator)) room ∙ (before_turn config memory mutator mutator (omega arith)).0 in
          final_answer mutator ∙ cond-false (served config memory config.mutators (Wait mutator) == 0) (served config memory config.mutators (Answer mutator)) 1
          (ne_eqb (served config memory config.mutators (Wait mutator)) 0 (λ is_zero. has_request (sym still_waits ∙ is_zero)))

      -- it finds one or none
      one_or_none : (found : Option ℕ) → lowest_room config.region_words (tops_at_turn config memory mutator) (asked mutator) config.regions ≡ found
          → ((region : ℕ) × IsLowestRoom config.region_words (tops_at_turn config memory mutator) (asked mutator) config.regions region) ⊎ NoneHasRoom config.region_words (tops_at_turn config memory mutator) (asked mutator) config.regions
      one_or_none None lowest_found = inr (none_has_room config.region_words (tops_at_turn config memory mutator) (asked mutator) config.regions lowest_found)
      one_or_none (Some region) lowest_found = inl (region, has_room config.region_words (tops_at_turn config memory mutator) (asked mutator) config.regions region lowest_found)

      -- a request that is left is crowded out
      left_among_granted : (test : ℕ → Bool) → NoneHasRoom config.region_words (tops_at_turn config memory mutator) (asked mutator) config.regions → asked mutator ≤ config.region_words
          → count_where test config.regions * (config.region_words - asked mutator + 1) ≤ tops_where test top config.regions + sum_below (given_in config memory) mutator
      left_among_granted test none_fits asked_short =
          refused_among_granted config.region_words config.regions asked top mutator test asked_short
          (all_full config.region_words (tops mutator) (asked mutator) config.regions (λ region region_below. let tops_same = tops_are_served mutator region in omega (arith, none_fits region region_below, tops_same)))

      is_answered : IsAnswered config memory mutator
      is_answered = record {
        given = given_room;
        full = refused_room;
        either = one_or_none (lowest_room config.region_words (tops_at_turn config memory mutator) (asked mutator) config.regions) refl;
        crowded = left_among_granted;
      }

  pub requests_are_answered : RequestsAreAnswered config memory
  requests_are_answered = record {
    answered = is_answered;
    others = passed_over;
    none_waits = nobody_waits;
    sum = λ mutator. sum_same (tops_at_turn config memory mutator) (tops mutator) config.regions (λ region _. tops_are_served mutator region) ∙ served_is config.region_words config.regions asked top mutator;
  }
