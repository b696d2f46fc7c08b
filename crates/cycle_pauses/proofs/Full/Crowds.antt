-- Who is refused was crowded out by live objects and by what was made for other mutators.
use Rattle.std.proofs.Common.{◌≡◌, ◌≢◌, ℕ, ◌+◌, ◌-◌, ◌*◌, ◌<◌, ◌≤◌, ◌==◌, cond, zero, suc, nat_lt, Option, Some, None, ⊎_elim, refl, sym, ap, ◌∙◌, subst, arith, add-zero}
use Rattle.std.proofs.lemmas.Bool.{cond-true, cond-false, cases_lt, cases_eq, eq-eqb, ne_eqb, lt-ltb, le-ltb}
use Rattle.std.proofs.Math.Nat.{mul-le-mul_right}
use Rattle.heap_words.specs.declared.config.Config.{Config}
use Rattle.heap_words.specs.Words.{Word, Top, Wait, Answer}
use Rattle.heap_words.specs.Encoding.{object_words, request_shape_in}
use Rattle.regions.specs.Tops.{sum_below}
use Rattle.regions.specs.ServedRooms.{NoneHasRoom, IsLowestRoom, tops_served, given_by, room_at_turn}
use Rattle.regions.proofs.Sums.{sum_next, sum_none, sum_both, sum_of_none, sum_front, sum_of_two_rows}
use Rattle.regions.proofs.ServedRooms.{all_full}
use Rattle.shen_graph.specs.Graph.{Graph}
use Rattle.heap_world.specs.Asking.{Asking, nothing, asks, refused, given, IsRequest, IsAsked}
use Rattle.heap_world.specs.Change.{words_given, IsCrowded}
use Rattle.heap_world.specs.Represents.{RepresentsByCopies}
use Rattle.image_graph.specs.Full.{packed_in, asked_in, full_from}
use Rattle.image_graph.specs.Promised.{Promises, words_if, promised_words}
use Rattle.image_graph.specs.RequestsServed.{tops_at_turn, given_in}
use Rattle.image_graph.proofs.TurnWords.{tops_are_served, requests_are_answered}
use Rattle.image_graph.proofs.Crowded.{full_is_crowded}
use Rattle.cycle_pauses.proofs.Full.Promises.{promised_ref, promised_refs, promised_nums, promises_of, ref_of, refs_of, nums_of}
use Rattle.cycle_pauses.proofs.Full.Before.{live}
use Rattle.cycle_pauses.proofs.Full.Holding.{request_reads, waits_for, are_fresh, holds_by}
use Rattle.image_graph.proofs.Still.{packed_wait}
use Rattle.cycle_pauses.proofs.Full.SameGraph.{then_of, asked_then}
use Rattle.cycle_pauses.proofs.Full.Reached.{reach_list}
use Rattle.cycle_pauses.proofs.Full.PinnedOnes.{held_ones, pinned_ones}

-- a sum of smaller numbers is not larger
sum_at_most : (smaller larger : ℕ → ℕ) (count : ℕ) → ((index : ℕ) → index < count → smaller index ≤ larger index) → sum_below smaller count ≤ sum_below larger count
sum_at_most smaller larger zero each_less = omega (arith, sum_none smaller, sum_none larger)
sum_at_most smaller larger (suc count) each_less =
    let rest = sum_at_most smaller larger count (λ index index_below. each_less index (omega (arith, index_below))) in
    omega (arith, rest, each_less count (omega arith), sum_next smaller count, sum_next larger count)

-- a sum that ends early as one that goes on with zeros
first_of : (ℕ → ℕ) → ℕ → ℕ → ℕ
first_of f limit index = cond (nat_lt index limit) (f index) 0

sum_first : (f : ℕ → ℕ) (limit count : ℕ) → limit ≤ count → sum_below (first_of f limit) count ≡ sum_below f limit
unfolding first_of
sum_first f limit count within =
    let same_count : limit + (count - limit) ≡ count = omega (arith, within) in
    ap (sum_below (λ index. cond (nat_lt index limit) (f index) 0)) (sym same_count)
    ∙ sum_of_two_rows f (λ index. 0) limit (count - limit) ∙ ap (λ index. sum_below f limit + index) (sum_of_none (λ index. 0) (count - limit) (λ index index_below. refl)) ∙ add-zero (sum_below f limit)

first_inside : (f : ℕ → ℕ) (limit index : ℕ) → index < limit → first_of f limit index ≡ f index
unfolding first_of
first_inside f limit index index_below = cond-true (nat_lt index limit) (f index) 0 (lt-ltb index limit index_below)

first_past : (f : ℕ → ℕ) (limit index : ℕ) → limit ≤ index → first_of f limit index ≡ 0
unfolding first_of
first_past f limit index index_past = cond-false (nat_lt index limit) (f index) 0 (le-ltb index limit index_past)

first_few : (f : ℕ → ℕ) (limit index : ℕ) → first_of f limit index ≤ f index
first_few f limit index = ⊎_elim
    (λ (index_below : index < limit). omega (arith, first_inside f limit index index_below))
    (λ index_past. omega (arith, first_past f limit index index_past))
    (cases_lt index limit)

-- 0 words are given as 0 words
given_nothing : (found : Option ℕ) → given_by found 0 ≡ 0
given_nothing None = refl
given_nothing (Some region) = refl

given_most : (found : Option ℕ) (words : ℕ) → given_by found words ≤ words
given_most None words = omega arith
given_most (Some region) words = omega arith

module _ (config : Config) (memory : Word → ℕ) where
  -- who does not wait is given nothing
  idle_given : (mutator : ℕ) → memory (Wait mutator) ≡ 0 → given_in config memory mutator ≡ 0
  idle_given mutator no_wait =
      let is_zero : asked_in memory mutator ≡ 0 = cond-true (memory (Wait mutator) == 0) 0 (object_words (request_shape_in (memory (Wait mutator)))) (eq-eqb (memory (Wait mutator)) 0 no_wait) in
      ap (given_by (room_at_turn config.region_words config.regions (asked_in memory) (λ region. memory (Top region)) mutator)) is_zero ∙ given_nothing (room_at_turn config.region_words config.regions (asked_in memory) (λ region. memory (Top region)) mutator)

  -- and so is who finds no room
  left_given : (mutator : ℕ) → NoneHasRoom config.region_words (tops_at_turn config memory mutator) (asked_in memory mutator) config.regions → given_in config memory mutator ≡ 0
  left_given mutator no_room =
      ap (λ place. given_by place (asked_in memory mutator))
      (all_full config.region_words (tops_served config.region_words config.regions (asked_in memory) (λ region. memory (Top region)) mutator) (asked_in memory mutator) config.regions
      (λ full_region region_below. let same_top = tops_are_served config memory mutator full_region in omega (arith, no_room full_region region_below, same_top)))

module _ (config : Config) (memory : Word → ℕ) (graph : Graph) (asking : ℕ → Asking) (represents_by_copies : RepresentsByCopies config memory graph asking) where
  abbrev promises : Promises
  promises = promises_of config graph asking

  abbrev after : Word → ℕ
  after = packed_in config memory

  -- what is asked for
  asked_words : (mutator refs nums : ℕ) → IsRequest memory graph.count mutator refs nums → asked_in after mutator ≡ 3 + refs + nums
  asked_words mutator refs nums request =
      let reads = request_reads memory graph.count mutator refs nums request in
      let waits = waits_for memory graph.count mutator refs nums request in
      cond-false (after (Wait mutator) == 0) 0 (object_words (request_shape_in (after (Wait mutator)))) (ne_eqb (after (Wait mutator)) 0 (λ no_wait. waits (sym (packed_wait config memory mutator) ∙ no_wait)))
      ∙ ap (λ wait. object_words (request_shape_in wait)) (packed_wait config memory mutator)
      ∙ omega (arith, reads.refs_are, reads.nums_are)

  promised_are : (mutator : ℕ) (told : Asking) → mutator < config.mutators → asking mutator ≡ told → promised_words promises (mutator + 1) ≡ words_given told
  promised_are mutator nothing inside told_is = ap (λ reference. words_if reference (3 + promises.refs (mutator + 1) + promises.nums (mutator + 1))) (ref_of config graph asking mutator inside ∙ ap (promised_ref graph (mutator + 1)) told_is)
  promised_are mutator (asks refs nums) inside told_is = ap (λ reference. words_if reference (3 + promises.refs (mutator + 1) + promises.nums (mutator + 1))) (ref_of config graph asking mutator inside ∙ ap (promised_ref graph (mutator + 1)) told_is)
  promised_are mutator refused inside told_is = ap (λ reference. words_if reference (3 + promises.refs (mutator + 1) + promises.nums (mutator + 1))) (ref_of config graph asking mutator inside ∙ ap (promised_ref graph (mutator + 1)) told_is)
  promised_are mutator (given refs nums) inside told_is =
      let sizes = refs_of config graph asking mutator ∙ ap promised_refs told_is in
      let more_words = nums_of config graph asking mutator ∙ ap promised_nums told_is in
      ap (λ reference. words_if reference (3 + promises.refs (mutator + 1) + promises.nums (mutator + 1))) (ref_of config graph asking mutator inside ∙ ap (promised_ref graph (mutator + 1)) told_is) ∙ omega (arith, sizes, more_words)

  -- what a mutator has been given in all
  given_are : (mutator : ℕ) (told : Asking) → mutator < config.mutators → asking mutator ≡ told → IsAsked memory represents_by_copies.block graph.count mutator told
      → promised_words promises (mutator + 1) + given_in config after mutator ≤ words_given (then_of told (full_from config memory (Answer mutator)))
  given_are mutator nothing inside told_is asked = omega (arith, promised_are mutator nothing inside told_is, idle_given config after mutator (packed_wait config memory mutator ∙ asked.0))
  given_are mutator refused inside told_is asked = omega (arith, promised_are mutator refused inside told_is, idle_given config after mutator (packed_wait config memory mutator ∙ asked.0))
  given_are mutator (given refs nums) inside told_is asked = omega (arith, promised_are mutator (given refs nums) inside told_is, idle_given config after mutator (packed_wait config memory mutator ∙ asked.0))
  given_are mutator (asks refs nums) inside told_is asked =
      let none_promised = promised_are mutator (asks refs nums) inside told_is in
      let waits = waits_for memory graph.count mutator refs nums asked.0 in
      let answered = (requests_are_answered config after).answered mutator inside (λ is_zero. waits (sym (packed_wait config memory mutator) ∙ is_zero)) in
      ⊎_elim
      (λ (room : (room_region : ℕ) × IsLowestRoom config.region_words (tops_at_turn config after mutator) (asked_in after mutator) config.regions room_region).
      let low : 1 * config.region_words ≤ (room.0 + 1) * config.region_words = mul-le-mul_right config.region_words (omega arith) in
      let answer = answered.given room.0 room.1 in
      let not_full : full_from config memory (Answer mutator) ≢ 1 = λ is_full. omega (arith, is_full, answer, low, config.in_range.least_words) in
      let made : words_given (then_of (asks refs nums) (full_from config memory (Answer mutator))) ≡ 3 + refs + nums =
      ap words_given (cond-false (full_from config memory (Answer mutator) == 1) refused (given refs nums) (ne_eqb (full_from config memory (Answer mutator)) 1 not_full)) in
      let given_bound = given_most (room_at_turn config.region_words config.regions (asked_in after) (λ region. after (Top region)) mutator) (asked_in after mutator) in
      omega (arith, none_promised, made, given_bound, asked_words mutator refs nums asked.0))
      (λ (full_up : NoneHasRoom config.region_words (tops_at_turn config after mutator) (asked_in after mutator) config.regions). omega (arith, none_promised, left_given config after mutator full_up))
      answered.either

  module _ (mutator refs nums : ℕ) (inside : mutator < config.mutators) (asks_for : asking mutator ≡ asks refs nums) (was_refused : asked_then config memory graph asking represents_by_copies mutator ≡ refused) where
    request_of : (asking : Asking) → asking ≡ asks refs nums → IsAsked memory represents_by_copies.block graph.count mutator asking → IsRequest memory graph.count mutator refs nums
    request_of asking asked_same asked = (subst (IsAsked memory represents_by_copies.block graph.count mutator) asked_same asked).0

    request : IsRequest memory graph.count mutator refs nums
    request = request_of (asking mutator) asks_for (represents_by_copies.asked mutator inside)

    -- the answer says so
    is_one : full_from config memory (Answer mutator) ≡ 1
    is_one = ⊎_elim
        (λ (full_answer : full_from config memory (Answer mutator) ≡ 1). full_answer)
        (λ (not_full : full_from config memory (Answer mutator) ≢ 1).
        let made : given refs nums ≡ refused =
        sym (cond-false (full_from config memory (Answer mutator) == 1) refused (given refs nums) (ne_eqb (full_from config memory (Answer mutator)) 1 not_full))
        ∙ ap (λ told. then_of told (full_from config memory (Answer mutator))) (sym asks_for) ∙ was_refused in
        cc)
        (cases_eq (full_from config memory (Answer mutator)) 1)

    -- what another mutator has been given
    abbrev others : ℕ → ℕ
    others other_mutator = cond (other_mutator == mutator) 0 (words_given (asked_then config memory graph asking represents_by_copies other_mutator))

    one_of : (other_mutator : ℕ) → other_mutator < config.mutators → promised_words promises (suc other_mutator) + first_of (given_in config after) mutator other_mutator ≤ others other_mutator
    one_of other_mutator mutator_below =
        let next_number : suc other_mutator ≡ other_mutator + 1 = omega arith in
        let promised : promised_words promises (suc other_mutator) ≡ promised_words promises (other_mutator + 1) = ap (promised_words promises) next_number in
        ⊎_elim
        (λ (same_mutator : other_mutator ≡ mutator).
        let none_promised : promised_words promises (other_mutator + 1) ≡ 0 = promised_are other_mutator (asks refs nums) mutator_below (ap asking same_mutator ∙ asks_for) in
        omega (arith, promised, none_promised, first_past (given_in config after) mutator other_mutator (omega (arith, same_mutator))))
        (λ (mutators_differ : other_mutator ≢ mutator).
        let same_words : others other_mutator ≡ words_given (asked_then config memory graph asking represents_by_copies other_mutator) = cond-false (other_mutator == mutator) 0 (words_given (asked_then config memory graph asking represents_by_copies other_mutator)) (ne_eqb other_mutator mutator mutators_differ) in
        omega (arith, promised, same_words, first_few (given_in config after) mutator other_mutator, given_are other_mutator (asking other_mutator) mutator_below refl (represents_by_copies.asked other_mutator mutator_below)))
        (cases_eq other_mutator mutator)

    sum_others : sum_below (promised_words promises) (config.mutators + 1) + sum_below (given_in config after) mutator ≤ sum_below others config.mutators
    sum_others =
        let next_number : suc config.mutators ≡ config.mutators + 1 = omega arith in
        let front : sum_below (promised_words promises) (config.mutators + 1) ≡ 0 + sum_below (λ other_mutator. promised_words promises (suc other_mutator)) config.mutators =
        ap (sum_below (promised_words promises)) (sym next_number) ∙ sum_front (promised_words promises) config.mutators in
        let both_sums = sum_both (λ other_mutator. promised_words promises (suc other_mutator)) (first_of (given_in config after) mutator) config.mutators in
        let sum_less = sum_at_most (λ other_mutator. promised_words promises (suc other_mutator) + first_of (given_in config after) mutator other_mutator) others config.mutators one_of in
        omega (arith, front, both_sums, sum_less, sum_first (given_in config after) mutator config.mutators (omega (arith, inside)))

    pub is_crowded : IsCrowded config graph (asked_then config memory graph asking represents_by_copies) mutator (3 + refs + nums)
    is_crowded =
        let reached = reach_list config memory graph asking represents_by_copies in
        let holds = holds_by config memory graph asking represents_by_copies in
        let words : asked_in memory mutator ≡ 3 + refs + nums = same_words (packed_wait config memory mutator) ∙ asked_words mutator refs nums request in
        let short : asked_in memory mutator ≤ config.region_words = omega (arith, words, request.few_refs, request.few_nums, config.in_range.least_words) in
        let held_pins = held_ones config graph represents_by_copies.no_more_pins in
        let pinned = pinned_ones config graph represents_by_copies.no_more_pins in
        let crowd = full_is_crowded config memory (live config memory graph asking represents_by_copies) graph promises reached.0 held_pins.0 pinned.0 holds.objects holds.rooted (are_fresh config memory graph asking represents_by_copies) reached.1 held_pins.1 pinned.1 mutator inside
        (waits_for memory graph.count mutator refs nums request) short is_one in
        let product : (config.regions - pinned.0) * (config.region_words - asked_in memory mutator + 1) ≡ (config.regions - pinned.0) * (config.region_words - (3 + refs + nums) + 1) =
        ap (λ (n : ℕ). (config.regions - pinned.0) * (config.region_words - n + 1)) words in
        (reached.0, held_pins.0, pinned.0, reached.1, held_pins.1, pinned.1, omega (arith, crowd, product, sum_others))
      where
        same_words : after (Wait mutator) ≡ memory (Wait mutator) → asked_in memory mutator ≡ asked_in after mutator
        same_words same_wait = ap (λ wait. cond (wait == 0) 0 (object_words (request_shape_in wait))) (sym same_wait)
