-- Who is refused was crowded out by what lives and is not pinned, what is promised, and what was given before.
use Rattle.std.proofs.Common.{◌≡◌, ◌≢◌, ℕ, ◌+◌, ◌-◌, ◌*◌, ◌/◌, ◌<◌, ◌≤◌, Bool, true, false, not, cond, zero, suc, List, length, get_or, sum_by, Some, ⊎_elim, refl, sym, ap, ◌∙◌, subst, arith}
use Rattle.std.proofs.Math.Nat.{mul-le-mul_right}
use Rattle.std.proofs.lemmas.Bool.{cond_both, cond-true, cond-false, cases_Bool, not_from_true, not_from_false}
use Rattle.std.proofs.lemmas.List.{get_or_default}
use Rattle.heap_words.specs.declared.config.Config.{Config}
use Rattle.heap_words.specs.Words.{Word, Top, Wait, Answer, Pin, Heap}
use Rattle.heap_words.specs.Encoding.{is_forwarded, forwardee_in}
use Rattle.regions.specs.Tops.{sum_below}
use Rattle.regions.specs.SlideLaws.{count_where}
use Rattle.regions.specs.ServedRooms.{NoneHasRoom, IsLowestRoom}
use Rattle.regions.proofs.Sums.{sum_next, sum_none, sum_same, sum_both, sum_of_things}
use Rattle.shen_graph.specs.declared.name.Name.{Name}
use Rattle.shen_graph.specs.Graph.{Graph, named}
use Rattle.shen_graph.specs.Reach.{IsReach, size}
use Rattle.shen_graph.specs.Crowd.{Held, ArePinnedRegions, PinnedRegions}
use Rattle.heap_world.specs.World.{Plot, thing, name_at}
use Rattle.heap_world.proofs.Pointing.{piece_inside}
use Rattle.image_graph.specs.Held.{from_root, IsAmong, HoldsGraph, IsCopy}
use Rattle.image_graph.specs.Pinned.{is_row_pinned}
use Rattle.image_graph.specs.Plot.{heap_end}
use Rattle.image_graph.specs.Full.{now_in, held_words, kept_in, packed, asked_in, full_from}
use Rattle.image_graph.specs.Promised.{Promises, with_promised, AreFresh, promised_words}
use Rattle.image_graph.specs.Image.{RootsStand}
use Rattle.image_graph.specs.RequestsServed.{tops_at_turn, given_in}
use Rattle.image_graph.proofs.Reached.{can_pack, none_at_0}
use Rattle.image_graph.proofs.Rows.{row_is}
use Rattle.image_graph.proofs.PinnedRows.{word_pinned, has_slot}
use Rattle.image_graph.proofs.HeldRoots.{pin_copy, pin_some, pin_among}
use Rattle.image_graph.proofs.ImagesHold.{open_tops_sum}
use Rattle.image_graph.proofs.Walked.{walk_keeps}
use Rattle.image_graph.proofs.Fewer.{ArePinnedThere, open_kept_are_fewer}
use Rattle.image_graph.proofs.TurnWords.{requests_are_answered}

-- so many ones
ones : (n : ℕ) → sum_below (λ k. 1) n ≡ n
ones zero = sum_none (λ k. 1)
ones (suc n) = omega (arith, ones n, sum_next (λ k. 1) n)

-- the numbers that pass a test and those that do not are all
all_counted : (test : ℕ → Bool) (n : ℕ) → count_where (λ number. not (test number)) n + count_where test n ≡ n
all_counted test n =
    let passes : ℕ → ℕ = λ number. cond (test number) 1 0 in
    let fails : ℕ → ℕ = λ number. cond (not (test number)) 1 0 in
    let constant_one : ℕ → ℕ = λ number. 1 in
    let same_sums = sum_same (λ number. fails number + passes number) constant_one n (λ number _. ⊎_elim
    (λ (met : test number ≡ true). let counts_one = cond-true {A = ℕ} (test number) 1 0 met in let counts_none = cond-false {A = ℕ} (not (test number)) 1 0 (not_from_true (test number) met) in omega (arith, counts_one, counts_none))
    (λ (unmet : test number ≡ false). let counts_none = cond-false {A = ℕ} (test number) 1 0 unmet in let counts_one = cond-true {A = ℕ} (not (test number)) 1 0 (not_from_false (test number) unmet) in omega (arith, counts_one, counts_none))
    (cases_Bool (test number))) in
    omega (arith, sum_both fails passes n, same_sums, ones n)

module _ (config : Config) (memory : Word → ℕ) (block : Plot) (graph : Graph) (promises : Promises)
    (holds : HoldsGraph config (λ any_region. memory (Top any_region)) (λ any_address. memory (Heap any_address)) block (now_in memory) (IsAmong (held_words config memory)) (with_promised graph promises)) (rooted : RootsStand config memory block graph promises) where
  abbrev shut : ℕ → Bool
  shut = is_row_pinned config memory

  abbrev kept : ℕ → ℕ
  kept = kept_in config memory

  -- what a slot holds is kept at its place, in a region that is pinned
  pub pinned_there : ArePinnedThere config.region_words shut block kept graph
  pinned_there given_thread slot pinned pin_holds =
      let pin_place = rooted.no_more_pins given_thread slot pinned pin_holds in
      let same_pin : graph.pin (pin_place.0 + 1) slot ≡ Some pinned = ap (λ thread. graph.pin thread slot) (sym pin_place.2) ∙ pin_holds in
      let word = memory (Pin pin_place.0 slot) in
      let copy = pin_copy memory block word (graph.pin (pin_place.0 + 1) slot) pinned (rooted.pins pin_place.0 slot pin_place.1 pin_place.3) same_pin in
      let piece = copy.1 in
      let lies_inside = piece_inside config (λ region. memory (Top region)) block holds.plotted word (thing pinned.name piece.0 piece.1) piece.2 in
      let not_zero = none_at_0 config (λ region. memory (Top region)) block holds.plotted word pinned.name (ap name_at piece.2) in
      let closed = word_pinned config memory pin_place.0 slot pin_place.1 pin_place.3 lies_inside.0 (omega (arith, lies_inside.1)) in
      let own_copy : now_in memory word ≡ word = cond-false (is_forwarded (memory (Heap word))) (forwardee_in (memory (Heap word))) word copy.2 in
      let led = (walk_keeps config memory block (with_promised graph promises) holds).words (now_in memory word)
      (from_root word (pin_among config (λ region. memory (Top region)) memory block graph promises holds.plotted rooted pin_place.0 slot pin_place.1 pin_place.3) not_zero) in
      let size : kept (now_in memory word) ≡ kept word = ap kept own_copy in
      let kept_some : 0 < kept word = omega (arith, led, size) in
      (subst (λ any_address. 0 < kept any_address) copy.0 kept_some, ap (λ any_address. shut (any_address / config.region_words)) (sym copy.0) ∙ closed, subst (λ any_address. IsCopy block any_address pinned.name) copy.0 piece)

  module _ (rows : List ℕ) (regions : ArePinnedRegions config.region_words graph rows) where
    -- the row of a pinned region is that of a slot's object
    abbrev HasRow : ℕ → Type 0
    HasRow row = (index : ℕ) × (index < length rows) × (get_or rows index 0 ≡ row + 1)

    row_listed : (region : ℕ) → region < config.regions → shut (region + 1) ≡ true → HasRow region
    row_listed region inside closed =
        let slot_found = has_slot config memory region inside closed in
        let word = memory (Pin slot_found.0 slot_found.1) in
        let stands = rooted.pins slot_found.0 slot_found.1 slot_found.2 slot_found.3 in
        let some_word : word ≢ 0 = λ no_word. omega (arith, no_word, slot_found.4, config.in_range.least_words) in
        let slot_held = pin_some memory block word (graph.pin (slot_found.0 + 1) slot_found.1) stands some_word in
        let copy = pin_copy memory block word (graph.pin (slot_found.0 + 1) slot_found.1) slot_held.0 stands slot_held.1 in
        let row : slot_held.0.place / config.region_words ≡ region + 1 = ap (λ place. place / config.region_words) (sym copy.0) ∙ row_is config.region_words region word slot_found.4 slot_found.5 in
        let found = regions.all (slot_found.0 + 1) slot_found.1 slot_held.0 slot_held.1 in
        (found.0, found.1, get_or_default rows found.0 0 (slot_held.0.place / config.region_words) found.1 ∙ found.2 ∙ row)

    abbrev one : ℕ → ℕ
    one region = cond (shut (region + 1)) 1 0

    shut_if : (region : ℕ) → 0 < one region → shut (region + 1) ≡ true
    shut_if region positive = ⊎_elim
        (λ (closed : shut (region + 1) ≡ true). closed)
        (λ (opened : shut (region + 1) ≡ false). absurd (let not_counted = cond-false {A = ℕ} (shut (region + 1)) 1 0 opened in omega (arith, not_counted, positive)))
        (cases_Bool (shut (region + 1)))

    one_at_most : (region : ℕ) → one region ≤ 1
    one_at_most region = cond_both (shut (region + 1)) 1 0 (λ value. value ≤ 1) (λ _. omega arith) (λ _. omega arith)

    -- so there are no more pinned regions than rows
    pub few_are_shut : sum_below one config.regions ≤ length rows
    few_are_shut =
        let sums_below = sum_of_things one (λ k. 1) config.regions (length rows)
        (λ region region_below region_counts. let row_found = row_listed region region_below (shut_if region region_counts) in (row_found.0, row_found.1, one_at_most region))
        (λ first_region second_region less_r first_counts less_q second_counts same_row.
        let row_found = row_listed first_region less_r (shut_if first_region first_counts) in
        let other_row_found = row_listed second_region less_q (shut_if second_region second_counts) in
        let rows_same : get_or rows row_found.0 0 ≡ get_or rows other_row_found.0 0 = ap (λ index. get_or rows index 0) same_row in
        omega (arith, rows_same, row_found.2, other_row_found.2))
        in
        omega (arith, sums_below, ones (length rows))

    pub many_are_open : config.regions - length rows ≤ count_where (λ any_region. not (shut (any_region + 1))) config.regions
    many_are_open = omega (arith, few_are_shut, all_counted (λ any_region. shut (any_region + 1)) config.regions)

-- packing leaves what is asked for as it is
same_asked : (config : Config) (memory : Word → ℕ) (shut : ℕ → Bool) (now kept : ℕ → ℕ) (mutator : ℕ) → (packed config shut now kept memory (Wait mutator) ≡ memory (Wait mutator)) × (asked_in (packed config shut now kept memory) mutator ≡ asked_in memory mutator)
unfolding packed
same_asked config memory shut now kept mutator = (refl, refl)

pub full_is_crowded : (config : Config) (memory : Word → ℕ) (block : Plot) (graph : Graph) (promises : Promises) (names : List Name) (held pinned : ℕ)
    → HoldsGraph config (λ region. memory (Top region)) (λ address. memory (Heap address)) block (now_in memory) (IsAmong (held_words config memory)) (with_promised graph promises)
    → RootsStand config memory block graph promises → AreFresh config.mutators graph promises → IsReach graph names → Held graph held → PinnedRegions config.region_words graph pinned
    → (mutator : ℕ) → mutator < config.mutators → memory (Wait mutator) ≢ 0 → asked_in memory mutator ≤ config.region_words → full_from config memory (Answer mutator) ≡ 1
    → (config.regions - pinned) * (config.region_words - asked_in memory mutator + 1)
    ≤ sum_by (λ name. size (named graph (Some name))) names - held + sum_below (promised_words promises) (config.mutators + 1)
    + sum_below (given_in config (packed config (is_row_pinned config memory) (now_in memory) (kept_in config memory) memory)) mutator
full_is_crowded config memory block graph promises names held pinned holds rooted fresh reach is_held regions mutator inside waits short answered_full =
    let now : ℕ → ℕ = now_in memory in
    let kept : ℕ → ℕ = kept_in config memory in
    let shut : ℕ → Bool = is_row_pinned config memory in
    let after : Word → ℕ = packed config shut now kept memory in
    let open_one : ℕ → Bool = λ any_region. not (shut (any_region + 1)) in
    let walk_kept = walk_keeps config memory block (with_promised graph promises) holds in
    let packable = can_pack config (λ region. memory (Top region)) (λ address. memory (Heap address)) block now (IsAmong (held_words config memory)) (with_promised graph promises) holds kept walk_kept in
    let sum = open_tops_sum config memory block (with_promised graph promises).object shut now kept packable in
    let live = open_kept_are_fewer config shut (λ region. memory (Top region)) (λ address. memory (Heap address)) block now kept (IsAmong (held_words config memory)) graph promises names held holds walk_kept fresh reach is_held
    (pinned_there config memory block graph promises holds rooted) (heap_end config) in
    let asked_same = same_asked config memory shut now kept mutator in
    let answered = (requests_are_answered config after).answered mutator inside (λ is_zero. waits (sym asked_same.0 ∙ is_zero)) in
    ⊎_elim
    (λ (room_found : (any_region : ℕ) × IsLowestRoom config.region_words (tops_at_turn config after mutator) (asked_in after mutator) config.regions any_region).
    let answer = answered.given room_found.0 room_found.1 in
    let low : 1 * config.region_words ≤ (room_found.0 + 1) * config.region_words = mul-le-mul_right config.region_words (omega arith) in
    absurd (omega (arith, answered_full, answer, low, config.in_range.least_words)))
    (λ (no_room : NoneHasRoom config.region_words (tops_at_turn config after mutator) (asked_in after mutator) config.regions).
    let crowded = answered.crowded open_one no_room (omega (arith, asked_same.1, short)) in
    let many : config.regions - pinned ≤ count_where open_one config.regions = omega (arith, many_are_open config memory block graph promises holds rooted regions.0 regions.1, regions.2) in
    let product : (config.regions - pinned) * (config.region_words - asked_in memory mutator + 1) ≤ count_where open_one config.regions * (config.region_words - asked_in memory mutator + 1) =
    mul-le-mul_right (config.region_words - asked_in memory mutator + 1) many in
    let asked : count_where open_one config.regions * (config.region_words - asked_in after mutator + 1) ≡ count_where open_one config.regions * (config.region_words - asked_in memory mutator + 1) =
    ap (λ (name : ℕ). count_where open_one config.regions * (config.region_words - name + 1)) asked_same.1 in
    omega (arith, crowded, product, asked, sum, live))
    answered.either
