-- What holds of the opening: one object, the hub, at the base of region 0.
use Rattle.heap_words.specs.Phases.{idle_phase}
use Rattle.std.proofs.Common.{◌≡◌, ◌≢◌, ℕ, zero, suc, ◌+◌, ◌<◌, ◌≤◌, ⊎_elim, Bool, true, false, [], length, Some, None, refl, sym, ap, ◌∙◌, subst, arith}
use Rattle.std.specs.Prelude.{nat_lt, ◌^◌, ◌*◌, ◌==◌, if◌then◌else◌}
use Rattle.std.proofs.lemmas.List.FromFn.{get_or-map-range_with_len, length-map-range_with_len}
use Rattle.std.proofs.lemmas.Option.{cond_some, none-some, slice_get_within, get_or_from_slice_get}
use Rattle.std.specs.Int.{bit_at}
use Rattle.std.proofs.lemmas.Nat.Bits.{bit_at_lowest}
use Rattle.std.proofs.lemmas.Nat.{pow_pos}
use Rattle.std.proofs.Math.Nat.{pow-succ'}
use Rattle.std.proofs.lemmas.Bool.{cases_eq, and_right, cond-false, ne_eqb, eqb-true, ltb-true, ltb-false}
use Rattle.std.proofs.lemmas.Bool.Decides.{nat_tests}
use Rattle.heap_words.specs.declared.config.Config.{Config}
use Rattle.heap_words.specs.Ranges.{seat_count}
use Rattle.std.specs.Prelude.{List}
use Rattle.shen_graph.proofs.Lists.{all_alike}
use Rattle.heap_words.specs.Steps.{Event}
use Rattle.shen_graph.specs.declared.order.Order.{Order}
use Rattle.regions.specs.Place.{base_of}
use Rattle.heap_words.specs.Words.{Word, same_word, Pause, State, Top, Tams, Root, Pin, Heap, Phase, Cset, Free, Evac, Claim, Current, Count, Buffer, Wait, Answer, Grey, Black, view, Share}
use Rattle.shen_graph.specs.declared.name.Name.{Name}
use Rattle.shen_graph.specs.declared.command.Command.TheVariants.{Gc}
use Rattle.shen_graph.specs.Graph.{Object, hub, same_name, blank}
use Rattle.mutator.specs.Rows.{fresh_mutator}
use Rattle.step_core.specs.Actor.{mutating, fresh_helper, fresh_control}
use Rattle.step_core.specs.Opening.{opening_actor, opening, first_free}
use Rattle.heap_world.specs.World.{World, Plot, Block, thing, moved, spent, hand, promised, dead, filler, spare, carved, no_ghost, words_of, room_of, HasNoRoom, name_at, Points, IsInUse, IsPlotted, IsFilled, IsThing, IsGiven, AreObjects, IsFreeWord, IsUsable, IsEvacuating, Shared}
use Rattle.heap_world.specs.Asking.{nothing}
use Rattle.heap_world.specs.Represents.{Represents}
use Rattle.step_core.specs.Begins.{HasCalledNothing, IsCalmOutside, Begins, Run, first_graph}
use Rattle.step_core.proofs.Mutators.Roots.{no_more_opening, no_more_pins_opening}
use Rattle.shen_graph.proofs.PlainLemmas.{same_name-true}
use Rattle.heap_world.proofs.Roomless.{rooms_none}
use Rattle.heap_world.proofs.Keeping.{usable_now}
use Rattle.heap_world.proofs.Copies.{none_evacuated}
use Rattle.heap_world.proofs.Unmarked.{none_marked}
use Rattle.step_core.proofs.Theorem.OpeningStands.{rooted_memory, first_memory, view-opening, length-opening}

-- the hub alone
abbrev first_block : Config → Plot
first_block config address = if address == config.region_words then Some (thing hub 16 0) else None

-- what the opening stands for
abbrev first_world : Config → World
first_world config = record { memory = first_memory config; block = first_block config; ghost = no_ghost; graph = first_graph config }

-- the roots leave each other word as it was
rooted_else : (config : Config) (word : Word) → ((mutator : ℕ) → same_word (Root mutator 0) word ≡ false) → (mutators : ℕ) → rooted_memory config mutators word ≡ 0
rooted_else config word other_word zero = refl
rooted_else config word other_word (suc mutator) = cond-false (same_word (Root mutator 0) word) _ _ (other_word mutator) ∙ rooted_else config word other_word mutator

-- the first root of each mutator is the hub
rooted_root : (config : Config) (mutators mutator : ℕ) → mutator < mutators → rooted_memory config mutators (Root mutator 0) ≡ config.region_words
rooted_root config zero mutator mutator_below = absurd (omega arith)
rooted_root config (suc mutators) mutator mutator_below = ⊎_elim
    (λ (last_mutator : mutators ≡ mutator). grind (arith, nat_tests))
    (λ (mutators_differ : mutators ≡ mutator → ⊥). let root_below : rooted_memory config mutators (Root mutator 0) ≡ config.region_words = rooted_root config mutators mutator (omega arith) in grind (arith, nat_tests))
    (cases_eq mutators mutator)

-- the words of the hub
heap_first : (config : Config) → first_memory config (Heap config.region_words) ≡ 1
heap_first config = grind (arith, nat_tests)

-- its shape
heap_second : (config : Config) → first_memory config (Heap (config.region_words + 1)) ≡ 69632
heap_second config = grind (arith, nat_tests)

-- its name
heap_third : (config : Config) → first_memory config (Heap (config.region_words + 2)) ≡ 1
heap_third config = grind (arith, nat_tests)

-- its fields are null
heap_later : (config : Config) (offset : ℕ) → 3 ≤ offset → first_memory config (Heap (config.region_words + offset)) ≡ 0
heap_later config offset later = let other_word = rooted_else config (Heap (config.region_words + offset)) (λ i. refl) config.mutators in grind (arith, nat_tests)

-- only region 0 has a top
top_other : (config : Config) (region : ℕ) → region ≢ 0 → first_memory config (Top region) ≡ 0
top_other config region other_region = let other_word = rooted_else config (Top region) (λ k. refl) config.mutators in grind (arith, nat_tests)

-- the hub is the only piece
block_only : (config : Config) (address : ℕ) (piece : Block) → first_block config address ≡ Some piece → (address ≡ config.region_words) × (thing hub 16 0 ≡ piece)
block_only config address piece piece_there = let both_same = cond_some (address == config.region_words) (thing hub 16 0) piece piece_there in (eqb-true _ _ both_same.0, both_same.1)

-- it is at the base of region 0
block_hub : (config : Config) → first_block config config.region_words ≡ Some (thing hub 16 0)
block_hub config = let same_base : (config.region_words == config.region_words) ≡ true = grind (arith, nat_tests) in rw same_base refl

-- the hub is the only object
object_only : (config : Config) (name : Name) (object : Object) → (first_graph config).object name ≡ Some object → (name ≡ hub) × (blank 16 0 ≡ object)
object_only config name object object_there = let both_same = cond_some (same_name name hub) (blank 16 0) object object_there in (same_name-true name hub both_same.0, both_same.1)

-- no top is past its region
top_within : (config : Config) (region : ℕ) → first_memory config (Top region) ≤ config.region_words
top_within config region = ⊎_elim
    (λ (first_region : region ≡ 0). subst (λ region. first_memory config (Top region) ≤ config.region_words) (sym first_region) (let least_words = config.in_range.least_words in omega arith))
    (λ (other_region : region ≡ 0 → ⊥). let no_top = top_other config region other_region in omega arith)
    (cases_eq region 0)

-- the hub lies in the part in use
first_plotted : (config : Config) → IsPlotted config (λ region. first_memory config (Top region)) (first_block config)
first_plotted config = record {
  tops = λ region within. top_within config region;
  in_use = λ first_address b piece_there.
      let at_base : first_address ≡ config.region_words = (block_only config first_address b piece_there).0 in
      subst (λ some_piece. IsInUse config (λ region. first_memory config (Top region)) first_address (words_of some_piece)) (block_only config first_address b piece_there).1
      (record { region = 0; within = (let some_regions = config.in_range.least_regions in omega arith); from_base = omega arith; to_top = omega arith });
  apart = λ first_address b some_piece other_piece first_piece second_piece before.
      let first_base = (block_only config first_address some_piece first_piece).0 in let second_base = (block_only config b other_piece second_piece).0 in omega arith;
}

-- the base of region 0
first_base : (config : Config) → base_of config 0 ≡ config.region_words
first_base config = omega arith

-- the part in use is the hub
first_filled : (config : Config) → IsFilled config (λ region. first_memory config (Top region)) (first_block config)
first_filled config = record {
  first = λ region region_within used. ⊎_elim
      (λ (first_region : region ≡ 0). (thing hub 16 0, subst (λ address. first_block config address ≡ Some (thing hub 16 0)) (sym (first_base config) ∙ ap (base_of config) (sym first_region)) (block_hub config)))
      (λ (other_region : region ≡ 0 → ⊥). let no_top = top_other config region other_region in absurd (omega arith))
      (cases_eq region 0);
  next = λ any_region address piece region_within from piece_there end_below.
      let at_base : address ≡ config.region_words = (block_only config address piece piece_there).0 in
      let hub_words : words_of piece ≡ 19 = ap words_of (sym (block_only config address piece piece_there).1) in
      absurd (⊎_elim
      (λ (first_region : any_region ≡ 0).
      let top_filled : first_memory config (Top any_region) ≡ 19 = ap (λ region. first_memory config (Top region)) first_region in
      let start : base_of config any_region ≡ config.region_words = ap (base_of config) first_region ∙ first_base config in
      omega (arith, end_below, top_filled, start, hub_words, at_base))
      (λ (other_region : any_region ≡ 0 → ⊥). let no_top = top_other config any_region other_region in omega (arith, end_below, from, no_top, hub_words, at_base))
      (cases_eq any_region 0));
}

-- the words of the hub are those of a blank object
hub_object : (config : Config) → IsThing (λ address. first_memory config (Heap address)) (first_block config) config.region_words 16 0 hub (blank 16 0)
hub_object config = record {
  header = heap_first config;
  shape = heap_second config;
  name_word = heap_third config;
  few_refs = omega arith;
  few_nums = omega arith;
  refs_are = refl;
  nums_are = refl;
  references = λ index reference element_there.
      subst (λ some_reference. Points (first_block config) (first_memory config (Heap (config.region_words + 3 + index))) some_reference) (sym (all_alike 16 index None reference element_there))
      (ap (λ address. first_memory config (Heap address)) (omega arith) ∙ heap_later config (3 + index) (omega arith));
  numbers = λ index number element_there. cc;
}

-- the words are those of the graph's one object
first_objects : (config : Config) → AreObjects (λ address. first_memory config (Heap address)) (first_block config) (first_graph config).object
first_objects config = record {
  each = λ place refs nums name piece_there.
      let at_base : config.region_words ≡ place = sym (block_only config place _ piece_there).0 in
      let same_thing = (block_only config place _ piece_there).1 in
      let hub_named : hub ≡ name = cc in
      let sizes : 16 ≡ refs = cc in
      let no_numbers : 0 ≡ nums = cc in (
        blank 16 0,
        ap (λ name. (first_graph config).object name) (sym hub_named),
        subst (λ any_name. IsThing (λ address. first_memory config (Heap address)) (first_block config) place refs nums any_name (blank 16 0)) hub_named
            (subst (λ other_address. IsThing (λ address. first_memory config (Heap address)) (first_block config) other_address refs nums hub (blank 16 0)) at_base
            (subst (λ any_refs. IsThing (λ address. first_memory config (Heap address)) (first_block config) config.region_words any_refs nums hub (blank 16 0)) sizes
            (subst (λ any_nums. IsThing (λ address. first_memory config (Heap address)) (first_block config) config.region_words 16 any_nums hub (blank 16 0)) no_numbers (hub_object config)))),
      );
  once = λ place other_address refs nums other_refs other_nums name first_there second_there. (block_only config place _ first_there).0 ∙ sym (block_only config other_address _ second_there).0;
}

-- region 0 is not free
first_free_even : (regions : ℕ) → 1 ≤ regions → bit_at (first_free regions) 0 ≡ 0
first_free_even zero some_regions = absurd (omega arith)
first_free_even (suc regions) some_regions =
    let double : 2 ^ suc regions ≡ 2 * 2 ^ regions = pow-succ' 2 regions in
    let lowest = bit_at_lowest (first_free (suc regions)) in
    omega (arith, double, lowest)

-- no region past the last is free
first_free_small : (regions : ℕ) → first_free regions < 2 ^ regions
first_free_small regions = let some_power = pow_pos regions in omega (arith, some_power)

-- region 0 is in use, and no other has a top
first_free_word : (config : Config) → IsFreeWord config (first_memory config Free) (λ region. first_memory config (Top region)) (λ _. None)
first_free_word config = record {
  no_more = first_free_small config.regions;
  empty = λ region region_within bit. ⊎_elim
      (λ (first_region : region ≡ 0).
      let bit_set : bit_at (first_free config.regions) 0 ≡ 1 = subst (λ some_region. bit_at (first_free config.regions) some_region ≡ 1) first_region bit in
      let bit_even = first_free_even config.regions (let some_regions = config.in_range.least_regions in omega (arith, some_regions)) in
      absurd (omega (arith, sym bit_even ∙ bit_set)))
      (λ (other_region : region ≡ 0 → ⊥). top_other config region other_region)
      (cases_eq region 0);
  nobodys = λ asked_region region_within bit. refl;
}

-- the phase is 0
first_phase : (config : Config) → first_memory config Phase ≡ idle_phase
first_phase config = rooted_else config Phase (λ k. refl) config.mutators

-- nothing is promised
none_promised : (config : Config) (address seat words : ℕ) → first_block config address ≡ Some (promised seat words) → ⊥
none_promised config address seat words promise_there = let same_piece = (block_only config address (promised seat words) promise_there).1 in cc

-- no piece is room
no_room : (config : Config) → HasNoRoom (first_block config)
no_room config address seat piece piece_there room = none-some seat (ap room_of (block_only config address piece piece_there).1 ∙ room)

-- no copy is old
none_moved : (config : Config) (address refs nums new_address : ℕ) (name : Name) → first_block config address ≡ Some (moved name refs nums new_address) → ⊥
none_moved config address refs nums new_address name moved_there = let same_piece = (block_only config address (moved name refs nums new_address) moved_there).1 in cc

none_spent : (config : Config) (address words new_address : ℕ) → first_block config address ≡ Some (spent words new_address) → ⊥
none_spent config address words new_address spent_there = let same_piece = (block_only config address (spent words new_address) spent_there).1 in cc

-- the collection set is empty, and nobody copies
first_set : (config : Config) → first_memory config Cset ≡ 0
first_set config = rooted_else config Cset (λ k. refl) config.mutators

first_counter : (config : Config) → first_memory config Evac ≡ 0
first_counter config = rooted_else config Evac (λ k. refl) config.mutators

first_evacuated : (config : Config)
    → IsEvacuating config (first_memory config Phase) (first_memory config Cset) (first_memory config Evac) (first_memory config Claim) (first_memory config Free) (λ region. first_memory config (Top region)) (λ region. first_memory config (Tams region)) (λ address. first_memory config (Heap address)) (λ number. first_memory config (Black number))
    (first_block config) (λ any_region. None) (λ seat. false) (λ seat. None)
first_evacuated config =
    subst (λ some_set. IsEvacuating config (first_memory config Phase) some_set (first_memory config Evac) (first_memory config Claim) (first_memory config Free) (λ region. first_memory config (Top region)) (λ region. first_memory config (Tams region)) (λ address. first_memory config (Heap address)) (λ number. first_memory config (Black number))
    (first_block config) (λ any_region. None) (λ seat. false) (λ seat. None)) (sym (first_set config))
    (subst (λ evac. IsEvacuating config (first_memory config Phase) 0 evac (first_memory config Claim) (first_memory config Free) (λ region. first_memory config (Top region)) (λ region. first_memory config (Tams region)) (λ address. first_memory config (Heap address)) (λ number. first_memory config (Black number))
    (first_block config) (λ any_region. None) (λ seat. false) (λ seat. None)) (sym (first_counter config))
    (none_evacuated config (first_memory config Phase) (first_memory config Claim) (first_memory config Free) (λ region. first_memory config (Top region)) (λ region. first_memory config (Tams region)) (λ address. first_memory config (Heap address)) (λ number. first_memory config (Black number))
    (first_block config) (λ any_region. None) (λ seat. false) (λ seat. None) (λ late. (let no_phase = first_phase config in omega (arith, no_phase, late))) (none_moved config) (none_spent config) (λ seat seat_below. refl)))

-- what machines share holds of the opening
first_shared : (config : Config) → Shared config (first_world config)
first_shared config = record {
  parsable = record {
    plotted = first_plotted config;
    filled = first_filled config;
    promises = λ place seat words piece_there. absurd (none_promised config place seat words piece_there);
    deads = λ place words piece_there. absurd (let same_piece = (block_only config place (dead words) piece_there).1 in cc);
    spents = λ place words new_address piece_there. absurd (none_spent config place words new_address piece_there);
    fillers = λ place words piece_there. absurd (let same_piece = (block_only config place (filler words) piece_there).1 in cc);
  };
  contents = record {
    objects = first_objects config;
    given = λ any_name object piece_there.
        subst (λ any_name. IsGiven config (λ any_thread. 0) any_name) (sym (object_only config any_name object piece_there).0)
        (record { thread = omega arith; made = omega arith; by_thread = λ some_thread. absurd (omega arith); small = omega arith });
  };
  owned = record {
    free_word = first_free_word config;
    shared_one = λ any_region piece_there. let word_zero = rooted_else config Share (λ k. refl) config.mutators in absurd (omega (arith, word_zero, piece_there));
    rooms = rooms_none config (first_block config) (no_room config);
    buffers = record {
      each = λ seat some_buffer. absurd (some_buffer (rooted_else config (Current seat) (λ k. refl) config.mutators));
      spares = λ place seat words piece_there. absurd (no_room config place seat (spare seat words) piece_there refl);
    };
    outside = λ seat some_buffer. absurd (some_buffer (rooted_else config (Current seat) (λ k. refl) config.mutators));
  };
  phased = record { phase_is = (let word_zero = first_phase config in omega (arith, word_zero)); cset_is = λ other_phase. rooted_else config Cset (λ k. refl) config.mutators; evac_is = λ other_phase. rooted_else config Evac (λ k. refl) config.mutators };
  unwritten = record { blanks = λ address seat words piece_there. absurd (none_promised config address seat words piece_there); headers = λ address words piece_there. absurd (let same_piece = (block_only config address (dead words) piece_there).1 in cc); lengths = λ place words piece_there. absurd (let same_piece = (block_only config place (dead words) piece_there).1 in cc); fillers = λ place words piece_there. (let same_piece = (block_only config place (filler words) piece_there).1 in cc) };
  marked = none_marked config (first_memory config Phase) (λ number. first_memory config (Grey number)) (λ number. first_memory config (Black number)) (λ mutator. first_memory config (Count mutator)) (λ mutator entry. first_memory config (Buffer mutator entry)) (λ region. first_memory config (Top region))
      (λ region. first_memory config (Tams region)) (λ address. first_memory config (Heap address)) (first_block config) (λ seat. None) (λ seat. None) (first_phase config);
  evacuated = first_evacuated config;
  updated = λ phase_three. absurd (let word_zero = first_phase config in omega (arith, word_zero, phase_three));
  pinned = λ mutator slot mutator_below small. rooted_else config (Pin mutator slot) (λ k. refl) config.mutators;
}

-- the words of the roots stand for the graph's
first_roots : (config : Config) (mutator index : ℕ) → mutator < config.mutators → Points (first_block config) (first_memory config (Root mutator index)) ((first_graph config).root (mutator + 1) index)
first_roots config mutator index mutator_below = ⊎_elim
    (λ (first_index : index ≡ 0).
    subst (λ index. Points (first_block config) (first_memory config (Root mutator index)) ((first_graph config).root (mutator + 1) index)) (sym first_index) zeroth)
    (λ (later_index : index ≡ 0 → ⊥).
    let no_root : (first_graph config).root (mutator + 1) index ≡ None = grind (arith, nat_tests) in
    rw no_root (rooted_else config (Root mutator index) (λ thread. and_right _ _ (ne_eqb 0 index (λ same_index. later_index (sym same_index)))) config.mutators))
    (cases_eq index 0)
  where
    zeroth : Points (first_block config) (first_memory config (Root mutator 0)) ((first_graph config).root (mutator + 1) 0)
    zeroth =
        let named : (first_graph config).root (mutator + 1) 0 ≡ Some hub = grind (arith, nat_tests) in
        let at_hub : name_at (first_block config (first_memory config (Root mutator 0))) ≡ Some hub =
        ap (λ any_address. name_at (first_block config any_address)) (rooted_root config config.mutators mutator mutator_below) ∙ ap name_at (block_hub config) in
        subst (λ reference. Points (first_block config) (first_memory config (Root mutator 0)) reference) (sym named) at_hub

-- its words stand for the graph of the opening, and nothing is asked
first_stands : (config : Config) → Represents config (first_memory config) (first_graph config) (λ thread. nothing)
first_stands config = record {
  block = first_block config;
  ghost = no_ghost;
  shared = first_shared config;
  roots = λ mutator index mutator_below index_small. first_roots config mutator index mutator_below;
  usable = λ mutator index mutator_below index_small. subst (λ some_set. IsUsable config some_set (first_memory config Evac) (first_block config) (first_memory config (Root mutator index))) (sym (first_set config)) (usable_now config (first_memory config Evac) (first_block config) (none_moved config) _ _ (first_roots config mutator index mutator_below));
  none = λ place seat words piece_there. no_room config place seat (hand seat words) piece_there refl;
  uncarved = λ address seat words piece_there. no_room config address seat (carved seat words) piece_there refl;
  asked = λ thread mutator_below. (rooted_else config (Wait thread) (λ k. refl) config.mutators, rooted_else config (Answer thread) (λ k. refl) config.mutators, λ place words piece_there. none_promised config place thread words piece_there);
  heard = λ thread refs nums mutator_below piece_there. absurd (cc (piece_there));
  promised_to = λ place seat words piece_there. absurd (none_promised config place seat words piece_there);
  unmarking = record { records_none = λ seat mutator_below. refl; scans_none = λ seat mutator_below. refl };
  uncopying = record { copies_none = λ seat mutator_below. refl; works_none = λ seat mutator_below. refl };
  no_more = no_more_opening config.mutators;
  no_more_pins = no_more_pins_opening config.mutators;
}

-- No pause is wanted, no machine is inside, and no mutator has ended.
first_outside : (config : Config) → IsCalmOutside config (first_memory config)
first_outside config = record {
  pause = rooted_else config Pause (λ k. refl) config.mutators;
  states = λ seat seat_below. rooted_else config (State seat) (λ k. refl) config.mutators;
  left = refl;
}

-- each machine of the opening is idle
first_new : (config : Config) (seat : ℕ) → seat < seat_count config.mutators config.helpers → HasCalledNothing config 0 0 (first_graph config) seat (opening_actor config seat)
first_new config seat seat_within = by_test (nat_lt seat config.mutators) (nat_lt seat (config.mutators + config.helpers)) refl refl
  where
    by_test : (holds other_holds : Bool) → nat_lt seat config.mutators ≡ holds → nat_lt seat (config.mutators + config.helpers) ≡ other_holds
        → HasCalledNothing config 0 0 (first_graph config) seat (record { machine = if holds then mutating (fresh_mutator seat) else (if other_holds then fresh_helper seat else fresh_control (first_free config.regions)); command = Gc; calls = [] })
    by_test true other_holds seat_tested helper_tested = record { number_is = (refl, ltb-true _ _ seat_tested); idle = (refl, refl); calls = refl; valid = refl }
    by_test false true seat_tested helper_tested = record { number_is = (refl, ltb-false _ _ seat_tested, ltb-true _ _ helper_tested); idle = refl; calls = refl; valid = refl }
    by_test false false seat_tested helper_tested = record { number_is = (let seat_past = ltb-false _ _ helper_tested in omega (arith, seat_past, seat_within)); idle = (refl, refl, refl, refl); calls = refl; valid = refl }

-- the opening begins its graph
pub opening_begins : (config : Config) → Begins config (opening config) (first_graph config)
unfolding opening
opening_begins config = record {
  words = length-opening config;
  seats = length-map-range_with_len (opening_actor config) 0 (seat_count config.mutators config.helpers);
  stands = subst (λ some_memory. Represents config some_memory (first_graph config) (λ thread. nothing)) (sym (view-opening config)) (first_stands config);
  outside = subst (λ any_memory. IsCalmOutside config any_memory) (sym (view-opening config)) (first_outside config);
  machines = λ number some_actor actor_there.
      let number_within = slice_get_within _ number some_actor actor_there in
      let count : length (opening config).machines ≡ seat_count config.mutators config.helpers = length-map-range_with_len (opening_actor config) 0 (seat_count config.mutators config.helpers) in
      let seat_below : number < seat_count config.mutators config.helpers = omega (arith, number_within, count) in
      let same_actor : opening_actor config number ≡ some_actor =
      sym (get_or-map-range_with_len (opening_actor config) 0 (seat_count config.mutators config.helpers) number number some_actor seat_below (omega arith))
      ∙ get_or_from_slice_get (opening config).machines number some_actor some_actor actor_there in
      subst (λ actor. HasCalledNothing config (view config (opening config).words Phase) (view config (opening config).words Cset) (first_graph config) number actor) same_actor
      (subst (λ phase. HasCalledNothing config phase (view config (opening config).words Cset) (first_graph config) number (opening_actor config number)) (sym (ap (λ some_memory. some_memory Phase) (view-opening config) ∙ first_phase config))
      (subst (λ some_set. HasCalledNothing config 0 some_set (first_graph config) number (opening_actor config number)) (sym (ap (λ some_memory. some_memory Cset) (view-opening config) ∙ first_set config)) (first_new config number seat_below)));
}

-- a run from the opening
abbrev pub opening_run : (config : Config) → List (Event Order) → Run config
opening_run config events = record { start = opening config; graph = first_graph config; begins = opening_begins config; events = events }
