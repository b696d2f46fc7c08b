-- Where marking has run, evacuation can begin once it is ended.
use Rattle.std.proofs.Common.{◌≡◌, ◌≢◌, ℕ, ◌+◌, ◌<◌, ◌≤◌, ◌==◌, nat_le, Bool, true, false, Option, None, map, ap, ◌∙◌, subst, ⊎_elim, arith}
use Rattle.std.specs.Prelude.{Contains}
use Rattle.std.specs.List.{range_with_len}
use Rattle.std.specs.Int.{bit_at}
use Rattle.std.proofs.lemmas.Bool.{cases_Bool, cond-false, cond_both, and_parts, leb-true, eqb-true, false_from_ne_true}
use Rattle.std.proofs.lemmas.List.Elements.{Contains-append_cases}
use Rattle.std.proofs.lemmas.Nat.Bits.{bit_at-zero}
use Rattle.heap_words.specs.declared.config.Config.{Config}
use Rattle.heap_words.specs.Words.{Word, Cset, Top, Answer, Heap}
use Rattle.heap_words.specs.Encoding.{is_forwarded, object_words}
use Rattle.regions.specs.Places.{LieApart}
use Rattle.regions.specs.Place.{region_with}
use Rattle.regions.specs.Sets.{IsIn}
use Rattle.shen_graph.specs.Graph.{Graph}
use Rattle.heap_world.specs.World.{Plot, thing}
use Rattle.image_graph.specs.Held.{IsAmong}
use Rattle.image_graph.specs.Full.{held_words}
use Rattle.image_graph.specs.Promised.{Promises}
use Rattle.image_graph.proofs.HeldRoots.{root_among, answer_among}
use Rattle.image_graph.proofs.Reached.{words_read}
use Rattle.image_graph.specs.Holds.{HoldsBy}
use Rattle.cycle_words.specs.Marking.Marks.{is_black, IsNew}
use Rattle.cycle_words.specs.Marking.Close.{IsTraced}
use Rattle.cycle_words.specs.Marking.WhileMarking.{IsObjectAt, IsMarking, IsMarkedThrough}
use Rattle.cycle_words.specs.Marking.Final.{dead_in, freed_block, freed_owner, final_marked}
use Rattle.image_graph.specs.Buffers.{HasNoMoreSeats}
use Rattle.cycle_words.proofs.Marking.Plain.{below_top, object_below, reached_object, root_reached}
use Rattle.cycle_words.proofs.Marking.Closed.{object_alive, markable_object, black_markable, traced_markable, are_closed}
use Rattle.cycle_words.proofs.Marking.Ended.{ended_holds, ended_through}
use Rattle.cycle_words.specs.Evacuation.Live.{words_at, marked_words, live_words, is_candidate}
use Rattle.cycle_words.specs.Evacuation.Choice.{copy_limit, chosen}
use Rattle.cycle_words.specs.Evacuation.Begun.{root_places, naming_places, is_collected, with_set, IsCopyable, CanBegin}
use Rattle.cycle_words.specs.Evacuation.Laws.{EvacuationCanBegin, MarkedCanBegin}
use Rattle.cycle_words.proofs.Evacuation.NamingPlaces.{in_row, in_rows}
use Rattle.cycle_words.proofs.Evacuation.Candidate.{candidate_is_candidate}
use Rattle.cycle_words.proofs.Evacuation.Front.{member_is}
use Rattle.cycle_words.proofs.Evacuation.RegionAddresses.{some_words, from_base}

-- Words that hold a graph once marking has ended: what can be reached is kept, and what is marked is an object.
module _ (config : Config) (memory : Word → ℕ) (left_plot : Plot) (owner : ℕ → Option ℕ) (promises : Promises) (graph : Graph) (graph_held : HoldsBy config memory left_plot owner promises graph) (no_set : memory Cset ≡ 0)
    (through : IsMarkedThrough config memory left_plot) (marked_object : (address : ℕ) → is_black config memory address ≡ true → IsObjectAt memory left_plot address) where
  abbrev top : ℕ → ℕ
  top region = memory (Top region)

  -- the words of an object by its shape
  words_are : (address : ℕ) (object : IsObjectAt memory left_plot address) → words_at memory address ≡ 3 + object.refs + object.nums
  words_are address object = ap object_words object.shape ∙ words_read object.refs object.nums object.few_refs object.few_nums

  -- where something is counted an object is marked
  counted : (address : ℕ) → 0 < marked_words config memory address → is_black config memory address ≡ true
  counted address has_words = ⊎_elim
      (λ (black_address : is_black config memory address ≡ true). black_address)
      (λ (not_black : is_black config memory address ≡ false). absurd (let no_words : marked_words config memory address ≡ 0 = cond-false (is_black config memory address) (words_at memory address) 0 not_black in omega (arith, no_words, has_words)))
      (cases_Bool (is_black config memory address))

  counted_words : (address : ℕ) (object : IsObjectAt memory left_plot address) → marked_words config memory address ≤ 3 + object.refs + object.nums
  counted_words address object =
      let size = words_are address object in
      cond_both (is_black config memory address) (words_at memory address) 0 (λ any_words. any_words ≤ 3 + object.refs + object.nums) (λ _. omega (arith, size)) (λ _. omega arith)

  lie_apart : LieApart config.region_words (marked_words config memory)
  lie_apart = record {
    some = some_words config;
    above = λ address has_words. (leb-true config.region_words address (and_parts (nat_le config.region_words address) _ (counted address has_words)).0);
    within = λ address has_words.
        let object = marked_object address (counted address has_words) in
        let top_above = below_top config top left_plot graph_held.objects.plotted address (thing object.name object.refs object.nums) object.here (omega arith) in
        let top_bound = graph_held.objects.plotted.tops (region_with config address) top_above.0 in
        let address_above = leb-true config.region_words address (and_parts (nat_le config.region_words address) _ (counted address has_words)).0 in
        let address_split = from_base config.region_words address (some_words config) address_above in
        omega (arith, top_above.2, top_bound, address_split, counted_words address object);
    apart = λ address other_address first_counted second_counted address_less.
        let first_object = marked_object address (counted address first_counted) in
        let second_object = marked_object other_address (counted other_address second_counted) in
        let objects_apart = graph_held.objects.plotted.apart address other_address (thing first_object.name first_object.refs first_object.nums) (thing second_object.name second_object.refs second_object.nums) first_object.here second_object.here address_less in
        omega (arith, objects_apart, counted_words address first_object);
  }

  unmoved : (address : ℕ) → is_black config memory address ≡ true → is_forwarded (memory (Heap address)) ≡ false
  unmoved address black_address =
      let object = marked_object address black_address in
      false_from_ne_true (is_forwarded (memory (Heap address))) (λ forwarded.
      let address_moved = graph_held.moved address object.refs object.nums object.name object.here forwarded in
      let not_chosen : bit_at (memory Cset) (region_with config address) ≡ 0 = ap (λ cset. bit_at cset (region_with config address)) no_set ∙ bit_at-zero (region_with config address) in
      let region_member = address_moved.in_set in
      omega (arith, region_member, not_chosen))

  -- what a root or an answer names in a chosen region is marked, for nothing new is there
  module _ (address : ℕ) (address_among : IsAmong (held_words config memory) address) (some_address : address ≢ 0) (region_member : IsIn (chosen config memory) (region_with config address)) where
    is_object : IsObjectAt memory left_plot address
    is_object = reached_object config memory left_plot owner promises graph graph_held no_set address (root_reached config memory left_plot owner promises graph graph_held no_set address address_among some_address)

    old : IsNew config memory address → ⊥
    old fresh =
        let object = is_object in
        let top_above = object_below config memory left_plot owner promises graph graph_held no_set address object.refs object.nums object.name object.here in
        let front = member_is config.regions (copy_limit config memory) (live_words config memory) (is_candidate config memory) (region_with config address) region_member in
        let no_new = ((candidate_is_candidate config memory (region_with config address)).0 front.1).no_new in
        omega (arith, fresh, top_above.2, no_new)

    copyable : IsCopyable config memory address
    copyable =
        let object = is_object in
        let black_address : is_black config memory address ≡ true = ⊎_elim
        (λ (address_marked : is_black config memory address ≡ true). address_marked)
        (λ (fresh : IsNew config memory address). absurd (old fresh))
        (through.reachable address (root_reached config memory left_plot owner promises graph graph_held no_set address address_among some_address)) in
        let front = member_is config.regions (copy_limit config memory) (live_words config memory) (is_candidate config memory) (region_with config address) region_member in
        let size = words_are address object in
        record { marked = black_address; of_region = front.0; short = (let refs = object.few_refs in let nums = object.few_nums in omega (arith, size, refs, nums)) }

  named_copyable : (place : Word) → Contains (naming_places config) place → is_collected config (with_set memory (chosen config memory)) (memory place) ≡ true → IsCopyable config memory (memory place)
  named_copyable place has_place place_collected =
      let collected_parts = and_parts (nat_le config.region_words (memory place)) (bit_at (chosen config memory) (region_with config (memory place)) == 1) place_collected in
      let address_above = leb-true config.region_words (memory place) collected_parts.0 in
      let region_member = eqb-true (bit_at (chosen config memory) (region_with config (memory place))) 1 collected_parts.1 in
      let region_long : 64 ≤ config.region_words = (let range = config.in_range in omega (arith, range.least_words)) in
      let some_address : memory place ≢ 0 = λ no_address. omega (arith, no_address, address_above, region_long) in
      let reference_among : IsAmong (held_words config memory) (memory place) = ⊎_elim
      (λ (root : Contains (root_places config.mutators) place).
      let row_place = in_rows config.mutators place root in
      subst (λ word. IsAmong (held_words config memory) (memory word)) row_place.4 (root_among config top memory left_plot graph promises graph_held.objects.plotted graph_held.rooted row_place.0 row_place.1 row_place.2 row_place.3))
      (λ (answer : Contains (map Answer (range_with_len 0 config.mutators)) place).
      let row_place = in_row Answer config.mutators place answer in
      let same_answer : memory (Answer row_place.0) ≡ memory place = ap memory row_place.2 in
      subst (λ word. IsAmong (held_words config memory) (memory word)) row_place.2 (answer_among config top memory left_plot graph promises graph_held.objects.plotted graph_held.rooted row_place.0 row_place.1 (omega (arith, same_answer, address_above, region_long))))
      (Contains-append_cases (root_places config.mutators) (map Answer (range_with_len 0 config.mutators)) place has_place) in
      copyable (memory place) reference_among some_address region_member

  pub ended_can_begin : CanBegin config memory
  ended_can_begin = record {
    free = graph_held.free_word.no_more;
    empty = graph_held.free_word.empty;
    within = graph_held.objects.plotted.tops;
    apart = lie_apart;
    unmoved = unmoved;
    copyable = named_copyable;
  }

module _ (config : Config) (memory : Word → ℕ) (block : Plot) (owner : ℕ → Option ℕ) (promises : Promises) (graph : Graph) (graph_held : HoldsBy config memory block owner promises graph) (marking : IsMarking config memory block) (seats : HasNoMoreSeats config memory) where
  abbrev now : Word → ℕ
  now = final_marked config memory

  abbrev out : ℕ → Bool
  out = dead_in config memory

  abbrev left : Plot
  left = freed_block config out block

  after : HoldsBy config now left (freed_owner out owner) promises graph
  after = ended_holds config memory block owner promises graph graph_held marking seats

  through : IsMarkedThrough config now left
  through = ended_through config memory block owner promises graph graph_held marking seats

  -- what is marked is an object, which is left
  marked_was : (address : ℕ) → is_black config now address ≡ true → IsObjectAt memory block address
  marked_was address black_now = ⊎_elim
      (λ (black_before : is_black config memory address ≡ true). markable_object config memory block owner promises graph graph_held marking address (black_markable config memory block owner promises graph graph_held marking address black_before))
      (λ (traced : IsTraced config memory address). markable_object config memory block owner promises graph graph_held marking address (traced_markable config memory block owner promises graph graph_held marking address traced))
      (((are_closed config memory block owner promises graph graph_held marking).black address).0 black_now)

  marked_alive : (address : ℕ) → is_black config now address ≡ true → out (region_with config address) ≡ false
  marked_alive address black_now = object_alive config memory block owner promises graph graph_held marking address (marked_was address black_now)

  pub marked_object : (address : ℕ) → is_black config now address ≡ true → IsObjectAt now left address
  marked_object address black_now =
      let object = marked_was address black_now in
      record {
        name = object.name;
        refs = object.refs;
        nums = object.nums;
        here = cond-false (out (region_with config address)) None (block address) (marked_alive address black_now) ∙ object.here;
        shape = object.shape;
        few_refs = object.few_refs;
        few_nums = object.few_nums;
      }

  pub can_begin : CanBegin config now
  can_begin = ended_can_begin config now left (freed_owner out owner) promises graph after marking.uncollected through marked_object

pub evacuation_can_begin : EvacuationCanBegin
evacuation_can_begin config memory block owner promises graph graph_held marking seats = can_begin config memory block owner promises graph graph_held marking seats

pub marked_can_begin : MarkedCanBegin
marked_can_begin config memory left_plot owner promises graph graph_held through no_set marked_objects = ended_can_begin config memory left_plot owner promises graph graph_held no_set through marked_objects
