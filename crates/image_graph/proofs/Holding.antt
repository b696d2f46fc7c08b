-- Words that are laid out as objects at given addresses hold a graph.
use Rattle.std.proofs.Common.{◌≡◌, ◌≢◌, ℕ, ◌+◌, ◌-◌, ◌*◌, ◌<◌, ◌≤◌, ◌^◌, ◌==◌, ◌&&◌, inl, true, false, zero, suc, cond, nat_eq, nat_le, nat_lt, List, [], ◌∷◌, length, map, get_or, slice_get, Option, Some, None, ⊎_elim, refl, sym, ap, ◌∙◌, subst, arith}
use Rattle.std.specs.List.{range_with_len}
use Rattle.std.specs.Option.{option_map}
use Rattle.std.specs.Prelude.{if◌then◌else◌}
use Rattle.std.proofs.Math.Logic.{∥∥₁_map}
use Rattle.std.proofs.lemmas.Bool.{cond-true, cond-false, cases_Bool, cases_lt, cases_eq, or_cases, and_from, and_parts, eqb-true, eq-eqb, ne_eqb, le-leb, lt-ltb, leb-true, ltb-true, false≢true}
use Rattle.std.proofs.lemmas.List.FromFn.{length-map-range_with_len, get_or-map-range_with_len}
use Rattle.std.proofs.lemmas.Option.{none-some, same_Some, slice_get_within, get_or_from_slice_get}
use Rattle.heap_words.specs.declared.config.Config.{Config}
use Rattle.heap_words.specs.Ranges.{seat_count}
use Rattle.heap_words.specs.Words.{Word, Top, Current, Root, Wait, Heap}
use Rattle.heap_words.specs.Encoding.{is_forwarded, name_code, thread_in, count_in, refs_in, nums_in, request_count_in}
use Rattle.regions.specs.Place.{base_of, region_with, IsOf}
use Rattle.regions.specs.Walk.{is_filler}
use Rattle.regions.proofs.PlaceLemmas.{regions_tile}
use Rattle.shen_graph.specs.declared.name.Name.{Name}
use Rattle.shen_graph.specs.Graph.{Graph, Object, Reference, same_name}
use Rattle.shen_graph.proofs.PlainLemmas.{same_name-true, same_name-itself}
use Rattle.heap_world.specs.Walk.{has}
use Rattle.heap_world.specs.Roots.{is_root_of}
use Rattle.heap_world.specs.World.{Block, thing, filler, spare, words_of, Plot, name_at, Points, IsThing, IsGiven, IsPlotted, IsFilled, AreObjects}
use Rattle.image_graph.specs.Promised.{Promises}
use Rattle.image_graph.specs.Image.{RootsStand, ImageStands}
use Rattle.image_graph.specs.Serving.{asked_name, IsAsking}
use Rattle.image_graph.proofs.HeldFound.{index_of, has_at}
use Rattle.image_graph.proofs.Named.{named_things}
use Rattle.image_graph.proofs.ImagesStand.{standing_holds}
use Rattle.image_graph.specs.Holds.{HoldsBy, HoldsSome, HoldsSized, AreSized}
use Rattle.image_graph.specs.Laid.{laid_words, used_end, IsReference, LiesRight, ReadsRight, IsLaidOut}

-- nothing is promised
abbrev no_promise : Promises
no_promise = record { ref = λ thread. None; refs = λ thread. 0; nums = λ thread. 0 }

-- an element of a list that is made by a function of its index
made_at : {A : Type 0} (f : ℕ → A) (count asked_index : ℕ) (element : A) → slice_get (map f (range_with_len 0 count)) asked_index ≡ Some element → (asked_index < count) × (f asked_index ≡ element)
made_at f count asked_index element element_there =
    let index_below : asked_index < count = (let within = slice_get_within (map f (range_with_len 0 count)) asked_index element element_there in omega (arith, within, length-map-range_with_len f 0 count)) in
    let index : 0 + asked_index ≡ asked_index = omega arith in
    (index_below, sym (get_or-map-range_with_len f 0 count asked_index asked_index element index_below index) ∙ get_or_from_slice_get (map f (range_with_len 0 count)) asked_index element element element_there)

module _ (config : Config) (memory : Word → ℕ) (objects : List ℕ) (laid : IsLaidOut config memory objects) where
  -- the name of the object at an address
  abbrev name_of : ℕ → Name
  name_of address = record { thread = thread_in (memory (Heap (address + 2))); count = count_in (memory (Heap (address + 2))) }

  abbrev refs_at : ℕ → ℕ
  refs_at address = refs_in (memory (Heap (address + 1)))

  abbrev nums_at : ℕ → ℕ
  nums_at address = nums_in (memory (Heap (address + 1)))

  abbrev block : Plot
  block address = if has objects address then Some (thing (name_of address) (refs_at address) (nums_at address)) else None

  abbrev reference : ℕ → Reference
  reference word = if word == 0 then None else Some (name_of word)

  abbrev object_at : ℕ → Object
  object_at address = record {
    refs = map (λ index. reference (memory (Heap (address + 3 + index)))) (range_with_len 0 (refs_at address));
    nums = map (λ index. memory (Heap (address + 3 + refs_at address + index))) (range_with_len 0 (nums_at address));
  }

  -- the first of some addresses whose object has a name
  abbrev found : List ℕ → Name → Option ℕ
  found [] name = None
  found (address ∷ later_addresses) name = if same_name (name_of address) name then Some address else found later_addresses name

  -- how many objects a thread has made: the one that it asks for is the next, and who asks for nothing may have made any number
  abbrev made : ℕ → ℕ
  made thread = if thread == 0 then 4294967296 else (if memory (Wait (thread - 1)) == 0 then 4294967296 else request_count_in (memory (Wait (thread - 1))) - 1)

  abbrev graph : Graph
  graph = record {
    object = λ name. option_map object_at (found objects name);
    root = λ thread index. if is_root_of config.mutators thread index then reference (memory (Root (thread - 1) index)) else None;
    count = made;
    pin = λ thread slot. None;
  }

  abbrev address : ℕ → ℕ
  address index = get_or objects index 0

  -- an address of the list has an index
  place_of : (asked_address : ℕ) → has objects asked_address ≡ true → (index : ℕ) × (index < length objects) × (address index ≡ asked_address)
  place_of asked_address listed = let found_index = index_of objects asked_address listed in (found_index.0, found_index.1, get_or_from_slice_get objects found_index.0 asked_address 0 found_index.2)

  lies : (address : ℕ) → has objects address ≡ true → LiesRight config memory objects address
  lies address listed = let place = place_of address listed in subst (LiesRight config memory objects) place.2 (laid.lies place.0 place.1)

  reads : (address : ℕ) → has objects address ≡ true → ReadsRight config memory objects address
  reads address listed = let place = place_of address listed in subst (ReadsRight config memory objects) place.2 (laid.reads place.0 place.1)

  -- a later object begins behind an earlier one, and has a higher name
  behind : (earlier_index index : ℕ) → earlier_index < index → index < length objects → (address earlier_index + laid_words memory (address earlier_index) ≤ address index) × (memory (Heap (address earlier_index + 2)) < memory (Heap (address index + 2)))
  behind earlier_index zero before within = absurd (omega (arith, before))
  behind earlier_index (suc index) before within =
      let next_index : index + 1 ≡ suc index = omega arith in
      let far_apart : address index + laid_words memory (address index) ≤ address (suc index) = subst (λ any_index. address index + laid_words memory (address index) ≤ address any_index) next_index (laid.order.apart index (omega (arith, within))) in
      let named : memory (Heap (address index + 2)) < memory (Heap (address (suc index) + 2)) = subst (λ any_index. memory (Heap (address index + 2)) < memory (Heap (address any_index + 2))) next_index (laid.order.named index (omega (arith, within))) in
      ⊎_elim
      (λ (just_before : earlier_index ≡ index). subst (λ any_index. (address any_index + laid_words memory (address any_index) ≤ address (suc index)) × (memory (Heap (address any_index + 2)) < memory (Heap (address (suc index) + 2)))) (sym just_before) (far_apart, named))
      (λ (further_before : earlier_index ≢ index).
      let rest = behind earlier_index index (omega (arith, before, further_before)) (omega (arith, within)) in
      (omega (arith, rest.0, far_apart), omega (arith, rest.1, named)))
      (cases_eq earlier_index index)

  -- objects lie apart
  apart : (first_address second_address : ℕ) → has objects first_address ≡ true → has objects second_address ≡ true → first_address < second_address → first_address + laid_words memory first_address ≤ second_address
  apart first_address second_address first_listed second_listed address_less =
      let first_place = place_of first_address first_listed in
      let second_place = place_of second_address second_listed in
      ⊎_elim
      (λ (before : first_place.0 < second_place.0). subst (λ any_address. first_address + laid_words memory first_address ≤ any_address) second_place.2 (subst (λ any_address. any_address + laid_words memory any_address ≤ address second_place.0) first_place.2 (behind first_place.0 second_place.0 before second_place.1).0))
      (λ not_before. ⊎_elim
      (λ (after : second_place.0 < first_place.0). absurd (let far_apart = (behind second_place.0 first_place.0 after first_place.1).0 in omega (arith, far_apart, first_place.2, second_place.2, address_less)))
      (λ not_after. let same_index : first_place.0 ≡ second_place.0 = omega (arith, not_before, not_after) in absurd (omega (arith, ap address same_index, first_place.2, second_place.2, address_less)))
      (cases_lt second_place.0 first_place.0))
      (cases_lt first_place.0 second_place.0)

  -- a name word is that of its name
  name_whole : (word : ℕ) → name_code (thread_in word) (count_in word) ≡ word
  name_whole word = omega arith

  -- no two have one name
  one_name : (first_address second_address : ℕ) → has objects first_address ≡ true → has objects second_address ≡ true → name_of first_address ≡ name_of second_address → first_address ≡ second_address
  one_name first_address second_address first_listed second_listed names_same =
      let first_place = place_of first_address first_listed in
      let second_place = place_of second_address second_listed in
      let words : memory (Heap (first_address + 2)) ≡ memory (Heap (second_address + 2)) =
      sym (name_whole (memory (Heap (first_address + 2)))) ∙ ap (λ (name : Name). name_code name.thread name.count) names_same ∙ name_whole (memory (Heap (second_address + 2))) in
      let word_a : memory (Heap (address first_place.0 + 2)) ≡ memory (Heap (first_address + 2)) = ap (λ any_address. memory (Heap (any_address + 2))) first_place.2 in
      let word_b : memory (Heap (address second_place.0 + 2)) ≡ memory (Heap (second_address + 2)) = ap (λ any_address. memory (Heap (any_address + 2))) second_place.2 in
      ⊎_elim
      (λ (before : first_place.0 < second_place.0). absurd (let far = (behind first_place.0 second_place.0 before second_place.1).1 in omega (arith, far, words, word_a, word_b)))
      (λ not_before. ⊎_elim
      (λ (after : second_place.0 < first_place.0). absurd (let far = (behind second_place.0 first_place.0 after first_place.1).1 in omega (arith, far, words, word_a, word_b)))
      (λ not_after. let order : first_place.0 ≡ second_place.0 = omega (arith, not_before, not_after) in sym first_place.2 ∙ ap address order ∙ second_place.2)
      (cases_lt second_place.0 first_place.0))
      (cases_lt first_place.0 second_place.0)

  -- what is found has the name, and what has a name is found
  found_from : (xs : List ℕ) (name : Name) (address : ℕ) → found xs name ≡ Some address → (has xs address ≡ true) × (name_of address ≡ name)
  found_from [] name address address_found = absurd (none-some address address_found)
  found_from (first_address ∷ xs) name address address_found = ⊎_elim
      (λ (name_met : same_name (name_of first_address) name ≡ true).
      let same_address : first_address ≡ address = same_Some first_address address (sym (cond-true (same_name (name_of first_address) name) (Some first_address) (found xs name) name_met) ∙ address_found) in
      (has_at (first_address ∷ xs) 0 address (ap Some same_address), ap name_of (sym same_address) ∙ same_name-true (name_of first_address) name name_met))
      (λ (other_name : same_name (name_of first_address) name ≡ false).
      let rest = found_from xs name address (sym (cond-false (same_name (name_of first_address) name) (Some first_address) (found xs name) other_name) ∙ address_found) in
      let found_index = index_of xs address rest.0 in
      (has_at (first_address ∷ xs) (suc found_index.0) address found_index.2, rest.1))
      (cases_Bool (same_name (name_of first_address) name))

  found_some : (xs : List ℕ) (name : Name) (address : ℕ) → has xs address ≡ true → name_of address ≡ name → (named_address : ℕ) × (found xs name ≡ Some named_address)
  found_some [] name address address_there named = absurd (false≢true address_there)
  found_some (first_address ∷ xs) name address address_there named = ⊎_elim
      (λ (name_met : same_name (name_of first_address) name ≡ true). (first_address, cond-true (same_name (name_of first_address) name) (Some first_address) (found xs name) name_met))
      (λ (other_name : same_name (name_of first_address) name ≡ false). ⊎_elim
      (λ (address_first : nat_eq address first_address ≡ true).
      let test : same_name (name_of first_address) name ≡ true = ap (λ any_name. same_name any_name name) (ap name_of (sym (eqb-true address first_address address_first)) ∙ named) ∙ same_name-itself name in
      absurd (false≢true (sym other_name ∙ test)))
      (λ (rest : has xs address ≡ true).
      let found_later = found_some xs name address rest named in
      (found_later.0, cond-false (same_name (name_of first_address) name) (Some first_address) (found xs name) other_name ∙ found_later.1))
      (or_cases (nat_eq address first_address) (has xs address) address_there))
      (cases_Bool (same_name (name_of first_address) name))

  found_own : (address : ℕ) → has objects address ≡ true → graph.object (name_of address) ≡ Some (object_at address)
  found_own address listed =
      let own_found = found_some objects (name_of address) address listed refl in
      let from = found_from objects (name_of address) own_found.0 own_found.1 in
      ap (option_map object_at) (own_found.1 ∙ ap Some (one_name own_found.0 address from.0 listed from.1))

  -- an object of the graph is one of the list
  object_from : (name : Name) (object : Object) → graph.object name ≡ Some object → (address : ℕ) × (has objects address ≡ true) × (name_of address ≡ name)
  object_from name object object_there = by_found (found objects name) refl object_there
    where
      by_found : (outcome : Option ℕ) → found objects name ≡ outcome → option_map object_at outcome ≡ Some object → (address : ℕ) × (has objects address ≡ true) × (name_of address ≡ name)
      by_found None outcome_told object_told = absurd (none-some object object_told)
      by_found (Some address) outcome_told object_told = (let from = found_from objects name address outcome_told in (address, from.0, from.1))

  -- a piece is an object of the list
  piece_at : (address : ℕ) (piece : Block) → block address ≡ Some piece → (has objects address ≡ true) × (thing (name_of address) (refs_at address) (nums_at address) ≡ piece)
  piece_at address piece has_piece = ⊎_elim
      (λ (listed : has objects address ≡ true). (listed, same_Some (thing (name_of address) (refs_at address) (nums_at address)) piece (sym (cond-true (has objects address) (Some (thing (name_of address) (refs_at address) (nums_at address))) None listed) ∙ has_piece)))
      (λ (unlisted : has objects address ≡ false). absurd (none-some piece (sym (cond-false (has objects address) (Some (thing (name_of address) (refs_at address) (nums_at address))) None unlisted) ∙ has_piece)))
      (cases_Bool (has objects address))

  piece_there : (address : ℕ) → has objects address ≡ true → block address ≡ Some (thing (name_of address) (refs_at address) (nums_at address))
  piece_there address listed = cond-true (has objects address) (Some (thing (name_of address) (refs_at address) (nums_at address))) None listed

  -- a reference word stands for its reference
  points : (word : ℕ) → IsReference objects word → Points block word (reference word)
  points word leads = ⊎_elim
      (λ (null : word ≡ 0). subst (Points block word) (sym (cond-true (word == 0) None (Some (name_of word)) (eq-eqb word 0 null))) null)
      (λ (not_null : word ≢ 0). subst (Points block word) (sym (cond-false (word == 0) None (Some (name_of word)) (ne_eqb word 0 not_null))) (ap name_at (piece_there word (leads not_null))))
      (cases_eq word 0)

  -- the region of an object
  in_region : (address : ℕ) → has objects address ≡ true → (region_with config address < config.regions) × IsOf config (region_with config address) address
  in_region address listed =
      let lying = lies address listed in
      let inside : address < (config.regions + 1) * config.region_words = omega (arith, lying.below) in
      (regions_tile.in_range config address (lying.above, inside), regions_tile.of_one config address (lying.above, inside))

  plotted : IsPlotted config (λ region. memory (Top region)) block
  plotted = record {
    tops = λ any_region within. (laid.regions any_region within).within;
    in_use = λ own_address b has_piece.
        let piece_found = piece_at own_address b has_piece in
        let lying = lies own_address piece_found.0 in
        let region = in_region own_address piece_found.0 in
        let same_length : laid_words memory own_address ≡ words_of b = ap words_of piece_found.1 in
        record { region = region_with config own_address; within = region.0; from_base = region.1.from; to_top = omega (arith, lying.to_top, same_length) };
    apart = λ own_address b own_piece other_piece first_piece second_piece before.
        let first_found = piece_at own_address own_piece first_piece in
        let second_found = piece_at b other_piece second_piece in
        let same_length : laid_words memory own_address ≡ words_of own_piece = ap words_of first_found.1 in
        let far_apart = apart own_address b first_found.0 second_found.0 before in
        omega (arith, far_apart, same_length);
  }

  some_piece : (address : ℕ) → has objects address ≡ true → (piece : Block) × (block address ≡ Some piece)
  some_piece address listed = (thing (name_of address) (refs_at address) (nums_at address), piece_there address listed)

  filled : IsFilled config (λ region. memory (Top region)) block
  filled = record {
    first = λ any_region within used. some_piece (base_of config any_region) ((laid.regions any_region within).first used);
    next = λ any_region own_address own_piece within from has_piece end_below.
        let piece_found = piece_at own_address own_piece has_piece in
        let same_length : laid_words memory own_address ≡ words_of own_piece = ap words_of piece_found.1 in
        let top_within = (laid.regions any_region within).within in
        let region : region_with config own_address ≡ any_region = regions_tile.of_no_other config any_region own_address (record { from = from; before = omega (arith, end_below, top_within) }) in
        let end : used_end config memory own_address ≡ base_of config any_region + memory (Top any_region) = ap (λ region. base_of config region + memory (Top region)) region in
        let next_there = (lies own_address piece_found.0).next (λ at_end. omega (arith, at_end, end, end_below, same_length)) in
        subst (λ words. (piece : Block) × (block (own_address + words) ≡ Some piece)) same_length (some_piece (own_address + laid_words memory own_address) next_there);
  }

  -- the words of an object
  is_thing : (address : ℕ) → has objects address ≡ true → IsThing (λ address. memory (Heap address)) block address (refs_at address) (nums_at address) (name_of address) (object_at address)
  is_thing address listed =
      let reading = reads address listed in
      record {
        header = reading.header;
        shape = reading.shape.whole;
        name_word = sym (name_whole (memory (Heap (address + 2))));
        few_refs = reading.shape.few_refs;
        few_nums = reading.shape.few_nums;
        refs_are = length-map-range_with_len (λ index. reference (memory (Heap (address + 3 + index)))) 0 (refs_at address);
        nums_are = length-map-range_with_len (λ index. memory (Heap (address + 3 + refs_at address + index))) 0 (nums_at address);
        references = λ index value value_there.
            let made_found = made_at (λ field. reference (memory (Heap (address + 3 + field)))) (refs_at address) index value value_there in
            subst (Points block (memory (Heap (address + 3 + index)))) made_found.1 (points (memory (Heap (address + 3 + index))) (reading.fields index made_found.0));
        numbers = λ index number value_there. (made_at (λ field. memory (Heap (address + 3 + refs_at address + field))) (nums_at address) index number value_there).1;
      }

  -- what a piece is as an object
  abbrev ObjectAt : ℕ → Block → Type 0
  ObjectAt address (thing name refs nums) = (object : Object) × (graph.object name ≡ Some object) × IsThing (λ address. memory (Heap address)) block address refs nums name object
  ObjectAt address _ = Unit {0}

  objects_are : AreObjects (λ address. memory (Heap address)) block graph.object
  objects_are = record {
    each = λ own_address refs nums name has_piece.
        let piece_found = piece_at own_address (thing name refs nums) has_piece in
        subst (ObjectAt own_address) piece_found.1 (object_at own_address, found_own own_address piece_found.0, is_thing own_address piece_found.0);
    once = λ own_address other_address refs nums other_refs other_nums name first_piece second_piece.
        let first_found = piece_at own_address (thing name refs nums) first_piece in
        let second_found = piece_at other_address (thing name other_refs other_nums) second_piece in
        one_name own_address other_address first_found.0 second_found.0 (same_Some (name_of own_address) (name_of other_address) (ap (λ x. name_at (Some x)) first_found.1 ∙ sym (ap (λ x. name_at (Some x)) second_found.1)));
  }

  rooted : RootsStand config memory block graph no_promise
  rooted = record {
    roots = λ any_mutator place inside few.
        let own_root : is_root_of config.mutators (any_mutator + 1) place ≡ true =
        and_from (nat_le 1 (any_mutator + 1)) (nat_le (any_mutator + 1) config.mutators && nat_lt place 16) (le-leb 1 (any_mutator + 1) (omega arith))
        (and_from (nat_le (any_mutator + 1) config.mutators) (nat_lt place 16) (le-leb (any_mutator + 1) config.mutators (omega (arith, inside))) (lt-ltb place 16 few)) in
        let same_thread : any_mutator + 1 - 1 ≡ any_mutator = omega arith in
        let root : graph.root (any_mutator + 1) place ≡ reference (memory (Root any_mutator place)) =
        cond-true (is_root_of config.mutators (any_mutator + 1) place) (reference (memory (Root (any_mutator + 1 - 1) place))) None own_root ∙ ap (λ mutator. reference (memory (Root mutator place))) same_thread in
        subst (Points block (memory (Root any_mutator place))) (sym root) (points (memory (Root any_mutator place)) ((laid.mutators any_mutator inside).roots place few));
    answers = λ any_mutator inside. inl ((laid.mutators any_mutator inside).answer, refl);
    no_more_roots = λ thread index name is_held. ⊎_elim
        (λ (root_slot : is_root_of config.mutators thread index ≡ true).
        let thread_bounds = and_parts (nat_le 1 thread) (nat_le thread config.mutators && nat_lt index 16) root_slot in
        let index_bounds = and_parts (nat_le thread config.mutators) (nat_lt index 16) thread_bounds.1 in
        let low = leb-true 1 thread thread_bounds.0 in
        let high = leb-true thread config.mutators index_bounds.0 in
        (thread - 1, omega (arith, low, high), omega (arith, low), ltb-true index 16 index_bounds.1))
        (λ (no_root_slot : is_root_of config.mutators thread index ≡ false). absurd (none-some name (sym (cond-false (is_root_of config.mutators thread index) (reference (memory (Root (thread - 1) index))) None no_root_slot) ∙ is_held)))
        (cases_Bool (is_root_of config.mutators thread index));
    pins = λ any_mutator place inside few. (laid.mutators any_mutator inside).pins place few;
    no_more_pins = λ any_mutator place held_pin is_held. absurd (none-some held_pin is_held);
    no_more_promised = λ thread name is_held. absurd (none-some name is_held);
  }

  -- no piece only fills
  no_filler : (address words : ℕ) → block address ≡ Some (filler words) → ⊥
  no_filler address words filler_there = let differ = (piece_at address (filler words) filler_there).1 in cc

  stands : ImageStands config memory block graph no_promise
  stands = record {
    plotted = plotted;
    filled = filled;
    objects = objects_are;
    things = λ address piece has_piece. (let piece_found = piece_at address piece has_piece in inl (name_of address, refs_at address, nums_at address, sym piece_found.1));
    fillers = λ address words has_piece. absurd (no_filler address words has_piece);
    free_word = record {
      no_more = laid.free;
      empty = λ region within member. (laid.regions region within).empty member;
      nobodys = λ region within member. refl;
    };
    rooted = rooted;
  }

  -- the count of a thread that waits, and of one that does not
  made_waits : (mutator : ℕ) → memory (Wait mutator) ≢ 0 → made (mutator + 1) ≡ request_count_in (memory (Wait mutator)) - 1
  made_waits mutator waits =
      let same_mutator : mutator + 1 - 1 ≡ mutator = omega arith in
      let some_thread : mutator + 1 ≢ 0 = omega arith in
      cond-false (mutator + 1 == 0) 4294967296 (cond (memory (Wait (mutator + 1 - 1)) == 0) 4294967296 (request_count_in (memory (Wait (mutator + 1 - 1))) - 1)) (ne_eqb (mutator + 1) 0 some_thread)
      ∙ ap (λ mutator. cond (memory (Wait mutator) == 0) 4294967296 (request_count_in (memory (Wait mutator)) - 1)) same_mutator
      ∙ cond-false (memory (Wait mutator) == 0) 4294967296 (request_count_in (memory (Wait mutator)) - 1) (ne_eqb (memory (Wait mutator)) 0 waits)

  made_idle : (mutator : ℕ) → memory (Wait mutator) ≡ 0 → made (mutator + 1) ≡ 4294967296
  made_idle mutator idle =
      let same_mutator : mutator + 1 - 1 ≡ mutator = omega arith in
      let some_thread : mutator + 1 ≢ 0 = omega arith in
      cond-false (mutator + 1 == 0) 4294967296 (cond (memory (Wait (mutator + 1 - 1)) == 0) 4294967296 (request_count_in (memory (Wait (mutator + 1 - 1))) - 1)) (ne_eqb (mutator + 1) 0 some_thread)
      ∙ ap (λ mutator. cond (memory (Wait mutator) == 0) 4294967296 (request_count_in (memory (Wait mutator)) - 1)) same_mutator
      ∙ cond-true (memory (Wait mutator) == 0) 4294967296 (request_count_in (memory (Wait mutator)) - 1) (eq-eqb (memory (Wait mutator)) 0 idle)

  -- a name of an object was given
  few_made : (address : ℕ) → has objects address ≡ true → count_in (memory (Heap (address + 2))) ≤ made (thread_in (memory (Heap (address + 2))))
  few_made address listed = by_thread (thread_in (memory (Heap (address + 2)))) refl
    where
      small : (word : ℕ) → count_in word < 4294967296
      small word = omega arith

      by_thread : (mutator : ℕ) → thread_in (memory (Heap (address + 2))) ≡ mutator → count_in (memory (Heap (address + 2))) ≤ made mutator
      by_thread zero of_thread = (let small_name = small (memory (Heap (address + 2))) in omega (arith, small_name))
      by_thread (suc mutator) of_thread =
          let next_thread : mutator + 1 ≡ suc mutator = omega arith in
          let own_name = (reads address listed).name in
          let inside : mutator < config.mutators = omega (arith, own_name.thread, of_thread) in
          subst (λ any_mutator. count_in (memory (Heap (address + 2))) ≤ made any_mutator) next_thread
          (⊎_elim
          (λ (idle : memory (Wait mutator) ≡ 0). let small_name = small (memory (Heap (address + 2))) in omega (arith, made_idle mutator idle, small_name))
          (λ (waits : memory (Wait mutator) ≢ 0). let count_less = own_name.unasked mutator inside (of_thread ∙ sym next_thread) waits in omega (arith, made_waits mutator waits, count_less))
          (cases_eq (memory (Wait mutator)) 0))

  given : (name : Name) (object : Object) → graph.object name ≡ Some object → IsGiven config made name
  given name object object_there =
      let found_object = object_from name object object_there in
      let few = few_made found_object.0 found_object.1 in
      subst (IsGiven config made) found_object.2 (record {
        thread = (reads found_object.0 found_object.1).name.thread;
        made = omega (arith, few);
        by_thread = λ thread_least. few;
        small = small (memory (Heap (found_object.0 + 2)));
      })
    where
      small : (word : ℕ) → count_in word < 2 ^ 32
      small word = omega arith

  -- who waits asks for the next object of its thread
  next_asked : (mutator : ℕ) → mutator < config.mutators → memory (Wait mutator) ≢ 0 → request_count_in (memory (Wait mutator)) ≡ made (mutator + 1) + 1
  next_asked mutator inside waits =
      let asked = (laid.mutators mutator inside).asked waits in
      omega (arith, made_waits mutator waits, asked.counted)

  is_new : (mutator : ℕ) → mutator < config.mutators → memory (Wait mutator) ≢ 0 → (found : Option Object) → graph.object (asked_name memory mutator) ≡ found → graph.object (asked_name memory mutator) ≡ None
  is_new mutator inside waits None object_found = object_found
  is_new mutator inside waits (Some object) object_found =
      let found_object = object_from (asked_name memory mutator) object object_found in
      let thread : thread_in (memory (Heap (found_object.0 + 2))) ≡ mutator + 1 = ap (λ (name : Name). name.thread) found_object.2 in
      let count : count_in (memory (Heap (found_object.0 + 2))) ≡ request_count_in (memory (Wait mutator)) = ap (λ (name : Name). name.count) found_object.2 in
      absurd (let count_less = (reads found_object.0 found_object.1).name.unasked mutator inside thread waits in omega (arith, count_less, count))

  is_asking : (mutator : ℕ) → mutator < config.mutators → memory (Wait mutator) ≢ 0 → IsAsking memory graph no_promise mutator
  is_asking mutator inside waits =
      let asked = (laid.mutators mutator inside).asked waits in
      record {
        shape = asked.shape.whole;
        few_refs = asked.shape.few_refs;
        few_nums = asked.shape.few_nums;
        unanswered = asked.unanswered;
        new = is_new mutator inside waits (graph.object (asked_name memory mutator)) refl;
      }

  -- the words hold the graph
  holds_by : ((seat : ℕ) → memory (Current seat) ≡ 0) → HoldsBy config memory block (λ region. None) no_promise graph
  holds_by nobody = record {
    objects = standing_holds config memory block graph no_promise stands;
    rooted = rooted;
    moved = λ address refs nums name something_there forwarded.
        let piece_found = piece_at address (thing name refs nums) something_there in
        absurd (false≢true (sym (ap is_forwarded (reads address piece_found.0).header) ∙ forwarded));
    filled = filled;
    pieces = named_things block stands.things;
    free_word = stands.free_word;
    shared_one = laid.shared_one;
    buffers = record { each = λ seat some_buffer. absurd (some_buffer (nobody seat)); spares = λ address seat words something_there. let differ = (piece_at address (spare seat words) something_there).1 in absurd cc };
    asking = λ mutator from inside waits. is_asking mutator inside waits;
    next = record {
      asked = next_asked;
      promised = λ thread name something_there. absurd (none-some name something_there);
      given = given;
    };
    unreached = record {
      own = λ thread name something_there. absurd (none-some name something_there);
      few = λ thread name something_there. absurd (none-some name something_there);
      fresh = λ thread name something_there reached. none-some name something_there;
    };
  }

  -- each object says how many words it has
  sized : AreSized memory block
  sized = record {
    objects = λ own_address own_piece has_piece whole_piece. ap words_of (piece_at own_address own_piece has_piece).1;
    headers = λ address piece has_piece whole_piece. (let piece_found = piece_at address piece has_piece in ap is_filler (reads address piece_found.0).header);
    fillers = λ own_address words has_piece. let differ = (piece_at own_address (filler words) has_piece).1 in absurd cc;
  }

  pub laid_sized : ((seat : ℕ) → seat_count config.mutators config.helpers ≤ seat → memory (Current seat) ≡ 0) → HoldsSized config memory
  laid_sized none_beyond = ∣ (graph, block, (λ region. None), no_promise, holds_by nobody, sized) ∣₁
    where
      nobody : (asked_seat : ℕ) → memory (Current asked_seat) ≡ 0
      nobody asked_seat = ⊎_elim
          (λ (seat : asked_seat < seat_count config.mutators config.helpers). laid.unbuffered asked_seat seat)
          (λ (seat_past : seat_count config.mutators config.helpers ≤ asked_seat). none_beyond asked_seat seat_past)
          (cases_lt asked_seat (seat_count config.mutators config.helpers))

-- what is held so is held in some way
pub sized_holds : (config : Config) (memory : Word → ℕ) → HoldsSized config memory → HoldsSome config memory
sized_holds config memory held = ∥∥₁_map held (λ way_held. (way_held.0, (way_held.1, way_held.2, way_held.3, way_held.4)))
