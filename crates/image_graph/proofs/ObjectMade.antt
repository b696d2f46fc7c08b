-- An object is made for a thread that waits: words that held a graph hold it with the object as a further piece, which is promised.
use Rattle.std.proofs.Common.{◌≡◌, ◌≢◌, ℕ, ◌+◌, ◌<◌, ◌≤◌, ◌⊎◌, ◌==◌, cond, true, inl, inr, slice_get, get_or, Option, Some, None, ⊎_elim, refl, sym, ap, ◌∙◌, subst, arith}
use Rattle.std.proofs.lemmas.Bool.{cond-true, cond-false, cases_eq, eq-eqb, ne_eqb, true≢false}
use Rattle.std.proofs.lemmas.Option.{none-some, same_Some, slice_get-get_or}
use Rattle.heap_words.specs.declared.config.Config.{Config}
use Rattle.heap_words.specs.Words.{Word, Cset, Free, Top, Current, Root, Wait, Answer, Heap, Share, Pin}
use Rattle.heap_words.specs.Encoding.{plain_header, is_forwarded, forwardee_in, refs_in, nums_in, object_words, name_code, request_count_in}
use Rattle.regions.specs.Place.{base_of, region_with}
use Rattle.regions.specs.Sets.{IsIn, IsOutside}
use Rattle.regions.specs.Walk.{is_filler}
use Rattle.shen_graph.specs.declared.name.Name.{Name}
use Rattle.shen_graph.specs.Graph.{Graph, Object, Reference, named, fresh}
use Rattle.shen_graph.specs.Reach.{IsReachable}
use Rattle.shen_graph.specs.Reach as reach
use Rattle.shen_graph.specs.Step.{name_in}
use Rattle.heap_world.specs.Walk.{has}
use Rattle.heap_world.specs.World.{Block, thing, filler, room_of, words_of, Plot, name_at, IsPlotted, IsFilled, IsFreeWord, ShareIsOpen, AreBuffers}
use Rattle.heap_world.proofs.Pointing.{named_if_not_0}
use Rattle.heap_world.proofs.Joined as joined
use Rattle.image_graph.specs.Held.{IsLedTo, from_root, from_field, IsAmong, IsCopy, HoldsGraph}
use Rattle.image_graph.specs.Full.{now_in, roots_below, answers_below, root_words, held_words, made_in}
use Rattle.image_graph.specs.Pinned.{pins_below}
use Rattle.image_graph.specs.Promised.{Promises, with_promised, AreFresh}
use Rattle.image_graph.specs.Serving.{asked_shape, asked_name, asked_piece, made_block, made_promise, IsAsking, AreAsking}
use Rattle.image_graph.proofs.BuffersStay.{buffers_stay, share_stays}
use Rattle.image_graph.proofs.Promised.{old_object}
use Rattle.image_graph.proofs.Reached as reached
use Rattle.image_graph.proofs.Reached.{refs_read, reached_is_held}
use Rattle.image_graph.proofs.PromisedRoots.{plain_root, pin_root}
use Rattle.image_graph.proofs.HeldRoots as roots
use Rattle.image_graph.proofs.HeldRoots.{has_either, root_in, answer_in, pin_in, pin_some, pin_copy, root_among, answer_among, pin_among}
use Rattle.image_graph.proofs.Made as made
use Rattle.image_graph.proofs.Made.{CanMake, fresh_header, fresh_shape, fresh_field}
use Rattle.image_graph.specs.Holds.{HasMoved, HoldsBy, AreSized}

-- what the graph reaches is reached with the promised objects, too
pub reaches_more : (config : Config) (memory : Word → ℕ) (block : Plot) (owner : ℕ → Option ℕ) (promises : Promises) (graph : Graph) → HoldsBy config memory block owner promises graph
    → (name : Name) → IsReachable graph name → IsReachable (with_promised graph promises) name
reaches_more config memory block owner promises graph holds name (reach.from_root thread root _ leads) =
    let stays_so = holds.rooted.no_more_roots thread root name leads in
    reach.from_root thread root name (plain_root graph promises thread root stays_so.3 ∙ leads)
reaches_more config memory block owner promises graph holds _ (reach.from_pin thread slot held_pin leads) =
    let stays_so = holds.rooted.no_more_pins thread slot held_pin leads in
    reach.from_root thread (17 + slot) held_pin.name (pin_root graph promises thread slot stays_so.3 ∙ ap name_in leads)
reaches_more config memory block owner promises graph holds name (reach.from_field holder _ field reached leads) =
    reach.from_field holder name field (reaches_more config memory block owner promises graph holds holder reached)
    (ap (λ (object : Object). slice_get object.refs field) (old_object config.mutators graph promises holds.unreached holder reached) ∙ leads)

module _ (config : Config) (memory : Word → ℕ) (block : Plot) (owner : ℕ → Option ℕ) (promises : Promises) (graph : Graph) (holds : HoldsBy config memory block owner promises graph)
    (asker made_region : ℕ) (inside : asker < config.mutators) (waits : memory (Wait asker) ≢ 0) (within : made_region < config.regions) (room : memory (Top made_region) + object_words (asked_shape memory asker) ≤ config.region_words) where
  abbrev can : CanMake config memory block graph promises
  can = record { plotted = holds.objects.plotted; pieces = holds.pieces; rooted = holds.rooted }

  asks : IsAsking memory graph promises asker
  asks = holds.asking asker (omega arith) inside waits

  abbrev top : ℕ → ℕ
  top region = memory (Top region)

  abbrev heap : ℕ → ℕ
  heap address = memory (Heap address)

  abbrev memory_then : Word → ℕ
  memory_then = made_in config memory asker made_region

  abbrev after : ℕ → ℕ
  after address = memory_then (Heap address)

  abbrev plot : Plot
  plot = made_block config memory block asker (Some made_region)

  abbrev more : Promises
  more = made_promise memory promises asker (Some made_region)

  abbrev address : ℕ
  address = base_of config made_region + memory (Top made_region)

  abbrev piece : Block
  piece = asked_piece memory asker

  abbrev IsLedWas : ℕ → Type 0
  IsLedWas = IsLedTo (now_in memory) heap (IsAmong (held_words config memory))

  abbrev IsLedNow : ℕ → Type 0
  IsLedNow = IsLedTo (now_in memory_then) after (IsAmong (held_words config memory_then))

  shape_words : refs_in (asked_shape memory asker) + nums_in (asked_shape memory asker) + 3 ≡ words_of piece
  shape_words = omega arith

  cases : (asked_address : ℕ) (given_piece : Block) → plot asked_address ≡ Some given_piece → ((asked_address ≡ address) × (piece ≡ given_piece)) ⊎ ((asked_address ≢ address) × (block asked_address ≡ Some given_piece))
  cases = made.cases config memory block graph promises can asker made_region inside asks within room

  stays : (address : ℕ) (piece : Block) → block address ≡ Some piece → plot address ≡ Some piece
  stays = joined.stays config top block made_region (memory (Top made_region)) piece (made.can config memory block graph promises can asker made_region inside asks within room)

  names_stay : (address : ℕ) (name : Name) → name_at (block address) ≡ Some name → name_at (plot address) ≡ Some name
  names_stay = made.names_stay config memory block graph promises can asker made_region inside asks within room

  old_word : (address offset : ℕ) (piece : Block) → block address ≡ Some piece → offset < words_of piece → after (address + offset) ≡ heap (address + offset)
  old_word = made.old_word config memory block graph promises can asker made_region inside asks within room

  -- the header of a piece stays, so that its current copy is where it was
  first_word : (address : ℕ) (piece : Block) → block address ≡ Some piece → after address ≡ heap address
  first_word address piece has_piece =
      let same_address : address + 0 ≡ address = omega arith in
      sym (ap after same_address) ∙ old_word address 0 piece has_piece (holds.pieces.some address piece has_piece) ∙ ap heap same_address

  header_stays : (address refs nums : ℕ) (name : Name) → block address ≡ Some (thing name refs nums) → after address ≡ heap address
  header_stays address refs nums name has_object = first_word address (thing name refs nums) has_object

  now_stays : (address refs nums : ℕ) (name : Name) → block address ≡ Some (thing name refs nums) → now_in memory_then address ≡ now_in memory address
  now_stays address refs nums name has_object = ap (λ header. cond (is_forwarded header) (forwardee_in header) address) (header_stays address refs nums name has_object)

  now_named : (word : ℕ) (name : Name) → name_at (block word) ≡ Some name → now_in memory_then word ≡ now_in memory word
  now_named word name named = let its_piece = holds.pieces.named word name named in now_stays word its_piece.0 its_piece.1 name its_piece.2

  -- the new object has not moved
  new_header : after address ≡ plain_header
  unfolding made_in
  new_header = fresh_header address (asked_shape memory asker) (name_code (asker + 1) (request_count_in (memory (Wait asker)))) (heap address)

  new_shape : after (address + 1) ≡ asked_shape memory asker
  unfolding made_in
  new_shape = fresh_shape address (asked_shape memory asker) (name_code (asker + 1) (request_count_in (memory (Wait asker)))) (heap (address + 1))

  new_field : (field : ℕ) → field < refs_in (asked_shape memory asker) → after (address + 3 + field) ≡ 0
  unfolding made_in
  new_field field field_below = fresh_field address (asked_shape memory asker) (name_code (asker + 1) (request_count_in (memory (Wait asker)))) (heap (address + 3 + field)) (address + 3 + field) (omega arith) (omega (arith, field_below))

  now_new : now_in memory_then address ≡ address
  now_new = cond-false (is_forwarded (after address)) (forwardee_in (after address)) address (ap is_forwarded new_header)

  -- other words stay
  same_root : (mutator index : ℕ) → memory_then (Root mutator index) ≡ memory (Root mutator index)
  unfolding made_in
  same_root mutator index = refl

  same_pin : (mutator index : ℕ) → memory_then (Pin mutator index) ≡ memory (Pin mutator index)
  unfolding made_in
  same_pin mutator index = refl

  same_cset : memory_then Cset ≡ memory Cset
  unfolding made_in
  same_cset = refl

  own_words : (memory_then (Wait asker) ≡ 0) × (memory_then (Answer asker) ≡ address)
  unfolding made_in
  own_words = (cond-true (asker == asker) 0 (memory (Wait asker)) (eq-eqb asker asker refl), cond-true (asker == asker) address (memory (Answer asker)) (eq-eqb asker asker refl))

  other_words : (mutator : ℕ) → asker ≢ mutator → (memory_then (Wait mutator) ≡ memory (Wait mutator)) × (memory_then (Answer mutator) ≡ memory (Answer mutator))
  other_words = made.other_words config memory block graph promises can asker made_region inside asks within room

  -- What is led to is the new object, or was led to.
  root_was : (mutator index : ℕ) → mutator < config.mutators → index < 16 → memory_then (Root mutator index) ≢ 0 → IsLedWas (now_in memory_then (memory_then (Root mutator index)))
  root_was mutator index mutator_below few positive =
      let kept_root = same_root mutator index in
      let not_null : memory (Root mutator index) ≢ 0 = λ null_root. positive (kept_root ∙ null_root) in
      let target = named_if_not_0 config top block holds.objects.plotted (memory (Root mutator index)) (graph.root (mutator + 1) index) (holds.rooted.roots mutator index mutator_below few) not_null in
      subst IsLedWas (sym (ap (now_in memory_then) kept_root ∙ now_named (memory (Root mutator index)) target.0 target.2))
      (from_root (memory (Root mutator index)) (root_among config top memory block graph promises holds.objects.plotted holds.rooted mutator index mutator_below few) not_null)

  answer_was : (mutator : ℕ) → mutator < config.mutators → 1 < memory_then (Answer mutator) → (now_in memory_then (memory_then (Answer mutator)) ≡ address) ⊎ IsLedWas (now_in memory_then (memory_then (Answer mutator)))
  answer_was mutator mutator_below has_answer = ⊎_elim
      (λ (is_asker : asker ≡ mutator). inl (ap (λ mutator. now_in memory_then (memory_then (Answer mutator))) (sym is_asker) ∙ ap (now_in memory_then) own_words.1 ∙ now_new))
      (λ (another : asker ≢ mutator).
      let kept_answer = (other_words mutator another).1 in
      let big : 1 < memory (Answer mutator) = subst (λ answer_value. 1 < answer_value) kept_answer has_answer in
      let target = roots.answer_names config top memory block graph promises holds.objects.plotted holds.rooted (memory (Answer mutator)) (promises.ref (mutator + 1)) big (holds.rooted.answers mutator mutator_below) in
      inr (subst IsLedWas (sym (ap (now_in memory_then) kept_answer ∙ now_named (memory (Answer mutator)) target.0 target.2))
      (from_root (memory (Answer mutator)) (answer_among config top memory block graph promises holds.objects.plotted holds.rooted mutator mutator_below big) (λ null_answer. omega (arith, null_answer, big)))))
      (cases_eq asker mutator)

  -- what a pin slot holds is an object
  pin_named : (mutator index : ℕ) → mutator < config.mutators → index < 4 → memory (Pin mutator index) ≢ 0 → (name : Name) × (name_at (block (memory (Pin mutator index))) ≡ Some name)
  pin_named mutator index mutator_below few positive =
      let stands = holds.rooted.pins mutator index mutator_below few in
      let pin_held = pin_some memory block (memory (Pin mutator index)) (graph.pin (mutator + 1) index) stands positive in
      let copy = (pin_copy memory block (memory (Pin mutator index)) (graph.pin (mutator + 1) index) pin_held.0 stands pin_held.1).1 in
      (pin_held.0.name, ap name_at copy.2)

  pin_was : (mutator index : ℕ) → mutator < config.mutators → index < 4 → memory_then (Pin mutator index) ≢ 0 → IsLedWas (now_in memory_then (memory_then (Pin mutator index)))
  pin_was mutator index mutator_below few positive =
      let kept_pin = same_pin mutator index in
      let not_null : memory (Pin mutator index) ≢ 0 = λ null_pin. positive (kept_pin ∙ null_pin) in
      let target = pin_named mutator index mutator_below few not_null in
      subst IsLedWas (sym (ap (now_in memory_then) kept_pin ∙ now_named (memory (Pin mutator index)) target.0 target.1))
      (from_root (memory (Pin mutator index)) (pin_among config top memory block graph promises holds.objects.plotted holds.rooted mutator index mutator_below few) not_null)

  named_was : (word : ℕ) → IsAmong (root_words config memory_then) word → word ≢ 0 → (now_in memory_then word ≡ address) ⊎ IsLedWas (now_in memory_then word)
  named_was word among positive = ⊎_elim
      (λ (root : has (roots_below memory_then config.mutators) word ≡ true).
      let found_place = root_in memory_then config.mutators word root in
      inr (subst (λ some_address. IsLedWas (now_in memory_then some_address)) found_place.4 (root_was found_place.0 found_place.1 found_place.2 found_place.3 (λ null_word. positive (sym found_place.4 ∙ null_word)))))
      (λ (answer : has (answers_below memory_then config.mutators) word ≡ true).
      let found_place = answer_in memory_then config.mutators word answer in
      subst (λ some_address. (now_in memory_then some_address ≡ address) ⊎ IsLedWas (now_in memory_then some_address)) found_place.3 (answer_was found_place.0 found_place.1 found_place.2))
      (has_either (roots_below memory_then config.mutators) (answers_below memory_then config.mutators) word among)

  word_was : (word : ℕ) → IsAmong (held_words config memory_then) word → word ≢ 0 → (now_in memory_then word ≡ address) ⊎ IsLedWas (now_in memory_then word)
  word_was word among positive = ⊎_elim
      (λ (named : has (root_words config memory_then) word ≡ true). named_was word named positive)
      (λ (pin : has (pins_below memory_then config.mutators) word ≡ true).
      let found_place = pin_in memory_then config.mutators word pin in
      inr (subst (λ some_address. IsLedWas (now_in memory_then some_address)) found_place.4 (pin_was found_place.0 found_place.1 found_place.2 found_place.3 (λ null_word. positive (sym found_place.4 ∙ null_word)))))
      (has_either (root_words config memory_then) (pins_below memory_then config.mutators) word among)

  field_was : (address field : ℕ) → IsLedWas address → field < refs_in (after (address + 1)) → after (address + 3 + field) ≢ 0 → IsLedWas (now_in memory_then (after (address + 3 + field)))
  field_was address field led few positive =
      let piece_there = made_of address led in
      let object = holds.objects.each address piece_there.1 piece_there.2 piece_there.0 led piece_there.3 in
      let object_stands = object.2 in
      let reads : refs_in (heap (address + 1)) ≡ piece_there.1 = ap refs_in object_stands.shape ∙ refs_read piece_there.1 piece_there.2 object_stands.few_refs object_stands.few_nums in
      let shape : after (address + 1) ≡ heap (address + 1) = old_word address 1 (thing piece_there.0 piece_there.1 piece_there.2) piece_there.3 (omega arith) in
      let field_below : field < piece_there.1 = subst (λ refs_count. field < refs_count) (ap refs_in shape ∙ reads) few in
      let place : address + (3 + field) ≡ address + 3 + field = omega arith in
      let same_field : after (address + 3 + field) ≡ heap (address + 3 + field) = sym (ap after place) ∙ old_word address (3 + field) (thing piece_there.0 piece_there.1 piece_there.2) piece_there.3 (omega (arith, field_below)) ∙ ap heap place in
      let not_null : heap (address + 3 + field) ≢ 0 = λ null_field. positive (same_field ∙ null_field) in
      let ref : Reference = get_or object.0.refs field None in
      let field_there : slice_get object.0.refs field ≡ Some ref = slice_get-get_or object.0.refs field None (omega (arith, field_below, object_stands.refs_are)) in
      let target = named_if_not_0 config top block holds.objects.plotted (heap (address + 3 + field)) ref (object_stands.references field ref field_there) not_null in
      subst IsLedWas (sym (ap (now_in memory_then) same_field ∙ now_named (heap (address + 3 + field)) target.0 target.2)) (from_field address field led (omega (arith, field_below, reads)) not_null)
    where
      made_of : (led_address : ℕ) → IsLedWas led_address → (name : Name) × (refs : ℕ) × (nums : ℕ) × (block led_address ≡ Some (thing name refs nums))
      made_of led_address led = let held_object = reached.held_is_reached config top heap block (now_in memory) (IsAmong (held_words config memory)) (with_promised graph promises) holds.objects led_address led in (held_object.0, held_object.1, held_object.2, held_object.3)

  led_was : (asked_address : ℕ) → IsLedNow asked_address → (asked_address ≡ address) ⊎ IsLedWas asked_address
  led_was _ (from_root word among some_word) = word_was word among some_word
  led_was _ (from_field holder_address field led few some_word) = ⊎_elim
      (λ (new : holder_address ≡ address).
      let shape : after (holder_address + 1) ≡ asked_shape memory asker = ap (λ number. after (number + 1)) new ∙ new_shape in
      let field_below : field < refs_in (asked_shape memory asker) = subst (λ number. field < number) (ap refs_in shape) few in
      absurd (some_word (ap (λ number. after (number + 3 + field)) new ∙ new_field field field_below)))
      (λ (led_before : IsLedWas holder_address). inr (field_was holder_address field led_before few some_word))
      (led_was holder_address led)

  led_old : (asked_address : ℕ) → IsLedNow asked_address → asked_address ≢ address → IsLedWas asked_address
  led_old asked_address led not_new = ⊎_elim (λ (new : asked_address ≡ address). absurd (not_new new)) (λ (led_before : IsLedWas asked_address). led_before) (led_was asked_address led)

  -- no object that is led to has the new name
  not_old : (address refs nums : ℕ) (name : Name) → IsLedWas address → block address ≡ Some (thing name refs nums) → asked_name memory asker ≡ name → ⊥
  not_old address refs nums name led has_object names_same =
      let object = holds.objects.each address refs nums name led has_object in
      none-some object.0 (sym asks.new ∙ ap (with_promised graph promises).object names_same ∙ object.1)

  current_again : (word : ℕ) (name : Name) → name_at (plot word) ≡ Some name → IsCopy plot (now_in memory_then word) name
  current_again word name named =
      let copy_there = made.named_again config memory block graph promises can asker made_region inside asks within room word name named in
      ⊎_elim
      (λ (new : (word ≡ address) × (piece ≡ thing name copy_there.0 copy_there.1)).
      (copy_there.0, copy_there.1, ap (λ some_address. plot (now_in memory_then some_address)) new.0 ∙ ap plot (now_new ∙ sym new.0) ∙ copy_there.2))
      (λ (old : (word ≢ address) × (block word ≡ Some (thing name copy_there.0 copy_there.1))).
      let copy = holds.objects.current word name (ap name_at old.1) in
      (copy.0, copy.1, ap plot (now_stays word copy_there.0 copy_there.1 name old.1) ∙ stays (now_in memory word) (thing name copy.0 copy.1) copy.2))
      (cases word (thing name copy_there.0 copy_there.1) copy_there.2)

  plotted_again : IsPlotted config (λ region. memory_then (Top region)) plot
  unfolding made_in
  plotted_again = joined.plotted_more config top block made_region (memory (Top made_region)) piece (made.can config memory block graph promises can asker made_region inside asks within room)

  filled_again : IsFilled config (λ region. memory_then (Top region)) plot
  unfolding made_in
  filled_again = joined.filled_more config top block made_region (memory (Top made_region)) piece (made.can config memory block graph promises can asker made_region inside asks within room) holds.filled

  objects_again : HoldsGraph config (λ region. memory_then (Top region)) after plot (now_in memory_then) (IsAmong (held_words config memory_then)) (with_promised graph more)
  objects_again =
      let rooted = made.rooted_more config memory block graph promises can asker made_region inside asks within room in
      record {
        plotted = plotted_again;
        current = current_again;
        each = λ led_address refs nums name led stands. ⊎_elim
            (λ (new : (led_address ≡ address) × (piece ≡ thing name refs nums)). made.new_piece config memory block graph promises can asker made_region inside asks within room led_address refs nums name new)
            (λ (old : (led_address ≢ address) × (block led_address ≡ Some (thing name refs nums))).
            made.old_piece config memory block graph promises can asker made_region inside asks within room led_address refs nums name old.1 (holds.objects.each led_address refs nums name (led_old led_address led old.0) old.1))
            (cases led_address (thing name refs nums) stands);
        once = λ led_address second_address refs nums second_refs second_nums name led_a led_b has_first has_second. ⊎_elim
            (λ (new_a : (led_address ≡ address) × (piece ≡ thing name refs nums)). ⊎_elim
            (λ (new_b : (second_address ≡ address) × (piece ≡ thing name second_refs second_nums)). new_a.0 ∙ sym new_b.0)
            (λ (old_b : (second_address ≢ address) × (block second_address ≡ Some (thing name second_refs second_nums))).
            absurd (not_old second_address second_refs second_nums name (led_old second_address led_b old_b.0) old_b.1 (made.new_name config memory block graph promises can asker made_region inside asks within room name refs nums new_a.1)))
            (cases second_address (thing name second_refs second_nums) has_second))
            (λ (old_a : (led_address ≢ address) × (block led_address ≡ Some (thing name refs nums))). ⊎_elim
            (λ (new_b : (second_address ≡ address) × (piece ≡ thing name second_refs second_nums)).
            absurd (not_old led_address refs nums name (led_old led_address led_a old_a.0) old_a.1 (made.new_name config memory block graph promises can asker made_region inside asks within room name second_refs second_nums new_b.1)))
            (λ (old_b : (second_address ≢ address) × (block second_address ≡ Some (thing name second_refs second_nums))).
            holds.objects.once led_address second_address refs nums second_refs second_nums name (led_old led_address led_a old_a.0) (led_old second_address led_b old_b.0) old_a.1 old_b.1)
            (cases second_address (thing name second_refs second_nums) has_second))
            (cases led_address (thing name refs nums) has_first);
        root_named = roots.root_named config (λ region. memory_then (Top region)) memory_then plot graph more plotted_again rooted;
        root_held = roots.root_held config (λ region. memory_then (Top region)) memory_then plot graph more plotted_again rooted;
        pinless = λ thread slot held_pin stands. none-some held_pin stands;
      }

  moved_again : (address refs nums : ℕ) (name : Name) → plot address ≡ Some (thing name refs nums) → is_forwarded (after address) ≡ true → HasMoved config memory_then plot address refs nums name
  moved_again asked_address refs nums name has_object forwarded = ⊎_elim
      (λ (new : (asked_address ≡ address) × (piece ≡ thing name refs nums)).
      absurd (true≢false (sym forwarded ∙ ap (λ some_address. is_forwarded (after some_address)) new.0 ∙ ap is_forwarded new_header)))
      (λ (old : (asked_address ≢ address) × (block asked_address ≡ Some (thing name refs nums))).
      let moved_before = holds.moved asked_address refs nums name old.1 (ap is_forwarded (sym (header_stays asked_address refs nums name old.1)) ∙ forwarded) in
      let now_kept = now_stays asked_address refs nums name old.1 in
      record {
        in_set = subst (λ cset. IsIn cset (region_with config asked_address)) (sym same_cset) moved_before.in_set;
        copy = ap plot now_kept ∙ stays (now_in memory asked_address) (thing name refs nums) moved_before.copy;
        outside = subst (λ some_address. IsOutside (memory_then Cset) (region_with config some_address)) (sym now_kept) (subst (λ cset. IsOutside cset (region_with config (now_in memory asked_address))) (sym same_cset) moved_before.outside);
        current = ap (λ some_address. is_forwarded (after some_address)) now_kept ∙ ap is_forwarded (header_stays (now_in memory asked_address) refs nums name moved_before.copy) ∙ moved_before.current;
      })
      (cases asked_address (thing name refs nums) has_object)

  free_again : IsFreeWord config (memory_then Free) (λ region. memory_then (Top region)) owner
  unfolding made_in
  free_again = made.free_less config memory block graph promises can asker made_region inside asks within room owner holds.free_word

  -- who waits still is another one
  another_waits : (mutator : ℕ) → memory_then (Wait mutator) ≢ 0 → asker ≢ mutator
  another_waits mutator positive is_asker = positive (ap (λ mutator. memory_then (Wait mutator)) (sym is_asker) ∙ own_words.0)

  waits_before : (mutator : ℕ) → memory_then (Wait mutator) ≢ 0 → memory (Wait mutator) ≢ 0
  waits_before mutator positive no_wait = positive ((other_words mutator (another_waits mutator positive)).0 ∙ no_wait)

  asking_again : AreAsking config memory_then graph more 0
  asking_again mutator from mutator_below waits =
      made.other_asks config memory block graph promises can asker made_region inside asks within room mutator (another_waits mutator waits) (holds.asking mutator from mutator_below (waits_before mutator waits))

  -- a promise is the new one, or was one
  promise_was : (thread : ℕ) (name : Name) → more.ref thread ≡ Some name → ((thread ≡ asker + 1) × (name ≡ asked_name memory asker)) ⊎ (promises.ref thread ≡ Some name)
  promise_was thread name promised = ⊎_elim
      (λ (is_asker : asker + 1 ≡ thread). inl (sym is_asker, same_Some name (asked_name memory asker) (sym promised ∙ cond-true (asker + 1 == thread) (Some (asked_name memory asker)) (promises.ref thread) (eq-eqb (asker + 1) thread is_asker))))
      (λ (another : asker + 1 ≢ thread). inr (sym (cond-false (asker + 1 == thread) (Some (asked_name memory asker)) (promises.ref thread) (ne_eqb (asker + 1) thread another)) ∙ promised))
      (cases_eq (asker + 1) thread)

  next_name : asked_name memory asker ≡ fresh graph (asker + 1)
  next_name = ap (λ (count : ℕ). record { thread = asker + 1; count = count }) (holds.next.asked asker inside waits)

  not_reached : IsReachable graph (asked_name memory asker) → ⊥
  not_reached reached =
      let held_object = reached_is_held config top heap block (now_in memory) (IsAmong (held_words config memory)) (with_promised graph promises) holds.objects (asked_name memory asker)
      (reaches_more config memory block owner promises graph holds (asked_name memory asker) reached) in
      not_old held_object.0 held_object.1 held_object.2 (asked_name memory asker) held_object.3 held_object.4 refl

  unreached_again : AreFresh config.mutators graph more
  unreached_again = record {
    own = λ thread name promised. ⊎_elim
        (λ (new : (thread ≡ asker + 1) × (name ≡ asked_name memory asker)). ap (λ (name : Name). name.thread) new.1 ∙ sym new.0)
        (λ (promised_before : promises.ref thread ≡ Some name). holds.unreached.own thread name promised_before)
        (promise_was thread name promised);
    few = λ thread name promised. ⊎_elim
        (λ (new : (thread ≡ asker + 1) × (name ≡ asked_name memory asker)). let same_thread = new.0 in omega (arith, same_thread, inside))
        (λ (promised_before : promises.ref thread ≡ Some name). holds.unreached.few thread name promised_before)
        (promise_was thread name promised);
    fresh = λ thread name promised reached. ⊎_elim
        (λ (new : (thread ≡ asker + 1) × (name ≡ asked_name memory asker)). not_reached (subst (IsReachable graph) new.1 reached))
        (λ (promised_before : promises.ref thread ≡ Some name). holds.unreached.fresh thread name promised_before reached)
        (promise_was thread name promised);
  }

  -- no top falls
  rises : (region : ℕ) → memory (Top region) ≤ memory_then (Top region)
  unfolding made_in
  rises region = ⊎_elim
      (λ (same_region : made_region ≡ region).
      let new_top : memory_then (Top region) ≡ memory (Top made_region) + object_words (asked_shape memory asker) = cond-true (made_region == region) (memory (Top made_region) + object_words (asked_shape memory asker)) (memory (Top region)) (eq-eqb made_region region same_region) in
      let old_top : memory (Top region) ≡ memory (Top made_region) = ap (λ region. memory (Top region)) (sym same_region) in
      omega (arith, new_top, old_top))
      (λ (regions_differ : made_region ≢ region). (let new_top : memory_then (Top region) ≡ memory (Top region) = cond-false (made_region == region) (memory (Top made_region) + object_words (asked_shape memory asker)) (memory (Top region)) (ne_eqb made_region region regions_differ) in omega (arith, new_top)))
      (cases_eq made_region region)

  -- the free words of buffers are as their words tell
  buffers_again : AreBuffers config (λ region. memory_then (Top region)) (λ seat. memory_then (Current seat)) plot
  unfolding made_in
  buffers_again = buffers_stay config (λ region. memory (Top region)) (λ region. memory_then (Top region)) (λ seat. memory (Current seat)) block plot
      (record {
        stays = λ address seat piece owned has_piece. stays address piece has_piece;
        came = λ asked_address seat some_piece owned has_piece. ⊎_elim
            (λ (new : (asked_address ≡ address) × (piece ≡ some_piece)). absurd (none-some seat (ap room_of new.1 ∙ owned)))
            (λ (old : (asked_address ≢ address) × (block asked_address ≡ Some some_piece)). old.1)
            (cases asked_address some_piece has_piece);
      })
      holds.buffers (λ seat has_buffer. rises (holds.buffers.each seat has_buffer).region)

  -- and the shared region may be carved
  share_again : ShareIsOpen config (memory_then Share) (memory_then Free) (memory_then Cset) owner
  unfolding made_in
  share_again = share_stays config (memory Share) (memory Free) (memory Cset) made_region owner within holds.shared_one

  pub made_holds : HoldsBy config memory_then plot owner more graph
  made_holds = record {
    objects = objects_again;
    rooted = made.rooted_more config memory block graph promises can asker made_region inside asks within room;
    moved = moved_again;
    filled = filled_again;
    pieces = made.pieces_again config memory block graph promises can asker made_region inside asks within room;
    free_word = free_again;
    shared_one = share_again;
    buffers = buffers_again;
    asking = asking_again;
    next = record {
      asked = λ mutator mutator_below waits. ap request_count_in (other_words mutator (another_waits mutator waits)).0 ∙ holds.next.asked mutator mutator_below (waits_before mutator waits);
      promised = λ seat name promised. ⊎_elim
          (λ (new : (seat ≡ asker + 1) × (name ≡ asked_name memory asker)). new.1 ∙ next_name ∙ ap (fresh graph) (sym new.0))
          (λ (promised_before : promises.ref seat ≡ Some name). holds.next.promised seat name promised_before)
          (promise_was seat name promised);
      given = holds.next.given;
    };
    unreached = unreached_again;
  }

  pub made_sized : AreSized memory block → AreSized memory_then plot
  made_sized sized = record {
    objects = λ asked_address other_piece has_piece fixed. ⊎_elim
        (λ (new : (asked_address ≡ address) × (piece ≡ other_piece)). ap (λ some_address. object_words (after (some_address + 1))) new.0 ∙ ap object_words new_shape ∙ ap words_of new.1)
        (λ (old : (asked_address ≢ address) × (block asked_address ≡ Some other_piece)).
        let size = sized.objects asked_address other_piece old.1 fixed in
        ap object_words (old_word asked_address 1 other_piece old.1 (omega (arith, size))) ∙ size)
        (cases asked_address other_piece has_piece);
    headers = λ asked_address other_piece has_piece fixed. ⊎_elim
        (λ (new : (asked_address ≡ address) × (piece ≡ other_piece)). ap (λ some_address. is_filler (after some_address)) new.0 ∙ ap is_filler new_header)
        (λ (old : (asked_address ≢ address) × (block asked_address ≡ Some other_piece)). ap is_filler (first_word asked_address other_piece old.1) ∙ sized.headers asked_address other_piece old.1 fixed)
        (cases asked_address other_piece has_piece);
    fillers = λ asked_address words has_piece. ⊎_elim
        (λ (new : (asked_address ≡ address) × (piece ≡ filler words)). absurd (let differ = new.1 in cc))
        (λ (old : (asked_address ≢ address) × (block asked_address ≡ Some (filler words))). first_word asked_address (filler words) old.1 ∙ sized.fillers asked_address words old.1)
        (cases asked_address (filler words) has_piece);
  }
