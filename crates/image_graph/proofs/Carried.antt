-- Words that hold a graph hold it where objects were copied, or references renamed: each object that is led to comes from one that was.
use Rattle.std.proofs.Common.{◌≡◌, ◌≢◌, ℕ, ◌+◌, ◌<◌, ◌≤◌, ◌⊎◌, if◌then◌else◌, true, false, length, inl, inr, slice_get, get_or, Option, Some, None, ⊎_elim, sym, ap, ◌∙◌, subst, arith}
use Rattle.std.proofs.lemmas.Bool.{cond-false, cases_Bool, cases_lt}
use Rattle.std.proofs.lemmas.Option.{slice_get_within, slice_get-get_or}
use Rattle.heap_words.specs.declared.config.Config.{Config}
use Rattle.heap_words.specs.Words.{Word, Cset, Free, Top, Current, Root, Wait, Answer, Heap, Share, Pin}
use Rattle.heap_words.specs.Encoding.{plain_header, is_forwarded, forwardee_in, refs_in, nums_in, shape_word, request_count_in, request_shape_in}
use Rattle.shen_graph.specs.declared.name.Name.{Name}
use Rattle.shen_graph.specs.Graph.{Graph, Object, Reference}
use Rattle.heap_world.specs.Walk.{has}
use Rattle.heap_world.specs.World.{thing, Plot, name_at, Points, IsPlotted, IsFilled, IsThing, IsFreeWord, ShareIsOpen, AreBuffers}
use Rattle.heap_world.proofs.Pointing.{named_piece, named_if_not_0, piece_inside}
use Rattle.image_graph.specs.Held.{IsLedTo, from_root, from_field, IsAmong, IsCopy, HoldsGraph}
use Rattle.image_graph.specs.Plot.{NamedAreThings}
use Rattle.image_graph.specs.Full.{now_in, roots_below, answers_below, root_words, held_words}
use Rattle.image_graph.specs.Pinned.{pins_below}
use Rattle.image_graph.specs.Promised.{Promises, with_promised}
use Rattle.image_graph.specs.Image.{AnswerStands, PinWordStands, RootsStand}
use Rattle.image_graph.specs.Serving.{asked_shape, AreAsking}
use Rattle.image_graph.proofs.Reached.{refs_read}
use Rattle.image_graph.proofs.HeldRoots as roots
use Rattle.image_graph.proofs.HeldRoots.{has_either, root_in, answer_in, pin_in, pin_some, pin_copy, pin_stays, root_among, answer_among, pin_among, answer_names}
use Rattle.image_graph.specs.Holds.{HasMoved, HoldsBy}

-- the current copy goes by the header
pub now_same : (memory other_memory : Word → ℕ) (address : ℕ) → memory (Heap address) ≡ other_memory (Heap address) → now_in memory address ≡ now_in other_memory address
now_same memory other_memory address same_word = ap (λ header. if is_forwarded header then forwardee_in header else address) same_word

-- A word is as it was, or names the current copy of what it named; null, and an answer that is no address, stay.
pub record IsRenamed (memory : Word → ℕ) (v w : ℕ) : Type 0 where
  pub small : v ≤ 1 → w ≡ v
  pub either : (w ≡ v) ⊎ (w ≡ now_in memory v)

pub not_renamed : (memory : Word → ℕ) (old_word new_word : ℕ) → new_word ≡ old_word → IsRenamed memory old_word new_word
not_renamed memory old_word new_word same_word = record { small = λ low. same_word; either = inl same_word }

-- An object at an address comes from one at its origin, has that one's words, and fields that name the same; and so do roots and
-- answers. Of two addresses with one origin one at most is a current copy. Pin words stay, and what they hold does not move.
pub record IsCarried (config : Config) (memory other_memory : Word → ℕ) (block plot : Plot) (origin : ℕ → ℕ) (Lands : ℕ → Type 0) : Type 0 where
  pub plotted : IsPlotted config (λ region. other_memory (Top region)) plot
  pub names : (address : ℕ) (name : Name) → name_at (block address) ≡ Some name → name_at (plot address) ≡ Some name
  pub current : (address : ℕ) (name : Name) → name_at (plot address) ≡ Some name → IsCopy plot (now_in other_memory address) name
  pub now : (address : ℕ) (name : Name) → name_at (block address) ≡ Some name → origin (now_in other_memory address) ≡ now_in memory address
  pub lands : (address : ℕ) (name : Name) → name_at (block address) ≡ Some name → Lands (now_in other_memory address)
  pub one : (address y : ℕ) → Lands address → Lands y → origin address ≡ origin y → address ≡ y
  pub pieces : (address refs nums : ℕ) (name : Name) → plot address ≡ Some (thing name refs nums) → block (origin address) ≡ Some (thing name refs nums)
  pub header : (address refs nums : ℕ) (name : Name) → plot address ≡ Some (thing name refs nums) → Lands address → memory (Heap (origin address)) ≡ plain_header → other_memory (Heap address) ≡ plain_header
  pub words : (address k refs nums : ℕ) (name : Name) → plot address ≡ Some (thing name refs nums) → Lands address → refs_in (memory (Heap (origin address + 1))) ≡ refs
      → 0 < k → k < 3 + refs + nums → (k < 3) ⊎ (3 + refs ≤ k) → other_memory (Heap (address + k)) ≡ memory (Heap (origin address + k))
  pub fields : (address index refs nums : ℕ) (name : Name) → plot address ≡ Some (thing name refs nums) → Lands address → index < refs
      → IsRenamed memory (memory (Heap (origin address + 3 + index))) (other_memory (Heap (address + 3 + index)))
  pub roots : (mutator index : ℕ) → mutator < config.mutators → index < 16 → IsRenamed memory (memory (Root mutator index)) (other_memory (Root mutator index))
  pub answers : (mutator : ℕ) → mutator < config.mutators → IsRenamed memory (memory (Answer mutator)) (other_memory (Answer mutator))
  pub pins : (mutator index : ℕ) → mutator < config.mutators → index < 4 → other_memory (Pin mutator index) ≡ memory (Pin mutator index)
  pub pinned : (mutator index : ℕ) → mutator < config.mutators → index < 4 → (name : Name) → IsCopy block (memory (Pin mutator index)) name → is_forwarded (memory (Heap (memory (Pin mutator index)))) ≡ false
      → is_forwarded (other_memory (Heap (memory (Pin mutator index)))) ≡ false
  pub waits : (mutator : ℕ) → other_memory (Wait mutator) ≡ memory (Wait mutator)

module _ (config : Config) (memory carried_memory : Word → ℕ) (block plot : Plot) (owner : ℕ → Option ℕ) (promises : Promises) (graph : Graph) (holds : HoldsBy config memory block owner promises graph)
    (origin : ℕ → ℕ) (Lands : ℕ → Type 0) (carried : IsCarried config memory carried_memory block plot origin Lands) where
  abbrev top : ℕ → ℕ
  top region = memory (Top region)

  abbrev heap : ℕ → ℕ
  heap address = memory (Heap address)

  abbrev after : ℕ → ℕ
  after address = carried_memory (Heap address)

  abbrev more : Graph
  more = with_promised graph promises

  abbrev IsLedWas : ℕ → Type 0
  IsLedWas = IsLedTo (now_in memory) heap (IsAmong (held_words config memory))

  abbrev IsLedNow : ℕ → Type 0
  IsLedNow = IsLedTo (now_in carried_memory) after (IsAmong (held_words config carried_memory))

  -- a current copy is its own
  now_own : (address : ℕ) (name : Name) → name_at (block address) ≡ Some name → now_in memory (now_in memory address) ≡ now_in memory address
  now_own address name named = ⊎_elim
      (λ (moved : is_forwarded (heap address) ≡ true).
      let piece = holds.pieces.named address name named in
      let has_moved = holds.moved address piece.0 piece.1 name piece.2 moved in
      cond-false (is_forwarded (heap (now_in memory address))) (forwardee_in (heap (now_in memory address))) (now_in memory address) has_moved.current)
      (λ (plain : is_forwarded (heap address) ≡ false). ap (now_in memory) (cond-false (is_forwarded (heap address)) (forwardee_in (heap address)) address plain))
      (cases_Bool (is_forwarded (heap address)))

  -- what a word names it names once it is renamed
  renamed_names : (address renamed_address : ℕ) (name : Name) → IsRenamed memory address renamed_address → name_at (block address) ≡ Some name → (name_at (block renamed_address) ≡ Some name) × (now_in memory renamed_address ≡ now_in memory address)
  renamed_names address renamed_address name renamed named = ⊎_elim
      (λ (same_address : renamed_address ≡ address). (ap (λ address. name_at (block address)) same_address ∙ named, ap (now_in memory) same_address))
      (λ (is_copy : renamed_address ≡ now_in memory address).
      let copy = holds.objects.current address name named in
      (ap (λ address. name_at (block address)) is_copy ∙ ap name_at copy.2, ap (now_in memory) is_copy ∙ now_own address name named))
      renamed.either

  points_again : (address renamed_address : ℕ) (reference : Reference) → IsRenamed memory address renamed_address → Points block address reference → Points plot renamed_address reference
  points_again address renamed_address None renamed points = renamed.small (omega (arith, points)) ∙ points
  points_again address renamed_address (Some name) renamed points = carried.names renamed_address name (renamed_names address renamed_address name renamed points).0

  not_null : (old_word new_word : ℕ) → IsRenamed memory old_word new_word → new_word ≢ 0 → old_word ≢ 0
  not_null old_word new_word renamed positive no_word = positive (renamed.small (omega (arith, no_word)) ∙ no_word)

  -- an object that is led to, and that comes from one that was
  pub record ComesFrom (address : ℕ) : Type 0 where
    pub name : Name
    pub refs : ℕ
    pub nums : ℕ
    pub here : plot address ≡ Some (thing name refs nums)
    pub there : Lands address
    pub led : IsLedWas (origin address)

  comes : (address renamed_address : ℕ) (name : Name) → IsRenamed memory address renamed_address → name_at (block address) ≡ Some name → IsLedWas (now_in memory address) → ComesFrom (now_in carried_memory renamed_address)
  comes address renamed_address name renamed named led =
      let target_named = renamed_names address renamed_address name renamed named in
      let copy = carried.current renamed_address name (carried.names renamed_address name target_named.0) in
      record {
        name = name;
        refs = copy.0;
        nums = copy.1;
        here = copy.2;
        there = carried.lands renamed_address name target_named.0;
        led = subst IsLedWas (sym (carried.now renamed_address name target_named.0 ∙ target_named.1)) led;
      }

  root_comes : (mutator index : ℕ) → mutator < config.mutators → index < 16 → carried_memory (Root mutator index) ≢ 0 → ComesFrom (now_in carried_memory (carried_memory (Root mutator index)))
  root_comes mutator index inside index_low positive =
      let renamed = carried.roots mutator index inside index_low in
      let old_some = not_null (memory (Root mutator index)) (carried_memory (Root mutator index)) renamed positive in
      let target_named = named_if_not_0 config top block holds.objects.plotted (memory (Root mutator index)) (graph.root (mutator + 1) index) (holds.rooted.roots mutator index inside index_low) old_some in
      comes (memory (Root mutator index)) (carried_memory (Root mutator index)) target_named.0 renamed target_named.2
      (from_root (memory (Root mutator index)) (root_among config top memory block graph promises holds.objects.plotted holds.rooted mutator index inside index_low) old_some)

  answer_comes : (mutator : ℕ) → mutator < config.mutators → 1 < carried_memory (Answer mutator) → ComesFrom (now_in carried_memory (carried_memory (Answer mutator)))
  answer_comes mutator inside answer_big = ⊎_elim
      (λ (big : 1 < memory (Answer mutator)).
      let renamed = carried.answers mutator inside in
      let target_named = answer_names config top memory block graph promises holds.objects.plotted holds.rooted (memory (Answer mutator)) (promises.ref (mutator + 1)) big (holds.rooted.answers mutator inside) in
      comes (memory (Answer mutator)) (carried_memory (Answer mutator)) target_named.0 renamed target_named.2
      (from_root (memory (Answer mutator)) (answer_among config top memory block graph promises holds.objects.plotted holds.rooted mutator inside big) (λ no_word. omega (arith, no_word, big))))
      (λ (low : memory (Answer mutator) ≤ 1). absurd (let same_answer = (carried.answers mutator inside).small low in omega (arith, same_answer, low, answer_big)))
      (cases_lt 1 (memory (Answer mutator)))

  -- what a pin slot holds has a name
  pin_named : (mutator index : ℕ) → mutator < config.mutators → index < 4 → memory (Pin mutator index) ≢ 0 → (name : Name) × (name_at (block (memory (Pin mutator index))) ≡ Some name)
  pin_named mutator index inside index_low positive =
      let stands = holds.rooted.pins mutator index inside index_low in
      let slot_held = pin_some memory block (memory (Pin mutator index)) (graph.pin (mutator + 1) index) stands positive in
      let copy = (pin_copy memory block (memory (Pin mutator index)) (graph.pin (mutator + 1) index) slot_held.0 stands slot_held.1).1 in
      (slot_held.0.name, ap name_at copy.2)

  pin_comes : (mutator index : ℕ) → mutator < config.mutators → index < 4 → carried_memory (Pin mutator index) ≢ 0 → ComesFrom (now_in carried_memory (carried_memory (Pin mutator index)))
  pin_comes mutator index inside index_low positive =
      let same_pin = carried.pins mutator index inside index_low in
      let old_some : memory (Pin mutator index) ≢ 0 = λ no_word. positive (same_pin ∙ no_word) in
      let target_named = pin_named mutator index inside index_low old_some in
      comes (memory (Pin mutator index)) (carried_memory (Pin mutator index)) target_named.0 (not_renamed memory (memory (Pin mutator index)) (carried_memory (Pin mutator index)) same_pin) target_named.1
      (from_root (memory (Pin mutator index)) (pin_among config top memory block graph promises holds.objects.plotted holds.rooted mutator index inside index_low) old_some)

  named_comes : (word : ℕ) → IsAmong (root_words config carried_memory) word → word ≢ 0 → ComesFrom (now_in carried_memory word)
  named_comes word among positive = ⊎_elim
      (λ (root : has (roots_below carried_memory config.mutators) word ≡ true).
      let word_found = root_in carried_memory config.mutators word root in
      subst (λ found_word. ComesFrom (now_in carried_memory found_word)) word_found.4 (root_comes word_found.0 word_found.1 word_found.2 word_found.3 (λ no_word. positive (sym word_found.4 ∙ no_word))))
      (λ (answer : has (answers_below carried_memory config.mutators) word ≡ true).
      let word_found = answer_in carried_memory config.mutators word answer in
      subst (λ found_word. ComesFrom (now_in carried_memory found_word)) word_found.3 (answer_comes word_found.0 word_found.1 word_found.2))
      (has_either (roots_below carried_memory config.mutators) (answers_below carried_memory config.mutators) word among)

  word_comes : (word : ℕ) → IsAmong (held_words config carried_memory) word → word ≢ 0 → ComesFrom (now_in carried_memory word)
  word_comes word among positive = ⊎_elim
      (λ (named : has (root_words config carried_memory) word ≡ true). named_comes word named positive)
      (λ (pin : has (pins_below carried_memory config.mutators) word ≡ true).
      let word_found = pin_in carried_memory config.mutators word pin in
      subst (λ found_word. ComesFrom (now_in carried_memory found_word)) word_found.4 (pin_comes word_found.0 word_found.1 word_found.2 word_found.3 (λ no_word. positive (sym word_found.4 ∙ no_word))))
      (has_either (root_words config carried_memory) (pins_below carried_memory config.mutators) word among)

  -- how many references an object has
  reads : (address refs nums : ℕ) (name : Name) → IsLedWas (origin address) → plot address ≡ Some (thing name refs nums) → refs_in (heap (origin address + 1)) ≡ refs
  reads address refs nums name led thing_there =
      let object = holds.objects.each (origin address) refs nums name led (carried.pieces address refs nums name thing_there) in
      ap refs_in object.2.shape ∙ refs_read refs nums object.2.few_refs object.2.few_nums

  field_comes : (address index : ℕ) → ComesFrom address → index < refs_in (after (address + 1)) → after (address + 3 + index) ≢ 0 → ComesFrom (now_in carried_memory (after (address + 3 + index)))
  field_comes address index from few positive =
      let object = holds.objects.each (origin address) from.refs from.nums from.name from.led (carried.pieces address from.refs from.nums from.name from.here) in
      let refs_are : refs_in (heap (origin address + 1)) ≡ from.refs = reads address from.refs from.nums from.name from.led from.here in
      let shape : after (address + 1) ≡ heap (origin address + 1) = carried.words address 1 from.refs from.nums from.name from.here from.there refs_are (omega arith) (omega arith) (inl (omega arith)) in
      let index_below : index < from.refs = subst (λ refs. index < refs) (ap refs_in shape ∙ refs_are) few in
      let renamed = carried.fields address index from.refs from.nums from.name from.here from.there index_below in
      let old_some = not_null (heap (origin address + 3 + index)) (after (address + 3 + index)) renamed positive in
      let reference : Reference = get_or object.0.refs index None in
      let reference_there : slice_get object.0.refs index ≡ Some reference = slice_get-get_or object.0.refs index None (let refs_length = object.2.refs_are in omega (arith, index_below, refs_length)) in
      let target_named = named_if_not_0 config top block holds.objects.plotted (heap (origin address + 3 + index)) reference (object.2.references index reference reference_there) old_some in
      comes (heap (origin address + 3 + index)) (after (address + 3 + index)) target_named.0 renamed target_named.2 (from_field (origin address) index from.led (omega (arith, index_below, refs_are)) old_some)

  pub led_comes : (target : ℕ) → IsLedNow target → ComesFrom target
  led_comes _ (from_root word among some_word) = word_comes word among some_word
  led_comes _ (from_field address index led few some_word) = field_comes address index (led_comes address led) few some_word

  object_again : (address refs nums : ℕ) (name : Name) → ComesFrom address → plot address ≡ Some (thing name refs nums) → (object : Object) × (more.object name ≡ Some object) × IsThing after plot address refs nums name object
  object_again address refs nums name from thing_there =
      let object = holds.objects.each (origin address) refs nums name from.led (carried.pieces address refs nums name thing_there) in
      let old_thing = object.2 in
      let refs_are : refs_in (heap (origin address + 1)) ≡ refs = reads address refs nums name from.led thing_there in (
        object.0,
        object.1,
        record {
          header = carried.header address refs nums name thing_there from.there old_thing.header;
          shape = carried.words address 1 refs nums name thing_there from.there refs_are (omega arith) (omega arith) (inl (omega arith)) ∙ old_thing.shape;
          name_word = carried.words address 2 refs nums name thing_there from.there refs_are (omega arith) (omega arith) (inl (omega arith)) ∙ old_thing.name_word;
          few_refs = old_thing.few_refs;
          few_nums = old_thing.few_nums;
          refs_are = old_thing.refs_are;
          nums_are = old_thing.nums_are;
          references = λ index reference entry_there.
              let within : index < length object.0.refs = slice_get_within object.0.refs index reference entry_there in
              points_again (heap (origin address + 3 + index)) (after (address + 3 + index)) reference
              (carried.fields address index refs nums name thing_there from.there (let lengths_are = old_thing.refs_are in omega (arith, within, lengths_are))) (old_thing.references index reference entry_there);
          numbers = λ index entry entry_there.
              let within : index < length object.0.nums = slice_get_within object.0.nums index entry entry_there in
              let lengths_are = old_thing.nums_are in
              let place : address + (3 + refs + index) ≡ address + 3 + refs + index = omega arith in
              let same_place : origin address + (3 + refs + index) ≡ origin address + 3 + refs + index = omega arith in
              sym (ap after place) ∙ carried.words address (3 + refs + index) refs nums name thing_there from.there refs_are (omega arith) (omega (arith, within, lengths_are)) (inr (omega arith))
              ∙ ap heap same_place ∙ old_thing.numbers index entry entry_there;
        },
      )

  answer_again : (mutator : ℕ) → mutator < config.mutators → AnswerStands plot (carried_memory (Answer mutator)) (promises.ref (mutator + 1))
  answer_again mutator inside = ⊎_elim
      (λ (no_answer : (memory (Answer mutator) ≤ 1) × (promises.ref (mutator + 1) ≡ None)).
      inl ((let same_answer = (carried.answers mutator inside).small no_answer.0 in let low = no_answer.0 in omega (arith, same_answer, low)), no_answer.1))
      (λ (some_answer : (1 < memory (Answer mutator)) × (name : Name) × (promises.ref (mutator + 1) ≡ Some name) × (name_at (block (memory (Answer mutator))) ≡ Some name)).
      let target_named = renamed_names (memory (Answer mutator)) (carried_memory (Answer mutator)) some_answer.1 (carried.answers mutator inside) some_answer.3 in
      let piece = named_piece (block (carried_memory (Answer mutator))) some_answer.1 target_named.0 in
      let lies_inside = piece_inside config top block holds.objects.plotted (carried_memory (Answer mutator)) piece.0 piece.1 in
      let enough_words = config.in_range.least_words in
      inr (omega (arith, lies_inside.0, enough_words), some_answer.1, some_answer.2, carried.names (carried_memory (Answer mutator)) some_answer.1 target_named.0))
      (holds.rooted.answers mutator inside)

  pin_again : (mutator index : ℕ) → mutator < config.mutators → index < 4 → PinWordStands carried_memory plot (carried_memory (Pin mutator index)) (graph.pin (mutator + 1) index)
  pin_again mutator index inside index_low =
      let pin_word = memory (Pin mutator index) in
      let stay : (name : Name) → IsCopy block pin_word name → is_forwarded (heap pin_word) ≡ false → IsCopy plot pin_word name × (is_forwarded (after pin_word) ≡ false) = λ name old_name not_forwarded.
      let plain = carried.pinned mutator index inside index_low name old_name not_forwarded in
      let own_copy : now_in carried_memory pin_word ≡ pin_word = cond-false (is_forwarded (after pin_word)) (forwardee_in (after pin_word)) pin_word plain in
      (subst (λ current_word. IsCopy plot current_word name) own_copy (carried.current pin_word name (carried.names pin_word name (ap name_at old_name.2))), plain) in
      subst (λ current_word. PinWordStands carried_memory plot current_word (graph.pin (mutator + 1) index)) (sym (carried.pins mutator index inside index_low))
      (pin_stays memory carried_memory block plot pin_word (graph.pin (mutator + 1) index) stay (holds.rooted.pins mutator index inside index_low))

  pub rooted_again : RootsStand config carried_memory plot graph promises
  rooted_again = record {
    roots = λ mutator index inside few. points_again (memory (Root mutator index)) (carried_memory (Root mutator index)) (graph.root (mutator + 1) index) (carried.roots mutator index inside few) (holds.rooted.roots mutator index inside few);
    answers = answer_again;
    no_more_roots = holds.rooted.no_more_roots;
    pins = pin_again;
    no_more_pins = holds.rooted.no_more_pins;
    no_more_promised = holds.rooted.no_more_promised;
  }

  pub objects_again : HoldsGraph config (λ region. carried_memory (Top region)) after plot (now_in carried_memory) (IsAmong (held_words config carried_memory)) more
  objects_again = record {
    plotted = carried.plotted;
    current = carried.current;
    each = λ address refs nums name led thing_there. object_again address refs nums name (led_comes address led) thing_there;
    once = λ first_address second_address refs nums other_refs other_nums name led_x led_y here_x here_y.
        let from_x = led_comes first_address led_x in
        let from_y = led_comes second_address led_y in
        carried.one first_address second_address from_x.there from_y.there
        (holds.objects.once (origin first_address) (origin second_address) refs nums other_refs other_nums name from_x.led from_y.led (carried.pieces first_address refs nums name here_x) (carried.pieces second_address other_refs other_nums name here_y));
    root_named = roots.root_named config (λ region. carried_memory (Top region)) carried_memory plot graph promises carried.plotted rooted_again;
    root_held = roots.root_held config (λ region. carried_memory (Top region)) carried_memory plot graph promises carried.plotted rooted_again;
    pinless = holds.objects.pinless;
  }

  asking_again : AreAsking config carried_memory graph promises 0
  asking_again asking_mutator from mutator_below is_waiting =
      let wait = carried.waits asking_mutator in
      let old_asking = holds.asking asking_mutator from mutator_below (λ no_answer. is_waiting (wait ∙ no_answer)) in
      let shape : asked_shape carried_memory asking_mutator ≡ asked_shape memory asking_mutator = ap request_shape_in wait in
      record {
        shape = subst (λ shape_now. shape_now ≡ shape_word (refs_in shape_now) (nums_in shape_now)) (sym shape) old_asking.shape;
        few_refs = subst (λ shape_now. refs_in shape_now ≤ 16) (sym shape) old_asking.few_refs;
        few_nums = subst (λ shape_now. nums_in shape_now ≤ 16) (sym shape) old_asking.few_nums;
        unanswered = (carried.answers asking_mutator mutator_below).small (let no_answer = old_asking.unanswered in omega (arith, no_answer)) ∙ old_asking.unanswered;
        new = subst (λ shape_now. more.object (record { thread = asking_mutator + 1; count = request_count_in shape_now }) ≡ None) (sym wait) old_asking.new;
      }

  -- so the words hold the graph, where the regions are as they should be
  pub carried_holds : ((address refs nums : ℕ) (name : Name) → plot address ≡ Some (thing name refs nums) → is_forwarded (after address) ≡ true → HasMoved config carried_memory plot address refs nums name)
      → IsFilled config (λ region. carried_memory (Top region)) plot → NamedAreThings plot → IsFreeWord config (carried_memory Free) (λ region. carried_memory (Top region)) owner → ShareIsOpen config (carried_memory Share) (carried_memory Free) (carried_memory Cset) owner
      → AreBuffers config (λ region. carried_memory (Top region)) (λ seat. carried_memory (Current seat)) plot
      → HoldsBy config carried_memory plot owner promises graph
  carried_holds moved filled pieces free_word shared_one buffers = record {
    objects = objects_again;
    rooted = rooted_again;
    moved = moved;
    filled = filled;
    pieces = pieces;
    free_word = free_word;
    shared_one = shared_one;
    buffers = buffers;
    asking = asking_again;
    next = record {
      asked = λ mutator mutator_below is_waiting. ap request_count_in (carried.waits mutator) ∙ holds.next.asked mutator mutator_below (λ not_waiting. is_waiting (carried.waits mutator ∙ not_waiting));
      promised = holds.next.promised;
      given = holds.next.given;
    };
    unreached = holds.unreached;
  }
