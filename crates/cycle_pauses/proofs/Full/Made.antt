-- An answer that is an address is that of the object that was promised, and one that is none promises nothing.
use Rattle.std.proofs.Common.{◌≡◌, ℕ, ◌+◌, ◌-◌, ◌<◌, ◌≤◌, true, length, Some, None, ⊎_elim, refl, sym, ap, ◌∙◌, subst, arith}
use Rattle.std.proofs.lemmas.Bool.{cond-true, cases_lt}
use Rattle.std.proofs.lemmas.Bool.Decides.{nat_tests}
use Rattle.std.proofs.lemmas.List.{length-replicate}
use Rattle.std.proofs.lemmas.Option.{none-some, same_Some}
use Rattle.shen_graph.proofs.Lists.{replicate_at}
use Rattle.heap_words.specs.declared.config.Config.{Config}
use Rattle.heap_words.specs.Words.{Word, Answer, Heap}
use Rattle.heap_words.specs.Encoding.{name_code, fresh_word}
use Rattle.shen_graph.specs.declared.name.Name.{Name}
use Rattle.shen_graph.specs.Graph.{Graph, Object, Reference, blank, fresh, same_reference}
use Rattle.shen_graph.proofs.PlainLemmas.{same_name-itself}
use Rattle.shen_graph.specs.Valid.{most_objects}
use Rattle.heap_world.specs.World.{thing, promised, Plot, name_at, IsThing}
use Rattle.heap_world.specs.Asking.{HasNoPromise, IsPromise}
use Rattle.image_graph.proofs.Named.{thing_at}
use Rattle.image_graph.specs.Promised.{Promises, with_promised}
use Rattle.cycle_pauses.proofs.Full.Mapped.{mapped_at}
use Rattle.cycle_pauses.proofs.Full.After.{is_promised, as_promised, IsAfter, IsPromisedThing, taken, gone}

-- the words of a blank object are those of a new one
blank_words : (heap : ℕ → ℕ) (block : Plot) (address mutator made refs nums : ℕ) (name : Name) → name ≡ record { thread = mutator + 1; count = made + 1 } → IsThing heap block address refs nums name (blank refs nums)
    → (word_offset : ℕ) → word_offset < 3 + refs + nums → heap (address + word_offset) ≡ fresh_word mutator made refs nums word_offset
blank_words heap block address mutator made refs nums name next_name blank_thing word_offset offset_below = ⊎_elim
    (λ (header_word : word_offset < 1). at word_offset 0 (omega (arith, header_word)) (ap heap (omega arith) ∙ blank_thing.header))
    (λ past_one. ⊎_elim
    (λ (shape_or_before : word_offset < 2). at word_offset 1 (omega (arith, shape_or_before, past_one)) blank_thing.shape)
    (λ past_two. ⊎_elim
    (λ (name_or_before : word_offset < 3). at word_offset 2 (omega (arith, name_or_before, past_two)) (blank_thing.name_word ∙ ap (λ (name : Name). name_code name.thread name.count) next_name))
    (λ past. ⊎_elim
    (λ (reference : word_offset - 3 < refs).
    let null : Reference = None in
    let place : address + word_offset ≡ address + 3 + (word_offset - 3) = omega (arith, past) in
    ap heap place ∙ blank_thing.references (word_offset - 3) null (replicate_at refs (word_offset - 3) null reference) ∙ sym (fresh_zero word_offset past))
    (λ number.
    let place : address + word_offset ≡ address + 3 + refs + (word_offset - 3 - refs) = omega (arith, past, number) in
    ap heap place ∙ blank_thing.numbers (word_offset - 3 - refs) 0 (replicate_at nums (word_offset - 3 - refs) 0 (omega (arith, past, number, offset_below))) ∙ sym (fresh_zero word_offset past))
    (cases_lt (word_offset - 3) refs))
    (cases_lt word_offset 3))
    (cases_lt word_offset 2))
    (cases_lt word_offset 1)
  where
    at : (asked_offset offset : ℕ) → asked_offset ≡ offset → heap (address + offset) ≡ fresh_word mutator made refs nums offset → heap (address + asked_offset) ≡ fresh_word mutator made refs nums asked_offset
    at asked_offset offset same_offset word = ap (λ x. heap (address + x)) same_offset ∙ word ∙ ap (fresh_word mutator made refs nums) (sym same_offset)

    fresh_zero : (offset : ℕ) → 3 ≤ offset → fresh_word mutator made refs nums offset ≡ 0
    fresh_zero offset behind_name = grind (arith, nat_tests)

module _ (config : Config) (memory : Word → ℕ) (block : Plot) (graph : Graph) (promises : Promises) (is_after : IsAfter config memory block graph promises) where
  abbrev heap : ℕ → ℕ
  heap address = memory (Heap address)

  -- the thread of what is promised to a mutator
  ref_of_thread : (mutator address words : ℕ) (promised_thing : IsPromisedThing block promises address mutator words) → (promised_thing.name.thread ≡ mutator + 1) × (promises.ref (mutator + 1) ≡ Some promised_thing.name)
  ref_of_thread mutator address words promised_thing =
      let promise_found = is_after.stands.rooted.no_more_promised promised_thing.name.thread promised_thing.name promised_thing.named in
      let thread : promised_thing.name.thread ≡ mutator + 1 = omega (arith, promise_found.2, promised_thing.seat_is) in
      (thread, ap promises.ref (sym thread) ∙ promised_thing.named)

  -- an answer that is an address is that of something promised, and the other way round
  pub promised_if_some : (mutator : ℕ) → mutator < config.mutators → 1 < memory (Answer mutator) → (name : Name) × (promises.ref (mutator + 1) ≡ Some name)
  promised_if_some mutator inside some_answer = ⊎_elim
      (λ (nothing : (memory (Answer mutator) ≤ 1) × (promises.ref (mutator + 1) ≡ None)). absurd (omega (arith, nothing.0, some_answer)))
      (λ (answer_stands : (1 < memory (Answer mutator)) × (name : Name) × (promises.ref (mutator + 1) ≡ Some name) × (name_at (block (memory (Answer mutator))) ≡ Some name)). (answer_stands.1, answer_stands.2))
      (is_after.stands.rooted.answers mutator inside)

  pub some_if_promised : (mutator : ℕ) (name : Name) → mutator < config.mutators → promises.ref (mutator + 1) ≡ Some name → 1 < memory (Answer mutator)
  some_if_promised mutator promised_name inside name_promised = ⊎_elim
      (λ (nothing : (memory (Answer mutator) ≤ 1) × (promises.ref (mutator + 1) ≡ None)). absurd (none-some promised_name (sym nothing.1 ∙ name_promised)))
      (λ (answer_stands : (1 < memory (Answer mutator)) × (name : Name) × (promises.ref (mutator + 1) ≡ Some name) × (name_at (block (memory (Answer mutator))) ≡ Some name)). answer_stands.0)
      (is_after.stands.rooted.answers mutator inside)

  -- an answer that is no address promises nothing
  pub no_promise : (mutator : ℕ) → mutator < config.mutators → memory (Answer mutator) ≤ 1 → HasNoPromise (taken config memory block graph promises is_after) mutator
  no_promise mutator inside null_answer address words promise_there =
      let promised_thing = gone config memory block graph promises is_after address mutator words promise_there in
      let some_answer = some_if_promised mutator promised_thing.name inside (ref_of_thread mutator address words promised_thing).1 in
      omega (arith, some_answer, null_answer)

  module _ (mutator refs nums : ℕ) (inside : mutator < config.mutators) (some_answer : 1 < memory (Answer mutator)) (refs_are : promises.refs (mutator + 1) ≡ refs) (nums_are : promises.nums (mutator + 1) ≡ nums)
      (few_refs : refs ≤ 16) (few_nums : nums ≤ 16) (few : graph.count (mutator + 1) < most_objects) where
    abbrev a : ℕ
    a = memory (Answer mutator)

    abbrev n : Name
    n = fresh graph (mutator + 1)

    -- the thread's next object
    ref : promises.ref (mutator + 1) ≡ Some n
    ref = let promised_name = promised_if_some mutator inside some_answer in promised_name.1 ∙ ap Some (is_after.next (mutator + 1) promised_name.0 promised_name.1)

    named_there : name_at (block a) ≡ Some n
    named_there = ⊎_elim
        (λ (nothing : (memory (Answer mutator) ≤ 1) × (promises.ref (mutator + 1) ≡ None)). absurd (omega (arith, nothing.0, some_answer)))
        (λ (answer_stands : (1 < memory (Answer mutator)) × (name : Name) × (promises.ref (mutator + 1) ≡ Some name) × (name_at (block (memory (Answer mutator))) ≡ Some name)). answer_stands.3 ∙ ap Some (is_after.next (mutator + 1) answer_stands.1 answer_stands.2))
        (is_after.stands.rooted.answers mutator inside)

    is_one : is_promised promises n ≡ true
    is_one = ap (λ reference. same_reference reference (Some n)) ref ∙ same_name-itself n

    object : (with_promised graph promises).object n ≡ Some (blank refs nums)
    object =
        cond-true (is_promised promises n) (Some (blank (promises.refs (mutator + 1)) (promises.nums (mutator + 1)))) (graph.object n) is_one
        ∙ ap (λ field_count. Some (blank field_count (promises.nums (mutator + 1)))) refs_are ∙ ap (λ field_count. Some (blank refs field_count)) nums_are

    -- it is at the answer, of that many words
    there : block a ≡ Some (thing n refs nums)
    there =
        let thing_found = thing_at block is_after.stands.things a n named_there in
        let its_object = is_after.stands.objects.each a thing_found.0 thing_found.1 n thing_found.2 in
        let same_object : its_object.0 ≡ blank refs nums = same_Some its_object.0 (blank refs nums) (sym its_object.1 ∙ object) in
        let null : Reference = None in
        let blank_number : ℕ = 0 in
        let refs_length : length its_object.0.refs ≡ refs = ap (λ (object : Object). length object.refs) same_object ∙ length-replicate refs null in
        let nums_length : length its_object.0.nums ≡ nums = ap (λ (object : Object). length object.nums) same_object ∙ length-replicate nums blank_number in
        thing_found.2 ∙ ap (λ refs. Some (thing n refs thing_found.1)) (sym its_object.2.refs_are ∙ refs_length) ∙ ap (λ nums. Some (thing n refs nums)) (sym its_object.2.nums_are ∙ nums_length)

    words_there : IsThing heap block a refs nums n (blank refs nums)
    words_there =
        let its_object = is_after.stands.objects.each a refs nums n there in
        subst (IsThing heap block a refs nums n) (same_Some its_object.0 (blank refs nums) (sym its_object.1 ∙ object)) its_object.2

    pub promise : IsPromise memory (taken config memory block graph promises is_after) graph.count mutator refs nums a
    promise =
        let mutator_back : mutator + 1 - 1 ≡ mutator = omega arith in
        record {
          here =
              mapped_at (as_promised promises) block a (thing n refs nums) there
              ∙ ap Some (cond-true (is_promised promises n) (promised (mutator + 1 - 1) (3 + refs + nums)) (thing n refs nums) is_one)
              ∙ ap (λ seat. Some (promised seat (3 + refs + nums))) mutator_back;
          words = blank_words heap block a mutator (graph.count (mutator + 1)) refs nums n refl words_there;
          only = λ asked_address words promise_there.
              let promised_thing = gone config memory block graph promises is_after asked_address mutator words promise_there in
              let same_names : promised_thing.name ≡ n = same_Some promised_thing.name n (sym (ref_of_thread mutator asked_address words promised_thing).1 ∙ ref) in
              is_after.stands.objects.once asked_address a promised_thing.refs promised_thing.nums refs nums n (promised_thing.here ∙ ap (λ name. Some (thing name promised_thing.refs promised_thing.nums)) same_names) there;
          few_refs = few_refs;
          few_nums = few_nums;
          few = few;
        }
