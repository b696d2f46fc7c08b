-- The words of an image before a pause: promised objects are objects of a larger graph, and an old copy is an object as its current
-- copy is.
use Rattle.std.proofs.Common.{◌≡◌, ℕ, ◌+◌, ◌-◌, ◌<◌, ◌≤◌, ◌⊎◌, ◌&&◌, inl, inr, true, false, nat_le, nat_lt, Option, Some, None, ⊎_elim, refl, sym, ap, ◌∙◌, subst, arith}
use Rattle.std.proofs.lemmas.Bool.{cond-true, cond-false, cases_Bool, and_parts, leb-true, ltb-true}
use Rattle.std.proofs.lemmas.Option.{none-some, same_Some}
use Rattle.heap_words.specs.declared.config.Config.{Config}
use Rattle.heap_words.specs.Words.{Word, Cset, Evac, Top, Current, Root, Pin, Answer, Heap}
use Rattle.heap_words.specs.Encoding.{is_forwarded, next_in, end_in}
use Rattle.shen_graph.specs.declared.name.Name.{Name}
use Rattle.shen_graph.specs.declared.pin.Pinned.{Pinned}
use Rattle.shen_graph.specs.Graph.{Graph, Object, blank, fresh, same_reference}
use Rattle.shen_graph.proofs.PlainLemmas.{same_name-itself}
use Rattle.heap_world.specs.World.{Block, thing, moved, spent, hand, promised, dead, filler, spare, carved, words_of, room_of, Plot, name_at, body_of, PinStands, IsPlotted, IsFilled, AreBuffers, IsThing, IsMarkable}
use Rattle.heap_world.specs.Asking.{Asking, nothing, asks, refused, given, IsPromise, IsAsked}
use Rattle.heap_world.specs.Roots.{is_root_of, is_slot_of}
use Rattle.heap_world.specs.Represents.{RepresentsByCopies}
use Rattle.heap_world.proofs.Pointing.{named_body, copy_cases}
use Rattle.heap_world.proofs.Pieces.{some_words, object_reads}
use Rattle.heap_world.proofs.Keeping.{points_stay}
use Rattle.heap_world.proofs.NewObject.{new_object}
use Rattle.image_graph.specs.Promised.{Promises, with_promised}
use Rattle.image_graph.specs.Image.{AnswerStands, PinWordStands, RootsStand}
use Rattle.image_graph.proofs.Promised.{same_reference-true}
use Rattle.cycle_pauses.proofs.Full.Promises.{promised_ref, promised_refs, promised_nums, promises_of, ref_of, refs_of, nums_of, promised_one}
use Rattle.cycle_pauses.proofs.Full.Mapped.{mapped, mapped_at, mapped_from, plotted_alike, filled_alike}

-- what is at the address of a current copy, as an object of the larger graph: a promised object has its thread's next name
abbrev pub as_current : Graph → (ℕ → Asking) → Option Block → Block → Block
as_current graph asking (Some (thing name refs nums)) other_piece = thing name refs nums
as_current graph asking (Some (promised seat words)) other_piece = thing (fresh graph (seat + 1)) (promised_refs (asking seat)) (promised_nums (asking seat))
as_current graph asking _ other_piece = other_piece

-- a piece so, an old copy by what is at its current copy
abbrev pub as_object : Graph → (ℕ → Asking) → Plot → Block → Block
as_object graph asking block (thing name refs nums) = thing name refs nums
as_object graph asking block (moved name refs nums copy_address) = thing name refs nums
as_object graph asking block (spent words copy_address) = as_current graph asking (block copy_address) (dead words)
as_object graph asking block (promised seat words) = thing (fresh graph (seat + 1)) (promised_refs (asking seat)) (promised_nums (asking seat))
as_object graph asking block piece = piece

-- a piece that is no object, old or new, nor in hand or carved: it is a dead object, only fills, or is the free words of a buffer
abbrev pub OnlyFills : Block → Type 0
OnlyFills (thing name refs nums) = ⊥
OnlyFills (moved name refs nums copy_address) = ⊥
OnlyFills (spent words copy_address) = ⊥
OnlyFills (hand seat words) = ⊥
OnlyFills (carved seat words) = ⊥
OnlyFills (promised seat words) = ⊥
OnlyFills _ = Unit {0}

-- it is no object of the larger graph
pub fills_still : (graph : Graph) (asking : ℕ → Asking) (block : Plot) (piece : Block) → OnlyFills piece → as_object graph asking block piece ≡ piece
fills_still graph asking block (thing name refs nums) fills = absurd fills
fills_still graph asking block (moved name refs nums copy_address) fills = absurd fills
fills_still graph asking block (spent words copy_address) fills = absurd fills
fills_still graph asking block (hand seat words) fills = absurd fills
fills_still graph asking block (carved seat words) fills = absurd fills
fills_still graph asking block (promised seat words) fills = absurd fills
fills_still graph asking block _ fills = refl

pub fills_unnamed : (piece : Block) (name : Name) → OnlyFills piece → name_at (Some piece) ≡ Some name → ⊥
fills_unnamed (thing piece_name refs nums) name fills name_there = fills
fills_unnamed (moved piece_name refs nums copy_address) name fills name_there = fills
fills_unnamed _ name fills name_there = none-some name name_there

-- what the words at an address are as a piece
abbrev ObjectAt : (ℕ → ℕ) → Plot → (Name → Option Object) → ℕ → Block → Type 0
ObjectAt heap block object address (thing name refs nums) = (given_object : Object) × (object name ≡ Some given_object) × IsThing heap block address refs nums name given_object
ObjectAt heap block object address _ = Unit {0}

-- what is a thread's, so many each
pub record IsThreads (config : Config) (t i cells : ℕ) : Type 0 where
  pub mutator : ℕ
  pub inside : mutator < config.mutators
  pub thread : t ≡ mutator + 1
  pub few : i < cells

pub threads_one : (config : Config) (thread index cells : ℕ) → (nat_le 1 thread && (nat_le thread config.mutators && nat_lt index cells)) ≡ true → IsThreads config thread index cells
threads_one config thread index cells met =
    let thread_parts = and_parts (nat_le 1 thread) (nat_le thread config.mutators && nat_lt index cells) met in
    let later_parts = and_parts (nat_le thread config.mutators) (nat_lt index cells) thread_parts.1 in
    let low = leb-true 1 thread thread_parts.0 in
    let high = leb-true thread config.mutators later_parts.0 in
    record { mutator = thread - 1; inside = omega (arith, low, high); thread = omega (arith, low); few = ltb-true index cells later_parts.1 }

-- the promised object at an address, by what its mutator asked for
pub record IsPromisedAt (config : Config) (memory : Word → ℕ) (block : Plot) (graph : Graph) (asking : ℕ → Asking) (address seat words : ℕ) : Type 0 where
  pub refs : ℕ
  pub nums : ℕ
  pub inside : seat < config.mutators
  pub is_given : asking seat ≡ given refs nums
  pub long : words ≡ 3 + refs + nums
  pub promise : IsPromise memory block graph.count seat refs nums address

module _ (config : Config) (memory : Word → ℕ) (graph : Graph) (asking : ℕ → Asking) (represents_by_copies : RepresentsByCopies config memory graph asking) where
  abbrev block : Plot
  block = represents_by_copies.block

  abbrev heap : ℕ → ℕ
  heap address = memory (Heap address)

  abbrev promises : Promises
  promises = promises_of config graph asking

  abbrev pub live : Plot
  live = mapped (as_object graph asking represents_by_copies.block) represents_by_copies.block

  -- what was promised was given
  by_asking : (address seat words : ℕ) (told : Asking) → asking seat ≡ told → IsAsked memory represents_by_copies.block graph.count seat told → represents_by_copies.block address ≡ Some (promised seat words) → IsPromisedAt config memory represents_by_copies.block graph asking address seat words
  by_asking address seat words nothing told_is asked promise_there = absurd (asked.2 address words promise_there)
  by_asking address seat words (asks refs nums) told_is asked promise_there = absurd (asked.2 address words promise_there)
  by_asking address seat words refused told_is asked promise_there = absurd (asked.2 address words promise_there)
  by_asking address seat words (given refs nums) told_is asked promise_there =
      let promise = asked.2 in
      let same_address : address ≡ memory (Answer seat) = promise.only address words promise_there in
      let both_there : Some (promised seat words) ≡ Some (promised seat (3 + refs + nums)) = sym promise_there ∙ ap represents_by_copies.block same_address ∙ promise.here in
      record {
        refs = refs;
        nums = nums;
        inside = represents_by_copies.promised_to address seat words promise_there;
        is_given = told_is;
        long = cc;
        promise = subst (λ address. IsPromise memory represents_by_copies.block graph.count seat refs nums address) (sym same_address) promise;
      }

  pub promised_at : (address seat words : ℕ) → represents_by_copies.block address ≡ Some (promised seat words) → IsPromisedAt config memory represents_by_copies.block graph asking address seat words
  promised_at address seat words promise_there = by_asking address seat words (asking seat) refl (represents_by_copies.asked seat (represents_by_copies.promised_to address seat words promise_there)) promise_there

  -- a promised object has its words
  promised_words : (address seat words : ℕ) → represents_by_copies.block address ≡ Some (promised seat words) → 3 + promised_refs (asking seat) + promised_nums (asking seat) ≡ words
  promised_words address seat words promise_there =
      let promised_place = promised_at address seat words promise_there in
      let refs : promised_refs (asking seat) ≡ promised_place.refs = ap promised_refs promised_place.is_given in
      let nums : promised_nums (asking seat) ≡ promised_place.nums = ap promised_nums promised_place.is_given in
      omega (arith, refs, nums, promised_place.long)

  -- an old copy has as many words as the current one
  spent_words : (copy_address words : ℕ) → IsMarkable represents_by_copies.block copy_address → ((piece : Block) → represents_by_copies.block copy_address ≡ Some piece → words_of piece ≡ words) → words_of (as_current graph asking (represents_by_copies.block copy_address) (dead words)) ≡ words
  spent_words copy_address words (IsMarkable.object name refs nums is_there) piece_words = ap (λ copy_piece. words_of (as_current graph asking copy_piece (dead words))) is_there ∙ piece_words (thing name refs nums) is_there
  spent_words copy_address words (IsMarkable.to_come seat promised_size is_there) piece_words =
      ap (λ copy_piece. words_of (as_current graph asking copy_piece (dead words))) is_there ∙ promised_words copy_address seat promised_size is_there ∙ piece_words (promised seat promised_size) is_there

  -- a piece keeps its words
  pub same_words : (address : ℕ) (piece : Block) → represents_by_copies.block address ≡ Some piece → words_of (as_object graph asking represents_by_copies.block piece) ≡ words_of piece
  same_words address (spent words copy_address) piece_there = let old = represents_by_copies.shared.evacuated.moved.spents address words copy_address piece_there in spent_words copy_address words old.copy (λ piece copy_there. ap words_of (same_Some piece old.piece (sym copy_there ∙ old.there)) ∙ old.long)
  same_words address (promised seat words) piece_there = promised_words address seat words piece_there
  same_words address _ piece_there = refl

  -- objects stand where they stood
  pub live_at : (address : ℕ) (piece : Block) → represents_by_copies.block address ≡ Some piece → live address ≡ Some (as_object graph asking represents_by_copies.block piece)
  live_at address piece piece_there = mapped_at (as_object graph asking represents_by_copies.block) represents_by_copies.block address piece piece_there

  -- a piece that is no object of the larger graph only fills
  pub pieces_are : (address : ℕ) (piece : Block) → represents_by_copies.block address ≡ Some piece → ((name : Name) × (refs : ℕ) × (nums : ℕ) × (as_object graph asking represents_by_copies.block piece ≡ thing name refs nums)) ⊎ OnlyFills piece
  pieces_are address (thing name refs nums) piece_there = inl (name, refs, nums, refl)
  pieces_are address (moved name refs nums copy_address) piece_there = inl (name, refs, nums, refl)
  pieces_are address (spent words copy_address) piece_there = inl (by_copy (represents_by_copies.shared.evacuated.moved.spents address words copy_address piece_there).copy)
    where
      by_copy : IsMarkable represents_by_copies.block copy_address → (name : Name) × (refs : ℕ) × (nums : ℕ) × (as_current graph asking (represents_by_copies.block copy_address) (dead words) ≡ thing name refs nums)
      by_copy (IsMarkable.object name refs nums copy_there) = (name, refs, nums, ap (λ copy_piece. as_current graph asking copy_piece (dead words)) copy_there)
      by_copy (IsMarkable.to_come seat promised_size copy_there) = (fresh graph (seat + 1), promised_refs (asking seat), promised_nums (asking seat), ap (λ copy_piece. as_current graph asking copy_piece (dead words)) copy_there)
  pieces_are address (hand seat words) piece_there = absurd (represents_by_copies.none address seat words piece_there)
  pieces_are address (carved seat words) piece_there = absurd (represents_by_copies.uncarved address seat words piece_there)
  pieces_are address (promised seat words) piece_there = inl (fresh graph (seat + 1), promised_refs (asking seat), promised_nums (asking seat), refl)
  pieces_are address _ piece_there = inr tt

  pub names_stay : (address : ℕ) (name : Name) → name_at (represents_by_copies.block address) ≡ Some name → name_at (live address) ≡ Some name
  names_stay address name name_there =
      let body = named_body (represents_by_copies.block address) name name_there in
      ⊎_elim
      (λ (object_now : represents_by_copies.block address ≡ Some (thing name body.0 body.1)). ap name_at (live_at address (thing name body.0 body.1) object_now))
      (λ (old : (copy_address : ℕ) × (represents_by_copies.block address ≡ Some (moved name body.0 body.1 copy_address))). ap name_at (live_at address (moved name body.0 body.1 old.0) old.1))
      (copy_cases (represents_by_copies.block address) (body_of name body.0 body.1) body.2)

  -- a name that has an object is no thread's next one
  pub not_next : (name : Name) (object : Object) (mutator : ℕ) → graph.object name ≡ Some object → name ≡ fresh graph (mutator + 1) → ⊥
  not_next name object mutator object_is next_name =
      let made = represents_by_copies.shared.contents.given name object object_is in
      let thread : name.thread ≡ mutator + 1 = ap (λ (name : Name). name.thread) next_name in
      let count : name.count ≡ graph.count (mutator + 1) + 1 = ap (λ (name : Name). name.count) next_name in
      let reached : graph.count name.thread ≡ graph.count (mutator + 1) = ap graph.count thread in
      omega (arith, made.by_thread (omega (arith, thread)), count, reached)

  -- so it is no promised one
  pub not_promised : (name : Name) (object : Object) → graph.object name ≡ Some object → same_reference (promises.ref name.thread) (Some name) ≡ false
  not_promised name object object_is = ⊎_elim
      (λ (is_promised : same_reference (promises.ref name.thread) (Some name) ≡ true).
      let promised_name = promised_one config graph asking name.thread name (same_reference-true (promises.ref name.thread) name is_promised) in
      absurd (not_next name object promised_name.0 object_is (promised_name.4 ∙ ap (fresh graph) promised_name.2)))
      (λ (no_promise : same_reference (promises.ref name.thread) (Some name) ≡ false). no_promise)
      (cases_Bool (same_reference (promises.ref name.thread) (Some name)))

  -- and its object is one of the larger graph
  pub larger_object : (name : Name) (object : Object) → graph.object name ≡ Some object → (with_promised graph promises).object name ≡ Some object
  larger_object name object object_is =
      cond-false (same_reference (promises.ref name.thread) (Some name)) (Some (blank (promises.refs name.thread) (promises.nums name.thread))) (graph.object name) (not_promised name object object_is) ∙ object_is

  -- a promised name has a blank object there
  pub promised_object : (mutator refs nums : ℕ) → mutator < config.mutators → asking mutator ≡ given refs nums → (with_promised graph promises).object (fresh graph (mutator + 1)) ≡ Some (blank refs nums)
  promised_object mutator refs nums inside is_given =
      let name : Name = fresh graph (mutator + 1) in
      let ref : promises.ref (mutator + 1) ≡ Some name = ref_of config graph asking mutator inside ∙ ap (promised_ref graph (mutator + 1)) is_given in
      let sizes : promises.refs (mutator + 1) ≡ refs = refs_of config graph asking mutator ∙ ap promised_refs is_given in
      let more_words : promises.nums (mutator + 1) ≡ nums = nums_of config graph asking mutator ∙ ap promised_nums is_given in
      cond-true (same_reference (promises.ref (mutator + 1)) (Some name)) (Some (blank (promises.refs (mutator + 1)) (promises.nums (mutator + 1)))) (graph.object name) (ap (λ value. same_reference value (Some name)) ref ∙ same_name-itself name)
      ∙ ap (λ value. Some (blank value (promises.nums (mutator + 1)))) sizes ∙ ap (λ value. Some (blank refs value)) more_words

  -- each current copy is an object of the larger graph
  pub current_object : (address : ℕ) → IsMarkable represents_by_copies.block address → (piece : Block) × (live address ≡ Some piece) × ObjectAt heap live (with_promised graph promises).object address piece
  current_object address (IsMarkable.object name refs nums piece_there) =
      let found_object = represents_by_copies.shared.contents.objects.each address refs nums name piece_there in
      (thing name refs nums, live_at address (thing name refs nums) piece_there, (found_object.0, larger_object name found_object.0 found_object.1, object_reads heap heap represents_by_copies.block live address refs nums name found_object.0 (λ offset field_below. refl) names_stay found_object.2))
  current_object address (IsMarkable.to_come seat words piece_there) =
      let promised_place = promised_at address seat words piece_there in
      let made = new_object heap live address seat (graph.count (seat + 1)) promised_place.refs promised_place.nums promised_place.promise.few_refs promised_place.promise.few_nums promised_place.promise.words in (
        thing (fresh graph (seat + 1)) (promised_refs (asking seat)) (promised_nums (asking seat)),
        live_at address (promised seat words) piece_there,
        subst (λ (asking : Asking). ObjectAt heap live (with_promised graph promises).object address (thing (fresh graph (seat + 1)) (promised_refs asking) (promised_nums asking))) (sym promised_place.is_given)
            (blank promised_place.refs promised_place.nums, promised_object seat promised_place.refs promised_place.nums promised_place.inside promised_place.is_given, made),
      )

  pub object_at : (address refs nums : ℕ) (name : Name) → IsMarkable represents_by_copies.block address → live address ≡ Some (thing name refs nums) → ObjectAt heap live (with_promised graph promises).object address (thing name refs nums)
  object_at address refs nums name current object_there =
      let current_piece = current_object address current in
      subst (ObjectAt heap live (with_promised graph promises).object address) (same_Some current_piece.0 (thing name refs nums) (sym current_piece.1 ∙ object_there)) current_piece.2

  -- it is an object of the graph, or a promised one
  pub current_kind : (address refs nums : ℕ) (name : Name) → IsMarkable represents_by_copies.block address → live address ≡ Some (thing name refs nums)
      → (represents_by_copies.block address ≡ Some (thing name refs nums)) ⊎ ((seat : ℕ) × (words : ℕ) × (represents_by_copies.block address ≡ Some (promised seat words)) × (name ≡ fresh graph (seat + 1)))
  current_kind address refs nums name (IsMarkable.object current_name current_refs current_nums current_there) object_there = inl (current_there ∙ sym (live_at address (thing current_name current_refs current_nums) current_there) ∙ object_there)
  current_kind address refs nums name (IsMarkable.to_come seat words current_there) object_there =
      inr (seat, words, current_there, same_Some name (fresh graph (seat + 1)) (ap name_at (sym object_there) ∙ ap name_at (live_at address (promised seat words) current_there)))

  -- an object has another name than a promised one
  pub names_differ : (address refs nums seat : ℕ) (name : Name) → represents_by_copies.block address ≡ Some (thing name refs nums) → name ≡ fresh graph (seat + 1) → ⊥
  names_differ address refs nums seat name object_there next_name = let found_object = represents_by_copies.shared.contents.objects.each address refs nums name object_there in not_next name found_object.0 seat found_object.1 next_name

  -- no two have one name
  pub once_each : (address other_address refs nums other_refs other_nums : ℕ) (name : Name) → IsMarkable represents_by_copies.block address → IsMarkable represents_by_copies.block other_address → live address ≡ Some (thing name refs nums) → live other_address ≡ Some (thing name other_refs other_nums) → address ≡ other_address
  once_each address other_address refs nums other_refs other_nums name now_a now_b first_there second_there = ⊎_elim
      (λ (old_a : represents_by_copies.block address ≡ Some (thing name refs nums)). ⊎_elim
      (λ (old_b : represents_by_copies.block other_address ≡ Some (thing name other_refs other_nums)). represents_by_copies.shared.contents.objects.once address other_address refs nums other_refs other_nums name old_a old_b)
      (λ (new_b : (seat : ℕ) × (words : ℕ) × (represents_by_copies.block other_address ≡ Some (promised seat words)) × (name ≡ fresh graph (seat + 1))). absurd (names_differ address refs nums new_b.0 name old_a new_b.3))
      (current_kind other_address other_refs other_nums name now_b second_there))
      (λ (new_a : (seat : ℕ) × (words : ℕ) × (represents_by_copies.block address ≡ Some (promised seat words)) × (name ≡ fresh graph (seat + 1))). ⊎_elim
      (λ (old_b : represents_by_copies.block other_address ≡ Some (thing name other_refs other_nums)). absurd (names_differ other_address other_refs other_nums new_a.0 name old_b new_a.3))
      (λ (new_b : (seat : ℕ) × (words : ℕ) × (represents_by_copies.block other_address ≡ Some (promised seat words)) × (name ≡ fresh graph (seat + 1))).
      let same_address : new_b.0 ≡ new_a.0 = (let threads : new_b.0 + 1 ≡ new_a.0 + 1 = ap (λ (name : Name). name.thread) (sym new_b.3 ∙ new_a.3) in omega (arith, threads)) in
      sym ((promised_at address new_a.0 new_a.1 new_a.2).promise.only other_address new_b.1 (new_b.2 ∙ ap (λ seat. Some (promised seat new_b.1)) same_address)))
      (current_kind other_address other_refs other_nums name now_b second_there))
      (current_kind address refs nums name now_a first_there)

  -- an answer stands for what was promised
  answer_of : (mutator : ℕ) (told : Asking) → asking mutator ≡ told → IsAsked memory represents_by_copies.block graph.count mutator told → AnswerStands live (memory (Answer mutator)) (promised_ref graph (mutator + 1) told)
  answer_of mutator nothing told_is asked = inl (omega (arith, asked.1), refl)
  answer_of mutator (asks refs nums) told_is asked = inl (omega (arith, asked.1), refl)
  answer_of mutator refused told_is asked = inl (omega (arith, asked.1), refl)
  answer_of mutator (given refs nums) told_is asked =
      inr (asked.1, fresh graph (mutator + 1), refl, ap name_at (live_at (memory (Answer mutator)) (promised mutator (3 + refs + nums)) asked.2.here))

  -- a slot that holds something is some mutator's
  pub slot_of : (thread slot : ℕ) (held_pin : Pinned) → graph.pin thread slot ≡ Some held_pin → IsThreads config thread slot 4
  slot_of thread slot held_pin pin_is = ⊎_elim
      (λ (of_slot : is_slot_of config.mutators thread slot ≡ true). threads_one config thread slot 4 of_slot)
      (λ (not_of_slot : is_slot_of config.mutators thread slot ≡ false). absurd (none-some held_pin (sym (represents_by_copies.no_more_pins thread slot not_of_slot) ∙ pin_is)))
      (cases_Bool (is_slot_of config.mutators thread slot))

  -- what it holds stands at its place
  pub record IsPinnedThing (held : Pinned) : Type 0 where
    pub mutator : ℕ
    pub slot : ℕ
    pub inside : mutator < config.mutators
    pub few : slot < 4
    pub word : memory (Pin mutator slot) ≡ held.place
    pub refs : ℕ
    pub nums : ℕ
    pub here : represents_by_copies.block held.place ≡ Some (thing held.name refs nums)
    pub header : is_forwarded (heap held.place) ≡ false

  pinned_of : (mutator index : ℕ) (held_pin : Pinned) → mutator < config.mutators → index < 4 → PinStands config (memory Cset) (memory Evac) represents_by_copies.block (memory (Pin mutator index)) (Some held_pin) → IsPinnedThing held_pin
  pinned_of mutator index held_pin inside index_below pin_stands =
      let object_there : represents_by_copies.block held_pin.place ≡ Some (thing held_pin.name pin_stands.1 pin_stands.2) = ap represents_by_copies.block (sym pin_stands.0) ∙ pin_stands.3.piece in
      let found_object = represents_by_copies.shared.contents.objects.each held_pin.place pin_stands.1 pin_stands.2 held_pin.name object_there in
      record { mutator = mutator; slot = index; inside = inside; few = index_below; word = pin_stands.0; refs = pin_stands.1; nums = pin_stands.2; here = object_there; header = ap is_forwarded found_object.2.header }

  pub pinned_thing : (thread slot : ℕ) (held_pin : Pinned) → graph.pin thread slot ≡ Some held_pin → IsPinnedThing held_pin
  pinned_thing thread slot held_pin pin_is =
      let own_slot = slot_of thread slot held_pin pin_is in
      let own_pin : graph.pin (own_slot.mutator + 1) slot ≡ Some held_pin = ap (λ thread. graph.pin thread slot) (sym own_slot.thread) ∙ pin_is in
      pinned_of own_slot.mutator slot held_pin own_slot.inside own_slot.few
      (subst (PinStands config (memory Cset) (memory Evac) represents_by_copies.block (memory (Pin own_slot.mutator slot))) own_pin (represents_by_copies.shared.pinned own_slot.mutator slot own_slot.inside own_slot.few))

  -- a pin word stands for what its slot holds
  pin_word : (word : ℕ) (held_pin : Option Pinned) → PinStands config (memory Cset) (memory Evac) represents_by_copies.block word held_pin → PinWordStands memory live word held_pin
  pin_word word None pin_stands = pin_stands
  pin_word word (Some held_pin) pin_stands =
      let found_object = represents_by_copies.shared.contents.objects.each word pin_stands.1 pin_stands.2 held_pin.name pin_stands.3.piece in
      (pin_stands.0, (pin_stands.1, pin_stands.2, live_at word (thing held_pin.name pin_stands.1 pin_stands.2) pin_stands.3.piece), ap is_forwarded found_object.2.header)

  pub live_rooted : RootsStand config memory live graph promises
  live_rooted = record {
    roots = λ mutator index inside few. points_stay represents_by_copies.block live names_stay (memory (Root mutator index)) (graph.root (mutator + 1) index) (represents_by_copies.roots mutator index inside few);
    answers = λ mutator inside. subst (AnswerStands live (memory (Answer mutator))) (sym (ref_of config graph asking mutator inside)) (answer_of mutator (asking mutator) refl (represents_by_copies.asked mutator inside));
    no_more_roots = λ thread index name name_is. ⊎_elim
        (λ (of_root : is_root_of config.mutators thread index ≡ true). let own_place = threads_one config thread index 16 of_root in (own_place.mutator, own_place.inside, own_place.thread, own_place.few))
        (λ (not_of_root : is_root_of config.mutators thread index ≡ false). absurd (none-some name (sym (represents_by_copies.no_more thread index not_of_root) ∙ name_is)))
        (cases_Bool (is_root_of config.mutators thread index));
    pins = λ mutator slot inside few. pin_word (memory (Pin mutator slot)) (graph.pin (mutator + 1) slot) (represents_by_copies.shared.pinned mutator slot inside few);
    no_more_pins = λ thread slot held_pin name_is. let own_place = slot_of thread slot held_pin name_is in (own_place.mutator, own_place.inside, own_place.thread, own_place.few);
    no_more_promised = λ thread name name_is. let promised_name = promised_one config graph asking thread name name_is in (promised_name.0, promised_name.1, promised_name.2);
  }

  pub live_plotted : IsPlotted config (λ region. memory (Top region)) live
  live_plotted = plotted_alike config (λ region. memory (Top region)) represents_by_copies.block (as_object graph asking represents_by_copies.block) same_words represents_by_copies.shared.parsable.plotted

  pub live_filled : IsFilled config (λ region. memory (Top region)) live
  live_filled = filled_alike config (λ region. memory (Top region)) represents_by_copies.block (as_object graph asking represents_by_copies.block) same_words represents_by_copies.shared.parsable.filled

  -- what is no object of the larger graph was there, and only fills
  live_cases : (address : ℕ) (piece : Block) → live address ≡ Some piece → ((name : Name) × (refs : ℕ) × (nums : ℕ) × (piece ≡ thing name refs nums)) ⊎ ((represents_by_copies.block address ≡ Some piece) × OnlyFills piece)
  live_cases address piece piece_there =
      let piece_before = mapped_from (as_object graph asking represents_by_copies.block) represents_by_copies.block address piece piece_there in
      ⊎_elim
      (λ (object_kind : (name : Name) × (refs : ℕ) × (nums : ℕ) × (as_object graph asking represents_by_copies.block piece_before.0 ≡ thing name refs nums)). inl (object_kind.0, object_kind.1, object_kind.2, sym piece_before.2 ∙ object_kind.3))
      (λ (fills : OnlyFills piece_before.0).
      let same_piece : piece_before.0 ≡ piece = sym (fills_still graph asking represents_by_copies.block piece_before.0 fills) ∙ piece_before.2 in
      inr (piece_before.1 ∙ ap Some same_piece, subst OnlyFills same_piece fills))
      (pieces_are address piece_before.0 piece_before.1)

  pub live_unpromised : (address seat words : ℕ) → live address ≡ Some (promised seat words) → ⊥
  live_unpromised address seat words promise_there = ⊎_elim
      (λ (object_kind : (name : Name) × (refs : ℕ) × (nums : ℕ) × (promised seat words ≡ thing name refs nums)). (let differ = object_kind.3 in cc))
      (λ (fills : (represents_by_copies.block address ≡ Some (promised seat words)) × OnlyFills (promised seat words)). fills.1)
      (live_cases address (promised seat words) promise_there)

  -- room was there: the free words of a buffer, and no other
  pub live_room : (address seat : ℕ) (piece : Block) → live address ≡ Some piece → room_of piece ≡ Some seat → represents_by_copies.block address ≡ Some piece
  live_room address seat piece piece_there room = ⊎_elim
      (λ (object_kind : (name : Name) × (refs : ℕ) × (nums : ℕ) × (piece ≡ thing name refs nums)). absurd (none-some seat (ap room_of (sym object_kind.3) ∙ room)))
      (λ (fills : (represents_by_copies.block address ≡ Some piece) × OnlyFills piece). fills.0)
      (live_cases address piece piece_there)

  pub live_unheld : (address seat words : ℕ) → live address ≡ Some (hand seat words) → ⊥
  live_unheld address seat words hand_there = represents_by_copies.none address seat words (live_room address seat (hand seat words) hand_there refl)

  pub live_uncarved : (address seat words : ℕ) → live address ≡ Some (carved seat words) → ⊥
  live_uncarved address seat words carved_there = represents_by_copies.uncarved address seat words (live_room address seat (carved seat words) carved_there refl)

  -- the buffers are those that there were
  pub live_buffers : AreBuffers config (λ region. memory (Top region)) (λ seat. memory (Current seat)) live
  live_buffers = record {
    each = λ seat some_buffer.
        let buffer_before = represents_by_copies.shared.owned.buffers.each seat some_buffer in
        record {
          region = buffer_before.region;
          within = buffer_before.within;
          from_base = buffer_before.from_base;
          some = buffer_before.some;
          ordered = buffer_before.ordered;
          to_top = buffer_before.to_top;
          free = λ more_words. ⊎_elim
              (λ words_there. inl (live_at (next_in (memory (Current seat))) (spare seat (end_in (memory (Current seat)) - next_in (memory (Current seat)))) words_there))
              (λ held_back. absurd (represents_by_copies.uncarved held_back.0 seat held_back.1 held_back.2))
              (buffer_before.free more_words);
        };
    spares = λ address seat words spare_there. represents_by_copies.shared.owned.buffers.spares address seat words (live_room address seat (spare seat words) spare_there refl);
  }

  pub live_dead : (address words : ℕ) → live address ≡ Some (dead words) → represents_by_copies.block address ≡ Some (dead words)
  live_dead address words dead_there = ⊎_elim
      (λ (object_kind : (name : Name) × (refs : ℕ) × (nums : ℕ) × (dead words ≡ thing name refs nums)). absurd (let differ = object_kind.3 in cc))
      (λ (fills : (represents_by_copies.block address ≡ Some (dead words)) × OnlyFills (dead words)). fills.0)
      (live_cases address (dead words) dead_there)

  pub live_filler : (address words : ℕ) → live address ≡ Some (filler words) → represents_by_copies.block address ≡ Some (filler words)
  live_filler address words filler_there = ⊎_elim
      (λ (object_kind : (name : Name) × (refs : ℕ) × (nums : ℕ) × (filler words ≡ thing name refs nums)). absurd (let differ = object_kind.3 in cc))
      (λ (fills : (represents_by_copies.block address ≡ Some (filler words)) × OnlyFills (filler words)). fills.0)
      (live_cases address (filler words) filler_there)

  -- each piece has some words
  pub live_some : (address : ℕ) (piece : Block) → live address ≡ Some piece → 1 ≤ words_of piece
  live_some address piece piece_there =
      let piece_before = mapped_from (as_object graph asking represents_by_copies.block) represents_by_copies.block address piece piece_there in
      let words_before = some_words config (λ region. memory (Top region)) represents_by_copies.block represents_by_copies.shared.parsable represents_by_copies.shared.owned.rooms address piece_before.0 piece_before.1 in
      let same_size = same_words address piece_before.0 piece_before.1 in
      let size_now = ap words_of piece_before.2 in
      omega (arith, words_before, same_size, size_now)
