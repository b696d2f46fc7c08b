-- After a full collection the words represent the same graph, and each mutator that asks is answered.
use Rattle.std.proofs.Common.{◌≡◌, ◌≢◌, ℕ, ◌+◌, ◌<◌, ◌≤◌, ◌==◌, ◌⊎◌, ◌*◌, inl, inr, nat_le, slice_get, Some, ⊎_elim, sym, ap, ◌∙◌, arith}
use Rattle.std.specs.Prelude.{if◌then◌else◌}
use Rattle.std.proofs.lemmas.Bool.{cond-true, le-leb}
use Rattle.std.proofs.lemmas.Option.{same_Some}
use Rattle.std.proofs.Math.Nat.{mul-le-mul_right}
use Rattle.heap_words.specs.declared.config.Config.{Config}
use Rattle.heap_words.specs.Words.{Word, Top, Wait, Answer, Heap}
use Rattle.heap_words.specs.Encoding.{request_count_in}
use Rattle.regions.specs.ServedRooms.{NoneHasRoom, IsLowestRoom}
use Rattle.image_graph.specs.LetGo.{HasNoBuffers}
use Rattle.image_graph.proofs.LooseKept.{none_have_room}
use Rattle.shen_graph.specs.declared.name.Name.{Name}
use Rattle.shen_graph.specs.Graph.{Graph, Object, fresh}
use Rattle.shen_graph.specs.Reach as reach
use Rattle.heap_world.specs.World.{thing, promised, HasNoRoom, Plot, name_at}
use Rattle.heap_world.specs.Asking.{Asking, nothing, asks, refused, given}
use Rattle.heap_world.specs.Represents.{RepresentsByCopies}
use Rattle.image_graph.specs.Held.{IsLedTo, IsAmong, AreHeldKept}
use Rattle.image_graph.specs.Packing.{CanPack}
use Rattle.image_graph.specs.Pinned.{is_row_pinned}
use Rattle.image_graph.specs.Plot.{AreParsed, packed_block}
use Rattle.image_graph.specs.Full.{packed_in, now_in, held_words, kept_in, place_in, asked_in, packed, full_from}
use Rattle.image_graph.specs.Promised.{Promises, with_promised}
use Rattle.image_graph.specs.Image.{ImageStands}
use Rattle.image_graph.specs.Serving.{asked_name, served_block, served_promises}
use Rattle.image_graph.specs.RequestsServed.{tops_at_turn}
use Rattle.image_graph.proofs.Reached.{can_pack}
use Rattle.image_graph.proofs.Origin.{IsFrom, IsLeft, block_from}
use Rattle.cycle_words.proofs.Finishing.Strides.{strides}
use Rattle.image_graph.proofs.TurnWords.{requests_are_answered}
use Rattle.image_graph.proofs.ServingKeeps.{full_stands}
use Rattle.image_graph.proofs.Walked.{walk_keeps}
use Rattle.cycle_pauses.proofs.Full.Promises.{promises_of, promised_one}
use Rattle.cycle_pauses.proofs.Full.Before.{live, not_next, current_kind, pinned_thing, live_room}
use Rattle.cycle_pauses.proofs.Full.Current.{held_current, has_current, reached_at}
use Rattle.cycle_pauses.proofs.Full.Holding.{next_asked, holds_by, are_sized}
use Rattle.image_graph.proofs.PromisesAfterTurns.{SamePromise, IsPromisedAsAsked, promise_after, piece_after}
use Rattle.cycle_pauses.proofs.Full.After.{IsKnown, IsAfter, taken}
use Rattle.image_graph.proofs.Still.{packed_wait}

-- what a mutator that asked has been answered
abbrev pub then_of : Asking → (answer : ℕ) → Asking
then_of nothing answer = nothing
then_of (asks refs nums) answer = if answer == 1 then refused else given refs nums
then_of refused answer = refused
then_of (given refs nums) answer = given refs nums

-- an answer that is no address is left by packing
pub packed_answer : (config : Config) (memory : Word → ℕ) (mutator : ℕ) → memory (Answer mutator) ≤ 1 → packed_in config memory (Answer mutator) ≡ memory (Answer mutator)
unfolding packed
packed_answer config memory mutator no_answer = cond-true (nat_le (memory (Answer mutator)) 1) (memory (Answer mutator)) (place_in config (is_row_pinned config memory) (kept_in config memory) (now_in memory (memory (Answer mutator)))) (le-leb (memory (Answer mutator)) 1 no_answer)

module _ (config : Config) (memory : Word → ℕ) (graph : Graph) (asking : ℕ → Asking) (represents_by_copies : RepresentsByCopies config memory graph asking) where
  abbrev promises : Promises
  promises = promises_of config graph asking

  abbrev after : Word → ℕ
  after = packed_in config memory

  abbrev promises_then : Promises
  promises_then = served_promises config after promises config.mutators

  abbrev kept : ℕ → ℕ
  kept = kept_in config memory

  abbrev pub plot : Plot
  plot = served_block config after (packed_block config (is_row_pinned config memory) kept (live config memory graph asking represents_by_copies)) config.mutators

  abbrev pub asked_then : ℕ → Asking
  asked_then mutator = then_of (asking mutator) (full_from config memory (Answer mutator))

  -- what a mutator asks for after packing is its next object
  asked_next : (mutator : ℕ) → mutator < config.mutators → after (Wait mutator) ≢ 0 → asked_name after mutator ≡ fresh graph (mutator + 1)
  asked_next mutator inside waits =
      ap (λ (wait_word : ℕ). record { thread = mutator + 1; count = request_count_in wait_word }) (packed_wait config memory mutator)
      ∙ next_asked config memory graph asking represents_by_copies mutator inside (λ no_wait. waits (packed_wait config memory mutator ∙ no_wait))

  kept_are : AreHeldKept (λ address. memory (Heap address)) (IsLedTo (now_in memory) (λ address. memory (Heap address)) (IsAmong (held_words config memory))) kept
  kept_are = walk_keeps config memory (live config memory graph asking represents_by_copies) (with_promised graph promises) (holds_by config memory graph asking represents_by_copies).objects

  known_at : (address : ℕ) (name : Name) → name_at (represents_by_copies.block address) ≡ Some name → IsKnown graph name
  known_at address name has_name =
      let piece = has_current config memory graph asking represents_by_copies address name has_name in
      let its_object = represents_by_copies.shared.contents.objects.each piece.0 piece.1 piece.2 name piece.3 in
      (its_object.0, its_object.1)

  -- who did not wait keeps the answer
  pub answer_left : (mutator : ℕ) → mutator < config.mutators → memory (Wait mutator) ≡ 0 → full_from config memory (Answer mutator) ≡ after (Answer mutator)
  answer_left mutator inside no_wait = (requests_are_answered config after).others mutator inside (packed_wait config memory mutator ∙ no_wait)

  -- and who did has an address or is refused
  pub answer_found : (mutator : ℕ) → mutator < config.mutators → memory (Wait mutator) ≢ 0 → (1 < full_from config memory (Answer mutator)) ⊎ (full_from config memory (Answer mutator) ≡ 1)
  answer_found mutator inside waits =
      let answered = (requests_are_answered config after).answered mutator inside (λ none. waits (sym (packed_wait config memory mutator) ∙ none)) in
      ⊎_elim
      (λ (room : (room_region : ℕ) × IsLowestRoom config.region_words (tops_at_turn config after mutator) (asked_in after mutator) config.regions room_region).
      let low : 1 * config.region_words ≤ (room.0 + 1) * config.region_words = mul-le-mul_right config.region_words (omega arith) in
      inl (omega (arith, answered.given room.0 room.1, low, config.in_range.least_words)))
      (λ (none : NoneHasRoom config.region_words (tops_at_turn config after mutator) (asked_in after mutator) config.regions). inr (answered.full none))
      answered.either

  -- Where nobody has a buffer, so that each region can be walked.
  module _ (bare : HasNoBuffers config memory) where
    abbrev packing : Plot
    packing = packed_block config (is_row_pinned config memory) kept (live config memory graph asking represents_by_copies)

    no_room : HasNoRoom (live config memory graph asking represents_by_copies)
    no_room address seat piece has_piece room = none_have_room config memory graph asking represents_by_copies bare address seat piece (live_room config memory graph asking represents_by_copies address seat piece has_piece room) room

    parsed : AreParsed config (is_row_pinned config memory) (λ region. memory (Top region)) (λ address. memory (Heap address)) (live config memory graph asking represents_by_copies)
    parsed =
        let holds = holds_by config memory graph asking represents_by_copies in
        record { filled = holds.filled; some = holds.pieces.some; sized = λ address piece has_piece pinned. strides memory (live config memory graph asking represents_by_copies) (are_sized config memory graph asking represents_by_copies) no_room address piece has_piece }

    -- the words after it stand for the graph with what is promised then
    stands : ImageStands config (full_from config memory) plot graph promises_then
    stands = (let holds = holds_by config memory graph asking represents_by_copies in full_stands config memory (live config memory graph asking represents_by_copies) graph promises holds.objects holds.rooted parsed holds.asking)

    -- what is promised then are next objects
    next_promised : (thread : ℕ) (name : Name) → promises_then.ref thread ≡ Some name → name ≡ fresh graph thread
    next_promised thread name promise_is =
        let promised_to = stands.rooted.no_more_promised thread name promise_is in
        let own_promise : promises_then.ref (promised_to.0 + 1) ≡ Some name = ap promises_then.ref (sym promised_to.2) ∙ promise_is in
        ⊎_elim
        (λ (same_promise : SamePromise promises promises_then (promised_to.0 + 1)). (promised_one config graph asking (promised_to.0 + 1) name (sym same_promise.ref ∙ own_promise)).4 ∙ ap (fresh graph) (sym promised_to.2))
        (λ (new : IsPromisedAsAsked after promises_then promised_to.0).
        sym (same_Some (asked_name after promised_to.0) name (sym new.ref ∙ own_promise)) ∙ asked_next promised_to.0 promised_to.1 new.waits ∙ ap (fresh graph) (sym promised_to.2))
        (promise_after config after promises promised_to.0 config.mutators)

    can : CanPack config (λ region. memory (Top region)) (λ address. memory (Heap address)) (live config memory graph asking represents_by_copies) (with_promised graph promises).object (now_in memory) kept
    can =
        let holds = holds_by config memory graph asking represents_by_copies in
        can_pack config (λ region. memory (Top region)) (λ address. memory (Heap address)) (live config memory graph asking represents_by_copies) (now_in memory) (IsAmong (held_words config memory)) (with_promised graph promises) holds.objects kept kept_are

    -- an object that has a piece then had one before
    had_piece : (address refs nums : ℕ) (name : Name) (object : Object) → plot address ≡ Some (thing name refs nums) → graph.object name ≡ Some object → (old_address : ℕ) × (represents_by_copies.block old_address ≡ Some (thing name refs nums))
    had_piece address refs nums name given_object has_thing object = ⊎_elim
        (λ (old : packing address ≡ Some (thing name refs nums)). ⊎_elim
        (λ (from : IsFrom config (λ region. memory (Top region)) (λ address. memory (Heap address)) (live config memory graph asking represents_by_copies) (with_promised graph promises).object (now_in memory) kept can (is_row_pinned config memory) address (thing name refs nums)). ⊎_elim
        (λ (old_thing : represents_by_copies.block from.0 ≡ Some (thing name refs nums)). (from.0, old_thing))
        (λ (new : (seat : ℕ) × (words : ℕ) × (represents_by_copies.block from.0 ≡ Some (promised seat words)) × (name ≡ fresh graph (seat + 1))).
        absurd (not_next config memory graph asking represents_by_copies name given_object new.0 object new.3))
        (let kept_there = kept_are.only from.0 from.1 in current_kind config memory graph asking represents_by_copies from.0 refs nums name (held_current config memory graph asking represents_by_copies from.0 kept_there) from.4))
        (λ (fills : IsLeft config (λ region. memory (Top region)) (λ address. memory (Heap address)) (live config memory graph asking represents_by_copies) (with_promised graph promises).object (now_in memory) kept can (is_row_pinned config memory) address (thing name refs nums)).
        (let differ = fills.4 in cc))
        (block_from config (λ region. memory (Top region)) (λ address. memory (Heap address)) (live config memory graph asking represents_by_copies) (with_promised graph promises).object (now_in memory) kept can (is_row_pinned config memory) address (thing name refs nums) old))
        (λ (made : (thread : ℕ) × (thread < config.mutators) × (after (Wait thread) ≢ 0) × (Some name ≡ Some (asked_name after thread))).
        absurd (not_next config memory graph asking represents_by_copies name given_object made.0 object (same_Some name (asked_name after made.0) made.3 ∙ asked_next made.0 made.1 made.2)))
        (piece_after config after packing config.mutators address (thing name refs nums) has_thing)

    pub is_after : IsAfter config (full_from config memory) plot graph promises_then
    is_after = record {
      stands = stands;
      next = next_promised;
      given = represents_by_copies.shared.contents.given;
      fields = λ address refs nums index name target its_object has_thing object field.
          let had_before = had_piece address refs nums name its_object has_thing object in
          let old_object = represents_by_copies.shared.contents.objects.each had_before.0 refs nums name had_before.1 in
          let same_object : its_object ≡ old_object.0 = same_Some its_object old_object.0 (sym object ∙ old_object.1) in
          known_at (memory (Heap (had_before.0 + 3 + index))) target (old_object.2.references index (Some target) (ap (λ (object : Object). slice_get object.refs index) (sym same_object) ∙ field));
      roots = λ thread index name slot_holds.
          let reached_there = reached_at config memory graph asking represents_by_copies name (reach.from_root thread index name slot_holds) in
          let its_object = represents_by_copies.shared.contents.objects.each reached_there.0 reached_there.1 reached_there.2 name reached_there.3 in
          (its_object.0, its_object.1);
      pins = λ thread index held_pin slot_holds.
          let reached_there = pinned_thing config memory graph asking represents_by_copies thread index held_pin slot_holds in
          let its_object = represents_by_copies.shared.contents.objects.each held_pin.place reached_there.refs reached_there.nums held_pin.name reached_there.here in
          (its_object.0, its_object.1);
    }

    abbrev pub plot_then : Plot
    plot_then = taken config (full_from config memory) plot graph promises_then is_after
