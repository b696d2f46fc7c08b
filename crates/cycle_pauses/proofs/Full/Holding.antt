-- Words that represent a graph hold it: the condition of a full collection.
use Rattle.heap_words.specs.Phases.{evacuation_phase}
use Rattle.std.proofs.Common.{◌≡◌, ◌≢◌, ℕ, ◌+◌, ◌-◌, ◌<◌, ◌≤◌, ◌==◌, nat_le, true, false, inl, inr, ⊎_elim, Option, Some, None, refl, sym, ap, ◌∙◌, subst, arith}
use Rattle.std.specs.Int.{bit_at}
use Rattle.std.proofs.lemmas.Bool.{cond-false, cases_eq, cases_lt, and_parts, and_from, leb-true, le-leb, eqb-true, eq-eqb, true≢false}
use Rattle.std.proofs.lemmas.Nat.Bits.{bit_at-zero}
use Rattle.heap_words.specs.declared.config.Config.{Config}
use Rattle.heap_words.specs.Words.{Word, Phase, Cset, Top, Tams, Current, Wait, Answer, Black, Heap}
use Rattle.heap_words.specs.Encoding.{end_in, is_forwarded, shape_word, refs_in, nums_in, request_code, request_count_in, request_shape_in}
use Rattle.regions.specs.Place.{region_with}
use Rattle.regions.specs.Sets.{IsIn, IsOutside}
use Rattle.regions.proofs.PlaceLemmas.{regions_tile}
use Rattle.regions.specs.Marks.{HasMark, mark_word, mark_bit}
use Rattle.heap_words.proofs.Shapes.{refs_in-shape_word, nums_in-shape_word}
use Rattle.shen_graph.specs.declared.name.Name.{Name}
use Rattle.shen_graph.specs.Graph.{Graph, Object, blank, fresh, same_reference}
use Rattle.heap_world.specs.World.{Block, thing, moved, spent, promised, words_of, is_loose, IsCollected, IsMarkable, IsYoung, HasCopy}
use Rattle.heap_world.proofs.Pointing.{copy_cases, piece_inside}
use Rattle.heap_world.specs.Asking.{Asking, nothing, asks, refused, given, IsRequest, IsAsked}
use Rattle.heap_world.specs.Represents.{RepresentsByCopies}
use Rattle.image_graph.specs.Full.{now_in}
use Rattle.image_graph.specs.Promised.{Promises, AreFresh}
use Rattle.image_graph.specs.Serving.{asked_shape, asked_name, IsAsking}
use Rattle.image_graph.specs.Holds.{HasMoved, HoldsBy, HoldsSome, HoldsSized, AreSized, HasObject}
use Rattle.cycle_words.specs.Marking.Marks.{IsKept}
use Rattle.cycle_words.specs.StillHolds.{AreMarkedObjects, WhileCollecting}
use Rattle.cycle_pauses.proofs.Full.Promises.{promised_ref, promises_of, ref_of, promised_one}
use Rattle.cycle_pauses.proofs.Full.Mapped.{mapped_from}
use Rattle.cycle_pauses.proofs.Full.Before.{as_object, pieces_are, live, live_at, same_words, not_next, live_rooted, live_filled, live_unpromised, live_room, live_unheld, live_uncarved, live_buffers, live_filler, live_some}
use Rattle.cycle_pauses.proofs.Full.Current.{led_to, header_of, held_current, Kind, is_current, is_old, kind_at, old_thing, live_holds, reached_at}
use Rattle.cycle_pauses.proofs.Full.ByCopies.{by_copies}
use Rattle.cycle_pauses.proofs.Full.Sizes.{pieces_sized}
use Rattle.cycle_pauses.specs.Full.Laws.{RepresentingIsSized}

-- A request reads as what it was made of.
pub record ReadsAs (memory : Word → ℕ) (mutator count refs nums : ℕ) : Type 0 where
  pub counted : request_count_in (memory (Wait mutator)) ≡ count
  pub shaped : asked_shape memory mutator ≡ shape_word refs nums
  pub refs_are : refs_in (asked_shape memory mutator) ≡ refs
  pub nums_are : nums_in (asked_shape memory mutator) ≡ nums

pub request_reads : (memory : Word → ℕ) (count : ℕ → ℕ) (mutator refs nums : ℕ) → IsRequest memory count mutator refs nums → ReadsAs memory mutator (count (mutator + 1) + 1) refs nums
request_reads memory count mutator refs nums request =
    let shape : asked_shape memory mutator ≡ shape_word refs nums = ap request_shape_in request.wait_is ∙ reads_shape (count (mutator + 1) + 1) refs nums request.few_refs request.few_nums in
    record {
      counted = ap request_count_in request.wait_is ∙ reads_count (count (mutator + 1) + 1) refs nums request.few_refs request.few_nums;
      shaped = shape;
      refs_are = ap refs_in shape ∙ refs_in-shape_word refs nums request.few_refs request.few_nums;
      nums_are = ap nums_in shape ∙ nums_in-shape_word refs nums request.few_refs request.few_nums;
    }
  where
    reads_shape : (count refs nums : ℕ) → refs ≤ 16 → nums ≤ 16 → request_shape_in (request_code count (shape_word refs nums)) ≡ shape_word refs nums
    reads_shape count refs nums few_refs few_nums = omega (arith, few_refs, few_nums)

    reads_count : (count refs nums : ℕ) → refs ≤ 16 → nums ≤ 16 → request_count_in (request_code count (shape_word refs nums)) ≡ count
    reads_count count refs nums few_refs few_nums = omega (arith, few_refs, few_nums)

-- and is not 0
pub waits_for : (memory : Word → ℕ) (count : ℕ → ℕ) (mutator refs nums : ℕ) → IsRequest memory count mutator refs nums → memory (Wait mutator) ≢ 0
waits_for memory count mutator refs nums request zero_wait =
    let is_zero : request_code (count (mutator + 1) + 1) (shape_word refs nums) ≡ 0 = sym request.wait_is ∙ zero_wait in
    omega (arith, is_zero)

-- a region that is not in a set is outside
not_in : (set region : ℕ) → (IsIn set region → ⊥) → IsOutside set region
not_in set region not_member = ⊎_elim
    (λ (bit_clear : bit_at set region ≡ 0). bit_clear)
    (λ (bit_not_clear : bit_at set region ≢ 0). absurd (not_member (omega (arith, bit_not_clear))))
    (cases_eq (bit_at set region) 0)

-- who waits has asked, and is promised nothing
pub record HasAsked (memory : Word → ℕ) (graph : Graph) (asking : ℕ → Asking) (thread : ℕ) : Type 0 where
  pub refs : ℕ
  pub nums : ℕ
  pub is_asking : asking thread ≡ asks refs nums
  pub request : IsRequest memory graph.count thread refs nums

module _ (config : Config) (memory : Word → ℕ) (graph : Graph) (asking : ℕ → Asking) (represents_by_copies : RepresentsByCopies config memory graph asking) where
  abbrev promises : Promises
  promises = promises_of config graph asking

  waiting_by : (mutator : ℕ) (mutator_asking : Asking) → asking mutator ≡ mutator_asking → IsAsked memory represents_by_copies.block graph.count mutator mutator_asking → memory (Wait mutator) ≢ 0 → HasAsked memory graph asking mutator
  waiting_by mutator nothing asking_is asked waits = absurd (waits asked.0)
  waiting_by mutator (asks refs nums) asking_is asked waits = record { refs = refs; nums = nums; is_asking = asking_is; request = asked.0 }
  waiting_by mutator refused asking_is asked waits = absurd (waits asked.0)
  waiting_by mutator (given refs nums) asking_is asked waits = absurd (waits asked.0)

  pub who_waits : (mutator : ℕ) → mutator < config.mutators → memory (Wait mutator) ≢ 0 → HasAsked memory graph asking mutator
  who_waits mutator inside waits = waiting_by mutator (asking mutator) refl (represents_by_copies.asked mutator inside) waits

  unanswered_by : (mutator : ℕ) (asking : Asking) → IsAsked memory represents_by_copies.block graph.count mutator asking → memory (Wait mutator) ≢ 0 → memory (Answer mutator) ≡ 0
  unanswered_by mutator nothing asked waits = absurd (waits asked.0)
  unanswered_by mutator (asks refs nums) asked waits = asked.1
  unanswered_by mutator refused asked waits = absurd (waits asked.0)
  unanswered_by mutator (given refs nums) asked waits = absurd (waits asked.0)

  -- it asks for its next object
  pub next_asked : (mutator : ℕ) → mutator < config.mutators → memory (Wait mutator) ≢ 0 → asked_name memory mutator ≡ fresh graph (mutator + 1)
  next_asked mutator inside waits =
      let asked = who_waits mutator inside waits in
      ap (λ (count : ℕ). record { thread = mutator + 1; count = count }) (request_reads memory graph.count mutator asked.refs asked.nums asked.request).counted

  -- which is no object yet
  no_object : (name : Name) (found : Option Object) → graph.object name ≡ found → (mutator : ℕ) → name ≡ fresh graph (mutator + 1) → graph.object name ≡ None
  no_object name None object_found mutator next_name = object_found
  no_object name (Some found) object_found mutator next_name = absurd (not_next config memory graph asking represents_by_copies name found mutator object_found next_name)

  pub are_asking : (mutator : ℕ) → mutator < config.mutators → memory (Wait mutator) ≢ 0 → IsAsking memory graph promises mutator
  are_asking mutator inside waits =
      let asked = who_waits mutator inside waits in
      let reads = request_reads memory graph.count mutator asked.refs asked.nums asked.request in
      let name : Name = asked_name memory mutator in
      let nothing_yet : promises.ref (mutator + 1) ≡ None = ref_of config graph asking mutator inside ∙ ap (promised_ref graph (mutator + 1)) asked.is_asking in
      record {
        shape = reads.shaped ∙ sym (ap (λ value. shape_word value asked.nums) reads.refs_are) ∙ sym (ap (shape_word (refs_in (asked_shape memory mutator))) reads.nums_are);
        few_refs = omega (arith, reads.refs_are, asked.request.few_refs);
        few_nums = omega (arith, reads.nums_are, asked.request.few_nums);
        unanswered = unanswered_by mutator (asking mutator) (represents_by_copies.asked mutator inside) waits;
        new =
            cond-false (same_reference (promises.ref (mutator + 1)) (Some name)) (Some (blank (promises.refs (mutator + 1)) (promises.nums (mutator + 1)))) (graph.object name) (ap (λ value. same_reference value (Some name)) nothing_yet)
            ∙ no_object name (graph.object name) refl mutator (next_asked mutator inside waits);
      }

  -- what is promised is not reached
  pub are_fresh : AreFresh config.mutators graph promises
  are_fresh = record {
    own = λ thread promised_name name_promised. let promised_thing = promised_one config graph asking thread promised_name name_promised in ap (λ (name : Name). name.thread) promised_thing.4;
    few = λ thread promised_name name_promised. let promised_thing = promised_one config graph asking thread promised_name name_promised in omega (arith, promised_thing.1, promised_thing.2);
    fresh = λ thread promised_name name_promised reached.
        let promised_thing = promised_one config graph asking thread promised_name name_promised in
        let copy_reached = reached_at config memory graph asking represents_by_copies promised_name reached in
        let old_object = represents_by_copies.shared.contents.objects.each copy_reached.0 copy_reached.1 copy_reached.2 promised_name copy_reached.3 in
        not_next config memory graph asking represents_by_copies promised_name old_object.0 promised_thing.0 old_object.1 (promised_thing.4 ∙ ap (fresh graph) promised_thing.2);
  }

  -- where a header leads on, an old copy is
  moved_by : (address refs nums : ℕ) (name : Name) → is_forwarded (memory (Heap address)) ≡ true → Kind config memory graph asking represents_by_copies address refs nums name → HasMoved config memory (live config memory graph asking represents_by_copies) address refs nums name
  moved_by address refs nums name forwarded (is_current current_there) = absurd (true≢false (sym forwarded ∙ ap is_forwarded (header_of config memory graph asking represents_by_copies address current_there)))
  moved_by address refs nums name forwarded (is_old copy old_copy) =
      let leads_there = led_to memory address copy old_copy.header in
      record {
        in_set = old_copy.inside;
        copy = ap (live config memory graph asking represents_by_copies) leads_there ∙ old_copy.same;
        outside = not_in (memory Cset) (region_with config (now_in memory address)) (λ inside. old_copy.outside (subst (λ place. IsCollected config (memory Cset) place) leads_there inside));
        current = ap (λ address. is_forwarded (memory (Heap address))) leads_there ∙ ap is_forwarded (header_of config memory graph asking represents_by_copies copy old_copy.copy);
      }

  -- so the image holds the graph
  pub holds_by : HoldsBy config memory (live config memory graph asking represents_by_copies) represents_by_copies.ghost.owner promises graph
  holds_by = record {
    objects = live_holds config memory graph asking represents_by_copies;
    rooted = live_rooted config memory graph asking represents_by_copies;
    moved = λ address refs nums name thing_there forwarded. moved_by address refs nums name forwarded (kind_at config memory graph asking represents_by_copies address refs nums name thing_there);
    filled = live_filled config memory graph asking represents_by_copies;
    pieces = record {
      named = old_thing config memory graph asking represents_by_copies;
      unpromised = live_unpromised config memory graph asking represents_by_copies;
      unheld = live_unheld config memory graph asking represents_by_copies;
      uncarved = live_uncarved config memory graph asking represents_by_copies;
      some = live_some config memory graph asking represents_by_copies;
    };
    free_word = represents_by_copies.shared.owned.free_word;
    shared_one = represents_by_copies.shared.owned.shared_one;
    buffers = live_buffers config memory graph asking represents_by_copies;
    asking = λ mutator from inside waits. are_asking mutator inside waits;
    next = record {
      asked = λ mutator inside waits. let asked = who_waits mutator inside waits in (request_reads memory graph.count mutator asked.refs asked.nums asked.request).counted;
      promised = λ thread name thing_there. (promised_one config graph asking thread name thing_there).4;
      given = represents_by_copies.shared.contents.given;
    };
    unreached = are_fresh;
  }

  pub holds_some : HoldsSome config memory
  holds_some = ∣ (graph, (live config memory graph asking represents_by_copies, represents_by_copies.ghost.owner, promises, holds_by)) ∣₁

  -- each piece says how many words it has
  were_sized : AreSized memory represents_by_copies.block
  were_sized = pieces_sized config memory represents_by_copies.block graph.object represents_by_copies.shared.contents.objects represents_by_copies.shared.unwritten represents_by_copies.shared.evacuated.moved

  -- what is loose is so in the larger graph
  not_loose : (piece : Block) → is_loose (as_object graph asking represents_by_copies.block piece) ≡ false → is_loose piece ≡ false
  not_loose (thing name refs nums) fixed = refl
  not_loose (moved name refs nums copy) fixed = refl
  not_loose (spent words copy) fixed = refl
  not_loose (promised seat words) fixed = refl
  not_loose _ fixed = fixed

  pub are_sized : AreSized memory (live config memory graph asking represents_by_copies)
  are_sized = record {
    objects = λ object_address object_piece piece_there fixed.
        let old_piece = mapped_from (as_object graph asking represents_by_copies.block) represents_by_copies.block object_address object_piece piece_there in
        were_sized.objects object_address old_piece.0 old_piece.1 (not_loose old_piece.0 (ap is_loose old_piece.2 ∙ fixed)) ∙ sym (same_words config memory graph asking represents_by_copies object_address old_piece.0 old_piece.1) ∙ ap words_of old_piece.2;
    headers = λ address piece piece_there fixed. let old_piece = mapped_from (as_object graph asking represents_by_copies.block) represents_by_copies.block address piece piece_there in were_sized.headers address old_piece.0 old_piece.1 (not_loose old_piece.0 (ap is_loose old_piece.2 ∙ fixed));
    fillers = λ object_address words piece_there. were_sized.fillers object_address words (live_filler config memory graph asking represents_by_copies object_address words piece_there);
  }

  pub holds_sized : HoldsSized config memory
  holds_sized = ∣ (graph, live config memory graph asking represents_by_copies, represents_by_copies.ghost.owner, promises, holds_by, are_sized) ∣₁

  -- what is marked in the collection set are objects
  pub are_marked : AreMarkedObjects config memory (live config memory graph asking represents_by_copies)
  are_marked asked_address collected black = ⊎_elim
      (λ (low : memory Phase < 2).
      let no_bit : bit_at (memory Cset) (region_with config asked_address) ≡ 0 = ap (λ cset. bit_at cset (region_with config asked_address)) (represents_by_copies.shared.phased.cset_is low) ∙ bit_at-zero (region_with config asked_address) in
      absurd (omega (arith, no_bit, set)))
      (λ (high : 2 ≤ memory Phase). of_copy ((represents_by_copies.shared.evacuated.kept high).only asked_address above mark set))
      (cases_lt (memory Phase) 2)
    where
      parts : (nat_le config.region_words asked_address ≡ true) × ((bit_at (memory Cset) (region_with config asked_address) == 1) ≡ true)
      parts = and_parts (nat_le config.region_words asked_address) (bit_at (memory Cset) (region_with config asked_address) == 1) collected

      above : config.region_words ≤ asked_address
      above = leb-true config.region_words asked_address parts.0

      set : IsCollected config (memory Cset) asked_address
      set = eqb-true (bit_at (memory Cset) (region_with config asked_address)) 1 parts.1

      mark : HasMark config (λ number. memory (Black number)) asked_address
      mark = eqb-true (bit_at (memory (Black (mark_word config asked_address))) (mark_bit config asked_address)) 1 (and_parts (nat_le config.region_words asked_address) (bit_at (memory (Black (mark_word config asked_address))) (mark_bit config asked_address) == 1) black).1

      -- each of them is an object of the larger graph
      object_there : (piece : Block) → represents_by_copies.block asked_address ≡ Some piece → (name : Name) × (refs : ℕ) × (nums : ℕ) × (as_object graph asking represents_by_copies.block piece ≡ thing name refs nums) → HasObject (live config memory graph asking represents_by_copies) asked_address
      object_there piece piece_there object_name = (thing object_name.0 object_name.1 object_name.2, live_at config memory graph asking represents_by_copies asked_address piece piece_there ∙ ap Some object_name.3, refl)

      of_copy : HasCopy represents_by_copies.block asked_address → HasObject (live config memory graph asking represents_by_copies) asked_address
      of_copy (HasCopy.copy body copy_there) = ⊎_elim
          (λ (thing_now : represents_by_copies.block asked_address ≡ Some (thing body.name body.refs body.nums)). object_there (thing body.name body.refs body.nums) thing_now (body.name, body.refs, body.nums, refl))
          (λ (old : (copy : ℕ) × (represents_by_copies.block asked_address ≡ Some (moved body.name body.refs body.nums copy))).
          object_there (moved body.name body.refs body.nums old.0) old.1 (body.name, body.refs, body.nums, refl))
          (copy_cases (represents_by_copies.block asked_address) body copy_there)
      of_copy (HasCopy.spent_copy words copy copy_there) = ⊎_elim (object_there (spent words copy) copy_there) (λ fills. absurd fills) (pieces_are config memory graph asking represents_by_copies asked_address (spent words copy) copy_there)

  -- a region in the set means that one of the phases of evacuation and updating runs
  high_phase : memory Cset ≢ 0 → 2 ≤ memory Phase
  high_phase positive = ⊎_elim (λ (low : memory Phase < 2). absurd (positive (represents_by_copies.shared.phased.cset_is low))) (λ (high : 2 ≤ memory Phase). high) (cases_lt (memory Phase) 2)

  set_member : (region : ℕ) → IsIn (memory Cset) region → memory Cset ≢ 0
  set_member region member zero_set = (let bit : bit_at (memory Cset) region ≡ 0 = ap (λ cset. bit_at cset region) zero_set ∙ bit_at-zero region in omega (arith, bit, member))

  -- what can be reached is marked, or new
  kept_of : memory Cset ≢ 0 → (address : ℕ) → IsMarkable represents_by_copies.block address → IsKept config memory address
  kept_of positive address markable = ⊎_elim
      (λ (mark : HasMark config (λ number. memory (Black number)) address).
      inl (and_from (nat_le config.region_words address) (bit_at (memory (Black (mark_word config address))) (mark_bit config address) == 1) (le-leb config.region_words address (lies markable))
      (eq-eqb (bit_at (memory (Black (mark_word config address))) (mark_bit config address)) 1 mark)))
      (λ (young : IsYoung config (λ region. memory (Tams region)) address). inr (omega (arith, young)))
      ((represents_by_copies.shared.evacuated.kept (high_phase positive)).objects address markable)
    where
      lies : IsMarkable represents_by_copies.block address → config.region_words ≤ address
      lies (IsMarkable.object name refs nums piece_there) = (piece_inside config (λ region. memory (Top region)) represents_by_copies.block represents_by_copies.shared.parsable.plotted address (thing name refs nums) piece_there).0
      lies (IsMarkable.to_come seat words piece_there) = (piece_inside config (λ region. memory (Top region)) represents_by_copies.block represents_by_copies.shared.parsable.plotted address (promised seat words) piece_there).0

  -- and once objects are not evacuated any more lies outside of the set
  outside_of : memory Phase ≢ evacuation_phase → (address : ℕ) → IsMarkable represents_by_copies.block address → IsCollected config (memory Cset) address → ⊥
  outside_of not_evacuating address (IsMarkable.object name refs nums piece_there) member =
      let high = high_phase (set_member (region_with config address) member) in
      let phase_limits = represents_by_copies.shared.phased.phase_is in
      (represents_by_copies.shared.updated (omega (arith, not_evacuating, high, phase_limits))).outside address refs nums name piece_there member
  outside_of not_evacuating address (IsMarkable.to_come seat words piece_there) member = represents_by_copies.shared.evacuated.aside.no_promises address seat words piece_there member

  pub while_collecting : WhileCollecting config memory (live config memory graph asking represents_by_copies)
  while_collecting = record {
    marked = are_marked;
    reachable = λ some_set address reached. kept_of some_set address (held_current config memory graph asking represents_by_copies address reached);
    no_new = represents_by_copies.shared.evacuated.aside.no_new;
    floors = λ some_set. (represents_by_copies.shared.evacuated.kept (high_phase some_set)).floors;
    young = λ some_set room_address seat room_piece room_there room. (represents_by_copies.shared.evacuated.kept (high_phase some_set)).young room_address seat room_piece (live_room config memory graph asking represents_by_copies room_address seat room_piece room_there room) room;
    unseated = λ seat region ends member. represents_by_copies.shared.owned.outside seat ends.0 (subst (IsIn (memory Cset)) (sym (regions_tile.of_no_other config region (end_in (memory (Current seat)) - 1) ends.1)) member);
    outside = λ not_evacuating address reached member. absurd (outside_of not_evacuating address (held_current config memory graph asking represents_by_copies address reached) member);
  }

pub representing_is_sized : RepresentingIsSized
representing_is_sized config memory graph asking represents =
    let represented_copies = by_copies config memory graph asking represents in
    (live config memory graph asking represented_copies, represented_copies.ghost.owner, promises_of config graph asking, holds_by config memory graph asking represented_copies, are_sized config memory graph asking represented_copies, while_collecting config memory graph asking represented_copies)
