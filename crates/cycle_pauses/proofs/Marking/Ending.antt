-- The end of marking: each object is marked or new, so none lies in a dead region, and the words stand for the same graph.
use Rattle.heap_words.specs.Phases.{marking_phase}
use Rattle.std.proofs.Common.{◌≡◌, ◌≢◌, ℕ, ◌+◌, ◌<◌, ◌≤◌, ◌⊎◌, Bool, true, false, Option, Some, None, inl, inr, ⊎_elim, refl, sym, ap, ◌∙◌, arith}
use Rattle.std.proofs.lemmas.Bool.{cases_Bool, true≢false}
use Rattle.heap_words.specs.declared.config.Config.{Config}
use Rattle.heap_words.specs.Words.{Word, Phase, Cset, Free, Evac, Top, Tams, Current, Root, Pin, Black, Heap, Share}
use Rattle.heap_words.specs.Encoding.{end_in}
use Rattle.regions.specs.Place.{region_with}
use Rattle.regions.proofs.PlaceLemmas.{regions_tile}
use Rattle.shen_graph.specs.declared.name.Name.{Name}
use Rattle.shen_graph.specs.Graph.{Graph}
use Rattle.heap_world.specs.World.{Block, thing, moved, spent, hand, promised, dead, spare, carved, words_of, Plot, Ghost, no_snapshot, name_at, AreObjects, IsFreeWord, ShareIsOpen, AreOwned, IsMarkable, IsYoung, AreYoungRooms}
use Rattle.heap_world.specs.Asking.{Asking, IsAsked}
use Rattle.heap_world.specs.Represents.{Represents}
use Rattle.heap_world.proofs.Pieces.{some_words, object_reads}
use Rattle.heap_world.proofs.Keeping.{points_stay}
use Rattle.heap_world.proofs.Pins.{pins_stay}
use Rattle.heap_world.proofs.Roomless.{only_spares}
use Rattle.image_graph.proofs.Inside.{buffer_ends}
use Rattle.image_graph.proofs.BuffersStay.{SameRoom, rooms_stay, buffers_stay}
use Rattle.regions.specs.Marks.{HasMark}
use Rattle.cycle_words.specs.Marking.Marks.{is_black, IsNew}
use Rattle.cycle_words.specs.Marking.Close.{closed}
use Rattle.cycle_words.specs.Marking.Final.{dead_in, freed_block, final_marked}
use Rattle.image_graph.specs.Buffers.{HasNoMoreSeats}
use Rattle.cycle_words.proofs.Marking.Dead.{shared_alive, current_alive}
use Rattle.cycle_pauses.proofs.Evacuation.Asked.{asked_stays}
use Rattle.cycle_words.proofs.Marking.Vanished as freed
use Rattle.cycle_pauses.proofs.Marking.FromSnapshot.{mark_is, is_mark, no_moved, no_spent, thing_at, piece_below, markable_piece, markable_kept, markable_alive, closed_markable}
use Rattle.cycle_pauses.specs.Marking.MarkedOut.{IsMarkedOut}

module _ (config : Config) (memory : Word → ℕ) (graph : Graph) (asking : ℕ → Asking) (represents : Represents config memory graph asking) (phase_one : memory Phase ≡ marking_phase) where
  abbrev now : Word → ℕ
  now = final_marked config memory

  calm : memory Cset ≡ 0
  calm = represents.shared.phased.cset_is (omega (arith, phase_one))

  abbrev out : ℕ → Bool
  out = dead_in config memory

  abbrev pub plot : Plot
  plot = freed_block config out represents.block

  -- the region of an object is not dead
  alive : (address : ℕ) → IsMarkable represents.block address → out (region_with config address) ≡ false
  alive = markable_alive config memory graph asking represents calm phase_one

  -- the dead regions are freed of pieces that lie apart
  some : (address : ℕ) (piece : Block) → represents.block address ≡ Some piece → 1 ≤ words_of piece
  some = some_words config (λ region. memory (Top region)) represents.block represents.shared.parsable represents.shared.owned.rooms

  -- a piece that is left, and one of a region that is not dead
  left : (address : ℕ) (piece : Block) → plot address ≡ Some piece → (out (region_with config address) ≡ false) × (represents.block address ≡ Some piece)
  left = freed.piece_was config out represents.block

  stays : (address : ℕ) → out (region_with config address) ≡ false → plot address ≡ represents.block address
  stays = freed.piece_stays config out represents.block

  thing_stays : (address refs nums : ℕ) (name : Name) → represents.block address ≡ Some (thing name refs nums) → plot address ≡ Some (thing name refs nums)
  thing_stays address refs nums name has_piece = stays address (alive address (IsMarkable.object name refs nums has_piece)) ∙ has_piece

  promised_stays : (address seat words : ℕ) → represents.block address ≡ Some (promised seat words) → plot address ≡ Some (promised seat words)
  promised_stays address seat words has_piece = stays address (alive address (IsMarkable.to_come seat words has_piece)) ∙ has_piece

  names_stay : (address : ℕ) (name : Name) → name_at (represents.block address) ≡ Some name → name_at (plot address) ≡ Some name
  names_stay address name has_name = let piece = thing_at config memory graph asking represents calm address name has_name in ap name_at (thing_stays address piece.0 piece.1 name piece.2)

  top_stays : (region : ℕ) → out region ≡ false → now (Top region) ≡ memory (Top region)
  top_stays = freed.top_stays config out (closed config memory)

  objects_again : AreObjects (λ address. memory (Heap address)) plot graph.object
  objects_again = record {
    each = λ first_address refs nums name has_piece.
        let old_object = represents.shared.contents.objects.each first_address refs nums name (left first_address (thing name refs nums) has_piece).1 in
        (old_object.0, old_object.1, object_reads (λ address. memory (Heap address)) (λ address. memory (Heap address)) represents.block plot first_address refs nums name old_object.0 (λ offset offset_below. refl) names_stay old_object.2);
    once = λ first_address second_address refs nums second_refs second_nums name first_there second_there.
        represents.shared.contents.objects.once first_address second_address refs nums second_refs second_nums name (left first_address (thing name refs nums) first_there).1 (left second_address (thing name second_refs second_nums) second_there).1;
  }

  -- no seat has a region to itself
  abbrev owner : ℕ → Option ℕ
  owner region = None

  free_again : IsFreeWord config (now Free) (λ region. now (Top region)) owner
  free_again = freed.free_again config out (closed config memory) represents.block represents.shared.parsable.plotted some represents.ghost.owner owner represents.shared.owned.free_word (λ given_region region_gone. refl) (λ given_region no_owner. refl)

  -- the region that is shared is not dead, ..
  share_again : ShareIsOpen config (memory Share) (now Free) (memory Cset) owner
  share_again shared_region share_region =
      let was_open = represents.shared.owned.shared_one shared_region share_region in
      record {
        within = was_open.within;
        in_use = λ is_free. ⊎_elim was_open.in_use (λ (region_gone : out shared_region ≡ true). true≢false (sym region_gone ∙ shared_alive config memory shared_region share_region)) (freed.free_was config out (closed config memory) shared_region was_open.within is_free);
        nobodys = refl;
        outside = was_open.outside;
      }

  -- .. nor is one where a buffer ends, and so room stays.
  module _ (no_more : HasNoMoreSeats config memory) where
    buffer_alive : (seat : ℕ) (some_buffer : memory (Current seat) ≢ 0) → out (represents.shared.owned.buffers.each seat some_buffer).region ≡ false
    buffer_alive seat some_buffer =
        let seat_buffer = represents.shared.owned.buffers.each seat some_buffer in
        current_alive config memory no_more seat seat_buffer.region (some_buffer, buffer_ends config (λ region. memory (Top region)) represents.block seat (memory (Current seat)) seat_buffer (represents.shared.parsable.plotted.tops seat_buffer.region seat_buffer.within))

    room_alive : (address seat words : ℕ) → represents.block address ≡ Some (spare seat words) → out (region_with config address) ≡ false
    room_alive address seat words has_piece =
        let own_buffer = represents.shared.owned.buffers.spares address seat words has_piece in
        let piece_long = represents.shared.owned.rooms.spares address seat words has_piece in
        let used = represents.shared.parsable.plotted.in_use address (spare seat words) has_piece in
        let top_most = represents.shared.parsable.plotted.tops used.region used.within in
        let base_below = used.from_base in
        let room_below_top = used.to_top in
        let buffer_end = own_buffer.1 in
        let some_buffer : memory (Current seat) ≢ 0 = λ no_buffer. (let zero_end : end_in (memory (Current seat)) ≡ 0 = ap end_in no_buffer in omega (arith, zero_end, buffer_end, piece_long)) in
        ap out (regions_tile.of_no_other config used.region address (record { from = base_below; before = omega (arith, room_below_top, top_most, piece_long) }))
        ∙ current_alive config memory no_more seat used.region (some_buffer, record { from = omega (arith, base_below, buffer_end, piece_long); before = omega (arith, room_below_top, top_most, buffer_end, piece_long) })

    same_room : SameRoom represents.block plot
    same_room = record {
      stays = λ address seat piece room_of_seat has_piece. let is_spare = only_spares represents.block represents.none represents.uncarved address seat piece has_piece room_of_seat in stays address (room_alive address seat is_spare.0 (has_piece ∙ ap Some is_spare.1)) ∙ has_piece;
      came = λ room_address seat room_piece room_of_seat has_piece. (left room_address room_piece has_piece).1;
    }

    owned_again : AreOwned config (λ region. now (Top region)) (memory Share) (now Free) (memory Cset) (λ seat. memory (Current seat)) plot owner
    owned_again = record {
      free_word = free_again;
      shared_one = share_again;
      rooms = rooms_stay config represents.block plot same_room represents.shared.owned.rooms;
      buffers = buffers_stay config (λ region. memory (Top region)) (λ region. now (Top region)) (λ seat. memory (Current seat)) represents.block plot same_room represents.shared.owned.buffers
          (λ seat some_buffer. (let same_top = top_stays (represents.shared.owned.buffers.each seat some_buffer).region (buffer_alive seat some_buffer) in omega (arith, same_top)));
      outside = represents.shared.owned.outside;
    }

  -- What is marked then is an object, and each object is marked or new.
  tams_stays : (region : ℕ) → out region ≡ false → now (Tams region) ≡ memory (Tams region)
  tams_stays = freed.tams_stays config out (closed config memory)

  was_markable : (address : ℕ) → IsMarkable plot address → IsMarkable represents.block address
  was_markable address (IsMarkable.object name refs nums has_piece) = IsMarkable.object name refs nums (left address (thing name refs nums) has_piece).1
  was_markable address (IsMarkable.to_come seat words has_piece) = IsMarkable.to_come seat words (left address (promised seat words) has_piece).1

  still_markable : (address : ℕ) → IsMarkable represents.block address → IsMarkable plot address
  still_markable address (IsMarkable.object name refs nums has_piece) = IsMarkable.object name refs nums (thing_stays address refs nums name has_piece)
  still_markable address (IsMarkable.to_come seat words has_piece) = IsMarkable.to_come seat words (promised_stays address seat words has_piece)

  black_or_young : (address : ℕ) → IsMarkable represents.block address → HasMark config (λ number. now (Black number)) address ⊎ IsYoung config (λ region. now (Tams region)) address
  black_or_young address markable = ⊎_elim
      (λ (black_address : is_black config (closed config memory) address ≡ true). inl (mark_is config (λ number. now (Black number)) address black_address).1)
      (λ (fresh : IsNew config (closed config memory) address).
      let piece = markable_piece config memory graph asking represents calm address markable in
      let piece_place = piece_below config memory graph asking represents calm address piece.0 piece.1 in
      let same_tams = tams_stays (region_with config address) (alive address markable) in
      inr (omega (arith, fresh, same_tams, piece_place.1)))
      (markable_kept config memory graph asking represents calm phase_one address markable)

  floors_again : (region : ℕ) → region < config.regions → now (Tams region) ≤ now (Top region)
  floors_again region region_below = ⊎_elim
      (λ (region_gone : out region ≡ true). (let no_tams = freed.tams_out config out (closed config memory) region region_gone in omega (arith, no_tams)))
      (λ (region_stays : out region ≡ false).
      let top = top_stays region region_stays in
      let tams = tams_stays region region_stays in
      let same_tams = (represents.shared.marked.marking phase_one).tams_are region region_below in
      let floor = represents.shared.marked.floors region region_below in
      omega (arith, top, tams, same_tams, floor))
      (cases_Bool (out region))

  -- room lies where what is allocated is new
  young_again : AreYoungRooms config (λ region. now (Tams region)) plot
  young_again room_address seat room_piece has_piece piece_is_room =
      let stood_before = left room_address room_piece has_piece in
      let piece_place = piece_below config memory graph asking represents calm room_address room_piece stood_before.1 in
      let tams = tams_stays (region_with config room_address) stood_before.0 in
      let same_tams = (represents.shared.marked.marking phase_one).tams_are (region_with config room_address) piece_place.0 in
      let above_tams = (represents.shared.marked.marking phase_one).young room_address seat room_piece stood_before.1 piece_is_room in
      omega (arith, above_tams, tams, same_tams)

  -- dead objects lie below the tops at mark start
  deads_again : (address words : ℕ) → plot address ≡ Some (dead words) → IsYoung config (λ region. now (Tams region)) address → ⊥
  deads_again address words has_piece young =
      let stood_before = left address (dead words) has_piece in
      let piece_place = piece_below config memory graph asking represents calm address (dead words) stood_before.1 in
      let tams = tams_stays (region_with config address) stood_before.0 in
      let same_tams = (represents.shared.marked.marking phase_one).tams_are (region_with config address) piece_place.0 in
      (represents.shared.marked.marking phase_one).deads address words stood_before.1 (omega (arith, young, tams, same_tams))

  -- what is asked and promised stays
  asked_again : (seat : ℕ) → IsAsked memory represents.block graph.count seat (asking seat) → IsAsked now plot graph.count seat (asking seat)
  asked_again seat asked_before = asked_stays memory now represents.block plot graph.count seat refl refl (λ promise_address words offset has_piece offset_below. refl) (λ address words has_piece. promised_stays address seat words has_piece) (λ promise_address words has_piece. (left promise_address (promised seat words) has_piece).1) (asking seat) asked_before

  abbrev pub ghost : Ghost
  ghost = record {
    owner = owner;
    snapshot = no_snapshot;
    recording = represents.ghost.recording;
    scanning = represents.ghost.scanning;
    copying = represents.ghost.copying;
    working = represents.ghost.working;
  }

  -- so marking has ended
  pub marked_out : HasNoMoreSeats config memory → IsMarkedOut config now plot ghost graph asking
  marked_out no_more = record {
    phase_is = phase_one;
    cset_is = calm;
    evac_is = represents.shared.phased.evac_is (λ evacuates. omega (arith, phase_one, evacuates));
    parsable = freed.parsable_again config out (closed config memory) represents.block represents.shared.parsable.plotted some represents.shared.parsable;
    contents = record { objects = objects_again; given = represents.shared.contents.given };
    owned = owned_again no_more;
    nobodys = λ q. refl;
    seated = no_more;
    unwritten = freed.unwritten_again config out (closed config memory) represents.block represents.shared.parsable.plotted some represents.shared.unwritten;
    unmoved = record {
      no_moved = λ address refs nums copy name has_piece. no_moved config memory graph asking represents calm address refs nums copy name (left address (moved name refs nums copy) has_piece).1;
      no_spent = λ address words copy has_piece. no_spent config memory graph asking represents calm address words copy (left address (spent words copy) has_piece).1;
      no_hand = λ address seat words has_piece. represents.none address seat words (left address (hand seat words) has_piece).1;
      no_carved = λ address seat words has_piece. represents.uncarved address seat words (left address (carved seat words) has_piece).1;
    };
    marked = record {
      objects = λ address has_piece. black_or_young address (was_markable address has_piece);
      only = λ address high mark. still_markable address (closed_markable config memory graph asking represents calm phase_one address (is_mark config (λ number. now (Black number)) address high mark));
      floors = floors_again;
      deads = deads_again;
      young = young_again;
    };
    snapshot_is = refl;
    unmarking = record { records_none = represents.unmarking.records_none; scans_none = represents.unmarking.scans_none };
    uncopying = record { copies_none = represents.uncopying.copies_none; works_none = represents.uncopying.works_none };
    roots = λ mutator index inside few. points_stay represents.block plot names_stay (memory (Root mutator index)) (graph.root (mutator + 1) index) (represents.roots mutator index inside few);
    pinned = pins_stay config (memory Cset) (memory Evac) (memory Cset) (memory Evac) represents.block plot (λ mutator slot. memory (Pin mutator slot)) graph.pin
        (λ address refs nums name target. record { piece = thing_stays address refs nums name target.piece; safe = target.safe }) represents.shared.pinned;
    asked = λ seat inside. asked_again seat (represents.asked seat inside);
    heard = represents.heard;
    promised_to = λ promise_address seat words has_piece. represents.promised_to promise_address seat words (left promise_address (promised seat words) has_piece).1;
    no_more = represents.no_more;
    no_more_pins = represents.no_more_pins;
  }
