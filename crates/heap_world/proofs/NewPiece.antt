-- A new piece at the top of a region: the words between the old top and the new one, which a seat has carved for a buffer.
use Rattle.std.proofs.Common.{◌≡◌, ◌≢◌, ℕ, ◌+◌, ◌-◌, ◌<◌, ◌≤◌, ◌⊎◌, inl, inr, Bool, Option, Some, ⊎_elim, refl, sym, ap, ◌∙◌, subst, arith}
use Rattle.std.proofs.lemmas.Bool.{cases_eq, true≢false}
use Rattle.std.proofs.lemmas.Option.{same_Some}
use Rattle.heap_words.specs.declared.config.Config.{Config}
use Rattle.heap_words.specs.Ranges.{seat_count}
use Rattle.heap_words.specs.Encoding.{next_in, end_in}
use Rattle.regions.specs.Place.{base_of, region_with, IsOf}
use Rattle.regions.specs.Sets.{IsIn}
use Rattle.regions.proofs.PlaceLemmas.{regions_tile}
use Rattle.shen_graph.specs.declared.name.Name.{Name}
use Rattle.shen_graph.specs.Graph.{Object}
use Rattle.heap_world.specs.World.{Block, spent, hand, promised, dead, filler, spare, carved, Plot, name_at, room_of, is_loose, IsCollected, IsFreeWord, AreRooms, AreBuffers, IsParsable, HasContents, AreOwned, AreUnwritten, Snapshot, Scan, IsMarkable, IsYoung, AreYoungRooms, KeepsSnapshot, IsEvacuating, IsUpdating}
use Rattle.heap_world.proofs.FunctionUpdates.{updated, updated_there, updated_else}
use Rattle.heap_world.proofs.Unwritten.{unwritten_stays}
use Rattle.heap_world.proofs.Loose.{SameButLoose, markable_loose, contents_loose, marked_loose, evacuated_loose, updated_loose}
use Rattle.heap_world.proofs.Joined as joined
use Rattle.heap_world.proofs.Joined.{CanJoin}
use Rattle.heap_world.proofs.Pieces.{some_words, piece_cases}

-- A region has room for so many words above its top. The heap is parsable, and room is as it should be.
pub record CanGrow (config : Config) (top : ℕ → ℕ) (block : Plot) (region at words : ℕ) : Type 0 where
  pub parsable : IsParsable config top block
  pub rooms : AreRooms config block
  pub within : region < config.regions
  pub top_is : top region ≡ at
  pub room : at + words ≤ config.region_words
  pub some : 3 ≤ words

module _ (config : Config) (top : ℕ → ℕ) (block : Plot) (region old_top words seat : ℕ) (grows : CanGrow config top block region old_top words) where
  -- where the new piece lies
  abbrev address : ℕ
  address = base_of config region + old_top

  -- the tops with it
  abbrev new_top : ℕ → ℕ
  new_top = updated top region (old_top + words)

  -- the plot with it
  abbrev new_block : Plot
  new_block = updated block address (Some (carved seat words))

  -- the carved words join there
  joins : CanJoin config top block region old_top (carved seat words)
  joins = record {
    plotted = grows.parsable.plotted;
    long = some_words config top block grows.parsable grows.rooms;
    within = grows.within;
    top_is = grows.top_is;
    room = grows.room;
    some = (let words_positive = grows.some in omega (arith, words_positive));
  }

  -- what stood somewhere stands there
  pub stays : (address : ℕ) (piece : Block) → block address ≡ Some piece → new_block address ≡ Some piece
  stays = joined.stays config top block region old_top (carved seat words) joins

  -- what a word stands for it still stands for
  pub names_stay : (address : ℕ) (name : Name) → name_at (block address) ≡ Some name → name_at (new_block address) ≡ Some name
  names_stay = joined.names_stay config top block region old_top (carved seat words) joins

  -- all pieces but loose ones are the same
  pub same_but_loose : SameButLoose block new_block
  same_but_loose = record {
    stays = λ address piece fixed piece_there. stays address piece piece_there;
    came = λ new_address piece fixed piece_there. ⊎_elim
        (λ (new : (new_address ≡ address) × (carved seat words ≡ piece)). absurd (true≢false (ap is_loose new.1 ∙ fixed)))
        (λ (old : (new_address ≢ address) × (block new_address ≡ Some piece)). old.1)
        (piece_cases block address (carved seat words) new_address piece piece_there);
  }

  -- a promised object is an old one
  pub old_promise : (address promised_seat promised_words : ℕ) → new_block address ≡ Some (promised promised_seat promised_words) → block address ≡ Some (promised promised_seat promised_words)
  old_promise address promised_seat promised_words promise_then = same_but_loose.came address (promised promised_seat promised_words) refl promise_then

  -- room of another seat is old
  pub old_room : (address other_seat : ℕ) (piece : Block) → other_seat ≢ seat → new_block address ≡ Some piece → room_of piece ≡ Some other_seat → block address ≡ Some piece
  old_room place other_seat piece differs room_then room = ⊎_elim
      (λ (new : (place ≡ address) × (carved seat words ≡ piece)). absurd (differs (sym (same_Some seat other_seat (ap room_of new.1 ∙ room)))))
      (λ (old : (place ≢ address) × (block place ≡ Some piece)). old.1)
      (piece_cases block address (carved seat words) place piece room_then)

  -- room of the seat is the new piece, or was there
  pub own_room : (place : ℕ) (piece : Block) → new_block place ≡ Some piece → ((place ≡ address) × (carved seat words ≡ piece)) ⊎ (block place ≡ Some piece)
  own_room place piece room_then = ⊎_elim (λ new. inl new) (λ (old : (place ≢ address) × (block place ≡ Some piece)). inr old.1) (piece_cases block address (carved seat words) place piece room_then)

  -- a piece of another kind is old
  old_other : (address : ℕ) (piece : Block) → (carved seat words ≡ piece → ⊥) → new_block address ≡ Some piece → block address ≡ Some piece
  old_other place piece differs piece_then = ⊎_elim
      (λ (new : (place ≡ address) × (carved seat words ≡ piece)). absurd (differs new.1))
      (λ (old : (place ≢ address) × (block place ≡ Some piece)). old.1)
      (piece_cases block address (carved seat words) place piece piece_then)

  -- the heap is parsable
  pub parsable_more : IsParsable config new_top new_block
  parsable_more = record {
    plotted = joined.plotted_more config top block region old_top (carved seat words) joins;
    filled = joined.filled_more config top block region old_top (carved seat words) joins grows.parsable.filled;
    promises = λ address promised_seat piece_words piece_then. grows.parsable.promises address promised_seat piece_words (old_promise address promised_seat piece_words piece_then);
    deads = λ place piece_words piece_then. grows.parsable.deads place piece_words (same_but_loose.came place (dead piece_words) refl piece_then);
    spents = λ place piece_words copy_address piece_then. grows.parsable.spents place piece_words copy_address (same_but_loose.came place (spent piece_words copy_address) refl piece_then);
    fillers = λ address piece_words piece_then. grows.parsable.fillers address piece_words (old_other address (filler piece_words) (λ differ. cc) piece_then);
  }

  -- pieces that nobody writes to are as before
  pub unwritten_more : (heap : ℕ → ℕ) → AreUnwritten heap block → AreUnwritten heap new_block
  unwritten_more heap = unwritten_stays heap heap block new_block (λ address promised_seat piece_words piece_then. (old_promise address promised_seat piece_words piece_then, λ offset offset_below. refl)) (λ place piece_words piece_then. (same_but_loose.came place (dead piece_words) refl piece_then, refl, refl))
      (λ address piece_words piece_then. (old_other address (filler piece_words) (λ differ. cc) piece_then, refl))

  -- what can be marked still can
  pub markable_more : (address : ℕ) → IsMarkable block address → IsMarkable new_block address
  markable_more = markable_loose config block new_block same_but_loose

  -- the new piece is young: the top at mark start is no higher than the one on which it stands
  young_there : (start : ℕ → ℕ) → ((its_region : ℕ) → its_region < config.regions → start its_region ≤ top its_region) → IsYoung config start address
  young_there start floors =
      let inside : IsOf config region address = record { from = omega arith; before = (let room = grows.room in let not_empty = grows.some in omega (arith, room, not_empty)) } in
      let floor = floors region grows.within in
      let top_is = grows.top_is in
      subst (λ its_region. base_of config its_region + start its_region ≤ address) (sym (regions_tile.of_no_other config region address inside)) (omega (arith, floor, top_is))

  -- no top falls
  tops_rise : (other_region : ℕ) → top other_region ≤ new_top other_region
  tops_rise other_region = ⊎_elim
      (λ (same_region : other_region ≡ region). let top_then : new_top other_region ≡ old_top + words = ap new_top same_region ∙ updated_there top region (old_top + words) in let top_before : top other_region ≡ old_top = ap top same_region ∙ grows.top_is in omega (arith, top_then, top_before))
      (λ (differs : other_region ≢ region). let top_then : new_top other_region ≡ top other_region = updated_else top region (old_top + words) other_region (λ regions_equal. differs (sym regions_equal)) in omega (arith, top_then))
      (cases_eq other_region region)

  -- room is young, where it was
  young_more : (start : ℕ → ℕ) → ((region : ℕ) → region < config.regions → start region ≤ top region) → AreYoungRooms config start block → AreYoungRooms config start new_block
  young_more start floors young place other_seat room_piece room_then room = ⊎_elim
      (λ (new : (place ≡ address) × (carved seat words ≡ room_piece)). subst (IsYoung config start) (sym new.0) (young_there start floors))
      (λ (old : (place ≢ address) × (block place ≡ Some room_piece)). young place other_seat room_piece old.1 room)
      (piece_cases block address (carved seat words) place room_piece room_then)

  -- tops lie at or above what they were at or above
  floors_more : (start : ℕ → ℕ) → ((region : ℕ) → region < config.regions → start region ≤ top region) → (region : ℕ) → region < config.regions → start region ≤ new_top region
  floors_more start floors region inside = let floor = floors region inside in let rise = tops_rise region in omega (arith, floor, rise)

  -- marking goes on
  pub marking_more : (phase : ℕ) (grey black count : ℕ → ℕ) (buffer : ℕ → ℕ → ℕ) (tams heap : ℕ → ℕ) (snapshot : Snapshot) (recording : ℕ → Option ℕ) (scanning : ℕ → Option Scan)
      → KeepsSnapshot config phase grey black count buffer top tams heap block snapshot recording scanning → KeepsSnapshot config phase grey black count buffer new_top tams heap new_block snapshot recording scanning
  marking_more phase grey black count buffer tams heap snapshot recording scanning marked =
      marked_loose config block new_block same_but_loose phase grey black count buffer top new_top tams heap snapshot recording scanning marked
      (λ is_marking. young_more snapshot.top marked.floors (marked.marking is_marking).young) (floors_more snapshot.top marked.floors)

  -- evacuation goes on, where the region is not set aside
  pub evacuating_more : (phase cset evac claim free_bits : ℕ) (tams heap black : ℕ → ℕ) (owner : ℕ → Option ℕ) (copying : ℕ → Bool) (working : ℕ → Option ℕ) → (IsIn cset region → ⊥)
      → IsEvacuating config phase cset evac claim free_bits top tams heap black block owner copying working → IsEvacuating config phase cset evac claim free_bits new_top tams heap black new_block owner copying working
  evacuating_more phase cset evac claim free_bits tams heap black owner copying working outside evacuating =
      let inside : IsOf config region address = record { from = omega arith; before = (let room = grows.room in let not_empty = grows.some in omega (arith, room, not_empty)) } in
      let of_region : region_with config address ≡ region = regions_tile.of_no_other config region address inside in
      evacuated_loose config block new_block same_but_loose phase cset evac claim free_bits top new_top tams heap black owner copying working evacuating
      (λ is_evacuating. young_more tams (evacuating.kept is_evacuating).floors (evacuating.kept is_evacuating).young)
      (λ place other_seat piece piece_then room collected. ⊎_elim
      (λ (new : (place ≡ address) × (carved seat words ≡ piece)). outside (subst (λ other_region. IsIn cset other_region) of_region (subst (IsCollected config cset) new.0 collected)))
      (λ (old : (place ≢ address) × (block place ≡ Some piece)). evacuating.aside.no_rooms place other_seat piece old.1 room collected)
      (piece_cases block address (carved seat words) place piece piece_then))
      (λ is_evacuating. floors_more tams (evacuating.kept is_evacuating).floors)
      (λ other_region piece_then. updated_else top region (old_top + words) other_region (λ same_region. outside (subst (λ other_region. IsIn cset other_region) (sym same_region) piece_then)))

  -- updating goes on
  pub updating_more : (cset claim : ℕ) (limit heap : ℕ → ℕ) (scanning : ℕ → Option Scan) → IsUpdating config cset claim top limit heap block scanning → IsUpdating config cset claim new_top limit heap new_block scanning
  updating_more cset claim limit heap scanning updating =
      updated_loose config block new_block same_but_loose cset claim top new_top limit heap scanning updating (young_more limit updating.limits updating.young) (floors_more limit updating.limits)

  -- what the heap has is the graph's
  pub contents_more : (heap : ℕ → ℕ) (object : Name → Option Object) (count : ℕ → ℕ) → HasContents config heap block object count → HasContents config heap new_block object count
  contents_more = contents_loose config block new_block same_but_loose

  -- a region with a new top is not free
  free_more : (free_bits : ℕ) (owner : ℕ → Option ℕ) → (IsIn free_bits region → ⊥) → IsFreeWord config free_bits top owner → IsFreeWord config free_bits new_top owner
  free_more free_bits owner in_use free_word = record {
    no_more = free_word.no_more;
    empty = λ other_region inside bit. updated_else top region (old_top + words) other_region (λ same_region. in_use (subst (IsIn free_bits) (sym same_region) bit)) ∙ free_word.empty other_region inside bit;
    nobodys = free_word.nobodys;
  }

  -- room is as it should be
  rooms_more : seat < seat_count config.mutators config.helpers → AreRooms config new_block
  rooms_more seated = record {
    seated = λ place other_seat piece piece_then is_room. ⊎_elim
        (λ (new : (place ≡ address) × (carved seat words ≡ piece)). subst (λ any_seat. any_seat < seat_count config.mutators config.helpers) (same_Some seat other_seat (ap room_of new.1 ∙ is_room)) seated)
        (λ old. grows.rooms.seated place other_seat piece old is_room)
        (own_room place piece piece_then);
    hands = λ address other_seat piece_words piece_then. grows.rooms.hands address other_seat piece_words (old_other address (hand other_seat piece_words) (λ differ. cc) piece_then);
    spares = λ address other_seat piece_words piece_then. grows.rooms.spares address other_seat piece_words (old_other address (spare other_seat piece_words) (λ differ. cc) piece_then);
    carveds = λ place other_seat piece_words piece_then. ⊎_elim
        (λ (new : (place ≡ address) × (carved seat words ≡ carved other_seat piece_words)). let same_piece = new.1 in let sizes : words ≡ piece_words = cc in (let not_empty = grows.some in omega (arith, not_empty, sizes)))
        (λ old. grows.rooms.carveds place other_seat piece_words old)
        (own_room place (carved other_seat piece_words) piece_then);
  }

  -- buffers stay
  buffers_more : (current : ℕ → ℕ) → AreBuffers config top current block → AreBuffers config new_top current new_block
  buffers_more current buffers = record {
    each = λ other_seat has_buffer.
        let old_buffer = buffers.each other_seat has_buffer in
        record {
          region = old_buffer.region;
          within = old_buffer.within;
          from_base = old_buffer.from_base;
          some = old_buffer.some;
          ordered = old_buffer.ordered;
          to_top = (let high = old_buffer.to_top in let rise = tops_rise old_buffer.region in omega (arith, high, rise));
          free = λ space_left. ⊎_elim
              (λ spare_there. inl (stays (next_in (current other_seat)) (spare other_seat (end_in (current other_seat) - next_in (current other_seat))) spare_there))
              (λ carved_there. inr (carved_there.0, carved_there.1, stays carved_there.0 (carved other_seat carved_there.1) carved_there.2))
              (old_buffer.free space_left);
        };
    spares = λ address other_seat space_left spare_then. buffers.spares address other_seat space_left (old_other address (spare other_seat space_left) (λ differ. cc) spare_then);
  }

  -- and regions are owned
  pub owned_more : (share free_bits cset : ℕ) (current : ℕ → ℕ) (owner : ℕ → Option ℕ) → seat < seat_count config.mutators config.helpers → (IsIn free_bits region → ⊥)
      → AreOwned config top share free_bits cset current block owner → AreOwned config new_top share free_bits cset current new_block owner
  owned_more share free_bits cset current owner seated in_use owned = record {
    free_word = free_more free_bits owner in_use owned.free_word;
    shared_one = owned.shared_one;
    rooms = rooms_more seated;
    buffers = buffers_more current owned.buffers;
    outside = owned.outside;
  }
