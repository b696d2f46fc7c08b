-- The end of updating: nothing names an old copy any more, so the collection set is freed as it is, and the words represent the same
-- graph.
use Rattle.heap_words.specs.Phases.{updating_phase}
use Rattle.std.proofs.Common.{◌≡◌, ◌≢◌, ℕ, ◌+◌, ◌-◌, ◌<◌, ◌≤◌, Bool, true, false, Some, None, inl, inr, ⊎_elim, refl, sym, ap, ◌∙◌, subst, arith}
use Rattle.shen_graph.proofs.Options.{none_if_never}
use Rattle.heap_words.specs.declared.config.Config.{Config}
use Rattle.heap_words.specs.Words.{Word, Phase, Cset, Free, Evac, Claim, Top, Tams, Current, Root, Pin, Count, Buffer, Grey, Black, Heap, Share}
use Rattle.heap_words.specs.Encoding.{end_in}
use Rattle.regions.specs.Place.{region_with}
use Rattle.regions.specs.Sets.{IsIn}
use Rattle.shen_graph.specs.declared.name.Name.{Name}
use Rattle.shen_graph.specs.Graph.{Graph, Object, Reference}
use Rattle.heap_world.specs.World.{Block, thing, moved, spent, hand, promised, carved, words_of, Plot, Ghost, no_snapshot, Points, name_at, IsCollected, IsThing, AreObjects, AreOwned, IsCurrent, IsEvacuating, IsUsable}
use Rattle.heap_world.specs.Asking.{Asking}
use Rattle.heap_world.specs.Represents.{Represents}
use Rattle.heap_world.proofs.Pieces.{some_words}
use Rattle.heap_world.proofs.Copies.{none_is_in, none_in_0, none_evacuated}
use Rattle.heap_world.proofs.Pins.{pins_stay}
use Rattle.heap_world.proofs.Keeping.{usable_now}
use Rattle.heap_world.proofs.Unmarked.{none_marked_in}
use Rattle.heap_world.proofs.Units.{all_is_current}
use Rattle.image_graph.proofs.Inside.{buffer_region_is}
use Rattle.image_graph.proofs.BuffersStay.{SameRoom, rooms_stay, buffers_stay}
use Rattle.image_graph.proofs.Reached.{none_at_0}
use Rattle.cycle_words.specs.Marking.Final.{freed_block}
use Rattle.cycle_pauses.proofs.Evacuation.Asked.{asked_stays}
use Rattle.cycle_words.proofs.Marking.Trimmed.{object_stands}
use Rattle.cycle_words.proofs.Marking.Vanished as freed
use Rattle.cycle_words.specs.Updating.Changes.{is_chosen, final_updated}
use Rattle.cycle_pauses.specs.Updating.Laws.{UpdatingEnds}
use Rattle.cycle_pauses.proofs.Updating.Freeing.{spared_if, not_in_set, in_set}

-- what can be used is current
usable_current : (config : Config) (cset evac : ℕ) (block : Plot) (word : ℕ) → IsUsable config cset evac block word → IsCurrent block word
usable_current config cset evac block word (inl null) = IsCurrent.null null
usable_current config cset evac block word (inr usable_object) = IsCurrent.names usable_object.1 usable_object.2 usable_object.0 usable_object.3.piece

module _ (config : Config) (memory : Word → ℕ) (graph : Graph) (asking : ℕ → Asking) (represents : Represents config memory graph asking) (updating : memory Phase ≡ updating_phase) (claimed : config.regions ≤ memory Claim) where
  abbrev now : Word → ℕ
  now = final_updated config memory

  abbrev out : ℕ → Bool
  out = is_chosen memory

  abbrev plot : Plot
  plot = freed_block config out represents.block

  abbrev heap : ℕ → ℕ
  heap address = memory (Heap address)

  -- the ghost state, without a snapshot
  abbrev bare : Ghost
  bare = record { owner = represents.ghost.owner; snapshot = no_snapshot; recording = represents.ghost.recording; scanning = represents.ghost.scanning; copying = represents.ghost.copying; working = represents.ghost.working }

  no_copier : memory Evac ≡ 0
  no_copier = represents.shared.phased.evac_is (λ evacuates. omega (arith, updating, evacuates))

  some : (address : ℕ) (piece : Block) → represents.block address ≡ Some piece → 1 ≤ words_of piece
  some = some_words config (λ region. memory (Top region)) represents.block represents.shared.parsable represents.shared.owned.rooms

  -- a piece that is left lies outside of the set, and those outside are left
  left : (address : ℕ) (piece : Block) → plot address ≡ Some piece → (out (region_with config address) ≡ false) × (represents.block address ≡ Some piece)
  left = freed.piece_was config out represents.block

  stays : (address : ℕ) → (IsCollected config (memory Cset) address → ⊥) → plot address ≡ represents.block address
  stays address away = freed.piece_stays config out represents.block address (spared_if memory (region_with config address) away)

  thing_stays : (address refs nums : ℕ) (name : Name) → represents.block address ≡ Some (thing name refs nums) → plot address ≡ Some (thing name refs nums)
  thing_stays address refs nums name thing_there = stays address ((represents.shared.updated updating).outside address refs nums name thing_there) ∙ thing_there

  promised_stays : (address seat words : ℕ) → represents.block address ≡ Some (promised seat words) → plot address ≡ Some (promised seat words)
  promised_stays address seat words promise_there = stays address (represents.shared.evacuated.aside.no_promises address seat words promise_there) ∙ promise_there

  -- no old copy is left
  no_moved : (address refs nums target : ℕ) (name : Name) → plot address ≡ Some (moved name refs nums target) → ⊥
  no_moved address refs nums target name moved_there =
      let was_there = left address (moved name refs nums target) moved_there in
      not_in_set memory (region_with config address) was_there.0 (represents.shared.evacuated.moved.moveds address refs nums target name was_there.1).inside

  no_spent : (address words target : ℕ) → plot address ≡ Some (spent words target) → ⊥
  no_spent address words target spent_there =
      let was_there = left address (spent words target) spent_there in
      not_in_set memory (region_with config address) was_there.0 (represents.shared.evacuated.moved.spents address words target was_there.1).inside

  -- a region of the set was nobody's
  set_nobodys : (region : ℕ) → out region ≡ true → represents.ghost.owner region ≡ None
  set_nobodys region region_gone = none_if_never (represents.ghost.owner region) (λ seat owned. represents.shared.evacuated.aside.nobodys region seat owned (in_set memory region region_gone))

  -- room lies outside of the set, and so do buffers, and the region that is shared
  same_room : SameRoom represents.block plot
  same_room = record {
    stays = λ address seat piece is_room piece_there. stays address (represents.shared.evacuated.aside.no_rooms address seat piece piece_there is_room) ∙ piece_there;
    came = λ room_address seat piece is_room piece_there. (left room_address piece piece_there).1;
  }

  top_at_buffer : (seat : ℕ) (some_buffer : memory (Current seat) ≢ 0) → memory (Top (represents.shared.owned.buffers.each seat some_buffer).region) ≤ now (Top (represents.shared.owned.buffers.each seat some_buffer).region)
  top_at_buffer seat some_buffer =
      let buffer = represents.shared.owned.buffers.each seat some_buffer in
      let region_is = buffer_region_is config (λ region. memory (Top region)) represents.block seat (memory (Current seat)) buffer (represents.shared.parsable.plotted.tops buffer.region buffer.within) in
      let same_top = freed.top_stays config out memory buffer.region (spared_if memory buffer.region (λ region_member. represents.shared.owned.outside seat some_buffer (subst (IsIn (memory Cset)) (sym region_is) region_member))) in
      omega (arith, same_top)

  owned_again : AreOwned config (λ region. now (Top region)) (memory Share) (now Free) 0 (λ seat. memory (Current seat)) plot represents.ghost.owner
  owned_again = record {
    free_word = freed.free_again config out memory represents.block represents.shared.parsable.plotted some represents.ghost.owner represents.ghost.owner represents.shared.owned.free_word set_nobodys (λ given_region no_owner. no_owner);
    shared_one = λ given_region shared_region.
        let was_shared = represents.shared.owned.shared_one given_region shared_region in
        record {
          within = was_shared.within;
          in_use = λ region_free. ⊎_elim was_shared.in_use (λ (region_gone : out given_region ≡ true). was_shared.outside (in_set memory given_region region_gone)) (freed.free_was config out memory given_region was_shared.within region_free);
          nobodys = was_shared.nobodys;
          outside = none_is_in given_region;
        };
    rooms = rooms_stay config represents.block plot same_room represents.shared.owned.rooms;
    buffers = buffers_stay config (λ region. memory (Top region)) (λ region. now (Top region)) (λ seat. memory (Current seat)) represents.block plot same_room represents.shared.owned.buffers top_at_buffer;
    outside = λ seat some_buffer. none_in_0 config (end_in (memory (Current seat)) - 1);
  }

  -- a current word stands for what it stood for
  points_still : (word : ℕ) (reference : Reference) → IsCurrent represents.block word → Points represents.block word reference → Points plot word reference
  points_still word None current points = points
  points_still word (Some name) (IsCurrent.null null) points = absurd (none_at_0 config (λ region. memory (Top region)) represents.block represents.shared.parsable.plotted word name points null)
  points_still word (Some reference_name) (IsCurrent.names refs nums name name_there) points = ap name_at (thing_stays word refs nums name name_there ∙ sym name_there) ∙ points

  -- all fields are
  fields_current : (address refs nums index : ℕ) (name : Name) → represents.block address ≡ Some (thing name refs nums) → index < refs → IsCurrent represents.block (heap (address + 3 + index))
  fields_current = all_is_current config (record { memory = memory; block = represents.block; ghost = represents.ghost; graph = graph }) represents.shared updating represents.unmarking.scans_none claimed

  -- so objects read as before
  thing_again : (address refs nums : ℕ) (name : Name) (object : Object) → represents.block address ≡ Some (thing name refs nums) → IsThing heap represents.block address refs nums name object → IsThing heap plot address refs nums name object
  thing_again address refs nums name object thing_there was_thing =
      object_stands heap represents.block plot address refs nums name object
      (λ index reference reference_there index_below points. points_still (heap (address + 3 + index)) reference (fields_current address refs nums index name thing_there index_below) points) was_thing

  objects_again : AreObjects heap plot graph.object
  objects_again = record {
    each = λ address refs nums name thing_there.
        let was_there = left address (thing name refs nums) thing_there in
        let graph_object = represents.shared.contents.objects.each address refs nums name was_there.1 in
        (graph_object.0, graph_object.1, thing_again address refs nums name graph_object.0 was_there.1 graph_object.2);
    once = λ address second_address refs nums other_refs other_nums name first_there second_there.
        represents.shared.contents.objects.once address second_address refs nums other_refs other_nums name (left address (thing name refs nums) first_there).1 (left second_address (thing name other_refs other_nums) second_there).1;
  }

  -- roots too
  roots_again : (mutator index : ℕ) → mutator < config.mutators → index < 16 → Points plot (memory (Root mutator index)) (graph.root (mutator + 1) index)
  roots_again mutator index mutator_below index_low =
      points_still (memory (Root mutator index)) (graph.root (mutator + 1) index) (usable_current config (memory Cset) (memory Evac) represents.block (memory (Root mutator index)) (represents.usable mutator index mutator_below index_low)) (represents.roots mutator index mutator_below index_low)

  evacuated_no_more : IsEvacuating config 0 0 (memory Evac) 0 (now Free) (λ region. now (Top region)) (λ region. now (Tams region)) heap (λ number. memory (Black number)) plot represents.ghost.owner represents.ghost.copying represents.ghost.working
  evacuated_no_more =
      subst (λ evac. IsEvacuating config 0 0 evac 0 (now Free) (λ region. now (Top region)) (λ region. now (Tams region)) heap (λ number. memory (Black number)) plot represents.ghost.owner represents.ghost.copying represents.ghost.working) (sym no_copier)
      (none_evacuated config 0 0 (now Free) (λ region. now (Top region)) (λ region. now (Tams region)) heap (λ number. memory (Black number)) plot represents.ghost.owner represents.ghost.copying represents.ghost.working (λ phase_high. omega (arith, phase_high))
      no_moved no_spent represents.uncopying.copies_none)

  pub ended : Represents config now graph asking
  ended = record {
    block = plot;
    ghost = bare;
    shared = record {
      parsable = freed.parsable_again config out memory represents.block represents.shared.parsable.plotted some represents.shared.parsable;
      contents = record { objects = objects_again; given = represents.shared.contents.given };
      owned = owned_again;
      phased = record { phase_is = omega arith; cset_is = λ low. refl; evac_is = λ other_phase. no_copier };
      unwritten = freed.unwritten_again config out memory represents.block represents.shared.parsable.plotted some represents.shared.unwritten;
      marked = none_marked_in config 0 (λ number. memory (Grey number)) (λ number. memory (Black number)) (λ mutator. memory (Count mutator)) (λ mutator entry. memory (Buffer mutator entry)) (λ region. now (Top region)) (λ region. now (Tams region)) heap plot represents.ghost.recording represents.ghost.scanning
          (λ is. omega (arith, is));
      evacuated = evacuated_no_more;
      updated = λ later. absurd (omega (arith, later));
      pinned = pins_stay config (memory Cset) (memory Evac) 0 (memory Evac) represents.block plot (λ mutator slot. memory (Pin mutator slot)) graph.pin
          (λ address refs nums name target. record { piece = thing_stays address refs nums name target.piece; safe = λ inside. absurd (none_in_0 config address inside) }) represents.shared.pinned;
    };
    roots = roots_again;
    usable = λ mutator index inside few. usable_now config (memory Evac) plot no_moved (memory (Root mutator index)) (graph.root (mutator + 1) index) (roots_again mutator index inside few);
    none = λ piece_address seat words is. represents.none piece_address seat words (left piece_address (hand seat words) is).1;
    uncarved = λ address seat words is. represents.uncarved address seat words (left address (carved seat words) is).1;
    asked = λ thread inside.
        asked_stays memory now represents.block plot graph.count thread refl refl (λ piece_address words offset is offset_below. refl) (λ address words is. promised_stays address thread words is) (λ piece_address words is. (left piece_address (promised thread words) is).1) (asking thread) (represents.asked thread inside);
    heard = represents.heard;
    promised_to = λ piece_address seat words is. represents.promised_to piece_address seat words (left piece_address (promised seat words) is).1;
    unmarking = record { records_none = represents.unmarking.records_none; scans_none = represents.unmarking.scans_none };
    uncopying = record { copies_none = represents.uncopying.copies_none; works_none = represents.uncopying.works_none };
    no_more = represents.no_more;
    no_more_pins = represents.no_more_pins;
  }

pub updating_ends : UpdatingEnds
updating_ends config memory graph asking represents updating claimed = ended config memory graph asking represents updating claimed
