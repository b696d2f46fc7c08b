-- The free words of a buffer that end at the top of their region are given back, and the seat has no buffer: the words represent the graph
-- still, where all other buffers have free words.
use Rattle.heap_words.specs.Phases.{marking_phase}
use Rattle.std.proofs.Common.{◌≡◌, ◌≢◌, ℕ, ◌+◌, ◌<◌, ◌≤◌, Some, ⊎_elim, refl, sym, ap, ◌∙◌, subst, arith}
use Rattle.std.proofs.lemmas.Bool.{cases_eq, true≢false}
use Rattle.std.proofs.lemmas.Option.{same_Some}
use Rattle.heap_words.specs.declared.config.Config.{Config}
use Rattle.heap_words.specs.Encoding.{next_in, end_in}
use Rattle.heap_words.specs.Words.{Word, Phase, Cset, Free, Evac, Claim, Top, Tams, Limit, Current, Count, Buffer, Grey, Black, Heap, Pin}
use Rattle.regions.specs.Place.{base_of, region_with}
use Rattle.regions.specs.Sets.{IsIn}
use Rattle.regions.proofs.PlaceLemmas.{regions_tile}
use Rattle.shen_graph.specs.Graph.{Graph}
use Rattle.heap_world.specs.World.{Block, thing, spent, hand, promised, dead, filler, spare, carved, Plot, is_loose, IsYoung, AreBuffers, Shared}
use Rattle.heap_world.specs.Asking.{Asking}
use Rattle.heap_world.specs.Represents.{RepresentsWith}
use Rattle.heap_world.proofs.FunctionUpdates.{updated}
use Rattle.heap_world.proofs.Loose.{SameButLoose, marked_loose, evacuated_loose, updated_loose, contents_loose}
use Rattle.heap_world.proofs.Pieces.{some_words}
use Rattle.heap_world.proofs.Pins.{pins_stay}
use Rattle.image_graph.proofs.Refitted.{refitted}
use Rattle.image_graph.proofs.StandsStill.{IsOfRoots, stands_still}
use Rattle.image_graph.proofs.Emptied.{fewer_outside, without_fewer}
use Rattle.image_graph.proofs.Without.{buffers_cut}
use Rattle.image_graph.proofs.CutOff.{CanCutOff, lower_top, block_without, top_else, ends, stays, came, plotted_without, filled_without}

module _ (Asks : (Word → ℕ) → Plot → Type 0) (of_roots : IsOfRoots Asks) (config : Config) (memory : Word → ℕ) (graph : Graph) (asking : ℕ → Asking) (represents_with : RepresentsWith (Asks memory) config memory graph asking) (seat address words region : ℕ)
    (spare_there : represents_with.block address ≡ Some (spare seat words)) (within : region < config.regions) (from_base : base_of config region ≤ address) (at_top : address + words ≡ base_of config region + memory (Top region))
    (have_words : (any_seat : ℕ) → memory (Current any_seat) ≢ 0 → next_in (memory (Current any_seat)) < end_in (memory (Current any_seat))) where
  abbrev tops : ℕ → ℕ
  tops region = memory (Top region)

  pub can : CanCutOff config tops represents_with.block region address (spare seat words)
  can = record {
    plotted = represents_with.shared.parsable.plotted;
    filled = represents_with.shared.parsable.filled;
    long = some_words config tops represents_with.block represents_with.shared.parsable represents_with.shared.owned.rooms;
    within = within;
    from_base = from_base;
    here = spare_there;
    at_top = at_top;
  }

  -- the tops then, the pieces, and the buffers without the seat's
  abbrev pub tops_then : ℕ → ℕ
  tops_then = lower_top config tops represents_with.block region address (spare seat words) can

  abbrev after : Plot
  after = block_without config tops represents_with.block region address (spare seat words) can

  abbrev pub buffers_without : ℕ → ℕ
  buffers_without = updated (λ seat. memory (Current seat)) seat 0

  -- a piece was there
  was : (place : ℕ) (piece : Block) → after place ≡ Some piece → (place ≢ address) × (represents_with.block place ≡ Some piece)
  was = came config tops represents_with.block region address (spare seat words) can

  -- it has a word at least
  some : 1 ≤ words
  some = represents_with.shared.owned.rooms.spares address seat words spare_there

  -- other tops stay
  other_top : (any_region : ℕ) → any_region ≢ region → tops_then any_region ≡ tops any_region
  other_top = top_else config tops represents_with.block region address (spare seat words) can

  -- its region is that of its address
  of_region : region_with config address ≡ region
  of_region =
      let top_within = represents_with.shared.parsable.plotted.tops region within in
      let end = at_top in
      let from = from_base in
      let has_words = some in
      regions_tile.of_no_other config region address (record { from = from; before = omega (arith, end, top_within, has_words) })

  -- pieces but loose ones are the same
  same : SameButLoose represents_with.block after
  same = record {
    stays = λ piece_address piece fixed piece_there. stays config tops represents_with.block region address (spare seat words) can piece_address (λ same_address. true≢false (ap is_loose (same_Some (spare seat words) piece (sym spare_there ∙ ap represents_with.block (sym same_address) ∙ piece_there)) ∙ fixed)) ∙ piece_there;
    came = λ piece_address piece fixed piece_there. (was piece_address piece piece_there).1;
  }

  -- where room is at or above some bound of its region, no top falls below it
  floors : (bound : ℕ → ℕ) → IsYoung config bound address → ((any_region : ℕ) → any_region < config.regions → bound any_region ≤ tops any_region) → (any_region : ℕ) → any_region < config.regions → bound any_region ≤ tops_then any_region
  floors bound young low any_region inside = ⊎_elim
      (λ (same_region : any_region ≡ region).
      let end : base_of config any_region + tops_then any_region ≡ address = ap (λ found_region. base_of config found_region + tops_then found_region) same_region ∙ ends config tops represents_with.block region address (spare seat words) can in
      let floor : base_of config any_region + bound any_region ≤ address = subst (λ found_region. base_of config found_region + bound found_region ≤ address) (of_region ∙ sym same_region) young in
      omega (arith, end, floor))
      (λ (other_region : any_region ≢ region). let top_stays = other_top any_region other_region in let floor = low any_region inside in omega (arith, top_stays, floor))
      (cases_eq any_region region)

  buffers : AreBuffers config tops_then buffers_without after
  buffers = buffers_cut config tops (λ seat. memory (Current seat)) represents_with.block seat address words region can represents_with.shared.owned.buffers represents_with.uncarved have_words

  -- no region of the set loses words
  set_tops : (region : ℕ) → IsIn (memory Cset) region → tops_then region ≡ tops region
  set_tops region in_set = other_top region (λ same_region. represents_with.shared.evacuated.aside.no_rooms address seat (spare seat words) spare_there refl (subst (λ found_region. IsIn (memory Cset) found_region) (same_region ∙ sym of_region) in_set))

  shared_then : Shared config (record { memory = refitted memory tops_then (λ address. memory (Heap address)) buffers_without; block = after; ghost = represents_with.ghost; graph = graph })
  shared_then = record {
    parsable = record {
      plotted = plotted_without config tops represents_with.block region address (spare seat words) can;
      filled = filled_without config tops represents_with.block region address (spare seat words) can;
      promises = λ piece_address promised_seat its_words piece_there. represents_with.shared.parsable.promises piece_address promised_seat its_words (was piece_address (promised promised_seat its_words) piece_there).1;
      deads = λ piece_address its_words piece_there. represents_with.shared.parsable.deads piece_address its_words (was piece_address (dead its_words) piece_there).1;
      fillers = λ piece_address its_words piece_there. represents_with.shared.parsable.fillers piece_address its_words (was piece_address (filler its_words) piece_there).1;
      spents = λ piece_address its_words target piece_there. represents_with.shared.parsable.spents piece_address its_words target (was piece_address (spent its_words target) piece_there).1;
    };
    contents = contents_loose config represents_with.block after same (λ address. memory (Heap address)) graph.object graph.count represents_with.shared.contents;
    owned = record {
      free_word = record {
        no_more = represents_with.shared.owned.free_word.no_more;
        empty = λ any_region inside bit.
            let no_top = represents_with.shared.owned.free_word.empty any_region inside bit in
            other_top any_region (λ same_region. (let top : tops any_region ≡ tops region = ap tops same_region in let end = at_top in let from = from_base in let has_words = some in omega (arith, no_top, top, end, from, has_words))) ∙ no_top;
        nobodys = represents_with.shared.owned.free_word.nobodys;
      };
      shared_one = represents_with.shared.owned.shared_one;
      rooms = record {
        seated = λ piece_address any_seat piece piece_there room. represents_with.shared.owned.rooms.seated piece_address any_seat piece (was piece_address piece piece_there).1 room;
        hands = λ piece_address any_seat its_words piece_there. represents_with.shared.owned.rooms.hands piece_address any_seat its_words (was piece_address (hand any_seat its_words) piece_there).1;
        spares = λ piece_address any_seat its_words piece_there. represents_with.shared.owned.rooms.spares piece_address any_seat its_words (was piece_address (spare any_seat its_words) piece_there).1;
        carveds = λ piece_address any_seat its_words piece_there. represents_with.shared.owned.rooms.carveds piece_address any_seat its_words (was piece_address (carved any_seat its_words) piece_there).1;
      };
      buffers = buffers;
      outside = fewer_outside config (memory Cset) (λ seat. memory (Current seat)) buffers_without (without_fewer (λ seat. memory (Current seat)) seat) represents_with.shared.owned.outside;
    };
    phased = represents_with.shared.phased;
    unwritten = record {
      blanks = λ address seat its_words piece_there. represents_with.shared.unwritten.blanks address seat its_words (was address (promised seat its_words) piece_there).1;
      headers = λ address its_words piece_there. represents_with.shared.unwritten.headers address its_words (was address (dead its_words) piece_there).1;
      lengths = λ piece_address its_words piece_there. represents_with.shared.unwritten.lengths piece_address its_words (was piece_address (dead its_words) piece_there).1;
      fillers = λ piece_address its_words piece_there. represents_with.shared.unwritten.fillers piece_address its_words (was piece_address (filler its_words) piece_there).1;
    };
    marked = marked_loose config represents_with.block after same (memory Phase) (λ number. memory (Grey number)) (λ number. memory (Black number)) (λ mutator. memory (Count mutator)) (λ mutator entry. memory (Buffer mutator entry)) tops tops_then (λ region. memory (Tams region)) (λ address. memory (Heap address))
        represents_with.ghost.snapshot represents_with.ghost.recording represents_with.ghost.scanning represents_with.shared.marked
        (λ phase_on piece_address any_seat piece piece_there room. (represents_with.shared.marked.marking phase_on).young piece_address any_seat piece (was piece_address piece piece_there).1 room)
        (marked_floors);
    evacuated = evacuated_loose config represents_with.block after same (memory Phase) (memory Cset) (memory Evac) (memory Claim) (memory Free) tops tops_then (λ region. memory (Tams region)) (λ address. memory (Heap address)) (λ number. memory (Black number)) represents_with.ghost.owner represents_with.ghost.copying represents_with.ghost.working
        represents_with.shared.evacuated
        (λ phase_on piece_address any_seat piece piece_there room. (represents_with.shared.evacuated.kept phase_on).young piece_address any_seat piece (was piece_address piece piece_there).1 room)
        (λ piece_address any_seat piece piece_there room. represents_with.shared.evacuated.aside.no_rooms piece_address any_seat piece (was piece_address piece piece_there).1 room)
        (λ phase_on. floors (λ region. memory (Tams region)) ((represents_with.shared.evacuated.kept phase_on).young address seat (spare seat words) spare_there refl) (represents_with.shared.evacuated.kept phase_on).floors)
        set_tops;
    updated = λ phase_on. updated_loose config represents_with.block after same (memory Cset) (memory Claim) tops tops_then (λ region. memory (Limit region)) (λ address. memory (Heap address)) represents_with.ghost.scanning (represents_with.shared.updated phase_on)
        (λ piece_address any_seat piece piece_there room. (represents_with.shared.updated phase_on).young piece_address any_seat piece (was piece_address piece piece_there).1 room)
        (floors (λ region. memory (Limit region)) ((represents_with.shared.updated phase_on).young address seat (spare seat words) spare_there refl) (represents_with.shared.updated phase_on).limits);
    pinned = pins_stay config (memory Cset) (memory Evac) (memory Cset) (memory Evac) represents_with.block after (λ mutator slot. memory (Pin mutator slot)) graph.pin
        (λ piece_address refs nums name object_there. record { piece = same.stays piece_address (thing name refs nums) refl object_there.piece; safe = object_there.safe }) represents_with.shared.pinned;
  }
    where
      -- without a snapshot its tops are 0
      marked_floors : (region : ℕ) → region < config.regions → represents_with.ghost.snapshot.top region ≤ tops_then region
      marked_floors = ⊎_elim
          (λ (is_marking : memory Phase ≡ marking_phase). floors represents_with.ghost.snapshot.top ((represents_with.shared.marked.marking is_marking).young address seat (spare seat words) spare_there refl) represents_with.shared.marked.floors)
          (λ (not_marking : memory Phase ≢ marking_phase). λ region inside. (let top_zero : represents_with.ghost.snapshot.top region ≡ 0 = ap (λ any_snapshot. any_snapshot.top region) (represents_with.shared.marked.empty not_marking) in omega (arith, top_zero)))
          (cases_eq (memory Phase) 1)

  -- The words represent the graph still.
  pub back_stands : RepresentsWith (Asks (refitted memory tops_then (λ address. memory (Heap address)) buffers_without)) config (refitted memory tops_then (λ address. memory (Heap address)) buffers_without) graph asking
  back_stands = stands_still Asks of_roots config memory graph asking represents_with tops_then (λ address. memory (Heap address)) buffers_without after same
      (λ piece_address any_seat its_words piece_there. (was piece_address (hand any_seat its_words) piece_there).1)
      (λ piece_address any_seat its_words piece_there. (was piece_address (carved any_seat its_words) piece_there).1)
      (λ piece_address offset any_seat its_words piece_there index_below. refl)
      shared_then
