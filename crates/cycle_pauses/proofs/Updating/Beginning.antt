-- The beginning of updating: the words represent the same graph. Nothing has its current copy in the collection set any more, and each
-- field is still to be updated.
use Rattle.heap_words.specs.Phases.{evacuation_phase}
use Rattle.std.proofs.Common.{◌≡◌, ℕ, ◌≤◌, true, false, Some, inl, inr, ⊎_elim, refl, ap, ◌∙◌, arith}
use Rattle.std.specs.Int.{bit_at}
use Rattle.std.proofs.lemmas.Bool.{cond-true, cond-false, cases_Bool, ne_eqb}
use Rattle.heap_words.specs.declared.config.Config.{Config}
use Rattle.heap_words.specs.Words.{Word, Phase, Cset, Free, Evac, Claim, Top, Tams, Limit, Root, Pin, Count, Buffer, Grey, Black, Heap}
use Rattle.regions.specs.Place.{region_with}
use Rattle.regions.specs.Sets.{IsIn}
use Rattle.heap_words.specs.Counter.{is_out_of_room}
use Rattle.shen_graph.specs.declared.name.Name.{Name}
use Rattle.shen_graph.specs.Graph.{Graph}
use Rattle.heap_world.specs.World.{thing, Ghost, no_snapshot, IsCollected, IsYoung, IsToUpdate, IsEvacuating, IsUpdating, IsUsable}
use Rattle.heap_world.specs.Asking.{Asking}
use Rattle.heap_world.specs.Represents.{Represents}
use Rattle.heap_world.proofs.Copies.{counted_none}
use Rattle.heap_world.proofs.Pins.{pins_stay}
use Rattle.heap_world.proofs.Unmarked.{none_marked_in}
use Rattle.heap_world.proofs.Units.{none_is_left}
use Rattle.heap_words.specs.Ranges.{seat_count}
use Rattle.image_graph.specs.Settled.{buffers_settled}
use Rattle.image_graph.specs.Edge.{edge}
use Rattle.image_graph.proofs.Settling.{settling_leaves}
use Rattle.image_graph.proofs.Elsewhere.{IsOfBuffers, settled_same}
use Rattle.image_graph.specs.Divided.{AreDivided}
use Rattle.image_graph.proofs.LooseKept.{settling_keeps, edges_divide}
use Rattle.cycle_pauses.proofs.Full.ByCopies.{by_copies}
use Rattle.cycle_pauses.proofs.Evacuation.Asked.{asked_stays}
use Rattle.cycle_words.specs.Updating.Changes.{is_chosen, updating_begun}
use Rattle.cycle_pauses.specs.Updating.Laws.{UpdatingBegins}

module _ (config : Config) (memory : Word → ℕ) (graph : Graph) (asking : ℕ → Asking) (represents : Represents config memory graph asking) (on : memory Phase ≡ evacuation_phase) (has_room : is_out_of_room (memory Evac) ≡ false) (claimed : config.regions ≤ memory Claim)
    (divided : AreDivided config memory represents.block) where
  abbrev now : Word → ℕ
  now = updating_begun config memory

  -- the ghost state, without a snapshot
  abbrev bare : Ghost
  bare = record { owner = represents.ghost.owner; snapshot = no_snapshot; recording = represents.ghost.recording; scanning = represents.ghost.scanning; copying = represents.ghost.copying; working = represents.ghost.working }

  -- no object has its current copy in the set
  outside : (address refs nums : ℕ) (name : Name) → represents.block address ≡ Some (thing name refs nums) → IsCollected config (memory Cset) address → ⊥
  outside = none_is_left config (record { memory = memory; block = represents.block; ghost = represents.ghost; graph = graph }) represents.shared on represents.uncopying.works_none claimed has_room

  -- the limit of a region outside of the set is its edge
  limit_spared : (region : ℕ) → (IsIn (memory Cset) region → ⊥) → now (Limit region) ≡ edge config memory region
  limit_spared region away = cond-false (is_chosen memory region) 0 (edge config memory region) (ne_eqb (bit_at (memory Cset) region) 1 away)

  -- so objects lie below it, and room lies at or above it
  below_limit : (address refs nums : ℕ) (name : Name) → represents.block address ≡ Some (thing name refs nums) → IsYoung config (λ region. now (Limit region)) address → ⊥
  below_limit address refs nums name has_piece young =
      let limit = limit_spared (region_with config address) (outside address refs nums name has_piece) in
      divided.others address (thing name refs nums) has_piece refl (omega (arith, young, limit))

  no_higher : (region : ℕ) → now (Limit region) ≤ edge config memory region
  no_higher region = ⊎_elim
      (λ (chosen : is_chosen memory region ≡ true). (let no_limit = cond-true (is_chosen memory region) 0 (edge config memory region) chosen in omega (arith, no_limit)))
      (λ (spared : is_chosen memory region ≡ false). (let same_edge = cond-false (is_chosen memory region) 0 (edge config memory region) spared in omega (arith, same_edge)))
      (cases_Bool (is_chosen memory region))

  are_updating : IsUpdating config (memory Cset) 0 (λ region. memory (Top region)) (λ region. now (Limit region)) (λ address. memory (Heap address)) represents.block represents.ghost.scanning
  are_updating = record {
    outside = outside;
    renewed = λ address refs nums field name has_piece field_below. inr (IsToUpdate.unclaimed (below_limit address refs nums name has_piece) (omega arith));
    young = λ room_address seat piece has_piece has_room. (let above_limit = divided.rooms room_address seat piece has_piece has_room in let top_no_higher = no_higher (region_with config room_address) in omega (arith, above_limit, top_no_higher));
    limits = λ region inside. (let top_no_higher = no_higher region in let edge_low = divided.tops region in omega (arith, top_no_higher, edge_low));
  }

  -- copies stay copies, and what was kept is
  on_still : 2 ≤ memory Phase
  on_still = omega (arith, on)

  still_evacuated : IsEvacuating config 3 (memory Cset) 0 0 (memory Free) (λ region. memory (Top region)) (λ region. memory (Tams region)) (λ address. memory (Heap address)) (λ number. memory (Black number)) represents.block represents.ghost.owner represents.ghost.copying represents.ghost.working
  still_evacuated = record {
    moved = represents.shared.evacuated.moved;
    counted = counted_none config represents.ghost.copying represents.uncopying.copies_none;
    aside = represents.shared.evacuated.aside;
    kept = λ later. represents.shared.evacuated.kept on_still;
    units = λ phase_two. absurd (omega (arith, phase_two));
  }

  -- what could be used can be
  usable_still : (word : ℕ) → IsUsable config (memory Cset) (memory Evac) represents.block word → IsUsable config (memory Cset) 0 represents.block word
  usable_still word (inl null) = inl null
  usable_still word (inr usable_object) = inr (usable_object.0, usable_object.1, usable_object.2, record { piece = usable_object.3.piece; safe = λ inside. absurd (outside word usable_object.1 usable_object.2 usable_object.0 usable_object.3.piece inside) })

  pub begun : Represents config now graph asking
  begun = record {
    block = represents.block;
    ghost = bare;
    shared = record {
      parsable = represents.shared.parsable;
      contents = represents.shared.contents;
      owned = represents.shared.owned;
      phased = record { phase_is = omega arith; cset_is = λ low. absurd (omega (arith, low)); evac_is = λ other_phase. refl };
      unwritten = represents.shared.unwritten;
      marked = none_marked_in config 3 (λ number. memory (Grey number)) (λ number. memory (Black number)) (λ mutator. memory (Count mutator)) (λ mutator entry. memory (Buffer mutator entry)) (λ region. memory (Top region)) (λ region. memory (Tams region)) (λ address. memory (Heap address)) represents.block represents.ghost.recording
          represents.ghost.scanning (λ known_fact. omega (arith, known_fact));
      evacuated = still_evacuated;
      updated = λ later. are_updating;
      pinned = pins_stay config (memory Cset) (memory Evac) (memory Cset) 0 represents.block represents.block (λ mutator slot. memory (Pin mutator slot)) graph.pin
          (λ address refs nums name target. record { piece = target.piece; safe = λ inside. absurd (outside address refs nums name target.piece inside) }) represents.shared.pinned;
    };
    roots = represents.roots;
    usable = λ mutator index inside few. usable_still (memory (Root mutator index)) (represents.usable mutator index inside few);
    none = represents.none;
    uncarved = represents.uncarved;
    asked = λ seat inside. asked_stays memory now represents.block represents.block graph.count seat refl refl (λ promise_address words offset known_fact offset_below. refl) (λ promise_address words known_fact. known_fact) (λ promise_address words known_fact. known_fact) (asking seat) (represents.asked seat inside);
    heard = represents.heard;
    promised_to = represents.promised_to;
    unmarking = record { records_none = represents.unmarking.records_none; scans_none = represents.unmarking.scans_none };
    uncopying = record { copies_none = represents.uncopying.copies_none; works_none = represents.uncopying.works_none };
    no_more = represents.no_more;
    no_more_pins = represents.no_more_pins;
  }

pub updating_begins : UpdatingBegins
updating_begins given_config given_memory given_graph asking graph_stands in_evacuation has_room claimed =
    let settled_stands = (settling_keeps given_config given_memory given_graph asking).represents graph_stands in
    let same_words : (word : Word) → (IsOfBuffers word → ⊥) → buffers_settled given_config given_memory word ≡ given_memory word = λ word not_buffer. settled_same word not_buffer given_config given_memory (seat_count given_config.mutators given_config.helpers) in
    let claims = same_words Claim (λ never. never) in
    begun given_config (buffers_settled given_config given_memory) given_graph asking settled_stands (same_words Phase (λ never. never) ∙ in_evacuation) (ap is_out_of_room (same_words Evac (λ never. never)) ∙ has_room) (omega (arith, claimed, claims))
    (edges_divide given_config (buffers_settled given_config given_memory) given_graph asking (by_copies given_config (buffers_settled given_config given_memory) given_graph asking settled_stands) (settling_leaves given_config given_memory).last)
