-- Where each buffer is the last of its region, edges divide the pieces: room lies at or above them, and all else below.
use Rattle.std.proofs.Common.{◌≡◌, ◌≢◌, ℕ, ◌+◌, ◌-◌, ◌<◌, ◌≤◌, zero, suc, true, false, Some, None, ⊎_elim, refl, sym, ap, ◌∙◌, subst, arith}
use Rattle.std.specs.Prelude.{◌==◌, ◌&&◌, nat_lt, not, if◌then◌else◌}
use Rattle.std.proofs.lemmas.Bool.{cases_Bool, cases_eq, cond-true, cond-false, and_parts, and_from, not-true, not_from_false, eqb-true, eqb-false, eq-eqb, ne_eqb}
use Rattle.std.proofs.lemmas.Option.{none-some, same_Some}
use Rattle.heap_words.specs.declared.config.Config.{Config}
use Rattle.heap_words.specs.Ranges.{seat_count}
use Rattle.heap_words.specs.Encoding.{next_in, end_in}
use Rattle.heap_words.specs.Words.{Word, Top, Current}
use Rattle.regions.specs.Place.{base_of, region_with}
use Rattle.regions.proofs.PlaceLemmas.{regions_tile}
use Rattle.heap_world.specs.World.{Block, hand, spare, carved, Plot, words_of, room_of, IsYoung, IsPlotted, IsBuffer, AreBuffers}
use Rattle.heap_world.proofs.Roomless.{only_spares}
use Rattle.image_graph.specs.SeatBuffers.{buffer_region, is_last}
use Rattle.image_graph.specs.Settled.{AreLast}
use Rattle.image_graph.specs.Edge.{is_last_in, edge_below, edge}
use Rattle.image_graph.proofs.Edges.{edges_lie}
use Rattle.image_graph.specs.Divided.{AreDivided}
use Rattle.image_graph.proofs.Inside.{buffer_region_is}

-- an edge is the top, or where the free words of a last buffer begin
data IsEdge (config : Config) (memory : Word → ℕ) (region e : ℕ) : Type 0 where
  is_top : e ≡ memory (Top region) → IsEdge config memory region e
  is_next : (seat : ℕ) → is_last_in config memory region seat ≡ true → e ≡ next_in (memory (Current seat)) - base_of config region → IsEdge config memory region e

module _ (config : Config) (memory : Word → ℕ) (region : ℕ) where
  lesser_is : (seat least : ℕ) → IsEdge config memory region least
      → IsEdge config memory region (if is_last_in config memory region seat && nat_lt (next_in (memory (Current seat)) - base_of config region) least then next_in (memory (Current seat)) - base_of config region else least)
  lesser_is seat least least_edge = ⊎_elim
      (λ (lower : (is_last_in config memory region seat && nat_lt (next_in (memory (Current seat)) - base_of config region) least) ≡ true).
      IsEdge.is_next seat (and_parts (is_last_in config memory region seat) (nat_lt (next_in (memory (Current seat)) - base_of config region) least) lower).0
      (cond-true (is_last_in config memory region seat && nat_lt (next_in (memory (Current seat)) - base_of config region) least) (next_in (memory (Current seat)) - base_of config region) least lower))
      (λ (not_lower : (is_last_in config memory region seat && nat_lt (next_in (memory (Current seat)) - base_of config region) least) ≡ false).
      subst (IsEdge config memory region) (sym (cond-false (is_last_in config memory region seat && nat_lt (next_in (memory (Current seat)) - base_of config region) least) (next_in (memory (Current seat)) - base_of config region) least not_lower)) least_edge)
      (cases_Bool (is_last_in config memory region seat && nat_lt (next_in (memory (Current seat)) - base_of config region) least))

  edge_is : (seats : ℕ) → IsEdge config memory region (edge_below config memory region seats)
  unfolding edge_below
  edge_is zero = IsEdge.is_top refl
  edge_is (suc seat) = lesser_is seat (edge_below config memory region seat) (edge_is seat)

-- what it is to be the last one in a region
last_parts : (config : Config) (memory : Word → ℕ) (region seat : ℕ) → is_last_in config memory region seat ≡ true → (memory (Current seat) ≢ 0) × (buffer_region config (memory (Current seat)) ≡ region) × (is_last config memory (memory (Current seat)) ≡ true)
last_parts config memory region seat last_there =
    let parts = and_parts (not (memory (Current seat) == 0) && (buffer_region config (memory (Current seat)) == region)) (is_last config memory (memory (Current seat))) last_there in
    let buffer_parts = and_parts (not (memory (Current seat) == 0)) (buffer_region config (memory (Current seat)) == region) parts.0 in
    (eqb-false (memory (Current seat)) 0 (not-true (memory (Current seat) == 0) buffer_parts.0), eqb-true (buffer_region config (memory (Current seat))) region buffer_parts.1, parts.1)

module _ (config : Config) (memory : Word → ℕ) (block : Plot) (plotted : IsPlotted config (λ any_region. memory (Top any_region)) block) (long_enough : (any_address : ℕ) (any_piece : Block) → block any_address ≡ Some any_piece → 1 ≤ words_of any_piece)
    (buffers : AreBuffers config (λ any_region. memory (Top any_region)) (λ any_seat. memory (Current any_seat)) block) (uncarved : (any_address seat words : ℕ) → block any_address ≡ Some (carved seat words) → ⊥) where
  abbrev tops : ℕ → ℕ
  tops region = memory (Top region)

  -- the region of a buffer
  region_is : (seat : ℕ) (buffer : IsBuffer config tops block seat (memory (Current seat))) → buffer_region config (memory (Current seat)) ≡ buffer.region
  region_is seat buffer = buffer_region_is config tops block seat (memory (Current seat)) buffer (plotted.tops buffer.region buffer.within)

  -- a piece lies in its region, below the top
  piece_place : (address : ℕ) (piece : Block) → block address ≡ Some piece → (base_of config (region_with config address) ≤ address) × (address + words_of piece ≤ base_of config (region_with config address) + tops (region_with config address))
  piece_place address piece piece_there =
      let used = plotted.in_use address piece piece_there in
      let top_within = plotted.tops used.region used.within in
      let low = used.from_base in
      let high = used.to_top in
      let has_words = long_enough address piece piece_there in
      let own_region : region_with config address ≡ used.region = regions_tile.of_no_other config used.region address (record { from = low; before = omega (arith, high, top_within, has_words) }) in
      subst (λ found_region. (base_of config found_region ≤ address) × (address + words_of piece ≤ base_of config found_region + tops found_region)) (sym own_region) (low, high)

  -- what is not room lies below its region's edge
  others_below : (address : ℕ) (piece : Block) → block address ≡ Some piece → room_of piece ≡ None → IsYoung config (edge config memory) address → ⊥
  others_below address piece piece_there no_room young = by_edge (edge config memory (region_with config address)) (edge_is config memory (region_with config address) (seat_count config.mutators config.helpers)) young
    where
      by_edge : (bound : ℕ) → IsEdge config memory (region_with config address) bound → base_of config (region_with config address) + bound ≤ address → ⊥
      by_edge bound (IsEdge.is_top edge_value) above_edge =
          let place = (piece_place address piece piece_there).1 in
          let has_words = long_enough address piece piece_there in
          omega (arith, place, has_words, above_edge, edge_value)
      by_edge bound (IsEdge.is_next seat last_there edge_value) above_edge =
          let last_facts = last_parts config memory (region_with config address) seat last_there in
          let buffer = buffers.each seat last_facts.0 in
          let end : end_in (memory (Current seat)) ≡ base_of config (buffer_region config (memory (Current seat))) + tops (buffer_region config (memory (Current seat))) =
          eqb-true (end_in (memory (Current seat))) (base_of config (buffer_region config (memory (Current seat))) + tops (buffer_region config (memory (Current seat)))) last_facts.2 in
          let end_here : end_in (memory (Current seat)) ≡ base_of config (region_with config address) + tops (region_with config address) = subst (λ found_region. end_in (memory (Current seat)) ≡ base_of config found_region + tops found_region) last_facts.1 end in
          let low : base_of config (region_with config address) ≤ next_in (memory (Current seat)) = subst (λ found_region. base_of config found_region ≤ next_in (memory (Current seat))) (sym (region_is seat buffer) ∙ last_facts.1) buffer.from_base in
          let place = (piece_place address piece piece_there).1 in
          let has_words = long_enough address piece piece_there in
          let from : next_in (memory (Current seat)) ≤ address = omega (arith, above_edge, edge_value, low) in
          let words_left : next_in (memory (Current seat)) < end_in (memory (Current seat)) = omega (arith, from, place, has_words, end_here) in
          let spare_there : block (next_in (memory (Current seat))) ≡ Some (spare seat (end_in (memory (Current seat)) - next_in (memory (Current seat)))) =
          ⊎_elim (λ spare_stands. spare_stands) (λ carved_there. absurd (uncarved carved_there.0 seat carved_there.1 carved_there.2)) (buffer.free words_left) in
          ⊎_elim
          (λ (same_address : next_in (memory (Current seat)) ≡ address).
          none-some seat (sym no_room ∙ ap room_of (same_Some piece (spare seat (end_in (memory (Current seat)) - next_in (memory (Current seat)))) (sym piece_there ∙ ap block (sym same_address) ∙ spare_there))))
          (λ (other_address : next_in (memory (Current seat)) ≢ address).
          let spare_apart = plotted.apart (next_in (memory (Current seat))) address (spare seat (end_in (memory (Current seat)) - next_in (memory (Current seat)))) piece spare_there piece_there (omega (arith, from, other_address)) in
          omega (arith, spare_apart, words_left, place, has_words, end_here))
          (cases_eq (next_in (memory (Current seat))) address)

  -- free words lie at or above it, where each buffer is the last of its region
  spare_above : AreLast config memory → (address seat words : ℕ) → seat < seat_count config.mutators config.helpers → block address ≡ Some (spare seat words) → IsYoung config (edge config memory) address
  spare_above are_last address seat words seated spare_there =
      let buffer_words = buffers.spares address seat words spare_there in
      let next_is = buffer_words.0 in
      let end_is = buffer_words.1 in
      let has_words = long_enough address (spare seat words) spare_there in
      let has_buffer : memory (Current seat) ≢ 0 = λ no_buffer. (let zero_end = ap end_in no_buffer in omega (arith, zero_end, end_is, has_words)) in
      let buffer = buffers.each seat has_buffer in
      let is_it : is_last config memory (memory (Current seat)) ≡ true = ⊎_elim (λ no_buffer. absurd (has_buffer no_buffer)) (λ last_one. last_one) (are_last seat seated) in
      let own_region : region_with config address ≡ buffer.region =
      (let low = buffer.from_base in let high = buffer.to_top in let top_within = plotted.tops buffer.region buffer.within in
      regions_tile.of_no_other config buffer.region address (record { from = omega (arith, low, next_is); before = omega (arith, high, top_within, next_is, end_is, has_words) })) in
      let last_here : is_last_in config memory (region_with config address) seat ≡ true =
      and_from (not (memory (Current seat) == 0) && (buffer_region config (memory (Current seat)) == region_with config address)) (is_last config memory (memory (Current seat)))
      (and_from (not (memory (Current seat) == 0)) (buffer_region config (memory (Current seat)) == region_with config address) (not_from_false (memory (Current seat) == 0) (ne_eqb (memory (Current seat)) 0 has_buffer))
      (eq-eqb (buffer_region config (memory (Current seat))) (region_with config address) (region_is seat buffer ∙ sym own_region))) is_it in
      let low = (edges_lie config memory (region_with config address)).below_free seat seated last_here in
      let base : base_of config (region_with config address) ≤ next_in (memory (Current seat)) = subst (λ found_region. base_of config found_region ≤ next_in (memory (Current seat))) (sym own_region) buffer.from_base in
      omega (arith, low, base, next_is)

  pub divided : ((address seat words : ℕ) → block address ≡ Some (hand seat words) → ⊥) → ((address seat words : ℕ) → block address ≡ Some (spare seat words) → seat < seat_count config.mutators config.helpers) → AreLast config memory → AreDivided config memory block
  divided no_hands seated are_last = record {
    rooms = λ address seat any_piece piece_there room.
        let is_spare = only_spares block no_hands uncarved address seat any_piece piece_there room in
        spare_above are_last address seat is_spare.0 (seated address seat is_spare.0 (piece_there ∙ ap Some is_spare.1)) (piece_there ∙ ap Some is_spare.1);
    others = others_below;
    tops = λ any_region. (edges_lie config memory any_region).below_top;
  }
