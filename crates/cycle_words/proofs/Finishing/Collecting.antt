-- Finishing the cycle keeps the graph still where buffers were settled or let go, if it did.
use Rattle.std.proofs.Common.{◌≡◌, ◌≢◌, ℕ, ◌+◌, ◌-◌, ◌<◌, ◌≤◌, ◌==◌, ◌&&◌, nat_le, true, Option, inl, inr, ⊎_elim, refl, sym, ap, ◌∙◌, subst, arith}
use Rattle.std.specs.Int.{bit_at}
use Rattle.heap_words.specs.declared.config.Config.{Config}
use Rattle.heap_words.specs.Words.{Word, Phase, Cset, Top, Tams, Current, Pin, Black}
use Rattle.heap_words.specs.Encoding.{next_in, end_in}
use Rattle.regions.specs.Place.{base_of, region_with, IsOf}
use Rattle.regions.specs.Sets.{IsIn}
use Rattle.regions.specs.Marks.{mark_word, mark_bit}
use Rattle.regions.proofs.PlaceLemmas.{regions_tile}
use Rattle.shen_graph.specs.Graph.{Graph}
use Rattle.heap_world.specs.World.{Plot, IsPlotted, IsCollected}
use Rattle.image_graph.specs.SeatBuffers.{buffer_region}
use Rattle.image_graph.specs.LetGo.{let_go}
use Rattle.image_graph.specs.Promised.{Promises}
use Rattle.image_graph.proofs.Inside.{buffer_ends, buffer_region_is}
use Rattle.image_graph.specs.State.{EndsIn}
use Rattle.image_graph.specs.Holds.{HoldsBy}
use Rattle.image_graph.specs.Buffers.{HasNoMoreSeats}
use Rattle.cycle_words.specs.Marking.Marks.{is_black, IsNew, IsKept}
use Rattle.cycle_words.specs.Evacuation.Begun.{is_collected}
use Rattle.cycle_words.specs.StillHolds.{WhileCollecting}
use Rattle.cycle_words.proofs.Pinned.{same_pinned}
use Rattle.image_graph.proofs.Loosening.Loosened.{IsLoosened, loosened_reached}
use Rattle.image_graph.proofs.Loosening.OneBuffer as turn
use Rattle.image_graph.proofs.Loosening.AllLetGo.{IsLowered, has_let_go}

module _ (config : Config) (memory loosened_memory : Word → ℕ) (block plot : Plot) (owner : ℕ → Option ℕ) (promises : Promises) (graph : Graph) (holds : HoldsBy config memory block owner promises graph) (loosened : IsLoosened memory loosened_memory block plot)
    (plotted : IsPlotted config (λ any_region. loosened_memory (Top any_region)) plot) (collecting : WhileCollecting config memory block) where
  set_same : loosened_memory Cset ≡ memory Cset
  set_same = loosened.others Cset refl

  black_same : (address : ℕ) → is_black config loosened_memory address ≡ is_black config memory address
  black_same address = ap (λ marks. nat_le config.region_words address && (bit_at marks (mark_bit config address) == 1)) (loosened.others (Black (mark_word config address)) refl)

  collected_same : (address : ℕ) → is_collected config loosened_memory address ≡ is_collected config memory address
  collected_same address = ap (λ set. nat_le config.region_words address && (bit_at set (region_with config address) == 1)) set_same

  kept_same : (address : ℕ) → IsKept config memory address → IsKept config loosened_memory address
  kept_same address was_kept = ⊎_elim
      (λ (black : is_black config memory address ≡ true). inl (black_same address ∙ black))
      (λ (fresh : IsNew config memory address). inr (let same_tams = loosened.others (Tams (region_with config address)) refl in omega (arith, fresh, same_tams)))
      was_kept

  -- Where tops of the set stay, and none falls below the tops at mark start.
  pub loosened_collecting : ((region : ℕ) → IsIn (memory Cset) region → loosened_memory (Top region) ≡ memory (Top region)) → (memory Cset ≢ 0 → (region : ℕ) → region < config.regions → memory (Tams region) ≤ loosened_memory (Top region)) → WhileCollecting config loosened_memory plot
  loosened_collecting tops floors = record {
    marked = λ asked_address collected black.
        let known_before = collecting.marked asked_address (sym (collected_same asked_address) ∙ collected) (sym (black_same asked_address) ∙ black) in
        (known_before.0, loosened.same.stays asked_address known_before.0 known_before.2 known_before.1, known_before.2);
    reachable = λ has_set address reached. kept_same address (collecting.reachable (λ no_set. has_set (set_same ∙ no_set)) address (loosened_reached config memory loosened_memory block plot owner promises graph holds loosened plotted address reached));
    no_new = λ region member. let known_before : IsIn (memory Cset) region = subst (λ set. IsIn set region) set_same member in tops region known_before ∙ collecting.no_new region known_before ∙ sym (loosened.others (Tams region) refl);
    floors = λ has_set region region_below. (let floor = floors (λ no_set. has_set (set_same ∙ no_set)) region region_below in let same_tams = loosened.others (Tams region) refl in omega (arith, floor, same_tams));
    unseated = λ seat region ends member. collecting.unseated seat region (subst (λ buffer. (buffer ≢ 0) × IsOf config region (end_in buffer - 1)) (loosened.fewer seat ends.0) ends) (subst (λ set. IsIn set region) set_same member);
    young = λ has_set asked_address seat piece room_there room.
        let known_before = collecting.young (λ no_set. has_set (set_same ∙ no_set)) asked_address seat piece (loosened.rooms asked_address seat piece room_there room) room in
        let same_tams = loosened.others (Tams (region_with config asked_address)) refl in
        omega (arith, known_before, same_tams);
    outside = λ not_evacuating asked_address reached member.
        same_pinned config memory loosened_memory (λ mutator slot. loosened.others (Pin mutator slot) refl) (region_with config asked_address)
        ∙ collecting.outside (λ evacuating. not_evacuating (loosened.others Phase refl ∙ evacuating)) asked_address (loosened_reached config memory loosened_memory block plot owner promises graph holds loosened plotted asked_address reached) (subst (λ cset. IsCollected config cset asked_address) set_same member);
  }

-- So it is where buffers are let go, for their free words lie outside of the set and are new.
module _ (config : Config) (memory : Word → ℕ) (block : Plot) (owner : ℕ → Option ℕ) (promises : Promises) (graph : Graph) (holds : HoldsBy config memory block owner promises graph) (collecting : WhileCollecting config memory block) where
  module _ (seat : ℕ) (has_buffer : memory (Current seat) ≢ 0) (some_free : next_in (memory (Current seat)) < end_in (memory (Current seat))) where
    abbrev word : ℕ
    word = memory (Current seat)

    abbrev region : ℕ
    region = buffer_region config word

    is_region : region ≡ (holds.buffers.each seat has_buffer).region
    is_region = let buffer = holds.buffers.each seat has_buffer in buffer_region_is config (λ region. memory (Top region)) block seat word buffer (holds.objects.plotted.tops buffer.region buffer.within)

    ends : EndsIn config memory seat region
    ends =
        let buffer = holds.buffers.each seat has_buffer in
        (has_buffer, subst (λ region. IsOf config region (end_in word - 1)) (sym is_region) (buffer_ends config (λ region. memory (Top region)) block seat word buffer (holds.objects.plotted.tops buffer.region buffer.within)))

    next_there : region_with config (next_in word) ≡ region
    next_there =
        let buffer = holds.buffers.each seat has_buffer in
        let low = buffer.from_base in
        let high = buffer.to_top in
        let top_low = holds.objects.plotted.tops buffer.region buffer.within in
        regions_tile.of_no_other config buffer.region (next_in word) (record { from = low; before = omega (arith, some_free, high, top_low) }) ∙ sym is_region

    -- the free words begin at or above the top at mark start
    floor : memory Cset ≢ 0 → memory (Tams region) ≤ next_in word - base_of config region
    floor has_set =
        let word_lies = turn.lies config memory block owner promises graph holds seat word refl has_buffer in
        let from = word_lies.from_base in
        let young : base_of config region + memory (Tams region) ≤ next_in word =
        subst (λ region. base_of config region + memory (Tams region) ≤ next_in word) next_there
        (collecting.young has_set (next_in word) seat (turn.free config memory block owner promises graph holds seat word refl has_buffer some_free) (turn.free_piece config memory block owner promises graph holds seat word refl has_buffer some_free) refl) in
        omega (arith, young, from)

  set_stays : (new_memory : Word → ℕ) (region : ℕ) → IsLowered config memory new_memory region → IsIn (memory Cset) region → new_memory (Top region) ≡ memory (Top region)
  set_stays new_memory region (IsLowered.as_it_was top_same) member = top_same
  set_stays new_memory region (IsLowered.given_back seat has_buffer some_free its_region top) member = absurd (collecting.unseated seat region (subst (EndsIn config memory seat) its_region (ends seat has_buffer some_free)) member)

  floors_stay : (new_memory : Word → ℕ) (region : ℕ) → IsLowered config memory new_memory region → memory Cset ≢ 0 → region < config.regions → memory (Tams region) ≤ new_memory (Top region)
  floors_stay new_memory region (IsLowered.as_it_was top_same) has_set region_below = (let floor = collecting.floors has_set region region_below in omega (arith, floor, top_same))
  floors_stay new_memory region (IsLowered.given_back seat has_buffer some_free its_region top) has_set region_below =
      let low : memory (Tams region) ≤ next_in (memory (Current seat)) - base_of config region = subst (λ region. memory (Tams region) ≤ next_in (memory (Current seat)) - base_of config region) its_region (floor seat has_buffer some_free has_set) in
      omega (arith, low, top)

  module _ (seats : HasNoMoreSeats config memory) where
    pub let_go_collecting : WhileCollecting config (let_go config memory) (has_let_go config memory block owner promises graph holds seats).plot
    let_go_collecting =
        let after = has_let_go config memory block owner promises graph holds seats in
        loosened_collecting config memory (let_go config memory) block after.plot owner promises graph holds after.left.loosened after.left.holds.objects.plotted collecting
        (λ region member. set_stays (let_go config memory) region (after.tops region) member) (λ has_set region region_below. floors_stay (let_go config memory) region (after.tops region) has_set region_below)
