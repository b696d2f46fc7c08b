-- Marking is ended and evacuation begun, by the one call and then the other: what finishing the cycle asks for holds.
use Rattle.std.proofs.Common.{ℕ, ◌≤◌, cond, Bool, true, false, refl, arith}
use Rattle.heap_words.specs.Words.{Tams, Top}
use Rattle.regions.specs.Place.{region_with}
use Rattle.cycle_words.specs.Marking.Final.{dead_in, freed_block, freed_owner, final_marked}
use Rattle.cycle_words.proofs.Marking.Ended.{ended_holds, ended_through}
use Rattle.cycle_words.proofs.Marking.Vanished.{piece_was, freed_sized}
use Rattle.cycle_words.proofs.Marking.Alike.{sized_alike}
use Rattle.cycle_words.proofs.Marking.Plain.{below_top}
use Rattle.cycle_words.specs.Evacuation.Laws.{EvacuationCollects}
use Rattle.cycle_words.proofs.Evacuation.CanBegin.{marked_object, can_begin}
use Rattle.cycle_words.proofs.Evacuation.ClearedHolds.{begun_collecting}

-- what is freed keeps its order
floor_left : (holds : Bool) (low high : ℕ) → low ≤ high → cond holds 0 low ≤ cond holds 0 high
floor_left true low high low_less = omega arith
floor_left false low high low_less = low_less

-- nothing rises where regions are freed
lower : (holds : Bool) (x : ℕ) → cond holds 0 x ≤ x
lower true x = omega arith
lower false x = omega arith

pub evacuation_collects : EvacuationCollects
evacuation_collects config memory block owner promises graph graph_held sized marking seats =
    begun_collecting config (final_marked config memory) (freed_block config (dead_in config memory) block) (freed_owner (dead_in config memory) owner) promises graph (ended_holds config memory block owner promises graph graph_held marking seats) marking.uncollected
    (can_begin config memory block owner promises graph graph_held marking seats)
    (sized_alike memory (final_marked config memory) (freed_block config (dead_in config memory) block) (λ address. refl) (freed_sized config (dead_in config memory) memory block sized))
    (ended_through config memory block owner promises graph graph_held marking seats) (marked_object config memory block owner promises graph graph_held marking seats)
    (λ region region_below. floor_left (dead_in config memory region) (memory (Tams region)) (memory (Top region)) (let same_tams = (marking.marked.marking refl).tams_are region region_below in let floor_low = marking.marked.floors region region_below in omega (arith, same_tams, floor_low)))
    (λ address seat piece has_piece room.
    let piece_before = piece_was config (dead_in config memory) block address piece has_piece in
    let top_above = below_top config (λ region. memory (Top region)) block graph_held.objects.plotted address piece piece_before.1 (graph_held.pieces.some address piece piece_before.1) in
    let young = (marking.marked.marking refl).young address seat piece piece_before.1 room in
    let same_tams = (marking.marked.marking refl).tams_are (region_with config address) top_above.0 in
    let floor_low = lower (dead_in config memory (region_with config address)) (memory (Tams (region_with config address))) in
    omega (arith, young, same_tams, floor_low))
    seats
