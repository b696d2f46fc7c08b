-- The pause that ends marking and begins evacuation keeps the graph.
use Rattle.heap_words.specs.Phases.{marking_phase}
use Rattle.std.proofs.Common.{◌≡◌, ℕ, ◌<◌, ◌==◌, true, false, ⊎_elim, refl, sym, subst, arith}
use Rattle.std.proofs.Math.Path.{fun_ext}
use Rattle.std.proofs.lemmas.Bool.{cases_Bool, cond-true, cond-false}
use Rattle.heap_words.specs.declared.config.Config.{Config}
use Rattle.heap_words.specs.Words.{Word, Phase}
use Rattle.regions.specs.Sets.{IsIn}
use Rattle.shen_graph.specs.Graph.{Graph}
use Rattle.heap_world.specs.World.{Plot, Ghost}
use Rattle.heap_world.specs.Asking.{Asking, nothing, asks, refused, given}
use Rattle.heap_world.specs.Represents.{Represents}
use Rattle.heap_world.specs.Change.{Answers, IsPaused}
use Rattle.cycle_words.specs.Marking.Final.{final_marked}
use Rattle.image_graph.specs.Buffers.{HasNoMoreSeats}
use Rattle.cycle_pauses.specs.Marking.MarkedOut.{IsMarkedOut}
use Rattle.cycle_pauses.proofs.Marking.WhileMarking.{marking_stands, end_gives}
use Rattle.cycle_words.specs.Evacuation.Live.{live_words, is_candidate, IsCandidate}
use Rattle.cycle_words.specs.Evacuation.Choice.{copy_limit, chosen}
use Rattle.cycle_words.specs.Evacuation.Begun.{naming_places, is_collected, with_set, roots_cleared, evac_started, evac_spared, evac_begun, CanBegin}
use Rattle.cycle_words.proofs.Evacuation.Candidate.{candidate_is_candidate}
use Rattle.cycle_words.proofs.Evacuation.Front.{member_is}
use Rattle.cycle_words.proofs.Evacuation.Clearing.{roots_are_cleared, can_clear_in_turn}
use Rattle.cycle_words.proofs.Evacuation.CanBegin.{evacuation_can_begin}
use Rattle.cycle_pauses.specs.Evacuation.Collect.{evac_next}
use Rattle.cycle_pauses.specs.Evacuation.Laws.{EvacuationRepresents, EvacuationAloneRepresents, EvacuationBegins}
use Rattle.cycle_words.proofs.Evacuation.NamingPlaces.{IsPlace, are_places, places_have}
use Rattle.cycle_pauses.proofs.Evacuation.ClearingInTurn.{IsClearing, all_cleared}
use Rattle.cycle_pauses.proofs.Evacuation.Started.{clearing_begins, evacuation_starts, cycle_ends}

-- what is chosen is a candidate
chosen_candidates : (config : Config) (memory : Word → ℕ) (region : ℕ) → IsIn (chosen config memory) region → (region < config.regions) × IsCandidate config memory region
chosen_candidates config memory region is_chosen =
    let front = member_is config.regions (copy_limit config memory) (live_words config memory) (is_candidate config memory) region is_chosen in
    (front.0, (candidate_is_candidate config memory region).0 front.1)

-- Where marking is over, evacuation begins of what is chosen.
module _ (config : Config) (memory : Word → ℕ) (block : Plot) (ghost : Ghost) (graph : Graph) (asking : ℕ → Asking) (marked_out : IsMarkedOut config memory block ghost graph asking) (may_begin : CanBegin config memory) where
  abbrev set : ℕ
  set = chosen config memory

  ended : (plot : Plot) × IsClearing config (with_set memory set) (roots_cleared config memory set) plot ghost.owner graph asking
  ended =
      all_cleared config (with_set memory set) ghost.owner graph asking (naming_places config) (with_set memory set) block (are_places config)
      (clearing_begins config memory block ghost graph asking marked_out set (chosen_candidates config memory)) (can_clear_in_turn config memory may_begin)

  cleared : (place : Word) → IsPlace config place → is_collected config (with_set memory set) (roots_cleared config memory set place) ≡ false
  cleared place named_place = (roots_are_cleared config memory may_begin).1.cleared place (places_have config place named_place)

  pub begun : Represents config (evac_begun config memory set) graph asking
  begun = ⊎_elim
      (λ (no_set : (set == 0) ≡ true).
      subst (λ begun_memory. Represents config begun_memory graph asking) (sym (fun_ext (λ word. cond-true (set == 0) (evac_spared memory word) (evac_started (roots_cleared config memory set) word) no_set)))
      (cycle_ends config memory block ghost graph asking marked_out))
      (λ (some_set : (set == 0) ≡ false).
      subst (λ begun_memory. Represents config begun_memory graph asking) (sym (fun_ext (λ word. cond-false (set == 0) (evac_spared memory word) (evac_started (roots_cleared config memory set) word) some_set)))
      (evacuation_starts config memory block ghost graph asking marked_out set (roots_cleared config memory set) ended.0 ended.1 cleared))
      (cases_Bool (set == 0))

pub evacuation_alone_represents : EvacuationAloneRepresents
evacuation_alone_represents = begun

-- evacuation can begin where marking is ended
pub can_begin : (config : Config) (memory : Word → ℕ) (graph : Graph) (asking : ℕ → Asking) → Represents config memory graph asking → memory Phase ≡ marking_phase → HasNoMoreSeats config memory → CanBegin config (final_marked config memory)
can_begin config memory graph asking represents marking seats =
    let memory_stands = marking_stands config memory graph asking represents marking in
    evacuation_can_begin config memory memory_stands.0 memory_stands.1 memory_stands.2 graph memory_stands.3 memory_stands.4 seats

pub evacuation_represents : EvacuationRepresents
evacuation_represents config memory graph asking represents marking seats =
    let gives = end_gives config memory graph asking represents marking seats in
    begun config (final_marked config memory) gives.0 gives.1 graph asking gives.2 (can_begin config memory graph asking represents marking seats)

-- who does not ask keeps what it has
same_answer : (asking : Asking) → ((refs nums : ℕ) → asking ≡ asks refs nums → ⊥) → Answers asking asking
same_answer nothing idle = tt
same_answer (asks refs nums) idle = absurd (idle refs nums refl)
same_answer refused idle = tt
same_answer (given refs nums) idle = (refl, refl)

-- where nobody asks, a pause owes that the words represent the same graph
pub idle_pause : (config : Config) (before after : Word → ℕ) (graph : Graph) (asking : ℕ → Asking) → ((mutator refs nums : ℕ) → mutator < config.mutators → asking mutator ≡ asks refs nums → ⊥) → Represents config after graph asking
    → IsPaused config before after graph asking
idle_pause config before after graph asking idle graph_stands = record {
  asked_then = asking;
  stands = graph_stands;
  answers = λ mutator inside. same_answer (asking mutator) (λ refs nums asks_for. idle mutator refs nums inside asks_for);
  crowded = λ mutator refs nums inside asks_for refused_one. absurd (idle mutator refs nums inside asks_for);
}

pub evacuation_begins : EvacuationBegins
evacuation_begins config memory graph asking represents marking no_room_asked seats =
    idle_pause config memory (evac_next config memory) graph asking
    (λ mutator refs nums inside asks_for. (let waits = represents.heard mutator refs nums inside asks_for in omega (arith, waits, no_room_asked)))
    (evacuation_represents config memory graph asking represents marking seats)
