-- Each step of the cycle, and collecting in full, is what a pause owes.
use Rattle.heap_words.specs.Phases.{updating_phase, marking_phase, evacuation_phase, idle_phase}
use Rattle.std.proofs.Common.{◌≡◌, ◌≢◌, ℕ, ◌<◌, ◌==◌, ◌++◌, Bool, true, false, Option, List, replicate, refl, ⊎_elim, sym, ◌∙◌, subst, arith}
use Rattle.std.specs.Prelude.{if◌then◌else◌, ◌&&◌, ◌||◌}
use Rattle.std.specs.Int.{bit_at}
use Rattle.std.proofs.Math.Bool.{Bool-set}
use Rattle.std.proofs.Math.Bridge.{le_prop}
use Rattle.std.proofs.Math.Logic.{∥∥₁_elim}
use Rattle.std.proofs.Math.Nat.{ℕ_set}
use Rattle.std.proofs.Math.Path.{fun_ext}
use Rattle.std.proofs.lemmas.Bool.{cond-true, cond-false, cases_Bool, cases_eq, eq-eqb, eqb-true, le-ltb, true≢false}
use Rattle.shen_graph.proofs.Bools.{either_is}
use Rattle.heap_words.specs.declared.config.Config.{Config}
use Rattle.heap_words.specs.Ranges.{seat_count}
use Rattle.heap_words.specs.Words.{Word, Phase, Cset, Evac, Ask, Current, is_word, image_start, view}
use Rattle.heap_words.proofs.Stores.{is_word_true, view_none}
use Rattle.heap_words.specs.Counter.{is_out_of_room}
use Rattle.shen_graph.specs.Graph.{Graph}
use Rattle.heap_world.specs.World.{Plot}
use Rattle.heap_world.specs.Asking.{Asking, asks}
use Rattle.heap_world.specs.Represents.{Represents}
use Rattle.heap_world.specs.Change.{image_view, IsPaused, IsDue}
use Rattle.image_graph.specs.Full.{full}
use Rattle.image_graph.specs.Promised.{Promises}
use Rattle.cycle_pauses.proofs.Full.ByCopies.{by_copies}
use Rattle.cycle_pauses.proofs.Full.Outside.{IsZeroOutside}
use Rattle.cycle_pauses.proofs.Full.Images.{holds_outside}
use Rattle.cycle_pauses.proofs.Full.Pauses.{paused_from, paused}
use Rattle.image_graph.proofs.Inside.{buffers_inside}
use Rattle.cycle_pauses.proofs.Full.Promises.{promises_of}
use Rattle.cycle_pauses.proofs.Full.Before.{live}
use Rattle.cycle_pauses.proofs.Full.Holding.{holds_by, are_sized}
use Rattle.cycle_words.specs.Marking.Init.{init_marked}
use Rattle.cycle_words.specs.Marking.Final.{final_marked}
use Rattle.image_graph.specs.Buffers.{HasNoMoreSeats}
use Rattle.cycle_pauses.proofs.Marking.FromSnapshot.{is_marking}
use Rattle.cycle_pauses.proofs.Marking.Outside.{init_outside, final_outside}
use Rattle.cycle_pauses.proofs.Marking.WhileMarking.{beginning_represents}
use Rattle.cycle_words.specs.Evacuation.Choice.{chosen}
use Rattle.cycle_words.specs.Evacuation.Begun.{CanBegin}
use Rattle.cycle_words.proofs.Evacuation.Clearing.{can_clear_in_turn}
use Rattle.cycle_words.proofs.Evacuation.CanBegin.{evacuation_can_begin}
use Rattle.cycle_pauses.specs.Evacuation.Collect.{evac_next}
use Rattle.cycle_pauses.proofs.Evacuation.Outside.{next_current, begun_outside}
use Rattle.cycle_pauses.proofs.Evacuation.Begun.{idle_pause, evacuation_represents}
use Rattle.cycle_words.specs.Updating.Changes.{init_updated, final_updated}
use Rattle.cycle_pauses.proofs.Updating.Beginning.{updating_begins}
use Rattle.cycle_pauses.proofs.Updating.Ending.{updating_ends}
use Rattle.cycle_pauses.proofs.Updating.Outside as update
use Rattle.cycle_pauses.specs.Ended.{ended}
use Rattle.cycle_pauses.specs.Collect.{is_room_needed, next_in_cycle, past_marking, room_made, collected, collect_image, CanPause}
use Rattle.cycle_pauses.specs.Laws.{RepresentingCanCollect, EndedCanBegin, RunningCanEnd, ImageIsCollected, CollectIsPause}
use Rattle.cycle_pauses.proofs.Images.{collected_by_name, collected_length}
use Rattle.cycle_pauses.proofs.LeftByFinishing.{ended_outside}
use Rattle.cycle_pauses.proofs.EndedPaused.{ended_is_paused, can_end, can_end_prop}

-- there is no collection set in phases 0 and 1
calm_in : (config : Config) (memory : Word → ℕ) (graph : Graph) (asking : ℕ → Asking) (represents : Represents config memory graph asking) → memory Phase < 2 → memory Cset ≡ 0
calm_in config memory graph asking represents phase_low = represents.shared.phased.cset_is phase_low

-- one of two
pick : (holds : Bool) (memory other_memory : Word → ℕ) → holds ≡ true → (λ word. if holds then memory word else other_memory word) ≡ memory
pick holds memory other_memory test_true = fun_ext (λ word. cond-true holds (memory word) (other_memory word) test_true)

skip : (holds : Bool) (memory other_memory : Word → ℕ) → holds ≡ false → (λ word. if holds then memory word else other_memory word) ≡ other_memory
skip holds memory other_memory test_false = fun_ext (λ word. cond-false holds (memory word) (other_memory word) test_false)

-- no seat but those of the heap has a buffer in an image
no_more_seats : (config : Config) (words : List ℕ) → HasNoMoreSeats config (view config words)
no_more_seats config words seat seat_past = view_none config words (Current seat) (le-ltb seat (seat_count config.mutators config.helpers) seat_past)

-- the words past marking represent the same graph
past_marking_represents : (config : Config) (memory : Word → ℕ) (graph : Graph) (asking : ℕ → Asking) → Represents config memory graph asking → HasNoMoreSeats config memory → Represents config (past_marking config memory) graph asking
past_marking_represents config memory graph asking represents seats = ⊎_elim
    (λ (in_marking : (memory Phase == marking_phase) ≡ true).
    subst (λ state. Represents config state graph asking) (sym (pick (memory Phase == marking_phase) (evac_next config memory) memory in_marking)) (evacuation_represents config memory graph asking represents (eqb-true (memory Phase) 1 in_marking) seats))
    (λ (not_marking : (memory Phase == marking_phase) ≡ false). subst (λ state. Represents config state graph asking) (sym (skip (memory Phase == marking_phase) (evac_next config memory) memory not_marking)) represents)
    (cases_Bool (memory Phase == marking_phase))

-- and no other seats have buffers then
past_marking_seats : (config : Config) (memory : Word → ℕ) → HasNoMoreSeats config memory → HasNoMoreSeats config (past_marking config memory)
past_marking_seats config memory seats seat seat_past = either_is (memory Phase == marking_phase) (evac_next config memory (Current seat)) (memory (Current seat)) 0 (next_current config memory seat ∙ seats seat seat_past) (seats seat seat_past)

can_collect : (config : Config) (memory : Word → ℕ) (graph : Graph) (asking : ℕ → Asking) (represents : Represents config memory graph asking) → HasNoMoreSeats config memory
    → CanPause config memory (live config memory graph asking (by_copies config memory graph asking represents)) represents.ghost.owner (promises_of config graph asking) graph
can_collect config memory graph asking represents seats = record {
  holds = holds_by config memory graph asking (by_copies config memory graph asking represents);
  sized = are_sized config memory graph asking (by_copies config memory graph asking represents);
  phase_is = represents.shared.phased.phase_is;
  uncollected = λ is_idle. calm_in config memory graph asking represents (omega (arith, is_idle));
  marking = λ in_marking. is_marking config memory graph asking represents (calm_in config memory graph asking represents (omega (arith, in_marking))) in_marking;
  ends = λ needed runs. can_end config (past_marking config memory) graph asking (past_marking_represents config memory graph asking represents seats) (past_marking_seats config memory seats);
}

pub representing_can_collect : RepresentingCanCollect
representing_can_collect given_config image given_graph asking graph_stands =
    let memory : Word → ℕ = image_view given_config image in
    ∣ (given_graph, live given_config memory given_graph asking (by_copies given_config memory given_graph asking graph_stands), graph_stands.ghost.owner, promises_of given_config given_graph asking, can_collect given_config (image_view given_config image) given_graph asking graph_stands (no_more_seats given_config (replicate (image_start given_config) 0 ++ image))) ∣₁

can_begin_prop : (config : Config) (memory : Word → ℕ) → IsProp (CanBegin config memory)
can_begin_prop config memory = hlevel (le_prop, ℕ_set, Bool-set)

pub ended_can_begin : EndedCanBegin
ended_can_begin given_config given_memory can_pause in_marking seats = ∥∥₁_elim can_pause (can_begin_prop given_config (final_marked given_config given_memory)) (λ pausing. evacuation_can_begin given_config given_memory pausing.1 pausing.2 pausing.3 pausing.0 pausing.4.holds (pausing.4.marking in_marking) seats)

pub running_can_end : RunningCanEnd
running_can_end given_config given_memory can_pause needed runs = ∥∥₁_elim can_pause (can_end_prop given_config (past_marking given_config given_memory)) (λ pausing. pausing.4.ends needed runs)

-- Which pause it is.

-- a bit that is not 1 is 0
unset : (word bit : ℕ) → (bit_at word bit == 1) ≡ false → bit_at word bit ≡ 0
unset word bit bit_test = ⊎_elim
    (λ (is_zero : bit_at word bit ≡ 0). is_zero)
    (λ (not_zero : bit_at word bit ≢ 0). absurd (true≢false (sym (eq-eqb (bit_at word bit) 1 (omega (arith, not_zero))) ∙ bit_test)))
    (cases_eq (bit_at word bit) 0)

-- nobody waits, and no copier was out of room
pub record IsCalm (memory : Word → ℕ) : Type 0 where
  pub unasked : bit_at (memory Ask) 1 ≡ 0
  pub room : memory Phase ≡ evacuation_phase → is_out_of_room (memory Evac) ≡ false

calm_if : (memory : Word → ℕ) → is_room_needed memory ≡ false → IsCalm memory
calm_if memory no_room_needed = parts (bit_at (memory Ask) 1 == 1) (memory Phase == evacuation_phase) (is_out_of_room (memory Evac)) refl refl refl no_room_needed
  where
    parts : (ask_test phase_test room_test : Bool) → (bit_at (memory Ask) 1 == 1) ≡ ask_test → (memory Phase == evacuation_phase) ≡ phase_test → is_out_of_room (memory Evac) ≡ room_test → (ask_test || (phase_test && room_test)) ≡ false → IsCalm memory
    parts true phase_test room_test ask_is phase_is room_is neither = absurd (true≢false neither)
    parts false true true ask_is phase_is room_is neither = absurd (true≢false neither)
    parts false true false ask_is phase_is room_is neither = record { unasked = unset (memory Ask) 1 ask_is; room = λ phase_two. room_is }
    parts false false room_test ask_is phase_is room_is neither = record { unasked = unset (memory Ask) 1 ask_is; room = λ phase_two. absurd (true≢false (sym (eq-eqb (memory Phase) 2 phase_two) ∙ phase_is)) }

-- one of six: where room is needed it is in full, or ends the cycle; else the step of the cycle that the phase tells
pub data Which (config : Config) (memory : Word → ℕ) : Type 0 where
  in_full : memory Phase ≡ idle_phase → collected config memory ≡ full config memory → Which config memory
  to_end : is_room_needed memory ≡ true → (memory Phase ≢ idle_phase) → collected config memory ≡ ended config (past_marking config memory) → Which config memory
  to_mark : IsCalm memory → memory Phase ≡ idle_phase → collected config memory ≡ init_marked config memory → Which config memory
  to_evacuate : IsCalm memory → memory Phase ≡ marking_phase → collected config memory ≡ evac_next config memory → Which config memory
  to_update : IsCalm memory → memory Phase ≡ evacuation_phase → collected config memory ≡ init_updated config memory → Which config memory
  to_free : IsCalm memory → (memory Phase ≢ idle_phase) → (memory Phase ≢ marking_phase) → (memory Phase ≢ evacuation_phase) → collected config memory ≡ final_updated config memory → Which config memory

differ : (n k : ℕ) → (n == k) ≡ false → n ≢ k
differ n k test_false same_number = true≢false (sym (eq-eqb n k same_number) ∙ test_false)

module _ (config : Config) (memory : Word → ℕ) where
  abbrev late : Word → ℕ
  late word = if memory Phase == evacuation_phase then init_updated config memory word else final_updated config memory word

  abbrev later : Word → ℕ
  later word = if memory Phase == marking_phase then evac_next config memory word else late word

  by_phase : IsCalm memory → collected config memory ≡ next_in_cycle config memory → Which config memory
  by_phase calm_memory collected_next = ⊎_elim
      (λ (zero_one : (memory Phase == idle_phase) ≡ true). Which.to_mark calm_memory (eqb-true (memory Phase) 0 zero_one) (collected_next ∙ pick (memory Phase == idle_phase) (init_marked config memory) later zero_one))
      (λ (not_idle : (memory Phase == idle_phase) ≡ false).
      let after_0 = collected_next ∙ skip (memory Phase == idle_phase) (init_marked config memory) later not_idle in
      ⊎_elim
      (λ (phase_one : (memory Phase == marking_phase) ≡ true). Which.to_evacuate calm_memory (eqb-true (memory Phase) 1 phase_one) (after_0 ∙ pick (memory Phase == marking_phase) (evac_next config memory) late phase_one))
      (λ (not_marking : (memory Phase == marking_phase) ≡ false).
      let after_1 = after_0 ∙ skip (memory Phase == marking_phase) (evac_next config memory) late not_marking in
      ⊎_elim
      (λ (phase_two : (memory Phase == evacuation_phase) ≡ true). Which.to_update calm_memory (eqb-true (memory Phase) 2 phase_two) (after_1 ∙ pick (memory Phase == evacuation_phase) (init_updated config memory) (final_updated config memory) phase_two))
      (λ (not_evacuating : (memory Phase == evacuation_phase) ≡ false).
      Which.to_free calm_memory (differ (memory Phase) 0 not_idle) (differ (memory Phase) 1 not_marking) (differ (memory Phase) 2 not_evacuating) (after_1 ∙ skip (memory Phase == evacuation_phase) (init_updated config memory) (final_updated config memory) not_evacuating))
      (cases_Bool (memory Phase == evacuation_phase)))
      (cases_Bool (memory Phase == marking_phase)))
      (cases_Bool (memory Phase == idle_phase))

  by_room : is_room_needed memory ≡ true → Which config memory
  by_room needed =
      let collected_next = pick (is_room_needed memory) (room_made config memory) (next_in_cycle config memory) needed in
      ⊎_elim
      (λ (zero_phase : (memory Phase == idle_phase) ≡ true). Which.in_full (eqb-true (memory Phase) 0 zero_phase) (collected_next ∙ pick (memory Phase == idle_phase) (full config memory) (ended config (past_marking config memory)) zero_phase))
      (λ (runs : (memory Phase == idle_phase) ≡ false). Which.to_end needed (differ (memory Phase) 0 runs) (collected_next ∙ skip (memory Phase == idle_phase) (full config memory) (ended config (past_marking config memory)) runs))
      (cases_Bool (memory Phase == idle_phase))

  pub which : Which config memory
  which = ⊎_elim
      (λ (needed : is_room_needed memory ≡ true). by_room needed)
      (λ (no_room_needed : is_room_needed memory ≡ false). by_phase (calm_if memory no_room_needed) (skip (is_room_needed memory) (room_made config memory) (next_in_cycle config memory) no_room_needed))
      (cases_Bool (is_room_needed memory))

-- Words that are no words of the table are 0 after a pause.
collected_outside : (config : Config) (image : List ℕ) (graph : Graph) (block : Plot) (owner : ℕ → Option ℕ) (promises : Promises) → CanPause config (image_view config image) block owner promises graph → IsZeroOutside config (collected config (image_view config image))
collected_outside config image graph block owner promises can_pause = by_which (which config (image_view config image))
  where
    none : IsZeroOutside config (image_view config image)
    none word not_word = view_none config (replicate (image_start config) 0 ++ image) word not_word

    evacuated : image_view config image Phase ≡ marking_phase → IsZeroOutside config (evac_next config (image_view config image))
    evacuated phase_one =
        let memory : Word → ℕ = image_view config image in
        let marking = can_pause.marking phase_one in
        let begin = evacuation_can_begin config memory block owner promises graph can_pause.holds marking (no_more_seats config (replicate (image_start config) 0 ++ image)) in
        begun_outside config (final_marked config memory) (chosen config (final_marked config memory)) (can_clear_in_turn config (final_marked config memory) begin) (final_outside config memory block owner promises graph can_pause.holds none marking)

    past_outside : IsZeroOutside config (past_marking config (image_view config image))
    past_outside = ⊎_elim
        (λ (in_marking : (image_view config image Phase == marking_phase) ≡ true).
        subst (IsZeroOutside config) (sym (pick (image_view config image Phase == marking_phase) (evac_next config (image_view config image)) (image_view config image) in_marking)) (evacuated (eqb-true (image_view config image Phase) 1 in_marking)))
        (λ (not_marking : (image_view config image Phase == marking_phase) ≡ false).
        subst (IsZeroOutside config) (sym (skip (image_view config image Phase == marking_phase) (evac_next config (image_view config image)) (image_view config image) not_marking)) none)
        (cases_Bool (image_view config image Phase == marking_phase))

    by_which : Which config (image_view config image) → IsZeroOutside config (collected config (image_view config image))
    by_which (Which.in_full idle collected_is) = subst (IsZeroOutside config) (sym collected_is) (holds_outside config (replicate (image_start config) 0 ++ image) graph (block, owner, promises, can_pause.holds))
    by_which (Which.to_end needed runs collected_is) = subst (IsZeroOutside config) (sym collected_is) (ended_outside config (past_marking config (image_view config image)) (can_pause.ends needed runs) past_outside)
    by_which (Which.to_mark calm begins collected_is) = subst (IsZeroOutside config) (sym collected_is) (init_outside config (image_view config image) block owner promises graph can_pause.holds none (can_pause.uncollected begins))
    by_which (Which.to_evacuate calm in_phase collected_is) = subst (IsZeroOutside config) (sym collected_is) (evacuated in_phase)
    by_which (Which.to_update calm in_phase collected_is) = subst (IsZeroOutside config) (sym collected_is) (update.init_outside config (image_view config image) (buffers_inside config (image_view config image) block can_pause.holds.objects.plotted can_pause.holds.buffers) none)
    by_which (Which.to_free calm not_idle not_marking not_evacuating collected_is) = subst (IsZeroOutside config) (sym collected_is) (update.final_outside config (image_view config image) none)

pub image_is_collected : ImageIsCollected
image_is_collected given_config image image_long can_pause = fun_ext (λ word. ⊎_elim
    (λ (yes_word : is_word given_config word ≡ true). collected_by_name given_config image word (is_word_true given_config word yes_word))
    (λ (not_word : is_word given_config word ≡ false).
    view_none given_config (replicate (image_start given_config) 0 ++ collect_image given_config image) word not_word
    ∙ sym (∥∥₁_elim can_pause (hlevel ℕ_set) (λ what_holds. collected_outside given_config image what_holds.0 what_holds.1 what_holds.2 what_holds.3 what_holds.4 word not_word)))
    (cases_Bool (is_word given_config word)))

-- What a pause owes that is due.
module _ (config : Config) (image : List ℕ) (graph : Graph) (asking : ℕ → Asking) (represents : Represents config (image_view config image) graph asking) (due : IsDue config (image_view config image)) where
  abbrev now : Word → ℕ
  now = image_view config image

  -- where nobody waits nobody asks
  nobody : IsCalm now → (mutator refs nums : ℕ) → mutator < config.mutators → asking mutator ≡ asks refs nums → ⊥
  nobody calm_now mutator refs nums mutator_below asks_object = let waits = represents.heard mutator refs nums mutator_below asks_object in let unasked = calm_now.unasked in omega (arith, waits, unasked)

  -- so a step of the cycle owes that the words represent the same graph
  step_paused : IsCalm now → (after : Word → ℕ) → collected config now ≡ after → Represents config after graph asking → IsPaused config now (collected config now) graph asking
  step_paused calm_now after collected_is after_stands = subst (λ words. IsPaused config now words graph asking) (sym collected_is) (idle_pause config now after graph asking (nobody calm_now) after_stands)

  which_paused : Which config now → IsPaused config now (collected config now) graph asking
  which_paused (Which.in_full idle collected_is) = subst (λ words. IsPaused config now words graph asking) (sym collected_is) (paused config now graph asking (by_copies config now graph asking represents))
  which_paused (Which.to_end needed runs collected_is) =
      let past_standing = past_marking_represents config now graph asking represents (no_more_seats config (replicate (image_start config) 0 ++ image)) in
      subst (λ words. IsPaused config now words graph asking) (sym collected_is) (paused_from config (past_marking config now) now (ended config (past_marking config now)) graph asking
      (ended_is_paused config (past_marking config now) graph asking past_standing (past_marking_seats config now (no_more_seats config (replicate (image_start config) 0 ++ image)))))
  which_paused (Which.to_mark calm begins collected_is) = step_paused calm (init_marked config now) collected_is (beginning_represents config now graph asking represents begins (nobody calm))
  which_paused (Which.to_evacuate calm in_phase collected_is) =
      step_paused calm (evac_next config now) collected_is (evacuation_represents config now graph asking represents in_phase (no_more_seats config (replicate (image_start config) 0 ++ image)))
  which_paused (Which.to_update calm in_phase collected_is) =
      step_paused calm (init_updated config now) collected_is (updating_begins config now graph asking represents in_phase (calm.room in_phase) (due (omega (arith, in_phase)) calm.unasked))
  which_paused (Which.to_free calm not_idle not_marking not_evacuating collected_is) =
      let phase_few = represents.shared.phased.phase_is in
      let in_phase : now Phase ≡ updating_phase = omega (arith, phase_few, not_idle, not_marking, not_evacuating) in
      step_paused calm (final_updated config now) collected_is (updating_ends config now graph asking represents in_phase (due (omega (arith, in_phase)) calm.unasked))

  collected_paused : IsPaused config now (collected config now) graph asking
  collected_paused = which_paused (which config now)

pub collect_is_pause : CollectIsPause
collect_is_pause = record {
  long = λ config image image_long. collected_length config image;
  pauses = λ given_config image graph asking image_long represents due.
      subst (λ after. IsPaused given_config (image_view given_config image) after graph asking) (sym (image_is_collected given_config image image_long (representing_can_collect given_config image graph asking represents)))
      (collected_paused given_config image graph asking represents due);
}
