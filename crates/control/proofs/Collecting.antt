-- What a pause needs of the words, for each of the things that it does.
use Rattle.heap_words.specs.Phases.{marking_phase, evacuation_phase, idle_phase}
use Rattle.std.proofs.Common.{◌≡◌, ◌≢◌, ℕ, true, false, arith, sym, ◌∙◌, subst}
use Rattle.std.specs.Prelude.{◌==◌, if◌then◌else◌}
use Rattle.std.proofs.lemmas.Bool.{cond-true, cond-false, eq-eqb, ne_eqb}
use Rattle.std.proofs.Math.Path.{fun_ext}
use Rattle.std.proofs.Math.Logic.{∥∥₁_elim, ∥∥₁_map}
use Rattle.std.proofs.Math.Nat.{ℕ_set}
use Rattle.std.proofs.Math.Bridge.{le_prop}
use Rattle.heap_words.specs.declared.config.Config.{Config}
use Rattle.heap_words.specs.Words.{Word, Phase, Cset}
use Rattle.image_graph.specs.SeatBuffers.{AreInside}
use Rattle.image_graph.specs.Full.{full}
use Rattle.image_graph.proofs.Inside.{buffers_inside}
use Rattle.image_graph.specs.Holds.{HoldsSome, HoldsSized}
use Rattle.cycle_words.specs.Marking.Init.{init_marked}
use Rattle.mark_core.specs.Result.{MarksSome}
use Rattle.cycle_pauses.specs.Evacuation.Collect.{evac_next}
use Rattle.cycle_words.specs.Finishing.Finish.{finished, is_whole}
use Rattle.cycle_pauses.specs.Ended.{ended}
use Rattle.cycle_pauses.specs.Collect.{is_room_needed, next_in_cycle, past_marking, room_made, collected, CanPauseSome}
use Rattle.cycle_words.specs.Updating.Changes.{init_updated, final_updated}

-- they hold some graph
pub can_hold : (config : Config) (memory : Word → ℕ) → CanPauseSome config memory → HoldsSome config memory
can_hold config memory can_pause = ∥∥₁_map can_pause (λ pausing. (pausing.0, (pausing.1, pausing.2, pausing.3, pausing.4.holds)))

-- by pieces each of which says how many words it has
pub can_sized : (config : Config) (memory : Word → ℕ) → CanPauseSome config memory → HoldsSized config memory
can_sized config memory can_pause = ∥∥₁_map can_pause (λ pausing. (pausing.0, pausing.1, pausing.2, pausing.3, pausing.4.holds, pausing.4.sized))

-- and buffers lie in regions of the heap
inside_prop : (config : Config) (memory : Word → ℕ) → IsProp (AreInside config memory)
inside_prop config memory = hlevel le_prop

pub can_inside : (config : Config) (memory : Word → ℕ) → CanPauseSome config memory → AreInside config memory
can_inside config memory can_pause = ∥∥₁_elim can_pause (inside_prop config memory) (λ pausing. buffers_inside config memory pausing.1 pausing.4.holds.objects.plotted pausing.4.holds.buffers)

-- in phase 0 no region is collected
pub can_calm : (config : Config) (memory : Word → ℕ) → CanPauseSome config memory → memory Phase ≡ idle_phase → memory Cset ≡ 0
can_calm config memory can_pause idle = ∥∥₁_elim can_pause (hlevel ℕ_set) (λ pausing. pausing.4.uncollected idle)

-- in phase 1 they hold one while objects are marked
pub can_end : (config : Config) (memory : Word → ℕ) → CanPauseSome config memory → memory Phase ≡ marking_phase → MarksSome config memory
can_end config memory can_pause phase_one = ∥∥₁_map can_pause (λ pausing. (pausing.0, pausing.1, pausing.2, pausing.3, pausing.4.holds, pausing.4.marking phase_one))

-- what holds of words holds of the same ones
pub of-same : (P : Config → (Word → ℕ) → Type 0) (config other_config : Config) (memory other_memory : Word → ℕ) → other_config ≡ config → other_memory ≡ memory → P config memory → P other_config other_memory
of-same P given_config second_config memory other_memory config words held_before = subst (λ asked_config. P asked_config other_memory) (sym config) (subst (P given_config) (sym words) held_before)

-- What ends a cycle is finishing it, with a full collection where that falls short.
pub whole-ended : (config : Config) (memory : Word → ℕ) → is_whole config memory ≡ true → finished config memory ≡ ended config memory
whole-ended config memory whole_cycle = fun_ext (λ word. sym (cond-true (is_whole config memory) (finished config memory word) (full config (finished config memory) word) whole_cycle))

pub short-ended : (config : Config) (memory : Word → ℕ) → is_whole config memory ≡ false → full config (finished config memory) ≡ ended config memory
short-ended config memory short = fun_ext (λ word. sym (cond-false (is_whole config memory) (finished config memory word) (full config (finished config memory) word) short))

-- What each of them makes of the words is what a pause does.
pub room-collected : (config : Config) (memory : Word → ℕ) → is_room_needed memory ≡ true → room_made config memory ≡ collected config memory
room-collected config memory needed = fun_ext (λ word. sym (cond-true (is_room_needed memory) (room_made config memory word) (next_in_cycle config memory word) needed))

pub cycle-collected : (config : Config) (memory : Word → ℕ) → is_room_needed memory ≡ false → next_in_cycle config memory ≡ collected config memory
cycle-collected config memory no_room_needed = fun_ext (λ word. sym (cond-false (is_room_needed memory) (room_made config memory word) (next_in_cycle config memory word) no_room_needed))

-- and of what makes room
pub full-made : (config : Config) (memory : Word → ℕ) → memory Phase ≡ idle_phase → full config memory ≡ room_made config memory
full-made config memory idle = fun_ext (λ word. sym (cond-true (memory Phase == idle_phase) (full config memory word) (ended config (past_marking config memory) word) (eq-eqb _ _ idle)))

pub ended-made : (config : Config) (memory : Word → ℕ) → memory Phase ≢ idle_phase → ended config (past_marking config memory) ≡ room_made config memory
ended-made config memory runs = fun_ext (λ word. sym (cond-false (memory Phase == idle_phase) (full config memory word) (ended config (past_marking config memory) word) (ne_eqb _ _ runs)))

pub marking-past : (config : Config) (memory : Word → ℕ) → memory Phase ≡ marking_phase → evac_next config memory ≡ past_marking config memory
marking-past config memory phase_one = fun_ext (λ word. sym (cond-true (memory Phase == marking_phase) (evac_next config memory word) (memory word) (eq-eqb _ _ phase_one)))

pub others-past : (config : Config) (memory : Word → ℕ) → memory Phase ≢ marking_phase → memory ≡ past_marking config memory
others-past config memory not_marking = fun_ext (λ word. sym (cond-false (memory Phase == marking_phase) (evac_next config memory word) (memory word) (ne_eqb _ _ not_marking)))

module _ (config : Config) (memory : Word → ℕ) where
  -- what is due from phase 2 on, and from phase 1 on
  abbrev late : Word → ℕ
  late word = if memory Phase == evacuation_phase then init_updated config memory word else final_updated config memory word

  abbrev busy : Word → ℕ
  busy word = if memory Phase == marking_phase then evac_next config memory word else late word

  pub init_mark-next : memory Phase ≡ idle_phase → init_marked config memory ≡ next_in_cycle config memory
  init_mark-next phase = fun_ext (λ word. sym (cond-true (memory Phase == idle_phase) (init_marked config memory word) (busy word) (eq-eqb _ _ phase)))

  runs : memory Phase ≢ idle_phase → busy ≡ next_in_cycle config memory
  runs positive = fun_ext (λ word. sym (cond-false (memory Phase == idle_phase) (init_marked config memory word) (busy word) (ne_eqb _ _ positive)))

  pub end_mark-next : memory Phase ≡ marking_phase → evac_next config memory ≡ next_in_cycle config memory
  end_mark-next phase = fun_ext (λ word. sym (cond-true (memory Phase == marking_phase) (evac_next config memory word) (late word) (eq-eqb _ _ phase))) ∙ runs (omega (arith, phase))

  goes_on : memory Phase ≢ idle_phase → memory Phase ≢ marking_phase → late ≡ next_in_cycle config memory
  goes_on positive not_marking = fun_ext (λ word. sym (cond-false (memory Phase == marking_phase) (evac_next config memory word) (late word) (ne_eqb _ _ not_marking))) ∙ runs positive

  pub init_update-next : memory Phase ≡ evacuation_phase → init_updated config memory ≡ next_in_cycle config memory
  init_update-next phase =
      fun_ext (λ word. sym (cond-true (memory Phase == evacuation_phase) (init_updated config memory word) (final_updated config memory word) (eq-eqb _ _ phase))) ∙ goes_on (omega (arith, phase)) (omega (arith, phase))

  pub final_update-next : memory Phase ≢ idle_phase → memory Phase ≢ marking_phase → memory Phase ≢ evacuation_phase → final_updated config memory ≡ next_in_cycle config memory
  final_update-next positive not_marking not_evacuating =
      fun_ext (λ word. sym (cond-false (memory Phase == evacuation_phase) (init_updated config memory word) (final_updated config memory word) (ne_eqb _ _ not_evacuating))) ∙ goes_on positive not_marking
