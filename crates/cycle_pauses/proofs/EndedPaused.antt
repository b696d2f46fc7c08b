-- A cycle that is ended in its pause is what a pause owes.
use Rattle.std.proofs.Common.{◌≡◌, ℕ, ◌+◌, ◌*◌, true, false, zero, suc, ⊎_elim, sym, ◌∙◌, subst}
use Rattle.std.proofs.Math.Bridge.{le_prop}
use Rattle.std.proofs.Math.Nat.{ℕ_set}
use Rattle.std.proofs.Math.Path.{fun_ext}
use Rattle.std.proofs.lemmas.Bool.{cases_Bool, cond-true, cond-false, and_parts}
use Rattle.heap_words.specs.declared.config.Config.{Config}
use Rattle.heap_words.specs.Words.{Word}
use Rattle.shen_graph.specs.Graph.{Graph}
use Rattle.heap_world.specs.Asking.{Asking}
use Rattle.heap_world.specs.Represents.{Represents}
use Rattle.heap_world.specs.Change.{IsPaused}
use Rattle.image_graph.specs.SeatBuffers.{IsInside}
use Rattle.image_graph.specs.LetGo.{let_go}
use Rattle.image_graph.specs.Full.{served, full}
use Rattle.image_graph.specs.Buffers.{HasNoMoreSeats}
use Rattle.cycle_words.specs.Evacuation.Copied.{CanCopyOut, copied_out}
use Rattle.image_graph.specs.Pinned.{CanFill}
use Rattle.cycle_words.specs.Finishing.Updated.{all_updated, CanUpdateAll}
use Rattle.cycle_words.specs.Finishing.Copies.{CanCopyFrom, all_copied, is_room_for_all}
use Rattle.cycle_words.specs.Finishing.Finish.{cycle_finished, finished, nobody_waits, is_whole, CanFree}
use Rattle.cycle_pauses.proofs.Finishing.Finished.{whole_is_pause, short_is_pause, set_is_free}
use Rattle.cycle_pauses.proofs.Finishing.CanFinish.{representing_can_finish}
use Rattle.cycle_pauses.specs.Ended.{CanEnd}
use Rattle.cycle_pauses.specs.Laws.{EndedIsPaused, SetIsFreedFirst}

pub ended_is_paused : EndedIsPaused
ended_is_paused config memory graph asking represents seats = ⊎_elim
    (λ (whole_cycle : is_whole config memory ≡ true).
    subst (λ ended_memory. IsPaused config memory ended_memory graph asking) (sym (fun_ext (λ word. cond-true (is_whole config memory) (finished config memory word) (full config (finished config memory) word) whole_cycle)))
    (whole_is_pause config memory graph asking represents seats whole_cycle).paused)
    (λ (image_short : is_whole config memory ≡ false).
    subst (λ ended_memory. IsPaused config memory ended_memory graph asking) (sym (fun_ext (λ word. cond-false (is_whole config memory) (finished config memory word) (full config (finished config memory) word) image_short)))
    (short_is_pause config memory graph asking represents seats image_short).paused)
    (cases_Bool (is_whole config memory))

-- where finishing it is enough, the collection set is freed first
pub set_is_freed_first : SetIsFreedFirst
set_is_freed_first config memory graph asking represents whole_cycle =
    let room = (and_parts (is_room_for_all config (let_go config memory)) (nobody_waits config (finished config memory)) whole_cycle).0 in
    record {
      freed = set_is_free config memory graph asking represents room;
      served_then = fun_ext (λ word.
          cond-true (is_whole config memory) (finished config memory word) (full config (finished config memory) word) whole_cycle
          ∙ cond-true (is_room_for_all config (let_go config memory)) (served config (cycle_finished config (let_go config memory)) config.mutators word) (all_copied config (let_go config memory) word) room);
    }

-- words that represent a graph are such that a cycle can be ended
pub can_end : (config : Config) (memory : Word → ℕ) (graph : Graph) (asking : ℕ → Asking) → Represents config memory graph asking → HasNoMoreSeats config memory → CanEnd config memory
can_end config memory graph asking represents seats = record {
  finishes = representing_can_finish config memory graph asking represents seats;
  holds = λ short. let pause_holds = (short_is_pause config memory graph asking represents seats short).holds in ∣ (graph, pause_holds.0, pause_holds.1, pause_holds.2, pause_holds.3, pause_holds.4) ∣₁;
}

-- That a cycle can be ended is one fact.
can_copy_out_prop : (config : Config) (memory : Word → ℕ) (address : ℕ) → IsProp (CanCopyOut config memory address)
can_copy_out_prop config memory address = hlevel (le_prop, ℕ_set)

can_copy_from_prop : (config : Config) (addresses : ℕ) (memory : Word → ℕ) (address : ℕ) → IsProp (CanCopyFrom config memory address addresses)
unfolding CanCopyFrom
can_copy_from_prop config zero memory address = hlevel
can_copy_from_prop config (suc addresses) memory address = hlevel (can_copy_out_prop config memory address, can_copy_from_prop config addresses (copied_out config memory address) (address + 1), can_copy_from_prop config addresses memory (address + 1))

inside_prop : (config : Config) (word : ℕ) → IsProp (IsInside config word)
inside_prop config word = hlevel (le_prop, ℕ_set)

can_update_prop : (config : Config) (memory : Word → ℕ) → IsProp (CanUpdateAll config memory)
can_update_prop config memory = hlevel (le_prop, ℕ_set)

can_fill_prop : (config : Config) (memory : Word → ℕ) (region : ℕ) → IsProp (CanFill config memory region)
can_fill_prop config memory region = hlevel le_prop

can_free_prop : (config : Config) (memory : Word → ℕ) → IsProp (CanFree config memory)
can_free_prop config memory = hlevel (le_prop, can_fill_prop config memory)

pub can_end_prop : (config : Config) (memory : Word → ℕ) → IsProp (CanEnd config memory)
can_end_prop config memory =
    hlevel (
      inside_prop config,
      can_copy_from_prop config (config.regions * config.region_words) (let_go config memory) config.region_words,
      can_update_prop config (all_copied config (let_go config memory)),
      can_free_prop config (all_updated config (all_copied config (let_go config memory))),
    )
