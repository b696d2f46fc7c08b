use Rattle.std.proofs.Common.{◌≡◌, ℕ, true, inl, inr, ⊎_elim, sym, ap, subst}
use Rattle.heap_words.specs.Words.{Word, Free}
use Rattle.regions.specs.Sets.{IsIn}
use Rattle.image_graph.specs.State.{config_of, words_of, memory_of}
use Rattle.image_graph.specs.Holds.{HoldsBy}
use Rattle.cycle_words.specs.Marking.Close.{closed}
use Rattle.cycle_words.specs.Marking.WhileMarking.{IsMarkedThrough}
use Rattle.cycle_words.specs.Marking.Final.{IsDead, dead_in, freed_block, freed_owner}
use Rattle.cycle_words.proofs.Marking.Dead.{dead_is_dead}
use Rattle.cycle_words.proofs.Marking.Vanished.{free_was, free_is}
use Rattle.cycle_words.proofs.Marking.Ended.{ended_holds, ended_through}
use Rattle.image_graph.proofs.BufferTurns.{no_more_seats}
use Rattle.mark_core.proofs.MarkingEnded.{final_words}
use Rattle.mark_core.proofs.Some.{holds_ended}
use Rattle.mark_core.proofs.end.final_mark.Goals as goal

pub returns-clause-words : goal.returns-clause-words
returns-clause-words c =
    final_words c.args.image.now c.close_marks.new.image c.free_dead.new.image c.close_marks.ensures.config c.close_marks.ensures.words c.free_dead.ensures.words

pub returns-clause-freed : goal.returns-clause-freed
returns-clause-freed c = λ region region_below.
    let config = config_of c.args.image.now in
    let memory : Word → ℕ = memory_of c.args.image.now in
    let words = ap (λ memory_then. memory_then Free) (returns-clause-words c) in (
      (λ now_free. ⊎_elim
          (λ (was_free : IsIn (memory Free) region). inl was_free)
          (λ (dead : dead_in config memory region ≡ true). inr ((dead_is_dead config (closed config memory) region).0 dead))
          (free_was config (dead_in config memory) (closed config memory) region region_below (subst (λ free_set. IsIn free_set region) words now_free))),
      (λ now_free. subst (λ free_set. IsIn free_set region) (sym words)
          (free_is config (dead_in config memory) (closed config memory) region region_below (⊎_elim
          (λ (was_free : IsIn (memory Free) region). inl was_free)
          (λ (dead : IsDead config (closed config memory) region). inr ((dead_is_dead config (closed config memory) region).1 dead))
          now_free))),
    )

pub returns-clause-ends : goal.returns-clause-ends
returns-clause-ends c = λ block owner promises graph holds marking.
    let config = config_of c.args.image.now in
    let memory : Word → ℕ = memory_of c.args.image.now in
    let dead_regions = dead_in config memory in
    let seats = no_more_seats config (words_of c.args.image.now) in
    subst (λ memory. HoldsBy config memory (freed_block config dead_regions block) (freed_owner dead_regions owner) promises graph × IsMarkedThrough config memory (freed_block config dead_regions block)) (sym (returns-clause-words c))
    (ended_holds config memory block owner promises graph holds marking seats, ended_through config memory block owner promises graph holds marking seats)

pub returns-clause-holds : goal.returns-clause-holds
returns-clause-holds c =
    holds_ended (config_of c.args.image.now) (memory_of c.args.image.now) (memory_of c.free_dead.new.image)
    (dead_in (config_of c.args.image.now) (memory_of c.args.image.now)) (returns-clause-ends c) c.requires
