use Rattle.std.proofs.Common.{◌≡◌, ℕ, sym, ap, ◌∙◌, subst}
use Rattle.heap_words.specs.declared.config.Config.{Config}
use Rattle.heap_words.specs.Words.{Word, bit_words}
use Rattle.heap_world.specs.Walk.{has}
use Rattle.image_graph.specs.State.{config_of, words_of, memory_of, found_of}
use Rattle.image_graph.specs.Holds.{HoldsBy}
use Rattle.cycle_words.specs.Marking.Close.{traced_in}
use Rattle.cycle_words.specs.Marking.WhileMarking.{IsMarkedThrough}
use Rattle.cycle_words.specs.Marking.Laws.{AreClosed}
use Rattle.cycle_words.proofs.Marking.Closed.{are_closed, closed_holds, closed_through}
use Rattle.mark_core.specs.Steps.{marked, emptied}
use Rattle.image_graph.proofs.Same.{memory_same}
use Rattle.mark_core.proofs.Closing.{can_trace_some, closed_is}
use Rattle.mark_core.proofs.Some.{holds_closed}
use Rattle.mark_core.proofs.close.close_marks.Goals as goal

pub find_traced-requires : goal.find_traced-requires
find_traced-requires c = can_trace_some (config_of c.args.image.now) (memory_of c.args.image.now) c.requires

pub returns-clause-words : goal.returns-clause-words
returns-clause-words c =
    let old = c.args.image.now in
    let config = config_of old in
    let memory : Word → ℕ = memory_of old in
    let traced_image = c.find_traced.new.image in
    let marked_image = c.mark_found.new.image in
    let unchanged = c.find_traced.ensures.unchanged in
    let to_two : memory_of marked_image ≡ marked config (has (traced_in config memory)) (bit_words config) memory =
    c.mark_found.ensures.words
    ∙ ap (λ (config : Config). marked config (has (found_of traced_image)) (bit_words config) (memory_of traced_image)) unchanged.config
    ∙ ap (λ memory_then. marked config (has (found_of traced_image)) (bit_words config) memory_then) (memory_same old traced_image unchanged)
    ∙ ap (λ found_list. marked config (has found_list) (bit_words config) memory) c.find_traced.ensures.traced in
    c.empty_buffers.ensures.words
    ∙ ap (λ (config : Config). emptied config.mutators (memory_of marked_image)) (c.mark_found.ensures.config ∙ unchanged.config)
    ∙ ap (emptied config.mutators) to_two
    ∙ closed_is config (words_of old) (can_trace_some config memory c.requires)

pub returns-clause-traced : goal.returns-clause-traced
returns-clause-traced c = λ block owner promises graph holds marking.
    let config = config_of c.args.image.now in
    let memory : Word → ℕ = memory_of c.args.image.now in
    subst (λ memory_then. AreClosed config memory memory_then) (sym (returns-clause-words c)) (are_closed config memory block owner promises graph holds marking)

pub returns-clause-through : goal.returns-clause-through
returns-clause-through c = λ block owner promises graph holds marking.
    let config = config_of c.args.image.now in
    let memory : Word → ℕ = memory_of c.args.image.now in
    subst (λ memory. HoldsBy config memory block owner promises graph × IsMarkedThrough config memory block) (sym (returns-clause-words c))
    (closed_holds config memory block owner promises graph holds marking, closed_through config memory block owner promises graph holds marking)

pub returns-clause-holds : goal.returns-clause-holds
returns-clause-holds c =
    holds_closed (config_of c.args.image.now) (memory_of c.args.image.now) (memory_of c.empty_buffers.new.image) (returns-clause-through c) c.requires
