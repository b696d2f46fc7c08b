use Rattle.std.proofs.Common.{sym, subst}
use Rattle.heap_words.specs.declared.config.Config.{Config}
use Rattle.image_graph.specs.State.{memory_of}
use Rattle.mark_core.specs.Result.{MarksSome}
use Rattle.cset_choice.proofs.CanBegin.{begins_after}
use Rattle.heap_tests.proofs.collections.marks_what_lives_and_evacuates_what_costs_least.Goals as goal

pub final_mark-requires : goal.final_mark-requires
final_mark-requires g c = subst (λ (config : Config). MarksSome config (memory_of c.init_mark.new.image)) (sym c.init_mark.ensures.config) c.init_mark.ensures.marks

pub choose-set-requires : goal.choose-set-requires
choose-set-requires g c =
    begins_after c.init_mark.new.image c.final_mark.new.image
    (subst (λ (config : Config). MarksSome config (memory_of c.init_mark.new.image)) (sym c.init_mark.ensures.config) c.init_mark.ensures.marks)
    c.final_mark.ensures.config c.final_mark.ensures.words

pub begin_evac-requires-clause-can : goal.begin_evac-requires-clause-can
begin_evac-requires-clause-can g c =
    begins_after c.init_mark.new.image c.final_mark.new.image
    (subst (λ (config : Config). MarksSome config (memory_of c.init_mark.new.image)) (sym c.init_mark.ensures.config) c.init_mark.ensures.marks)
    c.final_mark.ensures.config c.final_mark.ensures.words
