use Rattle.std.proofs.Common.{ℕ, ap, ◌∙◌, sym, subst}
use Rattle.heap_words.specs.declared.config.Config.{Config}
use Rattle.heap_words.specs.Words.{Word}
use Rattle.image_graph.specs.Settled.{buffers_settled}
use Rattle.image_graph.specs.State.{config_of, memory_of}
use Rattle.cycle_words.specs.Marking.Init.{marking_begun}
use Rattle.mark_core.specs.Trace.{HasRootsInside}
use Rattle.mark_core.proofs.MarkingBegun.{settled_inside}
use Rattle.mark_core.proofs.begin.init_mark_by_part.Goals as goal

pub begin-requires : goal.begin-requires
begin-requires c =
    subst (λ (config : Config). HasRootsInside config (memory_of c.settle.new.self)) (sym c.settle.ensures.config)
    (subst (λ (memory : Word → ℕ). HasRootsInside (config_of c.args.image.now) memory) (sym c.settle.ensures.words)
    (settled_inside (config_of c.args.image.now) (memory_of c.args.image.now) c.requires.roots))

pub returns-clause-words : goal.returns-clause-words
returns-clause-words c =
    c.begin.ensures.words ∙ ap (λ (config : Config). marking_begun config (memory_of c.settle.new.self)) c.settle.ensures.config
    ∙ ap (marking_begun (config_of c.args.image.now)) c.settle.ensures.words
