use Rattle.std.proofs.Common.{◌≡◌, sym, ◌∙◌, arith}
use Rattle.image_graph.specs.State.{config_of, memory_of}
use Rattle.control.proofs.Collecting.{init_mark-next, init_update-next, final_update-next, cycle-collected}
use Rattle.control.proofs.collect.collect_by_part.Goals as goal

pub init_mark_by_part-requires-clause-roots : goal.init_mark_by_part-requires-clause-roots
init_mark_by_part-requires-clause-roots c = c.requires.roots (sym c.phase.ensures ∙ c.in-0.is)

pub returns-in-0-clause-words : goal.returns-in-0-clause-words
returns-in-0-clause-words c =
    c.init_mark_by_part.ensures.words ∙ init_mark-next (config_of c.args.image.now) (memory_of c.args.image.now) (sym c.phase.ensures ∙ c.in-0.is)
    ∙ cycle-collected (config_of c.args.image.now) (memory_of c.args.image.now) c.requires.calm

pub returns-in-2-clause-words : goal.returns-in-2-clause-words
returns-in-2-clause-words c =
    c.init_update.ensures.words ∙ init_update-next (config_of c.args.image.now) (memory_of c.args.image.now) (sym c.phase.ensures ∙ c.in-2.is)
    ∙ cycle-collected (config_of c.args.image.now) (memory_of c.args.image.now) c.requires.calm

pub returns-in_default-clause-words : goal.returns-in_default-clause-words
returns-in_default-clause-words c =
    c.final_update.ensures.words
    ∙ final_update-next (config_of c.args.image.now) (memory_of c.args.image.now) (λ same_phase. not_idle (c.phase.ensures ∙ same_phase)) c.requires.unmarked (λ same_phase. not_evac (c.phase.ensures ∙ same_phase))
    ∙ cycle-collected (config_of c.args.image.now) (memory_of c.args.image.now) c.requires.calm
  where
    not_idle : c.phase.result ≡ 0 → ⊥
    not_idle phase_zero = grind (arith)

    not_evac : c.phase.result ≡ 2 → ⊥
    not_evac phase_two = grind (arith)
