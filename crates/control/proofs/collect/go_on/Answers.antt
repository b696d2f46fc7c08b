use Rattle.std.proofs.Common.{◌≡◌, sym, ◌∙◌, arith}
use Rattle.image_graph.specs.State.{config_of, words_of, memory_of}
use Rattle.image_graph.proofs.BufferTurns.{no_more_seats}
use Rattle.cycle_pauses.proofs.Pauses.{ended_can_begin}
use Rattle.control.proofs.Collecting.{can_hold, can_inside, can_calm, can_end, init_mark-next, end_mark-next, init_update-next, final_update-next}
use Rattle.control.proofs.collect.go_on.Goals as goal

pub init_mark-requires-clause-holds : goal.init_mark-requires-clause-holds
init_mark-requires-clause-holds c = can_hold (config_of c.args.image.now) (memory_of c.args.image.now) c.requires

pub init_mark-requires-clause-calm : goal.init_mark-requires-clause-calm
init_mark-requires-clause-calm c = can_calm (config_of c.args.image.now) (memory_of c.args.image.now) c.requires (sym c.phase.ensures ∙ c.in-0.is)

pub end_mark-requires-clause-marks : goal.end_mark-requires-clause-marks
end_mark-requires-clause-marks c = can_end (config_of c.args.image.now) (memory_of c.args.image.now) c.requires (sym c.phase.ensures ∙ c.in-1.is)

pub end_mark-requires-clause-can : goal.end_mark-requires-clause-can
end_mark-requires-clause-can c =
    ended_can_begin (config_of c.args.image.now) (memory_of c.args.image.now) c.requires (sym c.phase.ensures ∙ c.in-1.is)
    (no_more_seats (config_of c.args.image.now) (words_of c.args.image.now))

pub init_update-requires : goal.init_update-requires
init_update-requires c = can_inside (config_of c.args.image.now) (memory_of c.args.image.now) c.requires

pub returns-in-0-clause-words : goal.returns-in-0-clause-words
returns-in-0-clause-words c =
    c.init_mark.ensures.words ∙ init_mark-next (config_of c.args.image.now) (memory_of c.args.image.now) (sym c.phase.ensures ∙ c.in-0.is)

pub returns-in-1-clause-words : goal.returns-in-1-clause-words
returns-in-1-clause-words c =
    c.end_mark.ensures.words ∙ end_mark-next (config_of c.args.image.now) (memory_of c.args.image.now) (sym c.phase.ensures ∙ c.in-1.is)

pub returns-in-2-clause-words : goal.returns-in-2-clause-words
returns-in-2-clause-words c =
    c.init_update.ensures.words ∙ init_update-next (config_of c.args.image.now) (memory_of c.args.image.now) (sym c.phase.ensures ∙ c.in-2.is)

pub returns-in_default-clause-words : goal.returns-in_default-clause-words
returns-in_default-clause-words c =
    c.final_update.ensures.words
    ∙ final_update-next (config_of c.args.image.now) (memory_of c.args.image.now) (λ same_phase. not_idle (c.phase.ensures ∙ same_phase)) (λ same_phase. not_mark (c.phase.ensures ∙ same_phase)) (λ same_phase. not_evac (c.phase.ensures ∙ same_phase))
  where
    not_idle : c.phase.result ≡ 0 → ⊥
    not_idle phase_zero = grind (arith)

    not_mark : c.phase.result ≡ 1 → ⊥
    not_mark phase_one = grind (arith)

    not_evac : c.phase.result ≡ 2 → ⊥
    not_evac phase_two = grind (arith)
