use Rattle.std.proofs.Common.{◌≡◌, sym, ap, ◌∙◌, subst, arith}
use Rattle.heap_words.specs.declared.config.Config.{Config}
use Rattle.image_graph.specs.State.{config_of, words_of, memory_of}
use Rattle.image_graph.proofs.BufferTurns.{no_more_seats}
use Rattle.cycle_pauses.specs.Ended.{ended, CanEnd}
use Rattle.cycle_pauses.specs.Collect.{past_marking}
use Rattle.cycle_pauses.proofs.Pauses.{ended_can_begin, running_can_end}
use Rattle.control.proofs.Collecting.{can_sized, can_end, of-same, full-made, ended-made, marking-past, others-past}
use Rattle.control.proofs.collect.make_room.Goals as goal

pub full-requires : goal.full-requires
full-requires c = can_sized (config_of c.args.image.now) (memory_of c.args.image.now) c.requires.can

pub end_mark-requires-clause-marks : goal.end_mark-requires-clause-marks
end_mark-requires-clause-marks c = can_end (config_of c.args.image.now) (memory_of c.args.image.now) c.requires.can (sym c.phase.ensures ∙ c.in-1.is)

pub end_mark-requires-clause-can : goal.end_mark-requires-clause-can
end_mark-requires-clause-can c =
    ended_can_begin (config_of c.args.image.now) (memory_of c.args.image.now) c.requires.can (sym c.phase.ensures ∙ c.in-1.is)
    (no_more_seats (config_of c.args.image.now) (words_of c.args.image.now))

pub end_cycle-requires : goal.end_cycle-requires
end_cycle-requires c =
    let phase_one = sym c.phase.ensures ∙ c.in-1.is in
    of-same CanEnd (config_of c.args.image.now) (config_of c.end_mark.new.image) (past_marking (config_of c.args.image.now) (memory_of c.args.image.now)) (memory_of c.end_mark.new.image)
    c.end_mark.ensures.config (c.end_mark.ensures.words ∙ marking-past (config_of c.args.image.now) (memory_of c.args.image.now) phase_one)
    (running_can_end (config_of c.args.image.now) (memory_of c.args.image.now) c.requires.can c.requires.needed (λ idle. omega (arith, phase_one, idle)))

pub end_cycle-requires-in_default : goal.end_cycle-requires-in_default
end_cycle-requires-in_default c =
    subst (CanEnd (config_of c.args.image.now)) (sym (others-past (config_of c.args.image.now) (memory_of c.args.image.now) (λ same_phase. not_mark (c.phase.ensures ∙ same_phase))))
    (running_can_end (config_of c.args.image.now) (memory_of c.args.image.now) c.requires.can c.requires.needed (λ same_phase. not_idle (c.phase.ensures ∙ same_phase)))
  where
    not_idle : c.phase.result ≡ 0 → ⊥
    not_idle phase_zero = grind (arith)

    not_mark : c.phase.result ≡ 1 → ⊥
    not_mark phase_one = grind (arith)

pub returns-in-0-clause-words : goal.returns-in-0-clause-words
returns-in-0-clause-words c =
    c.full.ensures.words ∙ full-made (config_of c.args.image.now) (memory_of c.args.image.now) (sym c.phase.ensures ∙ c.in-0.is)

pub returns-in-1-clause-words : goal.returns-in-1-clause-words
returns-in-1-clause-words c =
    let phase_one = sym c.phase.ensures ∙ c.in-1.is in
    c.end_cycle.ensures.words
    ∙ ap (λ (config : Config). ended config (memory_of c.end_mark.new.image)) c.end_mark.ensures.config
    ∙ ap (ended (config_of c.args.image.now)) (c.end_mark.ensures.words ∙ marking-past (config_of c.args.image.now) (memory_of c.args.image.now) phase_one)
    ∙ ended-made (config_of c.args.image.now) (memory_of c.args.image.now) (λ idle. omega (arith, phase_one, idle))

pub returns-in_default-clause-words : goal.returns-in_default-clause-words
returns-in_default-clause-words c =
    c.end_cycle-in_default.ensures.words
    ∙ ap (ended (config_of c.args.image.now)) (others-past (config_of c.args.image.now) (memory_of c.args.image.now) (λ same_phase. not_mark (c.phase.ensures ∙ same_phase)))
    ∙ ended-made (config_of c.args.image.now) (memory_of c.args.image.now) (λ same_phase. not_idle (c.phase.ensures ∙ same_phase))
  where
    not_idle : c.phase.result ≡ 0 → ⊥
    not_idle phase_zero = grind (arith)

    not_mark : c.phase.result ≡ 1 → ⊥
    not_mark phase_one = grind (arith)
