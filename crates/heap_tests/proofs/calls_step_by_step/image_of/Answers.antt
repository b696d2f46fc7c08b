use Rattle.std.proofs.Common.{◌≡◌, ℕ, sym, ap, ◌∙◌, subst, arith}
use Rattle.std.proofs.Math.Logic.{∥∥₁_map}
use Rattle.std.proofs.lemmas.List.{take_all}
use Rattle.heap_words.specs.Words.{Word, view, table_words}
use Rattle.image_graph.specs.State as images
use Rattle.step_core.specs.Machines.{made_of_machine}
use Rattle.step_core.specs.Opening.{first_free}
use Rattle.shen_core.specs.Runs.{IsShownBySomeRun}
use Rattle.shen_core.specs.State.{config_of, words_of, machines_of, machine_at}
use Rattle.heap_tests.proofs.LeftAtRest.{LeftGraph, left}
use Rattle.heap_tests.proofs.calls_step_by_step.image_of.Goals as goal

pub returns-clause-stands : goal.returns-clause-stands
returns-clause-stands c =
    let plain = c.args.plain.now in
    let image = c.loop-at.image in
    let whole_table = image.all_words ∙ ap table_words c.loop-at.invariant.config in
    let all_words = ap table_words c.config-config.ensures in
    let words : images.words_of image ≡ words_of plain =
    sym (take_all c.loop-at.at (images.words_of image) (omega (arith, whole_table, all_words, c.loop-at-test.false, c.table_words-at-end.ensures)))
    ∙ c.loop-at.invariant.words
    ∙ take_all c.loop-at.at (words_of plain) (omega (arith, plain.all_words, all_words, c.loop-at-test.false, c.table_words-at-end.ensures)) in
    let memory : view (config_of plain) (words_of plain) ≡ images.memory_of image =
    sym (ap (λ config. view config (images.words_of image)) c.loop-at.invariant.config ∙ ap (view (config_of plain)) words) in
    ∥∥₁_map plain.reached (λ (shown_run : IsShownBySomeRun (config_of plain) (words_of plain) (machines_of plain)). subst (λ (memory : Word → ℕ). LeftGraph (config_of plain) memory (made_of_machine (machine_at plain 0))) memory
    (left (config_of plain) (words_of plain) (machines_of plain) (first_free (config_of plain).regions) c.requires.seats.0 c.requires.seats.1 c.requires.rest c.requires.control shown_run.run shown_run.shows))
