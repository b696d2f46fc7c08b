use Rattle.std.proofs.Common.{◌≡◌, ℕ, true, false, ⊎_elim, sym, ap, ◌∙◌}
use Rattle.std.proofs.lemmas.Bool.{cases_Bool}
use Rattle.heap_words.specs.Words.{Word}
use Rattle.heap_words.specs.declared.config.Config.{Config}
use Rattle.image_graph.specs.Full.{full}
use Rattle.image_graph.specs.Holds.{HoldsSized}
use Rattle.image_graph.specs.State.{config_of, memory_of}
use Rattle.cycle_words.specs.Finishing.Finish.{finished, is_whole}
use Rattle.degenerated.specs.declared.cycle.Finished.{Finished}
use Rattle.control.proofs.Collecting.{of-same, whole-ended, short-ended}
use Rattle.control.proofs.collect.end_cycle.Goals as goal

-- what is short is not whole
not_whole : (result : Finished) (not_whole_result : (result ≡ Finished.Whole) → ⊥) (config : Config) (memory : Word → ℕ) → ((is_whole config memory ≡ true) → result ≡ Finished.Whole) → is_whole config memory ≡ false
not_whole result result_short config memory tells = ⊎_elim (λ (memory_whole : is_whole config memory ≡ true). absurd (result_short (tells memory_whole))) (λ (memory_short : is_whole config memory ≡ false). memory_short) (cases_Bool (is_whole config memory))

pub full-requires : goal.full-requires
full-requires c =
    of-same HoldsSized (config_of c.args.image.now) (config_of c.finish.new.image) (finished (config_of c.args.image.now) (memory_of c.args.image.now)) (memory_of c.finish.new.image)
    c.finish.ensures.config c.finish.ensures.words
    (c.requires.holds
    (not_whole c.finish.result (λ whole_result. (let differ = sym whole_result ∙ c.in-Short.is in cc)) (config_of c.args.image.now) (memory_of c.args.image.now) c.finish.ensures.whole.1))

pub returns-in-Whole-clause-words : goal.returns-in-Whole-clause-words
returns-in-Whole-clause-words c =
    c.finish.ensures.words ∙ whole-ended (config_of c.args.image.now) (memory_of c.args.image.now) (c.finish.ensures.whole.0 c.in-Whole.is)

pub returns-in-Short-clause-words : goal.returns-in-Short-clause-words
returns-in-Short-clause-words c =
    c.full.ensures.words
    ∙ ap (λ (config : Config). full config (memory_of c.finish.new.image)) c.finish.ensures.config
    ∙ ap (full (config_of c.args.image.now)) c.finish.ensures.words
    ∙ short-ended (config_of c.args.image.now) (memory_of c.args.image.now)
    (not_whole c.finish.result (λ whole_result. (let differ = sym whole_result ∙ c.in-Short.is in cc)) (config_of c.args.image.now) (memory_of c.args.image.now) c.finish.ensures.whole.1)
