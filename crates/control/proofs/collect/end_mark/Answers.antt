use Rattle.std.proofs.Common.{ℕ, ◌≡◌, sym, ap, ◌∙◌, subst}
use Rattle.heap_words.specs.declared.config.Config.{Config}
use Rattle.heap_words.specs.Words.{Word}
use Rattle.image_graph.specs.declared.image.Image.{Image}
use Rattle.image_graph.specs.State.{config_of, memory_of}
use Rattle.cycle_words.specs.Marking.Final.{final_marked}
use Rattle.cycle_words.specs.Evacuation.Choice.{chosen}
use Rattle.cycle_words.specs.Evacuation.Begun.{CanBegin, evac_begun}
use Rattle.control.proofs.collect.end_mark.Goals as goal

-- evacuation can begin from the image in which marking has ended
begins : (old new : Image) → config_of new ≡ config_of old → memory_of new ≡ final_marked (config_of old) (memory_of old) → CanBegin (config_of old) (final_marked (config_of old) (memory_of old))
    → CanBegin (config_of new) (memory_of new)
begins old new config words can_begin =
    subst (λ (config : Config). CanBegin config (memory_of new)) (sym config) (subst (λ (memory : Word → ℕ). CanBegin (config_of old) memory) (sym words) can_begin)

pub choose-set-requires : goal.choose-set-requires
choose-set-requires c = begins c.args.image.now c.final_mark.new.image c.final_mark.ensures.config c.final_mark.ensures.words c.requires.can

pub begin_evac-requires-clause-can : goal.begin_evac-requires-clause-can
begin_evac-requires-clause-can c = begins c.args.image.now c.final_mark.new.image c.final_mark.ensures.config c.final_mark.ensures.words c.requires.can

pub returns-clause-words : goal.returns-clause-words
returns-clause-words c =
    c.begin_evac.ensures.words
    ∙ ap (evac_begun (config_of c.final_mark.new.image) (memory_of c.final_mark.new.image)) c.choose-set.ensures.value
    ∙ ap (λ (config : Config). evac_begun config (memory_of c.final_mark.new.image) (chosen config (memory_of c.final_mark.new.image))) c.final_mark.ensures.config
    ∙ ap (λ (memory : Word → ℕ). evac_begun (config_of c.args.image.now) memory (chosen (config_of c.args.image.now) memory)) c.final_mark.ensures.words
